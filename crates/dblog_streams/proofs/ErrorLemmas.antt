-- What a run's error says of the error that was translated to it.
use Rattle.std.proofs.Common.{◌≡◌, ◌≢◌, ◌∙◌, ◌⊎◌, inl, inr, ℕ, ◌<◌, ◌≤◌, false, Some, Result, Err, List, length, refl, sym, ap, subst, arith}
use Rattle.dbl_base.specs.declared.input.InputError.{InputError}
use Rattle.dbl_base.specs.declared.input.InputError.TheVariants.{Failed, TooLong, Memory}
use Rattle.dbl_base.specs.Lines.{lines_of}
use Rattle.dbl_base.specs.Streams.{input_limit}
use Rattle.dbl_lines.specs.declared.run_error.RunError.{RunError}
use Rattle.dbl_lines.specs.declared.run_error.RunError.TheVariants as run
use Rattle.dblog_replay.specs.declared.lines.LineError.{LineError}
use Rattle.dblog_replay.specs.declared.lines.LineError.TheVariants as line
use Rattle.dblog_replay.specs.Lines.{first_bad_line}
use Rattle.dblog_streams.specs.declared.unread.Unread.TheVariants.{Run}
use Rattle.dblog_streams.specs.Answers.{fault}
use Rattle.dblog_streams.specs.Applies.{HaltsApplying, long_input}
use Rattle.dblog_streams.specs.Inputs.{too_long, encoded, bad_line}
use Rattle.dblog_streams.specs.Streaming.{reading_error, line_error, HaltsReading}

-- an input is too long only with more bytes than may be read
abbrev IsRight : List ℕ → InputError → Type 0
IsRight bytes error = error ≡ TooLong → input_limit < length bytes

-- the kinds of errors of reading
pub reading_kinds : (error : InputError) (reason : RunError) → reason ≡ reading_error error
    → (reason ≡ run.InputFailed) ⊎ ((reason ≡ run.InputTooLong) ⊎ (reason ≡ run.Memory))
reading_kinds Failed reason is = inl is
reading_kinds TooLong reason is = inr (inl is)
reading_kinds Memory reason is = inr (inr is)

pub reading_no_usage : (error : InputError) (reason : RunError) → reason ≡ reading_error error → reason ≢ run.Usage
reading_no_usage Failed reason is usage = cc
reading_no_usage TooLong reason is usage = cc
reading_no_usage Memory reason is usage = cc

pub reading_failed : (error : InputError) (reason : RunError) → reason ≡ reading_error error → reason ≡ run.InputFailed → error ≡ Failed
reading_failed Failed reason is failed = refl
reading_failed TooLong reason is failed = cc
reading_failed Memory reason is failed = cc

-- a failure of reading is reported as one of the input
pub reading_fails : {A B : Type 0} (error : InputError) (reason : RunError) → reason ≡ reading_error error
    → ◌≡◌ {A = Result A InputError} (Err error) (Err Failed) → ◌≡◌ {A = Result B RunError} (Err reason) (Err run.InputFailed)
reading_fails error reason is failed =
    let same : error ≡ Failed = (let f = failed in cc) in ap (λ (r : RunError). Err r) (is ∙ ap reading_error same)

-- an input within the limit isn't too long
pub reading_within : (bytes : List ℕ) (error : InputError) (reason : RunError) → reason ≡ reading_error error → IsRight bytes error
    → length bytes ≤ input_limit → (reason ≡ run.InputFailed) ⊎ (reason ≡ run.Memory)
reading_within bytes Failed reason is right within = inl is
reading_within bytes TooLong reason is right within = absurd (omega (arith, right refl, within))
reading_within bytes Memory reason is right within = inr is

pub reading_halts : (bytes : List ℕ) (error : InputError) (reason : RunError) → reason ≡ reading_error error → IsRight bytes error
    → HaltsReading false bytes (Run reason)
reading_halts bytes Failed reason is right = inl (inl (ap Run is))
reading_halts bytes TooLong reason is right = inr (too_long (right refl) (ap (λ (r : RunError). Err (fault r)) is))
reading_halts bytes Memory reason is right = inl (inr (ap Run is))

pub reading_applies : (bytes placeholder : List ℕ) (error : InputError) (reason : RunError) → reason ≡ reading_error error
    → IsRight bytes error → HaltsApplying placeholder bytes reason
reading_applies bytes placeholder Failed reason is right = subst (HaltsApplying placeholder bytes) (sym is) tt
reading_applies bytes placeholder TooLong reason is right =
    subst (HaltsApplying placeholder bytes) (sym is) (long_input (right refl) refl)
reading_applies bytes placeholder Memory reason is right = subst (HaltsApplying placeholder bytes) (sym is) tt

-- ---- the lines of a log

-- a line is bad only if it is the first of these
abbrev IsFirstBad : List ℕ → LineError → Type 0
IsFirstBad bytes error = (number : ℕ) → error ≡ line.BadLine number → first_bad_line (lines_of bytes) ≡ Some number

pub line_halts : (bytes : List ℕ) (error : LineError) (reason : RunError) → reason ≡ line_error error → length bytes ≤ input_limit
    → IsFirstBad bytes error → HaltsReading false bytes (Run reason)
line_halts bytes (line.BadLine number) reason is within first =
    inr (encoded within (bad_line number (first number refl) (ap (λ (r : RunError). Err (fault r)) is)))
line_halts bytes line.Memory reason is within first = inl (inr (ap Run is))

pub line_no_failure : (error : LineError) (reason : RunError) → reason ≡ line_error error → Run reason ≢ Run run.InputFailed
line_no_failure (line.BadLine number) reason is failed = cc
line_no_failure line.Memory reason is failed = cc

pub line_no_usage : (error : LineError) (reason : RunError) → reason ≡ line_error error → Run reason ≢ Run run.Usage
line_no_usage (line.BadLine number) reason is usage = cc
line_no_usage line.Memory reason is usage = cc
