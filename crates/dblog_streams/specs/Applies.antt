-- What `apply --lines` makes of an input.
use Rattle.std.specs.Prelude.{◌≡◌, ◌⊎◌, ℕ, ◌<◌, ◌≤◌, Option, Ok, Err, List, [], ◌∷◌, length, map}
use Rattle.dbl_base.specs.Lines.{lines_of}
use Rattle.dbl_base.specs.Streams.{input_limit}
use Rattle.dbl_lines.specs.declared.status.Status.{Status}
use Rattle.dbl_lines.specs.declared.status.Status.TheVariants.{InvalidInput}
use Rattle.dbl_lines.specs.declared.run_error.RunError.{RunError}
use Rattle.dbl_lines.specs.declared.run_error.RunError.TheVariants.{Usage, BadLine, InputTooLong, InputFailed, Memory}
use Rattle.dbl_record.specs.Consumers.{HeldCells}
use Rattle.dbl_consume.specs.Printing.{HeldRow, AreRowsOf, row_line}
use Rattle.dblog_replay.specs.declared.apply.FaultAt.{FaultAt}
use Rattle.dblog_replay.specs.Apply.{fault_text}
use Rattle.dblog_replay.specs.Applied.{IsApplied}
use Rattle.dblog_streams.specs.Answers.{RunAnswer, done, fault, Ends, EndsAs, IsExternalStatus}

-- The answer of a line that isn't applied.
abbrev pub line_fault : FaultAt → RunAnswer
line_fault at = record { status = InvalidInput; lines = fault_text at ∷ []; one_by_one = [] }

-- The answer of `apply --lines` with this placeholder: the rows in the state of the consumer of the input, or the first line that isn't
-- applied.
pub data Applies (placeholder bytes : List ℕ) (answer : RunAnswer) : Type 0 where
  long_input : input_limit < length bytes → answer ≡ fault InputTooLong → Applies placeholder bytes answer
  refused : (at : FaultAt) → length bytes ≤ input_limit → IsApplied placeholder (lines_of bytes) (Err at) → answer ≡ line_fault at
      → Applies placeholder bytes answer
  applied : (rows : List HeldRow) → length bytes ≤ input_limit → IsApplied placeholder (lines_of bytes) (Ok rows)
      → answer ≡ done (map row_line rows) → Applies placeholder bytes answer

-- An input has at most one answer of `apply --lines`.
abbrev pub ApplyAnswersAreOne : Type 0
ApplyAnswersAreOne = (placeholder bytes : List ℕ) (one other : RunAnswer) → Applies placeholder bytes one → Applies placeholder bytes other
    → one ≡ other

-- An input has some answer of `apply --lines`.
abbrev pub ApplyAnswersExist : Type 0
ApplyAnswersExist = (placeholder bytes : List ℕ) → (answer : RunAnswer) × Applies placeholder bytes answer

-- For private clauses: an error of `apply --lines` is its answer for the bytes, unless it is a failure.
abbrev pub HaltsApplying : List ℕ → List ℕ → RunError → Type 0
HaltsApplying placeholder bytes Usage = ⊥
HaltsApplying placeholder bytes InputFailed = Unit {0}
HaltsApplying placeholder bytes Memory = Unit {0}
HaltsApplying placeholder bytes (BadLine number) = ⊥
HaltsApplying placeholder bytes InputTooLong = Applies placeholder bytes (fault InputTooLong)

-- The end of a run of `apply --lines`.
pub record RunsApplying (placeholder bytes : List ℕ) (status : Status) (before after : Option (List ℕ)) : Type 0 where
  pub ended : (answer : RunAnswer) → Applies placeholder bytes answer → Ends answer status before after
  pub meant : IsExternalStatus status ⊎ ((answer : RunAnswer) × Applies placeholder bytes answer × (answer.status ≡ status))

-- For private clauses: the lines of the rows of this state were to be written.
pub record PrintedAs (held : List ℕ → List ℕ → Option HeldCells) (status : Status) (before after : Option (List ℕ)) : Type 0 where
  pub rows : List HeldRow
  pub are : AreRowsOf held rows
  pub ends : EndsAs (done (map row_line rows)) status before after
