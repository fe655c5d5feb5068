-- An input has some answer of `replay`, and of `apply --lines`.
use Rattle.std.proofs.Common.{◌≡◌, ◌⊎◌, inl, inr, ℕ, ℤ, ◌<◌, ◌≤◌, Bool, true, false, Option, Some, None, Ok, Err, List, [], length, refl, sym, subst, map}
use Rattle.std.specs.Prelude.{nat_lt}
use Rattle.std.specs.List.{AllByRecursion}
use Rattle.std.proofs.lemmas.Bool.{ltb-false}
use Rattle.std.proofs.lemmas.Bool.Decides.{Decides-ltb}
use Rattle.dbl_base.specs.Streams.{input_limit}
use Rattle.dbl_base.specs.Lines.{lines_of}
use Rattle.dbl_pgmsg.specs.Faults.{AreBytes}
use Rattle.dbl_lines.specs.declared.run_error.RunError.TheVariants.{BadLine, InputTooLong}
use Rattle.dbl_cli_commands.specs.declared.commands.ReplayOptions.{ReplayOptions}
use Rattle.dblog_replay.specs.Lines.{message_bytes_in, first_bad_line}
use Rattle.dblog_replay.proofs.CommitLaws.{replays_exist}
use Rattle.dblog_replay.proofs.DigitLemmas.{messages_small}
use Rattle.dblog_replay.proofs.StreamLemmas.{reads_exist, reads_fit}
use Rattle.dblog_replay.specs.Masked.{masked_pieces}
use Rattle.dblog_replay.proofs.MaskedLemmas.{masked_pieces_fit}
use Rattle.dblog_streams.proofs.ReplayLaws.{Encoded, ok_one, ok_or_answer}
use Rattle.dblog_streams.proofs.FrameInputLemmas.{payloads_small, frames_exist}
use Rattle.dblog_streams.specs.Answers.{RunAnswer, fault, done}
use Rattle.dblog_streams.specs.Inputs.{payloads_of, EncodesLines, bad_line, good_lines, bad_frame, cut_frame, whole_frames, EncodesWithin}
use Rattle.dblog_streams.specs.Inputs.{EncodesStrings, too_long, encoded}
use Rattle.dblog_streams.specs.Replays.{AreInputBytes, log_options, log_answer, Replays, unread, replayed, StringsExist, ReplayAnswersExist}
use Rattle.dblog_streams.specs.Applies.{line_fault, Applies, long_input, refused, applied, ApplyAnswersExist}
use Rattle.dbl_consume.specs.Printing.{row_line}
use Rattle.dbl_consume.proofs.StandLemmas.{rows_stand}
use Rattle.dblog_replay.specs.declared.apply.FaultAt.{FaultAt}
use Rattle.dblog_replay.specs.Apply.{first_line_fault, readings_of_lines}

pub within_or_not : (n : ℕ) → (n ≤ input_limit) ⊎ (input_limit < n)
within_or_not n = go _ refl
  where
    go : (b : Bool) → nat_lt input_limit n ≡ b → (n ≤ input_limit) ⊎ (input_limit < n)
    go true h = inr ((Decides-ltb input_limit n).0 h)
    go false h = inl (ltb-false _ _ h)

-- what lines or frames encode are bytes
within_small : (raw : Bool) (bytes : List ℕ) (strings : List (List ℕ)) → EncodesWithin raw bytes (Ok strings) → AllByRecursion AreBytes strings
within_small true bytes strings (bad_frame frames reason are is) = absurd (ok_or_answer strings _ is)
within_small true bytes strings (cut_frame frames rest are some is) = absurd (ok_or_answer strings _ is)
within_small true bytes strings (whole_frames frames are is) =
    subst (λ (bs : List (List ℕ)). AllByRecursion AreBytes bs) (sym (ok_one strings (payloads_of frames) is)) (payloads_small frames are.begins.each)
within_small false bytes strings (bad_line n bad is) = absurd (ok_or_answer strings _ is)
within_small false bytes strings (good_lines good is) =
    subst (λ (bs : List (List ℕ)). AllByRecursion AreBytes bs) (sym (ok_one strings (message_bytes_in (lines_of bytes)) is)) (messages_small (lines_of bytes))

-- what an input encodes are bytes
pub strings_small : (raw : Bool) (bytes : List ℕ) (strings : List (List ℕ)) → EncodesStrings raw bytes (Ok strings) → AllByRecursion AreBytes strings
strings_small raw bytes strings (too_long long is) = absurd (ok_or_answer strings _ is)
strings_small raw bytes strings (encoded within enc) = within_small raw bytes strings enc

by_lines : (bytes : List ℕ) → (o : Option ℕ) → first_bad_line (lines_of bytes) ≡ o → (result : Encoded) × EncodesLines bytes result
by_lines bytes (Some number) is = (Err (fault (BadLine number)), bad_line number is refl)
by_lines bytes None is = (Ok (message_bytes_in (lines_of bytes)), good_lines is refl)

by_form : (raw : Bool) (bytes : List ℕ) → AreInputBytes raw bytes → (result : Encoded) × EncodesWithin raw bytes result
by_form true bytes small = frames_exist bytes (small refl)
by_form false bytes small = by_lines bytes _ refl

by_length : (raw : Bool) (bytes : List ℕ) → AreInputBytes raw bytes → (length bytes ≤ input_limit) ⊎ (input_limit < length bytes)
    → (result : Encoded) × EncodesStrings raw bytes result
by_length raw bytes small (inl within) = let form = by_form raw bytes small in (form.0, encoded within form.1)
by_length raw bytes small (inr long) = (Err (fault InputTooLong), too_long long refl)

-- an input encodes some byte strings, or has some answer
pub strings_exist : StringsExist
strings_exist raw bytes small = by_length raw bytes small (within_or_not (length bytes))

by_strings : (options : ReplayOptions) (now : ℤ) (bytes : List ℕ) (result : Encoded) → EncodesStrings options.raw bytes result
    → (answer : RunAnswer) × Replays options now bytes answer
by_strings options now bytes (Err answer) encodes = (answer, unread encodes)
by_strings options now bytes (Ok strings) encodes =
    let some = reads_exist options.stream strings (strings_small options.raw bytes strings encodes) in
    let mask = (log_options options).mask in
    let log = replays_exist (log_options options) now (masked_pieces mask [] some.0)
    (masked_pieces_fit mask [] some.0 (reads_fit options.stream strings some.0 some.1)) in
    (log_answer log.0 log.1, replayed log.0 log.1 (record { strings = strings; pieces = some.0; encodes = encodes; read = some.1; replayed = log.2 }) refl)

-- bytes have some answer
pub replay_exists : ReplayAnswersExist
replay_exists options now bytes small = let strings = strings_exist options.raw bytes small in by_strings options now bytes strings.0 strings.1

-- ---- `apply --lines`

pub apply_exists : ApplyAnswersExist
apply_exists placeholder bytes = by_length_applied (within_or_not (length bytes))
  where
    by_lines_applied : length bytes ≤ input_limit → (o : Option FaultAt) → first_line_fault placeholder (lines_of bytes) ≡ o → (answer : RunAnswer)
        × Applies placeholder bytes answer
    by_lines_applied within (Some at) is = (line_fault at, refused at within is refl)
    by_lines_applied within None is =
        let rows = rows_stand placeholder (readings_of_lines (lines_of bytes)) in
        (done (map row_line rows.0), applied rows.0 within (is, rows.1) refl)

    by_length_applied : (length bytes ≤ input_limit) ⊎ (input_limit < length bytes) → (answer : RunAnswer) × Applies placeholder bytes answer
    by_length_applied (inl within) = by_lines_applied within _ refl
    by_length_applied (inr long) = (fault InputTooLong, long_input long refl)
