-- An input has one answer of `replay`.
use Rattle.std.proofs.Common.{◌≡◌, ◌∙◌, ℕ, ℤ, Bool, true, false, Option, Some, Result, Ok, Err, List, [], sym, ap, ap₂, subst, arith}
use Rattle.dbl_frames_heads.specs.declared.error.FrameError.{FrameError}
use Rattle.dbl_frames_heads.specs.declared.frame.Frame.{Frame}
use Rattle.dbl_frames.specs.Stream.{AreFramesOf, Unfinished}
use Rattle.dbl_frames.proofs.StreamLemmas.{not_both, one_fault, one_reading}
use Rattle.dbl_lines.specs.declared.run_error.RunError.TheVariants.{BadLine}
use Rattle.dblog_replay.specs.declared.log_fault.LogFault.{LogFault}
use Rattle.dbl_cli_commands.specs.declared.commands.ReplayOptions.{ReplayOptions}
use Rattle.dblog_replay.specs.Pieces.{Piece}
use Rattle.dblog_replay.specs.Streams.{ReadsPieces}
use Rattle.dblog_replay.specs.Replay.{IsReplayed}
use Rattle.dblog_replay.proofs.CommitLaws.{replayed_once}
use Rattle.dblog_replay.proofs.StreamLemmas.{reads_one, reads_fit}
use Rattle.dblog_replay.specs.Masked.{masked_pieces}
use Rattle.dblog_replay.proofs.MaskedLemmas.{masked_pieces_fit}
use Rattle.dblog_streams.specs.Answers.{RunAnswer, fault}
use Rattle.dblog_streams.specs.Inputs.{frame_text, invalid_input, payloads_of, EncodesLines, bad_line, good_lines}
use Rattle.dblog_streams.specs.Inputs.{EncodesFrames, bad_frame, cut_frame, whole_frames, EncodesWithin, too_long, encoded}
use Rattle.dblog_streams.specs.Replays.{log_options, ReplaysLog, log_answer, unread, replayed, StringsAreOne, ReplayAnswersAreOne}

abbrev pub Encoded : Type 0
Encoded = Result (List (List ℕ)) RunAnswer

abbrev pub has_strings : List (List ℕ) → Encoded
has_strings strings = Ok strings

abbrev pub has_answer : RunAnswer → Encoded
has_answer answer = Err answer

pub ok_one : (a b : List (List ℕ)) → has_strings a ≡ has_strings b → a ≡ b
ok_one a b same = cc

pub answer_one : (a b : RunAnswer) → has_answer a ≡ has_answer b → a ≡ b
answer_one a b same = cc

pub ok_or_answer : (strings : List (List ℕ)) (answer : RunAnswer) → has_strings strings ≡ has_answer answer → ⊥
ok_or_answer strings answer same = cc

same_some : (n m : ℕ) → Some n ≡ Some m → n ≡ m
same_some n m same = cc

-- lines encode one list of byte strings, or have one answer
lines_one : (bytes : List ℕ) (r s : Encoded) → EncodesLines bytes r → EncodesLines bytes s → r ≡ s
lines_one bytes r s (bad_line n bad is) (bad_line m bad' is') =
    is ∙ ap (λ (number : ℕ). has_answer (fault (BadLine number))) (same_some n m (sym bad ∙ bad')) ∙ sym is'
lines_one bytes r s (bad_line n bad is) (good_lines good is') = cc
lines_one bytes r s (good_lines good is) (bad_line n bad is') = cc
lines_one bytes r s (good_lines good is) (good_lines good' is') = is ∙ sym is'

one_rest : (bytes : List ℕ) (fs gs : List Frame) (r s : List ℕ) → AreFramesOf bytes fs (Unfinished r) → AreFramesOf bytes gs (Unfinished s) → r ≡ s
one_rest bytes fs gs r s x y = let same = (one_reading bytes fs gs (Unfinished r) (Unfinished s) x y).1 in cc

one_list : (bytes : List ℕ) (fs gs : List Frame) (r s : List ℕ) → AreFramesOf bytes fs (Unfinished r) → AreFramesOf bytes gs (Unfinished s) → fs ≡ gs
one_list bytes fs gs r s x y = (one_reading bytes fs gs (Unfinished r) (Unfinished s) x y).0

-- frames have one list of payloads, or one answer
frames_one : (bytes : List ℕ) (r s : Encoded) → EncodesFrames bytes r → EncodesFrames bytes s → r ≡ s
frames_one bytes r s (bad_frame fs d x is) (bad_frame gs e y is') =
    is ∙ ap (λ (reason : FrameError). has_answer (invalid_input (frame_text reason))) (one_fault bytes fs gs d e x y) ∙ sym is'
frames_one bytes r s (bad_frame fs e x is) (cut_frame gs rest y some is') = absurd (not_both bytes gs fs rest e y x)
frames_one bytes r s (bad_frame fs e x is) (whole_frames gs y is') = absurd (not_both bytes gs fs [] e y x)
frames_one bytes r s (cut_frame fs rest x some is) (bad_frame gs e y is') = absurd (not_both bytes fs gs rest e x y)
frames_one bytes r s (cut_frame fs rest x some is) (cut_frame gs rest' y some' is') = is ∙ sym is'
frames_one bytes r s (cut_frame fs rest x some is) (whole_frames gs y is') = absurd (some (one_rest bytes fs gs rest [] x y))
frames_one bytes r s (whole_frames fs x is) (bad_frame gs e y is') = absurd (not_both bytes fs gs [] e x y)
frames_one bytes r s (whole_frames fs x is) (cut_frame gs rest y some is') = absurd (some (one_rest bytes gs fs rest [] y x))
frames_one bytes r s (whole_frames fs x is) (whole_frames gs y is') =
    is ∙ ap (λ (frames : List Frame). has_strings (payloads_of frames)) (one_list bytes fs gs [] [] x y) ∙ sym is'

within_one : (raw : Bool) (bytes : List ℕ) (r s : Encoded) → EncodesWithin raw bytes r → EncodesWithin raw bytes s → r ≡ s
within_one true bytes r s one other = frames_one bytes r s one other
within_one false bytes r s one other = lines_one bytes r s one other

-- an input encodes one list of byte strings, or has one answer
pub strings_one : StringsAreOne
strings_one raw bytes r s (too_long long is) (too_long long' is') = is ∙ sym is'
strings_one raw bytes r s (too_long long is) (encoded within enc) = absurd (omega arith)
strings_one raw bytes r s (encoded within enc) (too_long long is) = absurd (omega arith)
strings_one raw bytes r s (encoded within enc) (encoded within' enc') = within_one raw bytes r s enc enc'

-- an input is replayed to one list of lines and one end
pub logs_one : (options : ReplayOptions) (now : ℤ) (bytes : List ℕ) (l k : List (List ℕ)) (d e : Option LogFault) → ReplaysLog options now bytes l d
    → ReplaysLog options now bytes k e → (l ≡ k) × (d ≡ e)
logs_one options now bytes l k d e one two =
    let strings = ok_one one.strings two.strings (strings_one options.raw bytes (Ok one.strings) (Ok two.strings) one.encodes two.encodes) in
    let pieces = reads_one options.stream two.strings one.pieces two.pieces (subst (λ (bs : List (List ℕ)). ReadsPieces options.stream bs one.pieces) strings one.read) two.read in
    let mask = (log_options options).mask in
    replayed_once (log_options options) now (masked_pieces mask [] two.pieces) l k d e
    (masked_pieces_fit mask [] two.pieces (reads_fit options.stream two.strings two.pieces two.read))
    (subst (λ (ps : List Piece). IsReplayed (log_options options) now (masked_pieces mask [] ps) l d) pieces one.replayed) two.replayed

-- bytes have one answer
pub replays_one : ReplayAnswersAreOne
replays_one options now bytes a b (unread enc) (unread enc') = answer_one a b (strings_one options.raw bytes (Err a) (Err b) enc enc')
replays_one options now bytes a b (unread enc) (replayed l e log is) =
    absurd (ok_or_answer log.strings a (strings_one options.raw bytes (Ok log.strings) (Err a) log.encodes enc))
replays_one options now bytes a b (replayed l e log is) (unread enc) =
    absurd (ok_or_answer log.strings b (strings_one options.raw bytes (Ok log.strings) (Err b) log.encodes enc))
replays_one options now bytes a b (replayed l d log is) (replayed k e log' is') =
    let same = logs_one options now bytes l k d e log log' in
    is ∙ ap₂ (λ (x : List (List ℕ)) (y : Option LogFault). log_answer x y) same.0 same.1 ∙ sym is'
