-- For private clauses: errors of reading an input, and a replication stream that is read piece by piece.
use Rattle.std.specs.Prelude.{◌≡◌, ◌⊎◌, ℕ, Bool, Some, None, Err, List, length}
use Rattle.dbl_base.specs.declared.input.InputError.{InputError}
use Rattle.dbl_base.specs.declared.input.InputError.TheVariants as input
use Rattle.dbl_frames_heads.specs.declared.error.FrameError.{FrameError}
use Rattle.dbl_frames_heads.specs.declared.frame.Frame.{Frame}
use Rattle.dbl_frames.specs.Stream.{AreFramesOf, Faulty, WasFed}
use Rattle.dbl_lines.specs.declared.run_error.RunError.{RunError}
use Rattle.dbl_lines.specs.declared.run_error.RunError.TheVariants as run
use Rattle.dblog_replay.specs.declared.lines.LineError.{LineError}
use Rattle.dblog_replay.specs.declared.lines.LineError.TheVariants as line
use Rattle.dblog_streams.specs.Answers.{RunAnswer, fault}
use Rattle.dblog_streams.specs.declared.frames.Stream.{Stream}
use Rattle.dblog_streams.specs.declared.unread.Unread.{Unread}
use Rattle.dblog_streams.specs.declared.unread.Unread.TheVariants.{Run, BadFrame, CutFrame}
use Rattle.dblog_streams.specs.Inputs.{frame_text, cut_text, invalid_input, payloads_of, EncodesStrings}

-- The error of reading an input, as a run's.
abbrev pub reading_error : InputError → RunError
reading_error input.Failed = run.InputFailed
reading_error input.TooLong = run.InputTooLong
reading_error input.Memory = run.Memory

-- The error of reading the lines of a log, as a run's.
abbrev pub line_error : LineError → RunError
line_error (line.BadLine number) = run.BadLine number
line_error line.Memory = run.Memory

-- The answer of an error of reading.
abbrev pub unread_answer : Unread → RunAnswer
unread_answer (Run reason) = fault reason
unread_answer (BadFrame reason) = invalid_input (frame_text reason)
unread_answer (CutFrame size) = invalid_input (cut_text size)

-- The input failed, or memory ran out.
abbrev pub IsFailure : Unread → Type 0
IsFailure unread = (unread ≡ Run run.InputFailed) ⊎ (unread ≡ Run run.Memory)

-- An error of reading an input with these bytes is its answer, unless it is a failure.
abbrev pub HaltsReading : Bool → List ℕ → Unread → Type 0
HaltsReading raw bytes unread = IsFailure unread ⊎ EncodesStrings raw bytes (Err (unread_answer unread))

-- The bytes have no fault so far, and the stream has the payloads of their frames; or it has their fault.
pub data HasPayloads (bytes : List ℕ) (stream : Stream) : Type 0 where
  sound : (frames : List Frame) → stream.fault ≡ None → WasFed bytes frames stream.frames → stream.payloads.items ≡ payloads_of frames
      → HasPayloads bytes stream
  faulty : (frames : List Frame) (reason : FrameError) → stream.fault ≡ Some reason → AreFramesOf bytes frames (Faulty reason)
      → HasPayloads bytes stream

-- The stream is what these bytes make of it.
pub record HasRead (bytes : List ℕ) (stream : Stream) : Type 0 where
  pub size : stream.size ≡ length bytes
  pub has : HasPayloads bytes stream
