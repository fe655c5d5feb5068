-- The byte strings that an input encodes, which are the bytes of a log's messages: those of its lines, or with `--raw` the payloads of the
-- frames of a replication stream.
use Rattle.std.specs.Prelude.{◌≡◌, ◌≢◌, ℕ, ◌<◌, ◌≤◌, Bool, true, false, Option, Some, None, Result, Ok, Err, List, [], ◌∷◌, ◌++◌}
use Rattle.std.specs.Prelude.{length, codes, decimal}
use Rattle.std.specs.List.{filter_map}
use Rattle.dbl_base.specs.Lines.{lines_of}
use Rattle.dbl_base.specs.Streams.{input_limit}
use Rattle.dbl_frames_heads.specs.declared.error.FrameError.{FrameError}
use Rattle.dbl_frames_heads.specs.declared.error.FrameError.TheVariants as error
use Rattle.dbl_frames_heads.specs.declared.frame.Frame.{Frame}
use Rattle.dbl_frames_heads.specs.declared.frame.Frame.TheVariants.{Data, Keepalive}
use Rattle.dbl_frames.specs.Stream.{AreFramesOf, Unfinished, Faulty}
use Rattle.dbl_lines.specs.declared.status.Status.TheVariants.{InvalidInput}
use Rattle.dbl_lines.specs.declared.run_error.RunError.TheVariants as run
use Rattle.dblog_streams.specs.Answers.{RunAnswer, fault}
use Rattle.dblog_replay.specs.Lines.{message_bytes_in, first_bad_line}

-- ---- the answers of an input that encodes no byte strings

-- The text for a frame that isn't valid.
abbrev pub frame_text : FrameError → List ℕ
frame_text (error.BadKind at byte) = codes "frame at " ++ (decimal at ++ (codes ": F1 bad kind " ++ decimal byte))
frame_text (error.BadLength at) = codes "frame at " ++ (decimal at ++ codes ": F2 bad length")
frame_text (error.BadInner at byte) = codes "frame at " ++ (decimal at ++ (codes ": F3 bad inner " ++ decimal byte))
frame_text (error.BadSize at) = codes "frame at " ++ (decimal at ++ codes ": F4 bad size")
frame_text error.Memory = codes "out of memory"

-- The text for an input of this length that ends inside a frame.
abbrev pub cut_text : ℕ → List ℕ
cut_text size = codes "frame cut at " ++ decimal size

-- The answer of an input that isn't valid: its status, and one line with this text.
abbrev pub invalid_input : List ℕ → RunAnswer
invalid_input text = record { status = InvalidInput; lines = (codes "dblog: " ++ text) ∷ []; one_by_one = [] }

-- ---- byte strings

-- The payload of XLogData; a keepalive has none.
abbrev pub payload_of : Frame → Option (List ℕ)
payload_of (Data start end time payload) = Some payload
payload_of (Keepalive end time reply) = None

-- The payloads of the frames, in order.
abbrev pub payloads_of : List Frame → List (List ℕ)
payloads_of frames = filter_map payload_of frames

-- The byte strings that the lines of an input with these bytes encode, or the answer of the first bad line.
pub data EncodesLines (bytes : List ℕ) (result : Result (List (List ℕ)) RunAnswer) : Type 0 where
  bad_line : (number : ℕ) → first_bad_line (lines_of bytes) ≡ Some number → result ≡ Err (fault (run.BadLine number))
      → EncodesLines bytes result
  good_lines : first_bad_line (lines_of bytes) ≡ None → result ≡ Ok (message_bytes_in (lines_of bytes)) → EncodesLines bytes result

-- The payloads of the frames of an input with these bytes, or the answer of the first frame that isn't valid or is cut by the input's end.
pub data EncodesFrames (bytes : List ℕ) (result : Result (List (List ℕ)) RunAnswer) : Type 0 where
  bad_frame : (frames : List Frame) (reason : FrameError) → AreFramesOf bytes frames (Faulty reason)
      → result ≡ Err (invalid_input (frame_text reason)) → EncodesFrames bytes result
  cut_frame : (frames : List Frame) (rest : List ℕ) → AreFramesOf bytes frames (Unfinished rest) → rest ≢ []
      → result ≡ Err (invalid_input (cut_text (length bytes))) → EncodesFrames bytes result
  whole_frames : (frames : List Frame) → AreFramesOf bytes frames (Unfinished []) → result ≡ Ok (payloads_of frames)
      → EncodesFrames bytes result

-- The byte strings of an input within the limit, as frames if it is `raw`, else as lines.
abbrev pub EncodesWithin : Bool → List ℕ → Result (List (List ℕ)) RunAnswer → Type 0
EncodesWithin true bytes result = EncodesFrames bytes result
EncodesWithin false bytes result = EncodesLines bytes result

-- The byte strings that an input with these bytes encodes; or its answer if it has none, as it is too long or isn't valid.
pub data EncodesStrings (raw : Bool) (bytes : List ℕ) (result : Result (List (List ℕ)) RunAnswer) : Type 0 where
  too_long : input_limit < length bytes → result ≡ Err (fault run.InputTooLong) → EncodesStrings raw bytes result
  encoded : length bytes ≤ input_limit → EncodesWithin raw bytes result → EncodesStrings raw bytes result
