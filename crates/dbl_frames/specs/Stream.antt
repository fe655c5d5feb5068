-- The frames of a stream, and a reader that is fed it in pieces.
use Rattle.std.specs.Prelude.{◌≡◌, ℕ, ◌+◌, ◌<◌, List, ◌++◌, length, Option, Some, None}
use Rattle.std.specs.List.{All, flat_map}
use Rattle.dbl_frames_heads.specs.declared.error.FrameError.{FrameError}
use Rattle.dbl_frames_heads.specs.declared.frame.Frame.{Frame}
use Rattle.dbl_frames_heads.specs.Form.{FitsFrame, frame_form}
use Rattle.dbl_frames_sizes.specs.Sizes.{wanted_size}
use Rattle.dbl_frames_heads.specs.Faults.{head_fault}

-- how the frames of some bytes end: with the bytes of an unfinished frame, or with a fault
pub data Rest : Type 0 where
  Unfinished : List ℕ → Rest
  Faulty : FrameError → Rest

-- the bytes at this offset are less than a frame, and have no fault yet
pub record IsUnfinished (at : ℕ) (bytes : List ℕ) : Type 0 where
  pub sound : head_fault at bytes ≡ None
  pub short : length bytes < wanted_size bytes

-- the bytes at this offset are an unfinished frame, or begin with a fault
abbrev pub IsStreamRest : ℕ → List ℕ → Rest → Type 0
IsStreamRest at bytes (Unfinished rest) = (bytes ≡ rest) × IsUnfinished at bytes
IsStreamRest at bytes (Faulty error) = head_fault at bytes ≡ Some error

-- the bytes of frames, one after another
abbrev pub stream : List Frame → List ℕ
stream frames = flat_map frame_form frames

-- the bytes begin with these whole frames
pub record BeginsWith (bytes : List ℕ) (frames : List Frame) : Type 0 where
  pub rest : List ℕ
  pub encoded : bytes ≡ stream frames ++ rest
  pub each : All FitsFrame frames

-- The frames of the bytes: the whole ones before the first fault, and what follows them.
pub record AreFramesOf (bytes : List ℕ) (frames : List Frame) (rest : Rest) : Type 0 where
  pub begins : BeginsWith bytes frames
  pub ends : IsStreamRest (length (stream frames)) begins.rest rest

-- a reader of frames: the offset of the unfinished frame, its bytes, and the error after which nothing more is read
pub record Reader : Type 0 where
  pub at : ℕ
  pub unfinished : List ℕ
  pub failed : Option FrameError

-- the number of bytes fed, if there was no error
abbrev pub bytes_fed : Reader → ℕ
bytes_fed reader = reader.at + length reader.unfinished

-- the reader was fed these bytes, which have no fault, and has returned their frames
pub record WasFed (fed : List ℕ) (frames : List Frame) (reader : Reader) : Type 0 where
  pub read : AreFramesOf fed frames (Unfinished reader.unfinished)
  pub count : bytes_fed reader ≡ length fed
  pub ready : reader.failed ≡ None
