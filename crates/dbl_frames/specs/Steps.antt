-- The steps of reading a piece.
use Rattle.std.specs.Prelude.{◌≡◌, ◌⊎◌, ℕ, ◌+◌, ◌≤◌, List, ◌++◌, length, Some, None}
use Rattle.std.specs.List.{All}
use Rattle.dbl_frames_heads.specs.declared.error.FrameError.{FrameError}
use Rattle.dbl_frames_heads.specs.declared.error.FrameError.TheVariants.{Memory}
use Rattle.dbl_frames_heads.specs.declared.frame.Frame.{Frame}
use Rattle.dbl_frames_heads.specs.Form.{FitsFrame}
use Rattle.dbl_frames_sizes.specs.Sizes.{wanted_size}
use Rattle.dbl_frames_heads.specs.Faults.{head_fault}
use Rattle.dbl_frames.specs.Stream.{IsUnfinished, stream}

-- the bytes are no longer than the frame at their front, unless it has a fault
abbrev pub IsWithinFrame : ℕ → List ℕ → Type 0
IsWithinFrame at bytes = head_fault at bytes ≡ None → length bytes ≤ wanted_size bytes

-- From the bytes of an unfinished frame and a piece, these frames were appended; an unfinished frame and the rest of the piece are left.
pub record ReadsFrames (at : ℕ) (before piece : List ℕ) (out : List Frame) (next : ℕ) (after rest : List ℕ) (more : List Frame)
    : Type 0 where
  pub frames : List Frame
  pub encoded : before ++ piece ≡ stream frames ++ (after ++ rest)
  pub each : All FitsFrame frames
  pub appended : more ≡ out ++ frames
  pub offset : next ≡ at + length (stream frames)
  pub unfinished : IsUnfinished next after

-- From the bytes of an unfinished frame and a piece, these frames were appended; memory ran out, or what follows them has this fault.
pub record StopsReading (at : ℕ) (before piece : List ℕ) (out more : List Frame) (error : FrameError) : Type 0 where
  pub frames : List Frame
  pub rest : List ℕ
  pub encoded : before ++ piece ≡ stream frames ++ rest
  pub each : All FitsFrame frames
  pub appended : more ≡ out ++ frames
  pub fault : (error ≡ Memory) ⊎ (head_fault (at + length (stream frames)) rest ≡ Some error)
