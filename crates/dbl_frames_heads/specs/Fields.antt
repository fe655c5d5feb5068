-- The fields of a whole frame, read from its bytes.
use Rattle.std.specs.Prelude.{ℕ, ◌==◌, List, take, drop, slice_index, if◌then◌else◌}
use Rattle.std.specs.Str.{byte}
use Rattle.std.specs.Int.{w64, from_be_bytes, cast_signed}
use Rattle.dbl_frames_heads.specs.declared.frame.Frame.{Frame}
use Rattle.dbl_frames_heads.specs.declared.frame.Frame.TheVariants.{Data, Keepalive}

-- the number in the eight bytes at this offset
abbrev pub int64_at : ℕ → List ℕ → ℕ
int64_at at bytes = from_be_bytes w64 (take 8 (drop at bytes))

-- the frame that the bytes encode, if they are whole and have no fault
unfoldable pub frame_at : List ℕ → Frame
frame_at bytes =
    if slice_index bytes 5 == byte "w" then Data (int64_at 6 bytes) (int64_at 14 bytes) (cast_signed w64 (int64_at 22 bytes))
    (drop 30 bytes)
    else Keepalive (int64_at 6 bytes) (cast_signed w64 (int64_at 14 bytes)) (slice_index bytes 22)
