-- The fault of the frame at the front of the bytes, once the byte that shows it is there: the kind, the last byte of the length, or the
-- first byte of the content. `at` is the frame's offset in the stream.
use Rattle.std.specs.Prelude.{ℕ, ◌==◌, List, [], ◌∷◌, length, take, drop, Option, Some, None, nat_lt, nat_le}
use Rattle.std.specs.Prelude.{if◌then◌else◌}
use Rattle.std.specs.Str.{byte}
use Rattle.std.specs.Int.{w32, from_be_bytes}
use Rattle.dbl_frames_sizes.specs.Sizes.{is_length}
use Rattle.dbl_frames_heads.specs.declared.error.FrameError.{FrameError}
use Rattle.dbl_frames_heads.specs.declared.error.FrameError.TheVariants.{BadKind, BadLength, BadInner, BadSize}

-- the fault of a content, in a frame of this length
unfoldable pub content_fault : ℕ → ℕ → List ℕ → Option FrameError
content_fault at n [] = None
content_fault at n (b ∷ rest) =
    if b == byte "w" then (if nat_le 29 n then None else Some (BadSize at))
    else (if b == byte "k" then (if n == 22 then None else Some (BadSize at))
    else Some (BadInner at b))

-- the fault of a length, or of the content after it
unfoldable pub sized_fault : ℕ → ℕ → List ℕ → Option FrameError
sized_fault at n content = if is_length n then content_fault at n content else Some (BadLength at)

-- the fault of the four bytes of a length and the content
unfoldable pub length_fault : ℕ → List ℕ → Option FrameError
length_fault at bytes =
    if nat_lt (length bytes) 4 then None
    else sized_fault at (from_be_bytes w32 (take 4 bytes)) (drop 4 bytes)

-- the fault of the frame at the front
unfoldable pub head_fault : ℕ → List ℕ → Option FrameError
head_fault at [] = None
head_fault at (b ∷ rest) = if b == byte "d" then length_fault at rest else Some (BadKind at b)
