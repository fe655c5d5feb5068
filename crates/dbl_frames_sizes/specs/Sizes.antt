-- The lengths that a frame may declare, and the number of bytes of a frame.
use Rattle.std.specs.Prelude.{ℕ, ◌+◌, ◌&&◌, Bool, List, length, take, drop, nat_lt, nat_le, if◌then◌else◌}
use Rattle.std.specs.Int.{w32, from_be_bytes}

-- a length of at least one byte of content, and at most XLogData with the longest payload
abbrev pub is_length : ℕ → Bool
is_length n = nat_le 5 n && nat_le n 16777245

-- The number of bytes of the frame at the front, once its head is there: the kind, the length and the first byte of the content.
-- Before that, the number of bytes of a head.
unfoldable pub wanted_size : List ℕ → ℕ
wanted_size bytes = if nat_lt (length bytes) 6 then 6 else from_be_bytes w32 (take 4 (drop 1 bytes)) + 1
