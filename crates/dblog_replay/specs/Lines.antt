-- The messages that the lines of `replay` encode.
use Rattle.std.specs.Prelude.{ℕ, ◌==◌, ◌&&◌, not, Bool, if◌then◌else◌, Option, None, is_none, List, filter}
use Rattle.std.specs.List.{filter_map, position_from}
use Rattle.std.specs.Result.{result_ok}
use Rattle.hex.specs.Hex.{decode_of}
use Rattle.dbl_base.specs.Lines.{is_passed_over}

-- The bytes of a line without its spaces.
abbrev pub without_spaces : List ℕ → List ℕ
without_spaces line = filter (λ c. not (c == 32)) line

-- The bytes that the line's hexadecimal digits encode, in either case; spaces are ignored.
unfoldable pub bytes_in : List ℕ → Option (List ℕ)
bytes_in line = result_ok (decode_of (without_spaces line))

-- The bytes of the line's message, unless the line is skipped or bad.
abbrev pub message_in : List ℕ → Option (List ℕ)
message_in line = if is_passed_over line then None else bytes_in line

-- Whether a line is neither skipped nor a message.
abbrev pub is_bad : List ℕ → Bool
is_bad line = not (is_passed_over line) && is_none (bytes_in line)

-- The bytes of the messages of the lines, in order.
abbrev pub message_bytes_in : List (List ℕ) → List (List ℕ)
message_bytes_in lines = filter_map message_in lines

-- The number of the first bad line, counted from 1.
abbrev pub first_bad_line : List (List ℕ) → Option ℕ
first_bad_line lines = position_from is_bad 1 lines
