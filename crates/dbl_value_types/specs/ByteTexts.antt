-- Byte strings: PostgreSQL's manual, "Binary Data Types", the hex format.
use Rattle.std.specs.Prelude.{ℕ, ◌&&◌, nat_eq, if◌then◌else◌, Option, None, List, ◌++◌, drop, codes}
use Rattle.std.specs.List.{list_all, starts_with}
use Rattle.std.specs.Result.{result_ok}
use Rattle.hex.specs.Hex.{decode_of, encode_lower}
use Rattle.dbl_time.specs.Shapes.{is_lower_hex}

-- the bytes of a text that is `\x` and pairs of lower-case hexadecimal digits
unfoldable pub bytes_of : List ℕ → Option (List ℕ)
bytes_of text = if starts_with nat_eq text (codes "\\x") && list_all is_lower_hex (drop 2 text)
    then result_ok (decode_of (drop 2 text)) else None

-- the text of a byte string in the hex format
abbrev pub bytes_text : List ℕ → List ℕ
bytes_text bytes = codes "\\x" ++ encode_lower bytes
