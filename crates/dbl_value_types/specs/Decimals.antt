-- Integers in print: PostgreSQL's manual, "Numeric Types".
use Rattle.std.specs.Prelude.{ℕ, ℤ, pos, negsuc, ◌&&◌, ◌||◌, nat_lt, Bool, if◌then◌else◌}
use Rattle.std.specs.Prelude.{Option, Some, None, List, slice_index, drop, codes}
use Rattle.std.specs.List.{list_all}
use Rattle.std.specs.Char.{is_ascii_digit}
use Rattle.std.specs.Str.{bytes_eq}
use Rattle.std.specs.Str.Parse.{starts_with_minus, signed_digits_value}

-- the digits of a decimal, without its minus
abbrev pub digits_of : List ℕ → List ℕ
digits_of text = if starts_with_minus text then drop 1 text else text

-- a plain decimal: `0`, or digits that begin with no 0 after an optional minus
abbrev pub is_plain : List ℕ → Bool
is_plain text = bytes_eq text (codes "0") || (list_all is_ascii_digit (digits_of text) && nat_lt 48 (slice_index (digits_of text) 0))

-- the integer is at least -limit and below limit
abbrev pub is_within : ℕ → ℤ → Bool
is_within limit (pos n) = nat_lt n limit
is_within limit (negsuc n) = nat_lt n limit

-- the value of a plain decimal, if it is within the limit
abbrev pub integer_of : ℕ → List ℕ → Option ℤ
integer_of limit text = if is_plain text && is_within limit (signed_digits_value 10 text) then Some (signed_digits_value 10 text) else None
