-- Texts of a fixed shape, and the numbers in them.
use Rattle.std.specs.Prelude.{ℕ, ◌+◌, ◌-◌, ◌*◌, ◌/◌, ◌%◌, ◌==◌, ◌&&◌, ◌||◌, nat_le, Bool}
use Rattle.std.specs.Prelude.{true, false, if◌then◌else◌, List, [], ◌∷◌, slice_index}
use Rattle.std.specs.Char.{is_ascii_digit}

-- a lower-case hexadecimal digit
abbrev pub is_lower_hex : ℕ → Bool
is_lower_hex c = is_ascii_digit c || (nat_le 97 c && nat_le c 102)

-- the byte matches a byte of a shape: `9` matches a decimal digit, `x` a lower-case hexadecimal digit, and any other byte itself
abbrev pub stands_for : ℕ → ℕ → Bool
stands_for place byte = if place == 57 then is_ascii_digit byte else (if place == 120 then is_lower_hex byte else (byte == place))

-- the text matches the shape, byte for byte
unfoldable pub has_shape : List ℕ → List ℕ → Bool
has_shape [] [] = true
has_shape [] (byte ∷ text) = false
has_shape (place ∷ shape) [] = false
has_shape (place ∷ shape) (byte ∷ text) = stands_for place byte && has_shape shape text

-- the value of the digit at an index
abbrev pub digit_at : List ℕ → ℕ → ℕ
digit_at text place = slice_index text place - 48

-- the value of the two digits from an index on
abbrev pub two_at : List ℕ → ℕ → ℕ
two_at text place = 10 * digit_at text place + digit_at text (place + 1)

-- the value of the four digits from an index on
abbrev pub four_at : List ℕ → ℕ → ℕ
four_at text place = 100 * two_at text place + two_at text (place + 2)

-- a number below 100 as two digits
abbrev pub two_digits : ℕ → List ℕ
two_digits n = (48 + n / 10) ∷ (48 + n % 10) ∷ []

-- a number below 10,000 as four digits
abbrev pub four_digits : ℕ → List ℕ
four_digits n = (48 + n / 1000) ∷ (48 + n / 100 % 10) ∷ (48 + n / 10 % 10) ∷ (48 + n % 10) ∷ []
