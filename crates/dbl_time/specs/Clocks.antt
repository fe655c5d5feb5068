-- Times of day, in microseconds: PostgreSQL's manual, "Date/Time Types".
use Rattle.std.specs.Prelude.{ℕ, ◌+◌, ◌*◌, ◌/◌, ◌%◌, ◌==◌, ◌&&◌, nat_le, Bool, if◌then◌else◌, Option}
use Rattle.std.specs.Prelude.{Some, None, List, [], ◌∷◌, ◌++◌, length, slice_index, take, drop, codes}
use Rattle.std.specs.List.{list_all}
use Rattle.std.specs.Char.{is_ascii_digit}
use Rattle.std.specs.Str.{bytes_eq}
use Rattle.dbl_time.specs.Shapes.{has_shape, digit_at, two_at, two_digits}

-- the seconds in a number of hours, minutes and seconds, if the hours are within the limit and the others below 60
unfoldable pub clock_seconds : ℕ → ℕ → ℕ → ℕ → Option ℕ
clock_seconds limit hours minutes seconds =
    if nat_le hours limit && nat_le minutes 59 && nat_le seconds 59 then Some (3600 * hours + 60 * minutes + seconds) else None

-- the seconds since midnight of a text `HH:MM:SS`, up to 23:59:59
unfoldable pub seconds_of : List ℕ → Option ℕ
seconds_of text = if has_shape (codes "99:99:99") text then clock_seconds 23 (two_at text 0) (two_at text 3) (two_at text 6) else None

-- a fraction: `.` and 1 to 6 digits
abbrev pub is_fraction : List ℕ → Bool
is_fraction text = (slice_index text 0 == 46) && nat_le 2 (length text) && nat_le (length text) 7 && list_all is_ascii_digit (drop 1 text)

-- the value of a fraction in microseconds; a missing digit counts as 0
abbrev pub fraction_micros : List ℕ → ℕ
fraction_micros text = 100000 * digit_at text 1 + 10000 * digit_at text 2 + 1000 * digit_at text 3 + 100 * digit_at text 4 + 10 * digit_at
    text 5 + digit_at text 6

-- the microseconds of a fraction of a second; 0 if it is absent
unfoldable pub fraction_of : List ℕ → Option ℕ
fraction_of text = if length text == 0 then Some 0 else (if is_fraction text then Some (fraction_micros text) else None)

-- a number of seconds and a fraction as microseconds, if both are defined
abbrev pub joined_clock : Option ℕ → Option ℕ → Option ℕ
joined_clock None micros = None
joined_clock (Some seconds) None = None
joined_clock (Some seconds) (Some micros) = Some (1000000 * seconds + micros)

-- the microseconds since midnight of a text `HH:MM:SS` with an optional fraction, before 24:00:00
abbrev pub clock_of : List ℕ → Option ℕ
clock_of text = joined_clock (seconds_of (take 8 text)) (fraction_of (drop 8 text))

-- the microseconds in a day
abbrev pub day_micros : ℕ
day_micros = 86400000000

-- the microseconds since midnight of a time before 24:00:00, or of exactly `24:00:00`
abbrev pub time_of : List ℕ → Option ℕ
time_of text = if bytes_eq text (codes "24:00:00") then Some day_micros else clock_of text

-- ---- the text of a time

-- the digits of a fraction up to the last that isn't 0, given the digits' values in microseconds
unfoldable pub short_digits : List ℕ → ℕ → List ℕ
short_digits [] micros = []
short_digits (unit ∷ units) micros = if micros == 0 then [] else (48 + micros / unit) ∷ short_digits units (micros % unit)

-- the values in microseconds of a fraction's six digits
abbrev pub digit_units : List ℕ
digit_units = 100000 ∷ 10000 ∷ 1000 ∷ 100 ∷ 10 ∷ 1 ∷ []

-- the shortest fraction, empty for 0
unfoldable pub fraction_text : ℕ → List ℕ
fraction_text micros = if micros == 0 then [] else codes "." ++ short_digits digit_units micros

-- a number of seconds as `HH:MM:SS`
abbrev pub seconds_text : ℕ → List ℕ
seconds_text seconds = two_digits (seconds / 3600) ++ codes ":" ++ two_digits (seconds / 60 % 60) ++ codes ":" ++ two_digits (seconds % 60)

-- a time of day, or 24:00:00, in print
abbrev pub clock_text : ℕ → List ℕ
clock_text micros = seconds_text (micros / 1000000) ++ fraction_text (micros % 1000000)

-- a number below 1,000,000 as six digits
abbrev pub six_digits : ℕ → List ℕ
six_digits n = two_digits (n / 10000) ++ two_digits (n / 100 % 100) ++ two_digits (n % 100)
