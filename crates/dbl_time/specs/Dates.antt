-- Dates of the Gregorian calendar: PostgreSQL's manual, "Date/Time Types" and "History of Units".
use Rattle.std.specs.Prelude.{ℕ, zero, suc, ◌+◌, ℤ, pos, neg_ℤ, ◌-ℤ◌, ◌≤ℤ◌, int_le, ◌&&◌, nat_le, Bool}
use Rattle.std.specs.Prelude.{if◌then◌else◌, Option, Some, None, List, ◌++◌, unsigned_abs, codes}
use Rattle.jiff_core.specs.Calendar.{days_from_civil, days_in_month}
use Rattle.dbl_time.specs.Shapes.{has_shape, two_at, four_at, two_digits, four_digits}

-- the calendar has the date, in a year from 1 to 9999
abbrev pub is_day : ℕ → ℕ → ℕ → Bool
is_day year month day = nat_le 1 year && nat_le year 9999 && nat_le 1 month && nat_le month 12 && nat_le 1 day
    && nat_le day (days_in_month (pos year) month)

-- the days since 1970-01-01 of a date
abbrev pub number_of_day : ℕ → ℕ → ℕ → Option ℤ
number_of_day year month day = if is_day year month day then Some (days_from_civil (pos year) month day) else None

-- the day of a text `YYYY-MM-DD`
unfoldable pub day_of : List ℕ → Option ℤ
day_of text = if has_shape (codes "9999-99-99") text then number_of_day (four_at text 0) (two_at text 5) (two_at text 8) else None

-- the day is between 0001-01-01 and 9999-12-31
abbrev pub IsInYears : ℤ → Type 0
IsInYears day = (neg_ℤ (pos 719162) ≤ℤ day) × (day ≤ℤ pos 2932896)

-- ---- the date of a day: its year is the number of years, from 1 on, that have begun by then; likewise its month in the year

-- the number of years, from 1 to the last, that have begun by the day
unfoldable pub years_begun : ℕ → ℤ → ℕ
years_begun zero day = 0
years_begun (suc last) day = years_begun last day + (if int_le (days_from_civil (pos (suc last)) 1 1) day then 1 else 0)

-- the year of a day
unfoldable pub year_of : ℤ → ℕ
year_of day = years_begun 9999 day

-- the number of the year's months, from the first to the last, that have begun by the day
unfoldable pub months_begun : ℕ → ℕ → ℤ → ℕ
months_begun year zero day = 0
months_begun year (suc last) day = months_begun year last day + (if int_le (days_from_civil (pos year) (suc last) 1) day then 1 else 0)

-- the month of a day
unfoldable pub month_of : ℤ → ℕ
month_of day = months_begun (year_of day) 12 day

-- the day of the month, from 1
unfoldable pub day_in_month : ℤ → ℕ
day_in_month day = unsigned_abs (day -ℤ days_from_civil (pos (year_of day)) (month_of day) 1) + 1

-- a date as `YYYY-MM-DD`
abbrev pub date_parts_text : ℕ → ℕ → ℕ → List ℕ
date_parts_text year month day = four_digits year ++ codes "-" ++ two_digits month ++ codes "-" ++ two_digits day

-- the text of a day in the years 1 to 9999
unfoldable pub date_text : ℤ → List ℕ
date_text day = date_parts_text (year_of day) (month_of day) (day_in_month day)
