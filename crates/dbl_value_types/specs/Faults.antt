-- The fault of a text that is no value of the type.
use Rattle.std.specs.Prelude.{ℕ, ℤ, ◌==◌, ◌&&◌, ◌||◌, not, nat_eq, nat_le, Bool, false}
use Rattle.std.specs.Prelude.{if◌then◌else◌, Option, Some, None, is_some, List, slice_index, codes}
use Rattle.std.specs.List.{position, starts_with, ends_with}
use Rattle.std.specs.Char.{is_ascii_digit}
use Rattle.std.specs.Str.{bytes_eq}
use Rattle.dbl_value_types.specs.declared.column_type.PgType.{PgType}
use Rattle.dbl_value_types.specs.declared.column_type.PgType.TheVariants as type
use Rattle.dbl_value_types.specs.declared.error.ValueError.{ValueError}
use Rattle.dbl_value_types.specs.declared.error.ValueError.TheVariants as error
use Rattle.dbl_time.specs.Stamps.{instant_of, is_instant}
use Rattle.dbl_value_types.specs.Values.{value_of}

-- five or more digits, this many, are followed by a `-`
abbrev pub is_long_year : List ℕ → Option ℕ → Bool
is_long_year text None = false
is_long_year text (Some digits) = nat_le 5 digits && (slice_index text digits == 45)

-- the text begins with five or more digits and a `-`
abbrev pub has_long_year : List ℕ → Bool
has_long_year text = is_long_year text (position (λ c. not (is_ascii_digit c)) text)

-- the text is one that PostgreSQL writes for a date outside the years 1 to 9999, or has the year 0; the rest of it is ignored
abbrev pub is_beyond : List ℕ → Bool
is_beyond text = bytes_eq text (codes "infinity") || bytes_eq text (codes "-infinity") || ends_with nat_eq text (codes " BC")
    || has_long_year text || starts_with nat_eq text (codes "0000-")

-- the instant, if defined, is outside the years 1 to 9999
abbrev pub is_out : Option ℤ → Bool
is_out None = false
is_out (Some instant) = not (is_instant instant)

-- the text is a timestamp and an offset whose UTC instant is outside the years 1 to 9999
abbrev pub is_moved_out : List ℕ → Bool
is_moved_out text = is_out (instant_of text)

-- the text denotes a date outside the years 1 to 9999
abbrev pub is_date_range : PgType → List ℕ → Bool
is_date_range type.Date text = is_beyond text
is_date_range type.Timestamp text = is_beyond text
is_date_range type.Timestamptz text = is_beyond text || is_moved_out text
is_date_range ty text = false

-- the fault of a text that is no value of the type
abbrev pub fault_of : PgType → List ℕ → ValueError
fault_of ty text = if is_date_range ty text then error.DateRange else error.BadText

-- the fault of a text, none for a value of the type
abbrev pub value_fault : PgType → List ℕ → Option ValueError
value_fault ty text = if is_some (value_of ty text) then None else Some (fault_of ty text)
