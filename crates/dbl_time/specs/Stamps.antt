-- Timestamps, in microseconds since 1970-01-01: PostgreSQL's manual, "Date/Time Types".
use Rattle.std.specs.Prelude.{◌^◌, ℕ, ◌+◌, ◌/◌, ◌%◌, ℤ, pos, neg_ℤ, ◌+ℤ◌, ◌-ℤ◌, ◌*ℤ◌, int_le, unsigned_abs, ◌==◌, ◌&&◌}
use Rattle.std.specs.Prelude.{◌||◌, Bool, if◌then◌else◌, Option, Some, None, List, ◌++◌, slice_index, take, drop, codes}
use Rattle.std.specs.Int.{int_div_euclid, int_rem_euclid}
use Rattle.std.specs.List.{position}
use Rattle.dbl_time.specs.Shapes.{has_shape, two_at}
use Rattle.dbl_time.specs.Dates.{day_of, date_text}
use Rattle.dbl_time.specs.Clocks.{clock_seconds, clock_of, day_micros, clock_text, seconds_text, six_digits}

-- a day and a time of day as a timestamp, if both are defined
abbrev pub joined_stamp : Option ℤ → Option ℕ → Option ℤ
joined_stamp None clock = None
joined_stamp (Some day) None = None
joined_stamp (Some day) (Some clock) = Some (day *ℤ pos day_micros +ℤ pos clock)

-- the bound on a timestamp's distance from 1970-01-01, in microseconds
abbrev pub moment_room : ℕ
moment_room = 2 ^ 60

-- the timestamp of a text that is a date, one space and a time before 24:00:00
abbrev pub stamp_of : List ℕ → Option ℤ
stamp_of text = if slice_index text 10 == 32 then joined_stamp (day_of (take 10 text)) (clock_of (drop 11 text)) else None

-- ---- timestamps with an offset from UTC

-- the byte is `+` or `-`
abbrev pub is_sign : ℕ → Bool
is_sign c = (c == 43) || (c == 45)

-- the index of the offset's sign after the 19 bytes of date and time: the first `+` or `-` there
unfoldable pub sign_place : List ℕ → Option ℕ
sign_place text = position is_sign (drop 19 text)

-- an offset without its sign: `HH`, `HH:MM` or `HH:MM:SS`
abbrev pub is_offset_size : List ℕ → Bool
is_offset_size text = has_shape (codes "99") text || has_shape (codes "99:99") text || has_shape (codes "99:99:99") text

-- the seconds of an offset without its sign, up to 15:59:59; missing minutes and seconds count as 0
unfoldable pub offset_size : List ℕ → Option ℕ
offset_size text = if is_offset_size text then clock_seconds 15 (two_at text 0) (two_at text 3) (two_at text 6) else None

-- the offset from UTC in seconds: positive for `+`, negative for `-`
abbrev pub signed_offset : ℕ → Option ℕ → Option ℤ
signed_offset sign None = None
signed_offset sign (Some seconds) = if sign == 43 then Some (pos seconds) else (if sign == 45 then Some (neg_ℤ (pos seconds)) else None)

-- the seconds by which a clock with this offset is ahead of UTC
abbrev pub offset_of : List ℕ → Option ℤ
offset_of text = signed_offset (slice_index text 0) (offset_size (drop 1 text))

-- the instant of a local timestamp on a clock this far ahead of UTC, if both are defined
abbrev pub joined_instant : Option ℤ → Option ℤ → Option ℤ
joined_instant None offset = None
joined_instant (Some moment) None = None
joined_instant (Some moment) (Some offset) = Some (moment -ℤ offset *ℤ pos 1000000)

-- the instant of a text whose offset begins at this index after the first 19 bytes
abbrev pub instant_at : List ℕ → Option ℕ → Option ℤ
instant_at text None = None
instant_at text (Some place) = joined_instant (stamp_of (take (19 + place) text)) (offset_of (drop (19 + place) text))

-- the UTC instant of a text that is a timestamp and an offset, in any year
abbrev pub instant_of : List ℕ → Option ℤ
instant_of text = instant_at text (sign_place text)

-- the instant 0001-01-01 00:00:00
abbrev pub first_instant : ℤ
first_instant = neg_ℤ (pos 62135596800000000)

-- the instant 9999-12-31 23:59:59.999999
abbrev pub last_instant : ℤ
last_instant = pos 253402300799999999

-- the instant is in the years 1 to 9999
abbrev pub is_instant : ℤ → Bool
is_instant instant = int_le first_instant instant && int_le instant last_instant

-- ---- the text of a timestamp

-- the day of a timestamp
abbrev pub day_of_stamp : ℤ → ℤ
day_of_stamp moment = int_div_euclid moment (pos day_micros)

-- the microseconds since midnight of a timestamp
abbrev pub clock_of_stamp : ℤ → ℕ
clock_of_stamp moment = unsigned_abs (int_rem_euclid moment (pos day_micros))

-- the text of a timestamp, with the shortest fraction
unfoldable pub stamp_text : ℤ → List ℕ
stamp_text moment = date_text (day_of_stamp moment) ++ codes " " ++ clock_text (clock_of_stamp moment)

-- the text of an instant, `YYYY-MM-DDTHH:MM:SS.ffffffZ` (RFC 3339), with six digits of fraction
unfoldable pub zulu_text : ℤ → List ℕ
zulu_text instant =
    date_text (day_of_stamp instant) ++ codes "T" ++ seconds_text (clock_of_stamp instant / 1000000) ++ codes "."
    ++ six_digits (clock_of_stamp instant % 1000000) ++ codes "Z"
