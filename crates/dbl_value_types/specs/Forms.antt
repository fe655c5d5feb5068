-- The texts of each type in print.
use Rattle.std.specs.Prelude.{◌≡◌, ◌↔◌, ◌≤◌, ◌^◌, ◌⊎◌, ◌++◌, ℕ, ℤ, pos, ◌+◌, ◌-◌, ◌*◌, ◌+ℤ◌, ◌-ℤ◌, ◌*ℤ◌, List, [], length, IsTrue, codes}
use Rattle.std.specs.List.{list_all}
use Rattle.std.specs.Char.{is_ascii_digit}
use Rattle.std.specs.Str.Parse.{digits_value}
use Rattle.jiff_core.specs.Calendar.{days_from_civil}
use Rattle.hex.specs.Hex.{IsBytes}
use Rattle.dbl_value_types.specs.declared.column_type.PgType.TheVariants as type
use Rattle.dbl_value_types.specs.declared.value.Val.TheVariants as val
use Rattle.dbl_time.specs.Shapes.{is_lower_hex, two_digits}
use Rattle.dbl_time.specs.Dates.{is_day, date_parts_text, IsInYears}
use Rattle.dbl_time.specs.Clocks.{day_micros}
use Rattle.dbl_time.specs.Stamps.{is_instant}
use Rattle.dbl_value_types.specs.ByteTexts.{bytes_text}
use Rattle.dbl_value_types.specs.Values.{SpellsValue}

-- the text is a calendar day as `YYYY-MM-DD`, and this is its number
pub record IsDateText (text : List ℕ) (number : ℤ) : Type 0 where
  pub year : ℕ
  pub month : ℕ
  pub day : ℕ
  pub is_day : IsTrue (is_day year month day)
  pub text_is : text ≡ date_parts_text year month day
  pub number_is : days_from_civil (pos year) month day ≡ number

-- a text parses as a date if and only if it is a calendar day in the years 1 to 9999
abbrev pub DateTextsAreDays : Type 0
DateTextsAreDays = (text : List ℕ) (number : ℤ) → SpellsValue type.Date text (val.Date number) ↔ IsDateText text number

-- the day is that of exactly one date in the years 1 to 9999
pub record NamesOneDate (number : ℤ) : Type 0 where
  pub year : ℕ
  pub month : ℕ
  pub day : ℕ
  pub is_day : IsTrue (is_day year month day)
  pub number_is : days_from_civil (pos year) month day ≡ number
  pub one : (y m d : ℕ) → IsTrue (Rattle.dbl_time.specs.Dates.is_day y m d) → days_from_civil (pos y) m d ≡ number
      → (y ≡ year) × (m ≡ month) × (d ≡ day)

-- each day from 0001-01-01 to 9999-12-31 is that of exactly one date, and no date in these years has another day
abbrev pub DaysAreDates : Type 0
DaysAreDates = ((number : ℤ) → IsInYears number → NamesOneDate number)
    × ((y m d : ℕ) → IsTrue (is_day y m d) → IsInYears (days_from_civil (pos y) m d))

-- a text parses as bytes if and only if it is `\x` and two lower-case hexadecimal digits for each byte
abbrev pub ByteTextsAreHex : Type 0
ByteTextsAreHex = (text bytes : List ℕ) → SpellsValue type.Bytea text (val.Bytes bytes) ↔ (IsBytes bytes × (text ≡ bytes_text bytes))

-- this many lower-case hexadecimal digits
pub record AreHex (count : ℕ) (digits : List ℕ) : Type 0 where
  pub many : length digits ≡ count
  pub lower : IsTrue (list_all is_lower_hex digits)

-- five groups of lower-case hexadecimal digits, separated by `-`
pub record IsUuidText (text : List ℕ) : Type 0 where
  pub first : List ℕ
  pub second : List ℕ
  pub third : List ℕ
  pub fourth : List ℕ
  pub fifth : List ℕ
  pub first_is : AreHex 8 first
  pub second_is : AreHex 4 second
  pub third_is : AreHex 4 third
  pub fourth_is : AreHex 4 fourth
  pub fifth_is : AreHex 12 fifth
  pub text_is : text ≡ first ++ codes "-" ++ second ++ codes "-" ++ third ++ codes "-" ++ fourth ++ codes "-" ++ fifth

-- a text parses as a uuid if and only if it is five groups of lower-case hexadecimal digits
abbrev pub UuidTextsAreGroups : Type 0
UuidTextsAreGroups = (text t : List ℕ) → SpellsValue type.Uuid text (val.Text t) ↔ ((t ≡ text) × IsUuidText text)

-- a point and 1 to 6 digits, and their value in microseconds; a missing digit counts as 0
pub record HasDigits (text : List ℕ) (micros : ℕ) : Type 0 where
  pub digits : List ℕ
  pub are_digits : IsTrue (list_all is_ascii_digit digits)
  pub some : 1 ≤ length digits
  pub few : length digits ≤ 6
  pub text_is : text ≡ codes "." ++ digits
  pub micros_are : digits_value 10 digits * 10 ^ (6 - length digits) ≡ micros

-- a fraction of a second: nothing, or a point and digits
abbrev pub IsFractionText : List ℕ → ℕ → Type 0
IsFractionText text micros = ((text ≡ []) × (micros ≡ 0)) ⊎ HasDigits text micros

-- a time of day: hours, minutes and seconds, two digits each, and a fraction
pub record IsClockText (text : List ℕ) (micros : ℕ) : Type 0 where
  pub hours : ℕ
  pub minutes : ℕ
  pub seconds : ℕ
  pub fraction : List ℕ
  pub part : ℕ
  pub hours_up : hours ≤ 23
  pub minutes_up : minutes ≤ 59
  pub seconds_up : seconds ≤ 59
  pub fraction_is : IsFractionText fraction part
  pub text_is : text ≡ two_digits hours ++ codes ":" ++ two_digits minutes ++ codes ":" ++ two_digits seconds ++ fraction
  pub micros_are : 1000000 * (3600 * hours + 60 * minutes + seconds) + part ≡ micros

-- a text parses as a time if and only if it is `24:00:00` or a time of day before it
abbrev pub TimeTextsAreClocks : Type 0
TimeTextsAreClocks = (text : List ℕ) (z : ℤ)
    → SpellsValue type.Time text (val.Time z) ↔
    (((text ≡ codes "24:00:00") × (z ≡ pos day_micros)) ⊎ ((micros : ℕ) × IsClockText text micros × (z ≡ pos micros)))

-- a timestamp: a date, one space and a time of day
pub record IsStampText (text : List ℕ) (moment : ℤ) : Type 0 where
  pub date : List ℕ
  pub clock : List ℕ
  pub number : ℤ
  pub micros : ℕ
  pub date_is : IsDateText date number
  pub clock_is : IsClockText clock micros
  pub text_is : text ≡ date ++ codes " " ++ clock
  pub moment_is : number *ℤ pos day_micros +ℤ pos micros ≡ moment

-- a text parses as a timestamp if and only if it is a date, one space and a time of day
abbrev pub StampTextsAreMoments : Type 0
StampTextsAreMoments = (text : List ℕ) (z : ℤ) → SpellsValue type.Timestamp text (val.Stamp z) ↔ IsStampText text z

-- an offset: hours, hours and minutes, or all three, up to 15:59:59
pub record IsOffsetText (text : List ℕ) (size : ℕ) : Type 0 where
  pub hours : ℕ
  pub minutes : ℕ
  pub seconds : ℕ
  pub hours_up : hours ≤ 15
  pub minutes_up : minutes ≤ 59
  pub seconds_up : seconds ≤ 59
  pub text_is : ((text ≡ two_digits hours) × (minutes ≡ 0) × (seconds ≡ 0))
      ⊎ (((text ≡ two_digits hours ++ codes ":" ++ two_digits minutes) × (seconds ≡ 0))
      ⊎ (text ≡ two_digits hours ++ codes ":" ++ two_digits minutes ++ codes ":" ++ two_digits seconds))
  pub size_is : 3600 * hours + 60 * minutes + seconds ≡ size

-- an instant: a timestamp, `+` or `-`, and an offset, by which the UTC instant is before or after the timestamp
pub record IsInstantText (text : List ℕ) (instant : ℤ) : Type 0 where
  pub stamp : List ℕ
  pub offset : List ℕ
  pub moment : ℤ
  pub size : ℕ
  pub stamp_is : IsStampText stamp moment
  pub offset_is : IsOffsetText offset size
  pub signed : ((text ≡ stamp ++ codes "+" ++ offset) × (moment -ℤ pos size *ℤ pos 1000000 ≡ instant))
      ⊎ ((text ≡ stamp ++ codes "-" ++ offset) × (moment +ℤ pos size *ℤ pos 1000000 ≡ instant))

-- a text parses as an instant if and only if it is a timestamp and an offset, and the instant is in the years 1 to 9999
abbrev pub InstantTextsAreInstants : Type 0
InstantTextsAreInstants = (text : List ℕ) (z : ℤ)
    → SpellsValue type.Timestamptz text (val.StampTz z) ↔ (IsInstantText text z × IsTrue (is_instant z))
