-- The value of a text at a type, a value's text, and its JSON.
use Rattle.std.specs.Prelude.{ℕ, ℤ, pos, ◌^◌, ◌≡◌, ◌⊎◌, Bool, true, false, if◌then◌else◌, Option}
use Rattle.std.specs.Prelude.{Some, None, option_map, List, [], ◌++◌, unsigned_abs, codes}
use Rattle.std.specs.Fmt.{signed_decimal}
use Rattle.std.specs.Str.{bytes_eq, IsUtf8}
use Rattle.base64.specs.Engines.{standard}
use Rattle.base64.specs.GeneralPurpose.{encode_of}
use Rattle.serde_json.specs.Data.{Data, null, boolean, number, string}
use Rattle.serde_json.specs.Find.{of_integer}
use Rattle.serde_json.specs.Written.{compact_text}
use Rattle.dbl_value_types.specs.declared.column_type.PgType.{PgType}
use Rattle.dbl_value_types.specs.declared.column_type.PgType.TheVariants as type
use Rattle.dbl_value_types.specs.declared.value.Val.{Val}
use Rattle.dbl_value_types.specs.declared.value.Val.TheVariants as val
pub use Rattle.dbl_value_types.specs.Types.{oid_of, listed, is_column_type}
unfoldable pub use Rattle.dbl_value_types.specs.Types.{type_of}
use Rattle.dbl_value_types.specs.Decimals.{integer_of}
use Rattle.dbl_time.specs.Shapes.{has_shape}
use Rattle.dbl_time.specs.Dates.{day_of, date_text}
use Rattle.dbl_time.specs.Clocks.{time_of, clock_text}
use Rattle.dbl_time.specs.Stamps.{stamp_of, instant_of, is_instant, stamp_text, zulu_text}
use Rattle.dbl_value_types.specs.ByteTexts.{bytes_of, bytes_text}

-- the truth value of `t` or `f`
abbrev pub truth_of : List ℕ → Option Bool
truth_of text = if bytes_eq text (codes "t") then Some true else (if bytes_eq text (codes "f") then Some false else None)

-- 36 characters: lower-case hexadecimal digits in groups of 8, 4, 4, 4 and 12, separated by `-`
abbrev pub is_uuid : List ℕ → Bool
is_uuid text = has_shape (codes "xxxxxxxx-xxxx-xxxx-xxxx-xxxxxxxxxxxx") text

-- the instant, if it is in the years 1 to 9999
abbrev pub instant_if_any : Option ℤ → Option ℤ
instant_if_any None = None
instant_if_any (Some instant) = if is_instant instant then Some instant else None

-- The value of a text at a type, if any; those of numeric, json and unlisted types are texts. PostgreSQL's manual, "Data Types", with
-- DateStyle ISO and bytea_output hex.
abbrev pub value_of : PgType → List ℕ → Option Val
value_of type.Bool text = option_map val.Bool (truth_of text)
value_of type.Int2 text = option_map val.Int (integer_of (2 ^ 15) text)
value_of type.Int4 text = option_map val.Int (integer_of (2 ^ 31) text)
value_of type.Int8 text = option_map val.Int (integer_of (2 ^ 63) text)
value_of type.Text text = Some (val.Text text)
value_of type.Varchar text = Some (val.Text text)
value_of type.Bpchar text = Some (val.Text text)
value_of type.Json text = Some (val.Text text)
value_of type.Jsonb text = Some (val.Text text)
value_of type.Numeric text = Some (val.Text text)
value_of type.Uuid text = if is_uuid text then Some (val.Text text) else None
value_of type.Bytea text = option_map val.Bytes (bytes_of text)
value_of type.Date text = option_map val.Date (day_of text)
value_of type.Time text = option_map (λ micros. val.Time (pos micros)) (time_of text)
value_of type.Timestamp text = option_map val.Stamp (stamp_of text)
value_of type.Timestamptz text = option_map val.StampTz (instant_if_any (instant_of text))
value_of (type.Other oid) text = Some (val.Text text)

-- the text parses as the value
abbrev pub SpellsValue : PgType → List ℕ → Val → Type 0
SpellsValue ty text v = value_of ty text ≡ Some v

-- some UTF-8 text parses as the value at the type; none parses as Null
pub record IsOf (ty : PgType) (v : Val) : Type 0 where
  pub text : List ℕ
  pub utf8 : IsUtf8 text
  pub spells : SpellsValue ty text v

-- the value may be in a column of the type, as may Null
abbrev pub IsCellOf : PgType → Val → Type 0
IsCellOf ty v = (v ≡ val.Null) ⊎ IsOf ty v

-- the text that PostgreSQL sends for a value of a type, an instant with its offset in UTC; empty for Null, for which none is sent
abbrev pub text_of : Val → List ℕ
text_of val.Null = []
text_of (val.Bool truth) = if truth then codes "t" else codes "f"
text_of (val.Int z) = signed_decimal z
text_of (val.Text text) = text
text_of (val.Bytes bytes) = bytes_text bytes
text_of (val.Date day) = date_text day
text_of (val.Time micros) = clock_text (unsigned_abs micros)
text_of (val.Stamp moment) = stamp_text moment
text_of (val.StampTz instant) = stamp_text instant ++ codes "+00"

-- A value as JSON: the Debezium PostgreSQL connector's "Data type mappings", with bytes in base64 (RFC 4648, section 4).
abbrev pub json_data : Val → Data
json_data val.Null = null
json_data (val.Bool truth) = boolean truth
json_data (val.Int z) = number (of_integer z)
json_data (val.Text text) = string text
json_data (val.Bytes bytes) = string (encode_of standard bytes)
json_data (val.Date day) = number (of_integer day)
json_data (val.Time micros) = number (of_integer micros)
json_data (val.Stamp moment) = number (of_integer moment)
json_data (val.StampTz instant) = if is_instant instant then string (zulu_text instant) else number (of_integer instant)

-- the JSON text of the value
abbrev pub json_of : Val → List ℕ
json_of v = compact_text (json_data v)
