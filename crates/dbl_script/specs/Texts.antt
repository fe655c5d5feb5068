-- The words of the workload language: names, numbers, types and texts.
use Rattle.std.specs.Prelude.{ℕ, ◌+◌, ◌*◌, ◌==◌, ◌&&◌, ◌||◌, not, nat_eq, nat_lt, nat_le, Bool, if◌then◌else◌}
use Rattle.std.specs.Prelude.{Option, Some, None, is_none, List, [], ◌∷◌, ◌++◌, length, drop, bytes_eq, codes}
use Rattle.std.specs.Char.{is_ascii_digit, is_ascii_lowercase, digit_value}
use Rattle.std.specs.List.{list_all, starts_with}
use Rattle.std.specs.Str.{is_utf8}
use Rattle.std.specs.Str.Parse.{digits_value}
use Rattle.dbl_value_types.specs.declared.column_type.PgType.TheVariants as type
use Rattle.dbl_value_types.specs.Types.{oid_of as type_oid}
use Rattle.dbl_model_table.specs.declared.table.TableName.{TableName}
use Rattle.dbl_script.specs.Words.{cut_at, parts_at}
use Rattle.dbl_script.specs.Reads.{◌>>=◌}

-- the bytes as a text, if they are UTF-8
unfoldable pub utf8_text : List ℕ → Option (List ℕ)
utf8_text bytes = if is_utf8 bytes then Some bytes else None

-- ---- names

-- a schema's or a table's name: one or more characters other than dots
unfoldable pub name_of : List ℕ → Option (List ℕ)
name_of bytes = if not (length bytes == 0) && is_none (cut_at 46 bytes) then utf8_text bytes else None

-- a table's name, given its parts around the dot
abbrev pub names_of : Option (List ℕ × List ℕ) → Option TableName
names_of None = None
names_of (Some p) = do
  schema ← name_of p.0
  name ← name_of p.1
  Some (record { schema = schema; name = name })

-- a table's name, `<schema>.<table>`
unfoldable pub table_name_of : List ℕ → Option TableName
table_name_of word = names_of (cut_at 46 word)

-- a byte of a session's name
abbrev pub is_session_byte : ℕ → Bool
is_session_byte c = is_ascii_lowercase c || is_ascii_digit c

-- a session's name: 1 to 16 lower-case letters and digits, but none of the keywords `table`, `row` and `tick`
unfoldable pub session_of : List ℕ → Option (List ℕ)
session_of word = if nat_lt 0 (length word) && nat_le (length word) 16 && list_all is_session_byte word then Some word else None

-- a byte of a column's name
abbrev pub is_column_byte : ℕ → Bool
is_column_byte c = is_ascii_lowercase c || is_ascii_digit c || (c == 95)

-- a column's name: 1 to 63 lower-case letters, digits and `_`
unfoldable pub column_name_of : List ℕ → Option (List ℕ)
column_name_of word = if nat_lt 0 (length word) && nat_le (length word) 63 && list_all is_column_byte word then Some word else None

-- ---- numbers and types

-- a number of 1 to 9 decimal digits
unfoldable pub number_of : List ℕ → Option ℕ
number_of word = if nat_lt 0 (length word) && nat_le (length word) 9 && list_all is_ascii_digit word
    then Some (digits_value 10 word) else None

-- the OID of a PostgreSQL type of truth values, numbers, dates or times (catalog `pg_type`), by name; float columns can't be captured
unfoldable pub measured_oid_of : List ℕ → Option ℕ
measured_oid_of word =
    if bytes_eq word (codes "bool") then Some (type_oid type.Bool)
    else (if bytes_eq word (codes "int2") then Some (type_oid type.Int2)
    else (if bytes_eq word (codes "int4") then Some (type_oid type.Int4)
    else (if bytes_eq word (codes "int8") then Some (type_oid type.Int8)
    else (if bytes_eq word (codes "float4") then Some 700
    else (if bytes_eq word (codes "float8") then Some 701
    else (if bytes_eq word (codes "date") then Some (type_oid type.Date)
    else (if bytes_eq word (codes "time") then Some (type_oid type.Time)
    else (if bytes_eq word (codes "timestamp") then Some (type_oid type.Timestamp)
    else (if bytes_eq word (codes "timestamptz") then Some (type_oid type.Timestamptz) else None)))))))))

-- the OID of a type, by name
unfoldable pub listed_oid_of : List ℕ → Option ℕ
listed_oid_of word =
    if bytes_eq word (codes "text") then Some (type_oid type.Text)
    else (if bytes_eq word (codes "varchar") then Some (type_oid type.Varchar)
    else (if bytes_eq word (codes "bpchar") then Some (type_oid type.Bpchar)
    else (if bytes_eq word (codes "json") then Some (type_oid type.Json)
    else (if bytes_eq word (codes "jsonb") then Some (type_oid type.Jsonb)
    else (if bytes_eq word (codes "numeric") then Some (type_oid type.Numeric)
    else (if bytes_eq word (codes "uuid") then Some (type_oid type.Uuid)
    else (if bytes_eq word (codes "bytea") then Some (type_oid type.Bytea)
    else measured_oid_of word)))))))

-- a type's OID, by the type's name or as a number, as in `oid600`
unfoldable pub oid_of : List ℕ → Option ℕ
oid_of word = if starts_with nat_eq word (codes "oid") then number_of (drop 3 word) else listed_oid_of word

-- ---- texts

-- the rest after a `%`, whose first two hexadecimal digits, in either case, are one byte
unfoldable pub escape_of : List ℕ → Option (List ℕ)
escape_of [] = None
escape_of (high ∷ []) = None
escape_of (high ∷ low ∷ rest) = if nat_lt (digit_value high) 16 && nat_lt (digit_value low) 16
    then Some ((digit_value high * 16 + digit_value low) ∷ rest) else None

-- the bytes of parts, each of which follows a `%`
unfoldable pub escapes_of : List (List ℕ) → Option (List ℕ)
escapes_of [] = Some []
escapes_of (part ∷ parts) = do
  bytes ← escape_of part
  others ← escapes_of parts
  Some (bytes ++ others)

-- the bytes of a word, given its parts around `%`
unfoldable pub unescaped_bytes : List (List ℕ) → Option (List ℕ)
unescaped_bytes [] = None
unescaped_bytes (plain ∷ parts) = do
  bytes ← escapes_of parts
  Some (plain ++ bytes)

-- the text of a cell: a word with its `%` escapes decoded, which must be UTF-8
unfoldable pub text_of : List ℕ → Option (List ℕ)
text_of word = do
  bytes ← unescaped_bytes (parts_at 37 word)
  utf8_text bytes
