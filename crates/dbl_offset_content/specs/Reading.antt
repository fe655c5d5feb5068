-- Reading an entry from left to right: the step between the format and the code. Fields are read as dbl_record reads them. The position of
-- an error is never reported, so 0 is passed for the number of all bytes.
use Rattle.std.specs.Prelude.{◌≡◌, ℕ, ℤ, ◌==◌, ◌&&◌, ◌||◌, ◌^◌, nat_lt, nat_le, Bool, true, false, List, []}
use Rattle.std.specs.Prelude.{◌∷◌, length, map, Option, Some, None, Result, Ok, Err, if◌then◌else◌}
use Rattle.std.specs.Int.{w32, w64, cast_signed}
use Rattle.dbl_value_types.specs.declared.column_type.PgType.{PgType}
use Rattle.dbl_value_types.specs.declared.column_type.PgType.TheVariants as type
use Rattle.dbl_value_types.specs.declared.value.Val.{Val}
use Rattle.dbl_value_types.specs.declared.value.Val.TheVariants as val
use Rattle.dbl_value_types.specs.Types.{type_of}
use Rattle.dbl_value_types.specs.Decimals.{is_within}
use Rattle.dbl_value_types.specs.Values.{value_of}
use Rattle.dbl_record.specs.declared.error.RecordError.{RecordError}
use Rattle.dbl_record.specs.GroupReading.{Read, ◌>>=◌, number_at, text_at, truth_at, many_at}
use Rattle.dbl_model_table.specs.declared.table.TableName.{TableName}
use Rattle.dbl_model_table.specs.declared.table.Column.{Column}
use Rattle.dbl_model_table.specs.declared.table.TableInfo.{TableInfo}
use Rattle.dbl_model_table.specs.declared.identity.Identity.{Identity}
use Rattle.dbl_model_table.specs.declared.row.Key.{Key}
use Rattle.dbl_model_history.specs.declared.cursor.Cursor.{Cursor}
use Rattle.dbl_model_table.specs.Tables.{same_name, are_distinct, is_table}
use Rattle.dbl_model_table.specs.Infos.{key_types}
use Rattle.dbl_model_table.specs.Identities.{is_good_identity}
use Rattle.dbl_offset_versions.specs.Versions.{no_offset, table_version_at}
use Rattle.dbl_offset_content.specs.declared.entry.TableEntry.{TableEntry}
use Rattle.dbl_offset_content.specs.declared.offset.Offset.{Offset}

-- A value, or the error if there is none.
abbrev pub or_no_offset : {A : Type 0} → Option A → Result A RecordError
or_no_offset (Some x) = Ok x
or_no_offset None = Err no_offset

-- Reads a byte.
unfoldable pub offset_byte_at : List ℕ → Read ℕ
offset_byte_at [] = Err no_offset
offset_byte_at (b ∷ rest) = Ok (b, rest)

-- Reads items preceded by their number.
unfoldable pub offset_items_at : {A : Type 0} → (List ℕ → Read A) → List ℕ → Read (List A)
offset_items_at item bytes = do
  n ← number_at w32 0 bytes
  many_at item n.0 n.1

-- ---- tables

-- Reads a column; its type's OID must be known.
unfoldable pub offset_column_at : List ℕ → Read Column
offset_column_at bytes = do
  name ← text_at 0 bytes
  oid ← number_at w32 0 name.1
  ty ← or_no_offset (type_of oid.0)
  Ok (record { name = name.0; ty = ty }, oid.1)

-- The table of these parts if they are a table's, or else the error.
abbrev pub made : (name : TableName) (columns : List Column) (key : List ℕ) (b : Bool) → is_table name columns key ≡ b
    → Result TableInfo RecordError
made name columns key true sound = Ok (record { name = name; columns = columns; key = key; sound = sound })
made name columns key false sound = Err no_offset

-- The table of these parts, or the error if no table with them can be captured.
unfoldable pub info_of : TableName → List Column → List ℕ → Result TableInfo RecordError
info_of name columns key = made name columns key (is_table name columns key) (λ i. is_table name columns key)

-- Reads a table that can be captured, and its version.
unfoldable pub offset_table_at : ℕ → List ℕ → Read (TableInfo × ℕ)
offset_table_at format bytes = do
  schema ← text_at 0 bytes
  name ← text_at 0 schema.1
  version ← table_version_at format name.1
  columns ← offset_items_at offset_column_at version.1
  key ← offset_items_at (number_at w32 0) columns.1
  info ← info_of (record { schema = schema.0; name = name.0 }) columns.0 key.0
  Ok ((info, version.0), key.1)

-- ---- cursors

-- Whether an integer is a value of this type.
abbrev pub is_integer_of : PgType → ℤ → Bool
is_integer_of type.Int2 z = is_within (2 ^ 15) z
is_integer_of type.Int4 z = is_within (2 ^ 31) z
is_integer_of type.Int8 z = is_within (2 ^ 63) z
is_integer_of ty z = false

-- The value of a text at a type whose key cells are texts.
abbrev pub word_of : PgType → List ℕ → Option Val
word_of type.Text text = value_of type.Text text
word_of type.Varchar text = value_of type.Varchar text
word_of type.Uuid text = value_of type.Uuid text
word_of ty text = None

-- Reads an integer cell of this type.
unfoldable pub integer_at : PgType → List ℕ → Read Val
integer_at ty bytes = do
  n ← number_at w64 0 bytes
  if is_integer_of ty (cast_signed w64 n.0) then Ok (val.Int (cast_signed w64 n.0), n.1) else Err no_offset

-- Reads a text cell of this type.
unfoldable pub word_at : PgType → List ℕ → Read Val
word_at ty bytes = do
  text ← text_at 0 bytes
  v ← or_no_offset (word_of ty text.0)
  Ok (v, text.1)

-- Reads a cell of a key of this type.
unfoldable pub offset_cell_at : PgType → List ℕ → Read Val
offset_cell_at ty bytes = do
  b ← offset_byte_at bytes
  if b.0 == 1 then integer_at ty b.1 else (if b.0 == 2 then word_at ty b.1 else Err no_offset)

-- Reads a cell of each type.
unfoldable pub cells_at : List PgType → List ℕ → Read (List Val)
cells_at [] bytes = Ok ([], bytes)
cells_at (ty ∷ types) bytes = do
  first ← offset_cell_at ty bytes
  others ← cells_at types first.1
  Ok (first.0 ∷ others.0, others.1)

-- Reads a key with a cell of each type.
unfoldable pub offset_key_at : List PgType → List ℕ → Read Key
offset_key_at types bytes = do
  cells ← cells_at types bytes
  Ok (record { cells = cells.0 }, cells.1)

-- Reads a key, if one is present.
unfoldable pub last_at : List PgType → List ℕ → Read (Option Key)
last_at types bytes = do
  there ← truth_at 0 bytes
  if there.0 then (do
    key ← offset_key_at types there.1
    Ok (Some key.0, key.1)) else Ok (None, there.1)

-- Reads the progress of a table's snapshot.
unfoldable pub cursor_at : TableInfo → List ℕ → Read Cursor
cursor_at info bytes = do
  done ← truth_at 0 bytes
  last ← last_at (key_types info) done.1
  Ok (record { last = last.0; done = done.0 }, last.1)

-- Reads a table, its version and the progress of its snapshot.
unfoldable pub table_cursor_at : ℕ → List ℕ → Read TableEntry
table_cursor_at format bytes = do
  table ← offset_table_at format bytes
  cursor ← cursor_at table.0.0 table.1
  Ok (record { info = table.0.0; version = table.0.1; cursor = cursor.0 }, cursor.1)

-- ---- offsets

-- Reads an identity.
unfoldable pub identity_at : List ℕ → Read Identity
identity_at bytes = do
  prefix ← text_at 0 bytes
  db ← text_at 0 prefix.1
  placeholder ← text_at 0 db.1
  let identity : Identity = record { prefix = prefix.0; db = db.0; placeholder = placeholder.0 } in
      if is_good_identity identity then Ok (identity, placeholder.1) else Err no_offset

-- The tables of a list of tables with their versions and their progress.
abbrev pub infos_of : List TableEntry → List TableInfo
infos_of tables = map (λ t. t.info) tables

-- The version of each table of such a list.
abbrev pub versions_of : List TableEntry → List ℕ
versions_of tables = map (λ t. t.version) tables

-- The progress of each table of such a list.
abbrev pub cursors_of : List TableEntry → List Cursor
cursors_of tables = map (λ t. t.cursor) tables

-- Reads 1 to 64 tables with their versions and their progress, no table twice.
unfoldable pub tables_at : ℕ → List ℕ → Read (List TableEntry)
tables_at format bytes = do
  n ← number_at w32 0 bytes
  if nat_lt 0 n.0 && nat_le n.0 64 then (do
    tables ← many_at (table_cursor_at format) n.0 n.1
    if are_distinct same_name (map (λ info. info.name) (infos_of tables.0)) then Ok tables else Err no_offset) else Err no_offset

-- Reads the incarnation, the start, the LSN and the end LSN.
unfoldable pub numbers_at : List ℕ → Read (ℕ × ℕ × ℕ × ℕ)
numbers_at bytes = do
  incarnation ← number_at w64 0 bytes
  start ← number_at w64 0 incarnation.1
  lsn ← number_at w64 0 start.1
  end_lsn ← number_at w64 0 lsn.1
  if nat_lt 0 incarnation.0 && nat_le incarnation.0 (2 ^ 63) && nat_le start.0 lsn.0
      then Ok ((incarnation.0, start.0, lsn.0, end_lsn.0), end_lsn.1) else Err no_offset

-- The value, or the error if bytes are left.
unfoldable pub ended : {X : Type 0} → X × List ℕ → Result X RecordError
ended x = if length x.1 == 0 then Ok x.0 else Err no_offset

-- Reads the format's number, which must be 1 or 2.
unfoldable pub format_at : List ℕ → Read ℕ
format_at bytes = do
  b ← offset_byte_at bytes
  if b.0 == 1 || b.0 == 2 then Ok b else Err no_offset

-- Reads an offset; it must be valid.
unfoldable pub offset_at : List ℕ → Read Offset
offset_at bytes = do
  format ← format_at bytes
  identity ← identity_at format.1
  numbers ← numbers_at identity.1
  tables ← tables_at format.0 numbers.1
  Ok (
    record {
      identity = identity.0;
      incarnation = numbers.0.0;
      start = record { 0 = numbers.0.1 };
      lsn = record { 0 = numbers.0.2 };
      end_lsn = record { 0 = numbers.0.3 };
      infos = infos_of tables.0;
      cursors = cursors_of tables.0;
      versions = versions_of tables.0;
    },
    tables.1,
  )

-- Reads an offset from all of the bytes.
unfoldable pub whole : List ℕ → Result Offset RecordError
whole bytes = do
  offset ← offset_at bytes
  ended offset
