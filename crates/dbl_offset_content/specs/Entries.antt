-- An offset as the bytes of an entry, by its format, 1 or 2, composed of the fields of stored forms.
use Rattle.std.specs.Prelude.{ℕ, ◌<◌, ◌^◌, Option, Some, None, IfSome, List, [], ◌∷◌, ◌++◌, length, FitsSigned}
use Rattle.std.specs.List.{AllByRecursion, flat_map}
use Rattle.std.specs.Int.{to_be_bytes, w32, w64, cast_unsigned}
use Rattle.dbl_value_types.specs.declared.value.Val.{Val}
use Rattle.dbl_value_types.specs.declared.value.Val.TheVariants as val
use Rattle.dbl_value_types.specs.Types.{oid_of}
use Rattle.dbl_record.specs.Fields.{number32, number64, text_form, truth_form, IsStored}
use Rattle.dbl_model_table.specs.declared.table.Column.{Column}
use Rattle.dbl_model_table.specs.declared.table.TableInfo.{TableInfo}
use Rattle.dbl_model_table.specs.declared.identity.Identity.{Identity}
use Rattle.dbl_model_table.specs.declared.row.Key.{Key}
use Rattle.dbl_model_history.specs.declared.cursor.Cursor.{Cursor}
use Rattle.dbl_offset_versions.specs.Versions.{version_form}
use Rattle.dbl_offset_content.specs.declared.entry.TableEntry.{TableEntry}
use Rattle.dbl_offset_content.specs.declared.offset.Offset.{Offset}

-- ---- the format

-- Items preceded by their number.
unfoldable pub counted : {A : Type 0} → (A → List ℕ) → List A → List ℕ
counted item items = number32 (length items) ++ flat_map item items

-- The identity's three texts.
unfoldable pub names : Identity → List ℕ
names identity = text_form identity.prefix ++ text_form identity.db ++ text_form identity.placeholder

-- A column: its name, and its type's OID.
unfoldable pub column : Column → List ℕ
column c = text_form c.name ++ number32 (oid_of c.ty)

-- A table: its name, its version, its columns, and the indices of its key columns.
unfoldable pub table : ℕ → TableInfo → ℕ → List ℕ
table format info version =
    text_form info.name.schema ++ text_form info.name.name ++ version_form format version ++ counted column info.columns
    ++ counted number32 info.key

-- A cell of a key: a signed number, in two's complement, or a text. Keys have no other cells.
unfoldable pub cell : Val → List ℕ
cell (val.Int z) = 1 ∷ number64 (cast_unsigned w64 z)
cell (val.Text t) = 2 ∷ text_form t
cell v = []

-- A key, if there is one. Its number of cells is omitted, since the table's key has it.
unfoldable pub last_key_form : Option Key → List ℕ
last_key_form None = 0 ∷ []
last_key_form (Some key) = 1 ∷ flat_map cell key.cells

-- The progress of a table's snapshot: whether it is done, and the last key.
unfoldable pub cursor : Cursor → List ℕ
cursor c = truth_form c.done ++ last_key_form c.last

-- A table, and the progress of its snapshot.
abbrev pub entry : ℕ → TableEntry → List ℕ
entry format t = table format t.info t.version ++ cursor t.cursor

-- The tables, each with its version and its progress, as far as each list has one.
abbrev pub entries_of : List TableInfo → List ℕ → List Cursor → List TableEntry
entries_of [] versions cursors = []
entries_of (info ∷ infos) [] cursors = []
entries_of (info ∷ infos) (version ∷ versions) [] = []
entries_of (info ∷ infos) (version ∷ versions) (cursor ∷ cursors) =
    record { info = info; version = version; cursor = cursor } ∷ entries_of infos versions cursors

-- The tables with their versions and their progress.
abbrev pub tables_with_cursors : Offset → List TableEntry
tables_with_cursors offset = entries_of offset.infos offset.versions offset.cursors

-- The bytes of an offset in a format: the format's number, and the fields.
unfoldable pub bytes_in_format : ℕ → Offset → List ℕ
bytes_in_format format offset =
    format ∷ (names offset.identity ++ number64 offset.incarnation ++ number64 offset.start.0 ++ number64 offset.lsn.0
    ++ number64 offset.end_lsn.0 ++ counted (entry format) (tables_with_cursors offset))

-- The bytes of an offset as they are stored: in format 2.
abbrev pub offset_bytes_form : Offset → List ℕ
offset_bytes_form offset = bytes_in_format 2 offset

-- The content of a slot: the length of an entry in four bytes, big-endian, and the entry, which is empty if no offset is stored.
unfoldable pub slot_content : List ℕ → List ℕ
slot_content entry = to_be_bytes w32 (length entry) ++ entry

-- ---- the format's limits: texts are UTF-8, and numbers and lengths have the format's number of bits

-- Whether the format can represent the identity's texts.
pub record FitsNames (identity : Identity) : Type 0 where
  pub prefix : IsStored identity.prefix
  pub db : IsStored identity.db
  pub placeholder : IsStored identity.placeholder

-- Whether the format can represent a column.
pub record FitsTableColumn (c : Column) : Type 0 where
  pub name : IsStored c.name
  pub oid : oid_of c.ty < 2 ^ 32

-- Whether the format can represent a table.
pub record FitsTable (info : TableInfo) : Type 0 where
  pub schema : IsStored info.name.schema
  pub name : IsStored info.name.name
  pub columns : length info.columns < 2 ^ 32
  pub each : AllByRecursion FitsTableColumn info.columns
  pub key : length info.key < 2 ^ 32
  pub places : AllByRecursion (λ place. place < 2 ^ 32) info.key

-- Whether the format can represent a cell of a key.
abbrev pub FitsKeyCell : Val → Type 0
FitsKeyCell (val.Int z) = FitsSigned w64 z
FitsKeyCell (val.Text t) = IsStored t
FitsKeyCell v = Unit {0}

-- Whether the format can represent the progress of a snapshot.
abbrev pub FitsCursor : Cursor → Type 0
FitsCursor c = IfSome c.last (λ key. AllByRecursion FitsKeyCell key.cells)

-- Whether the format can represent a table and its progress.
abbrev pub FitsTableCursor : TableEntry → Type 0
FitsTableCursor t = FitsTable t.info × FitsCursor t.cursor

-- Whether the format can represent an offset.
pub record FitsOffset (offset : Offset) : Type 0 where
  pub names : FitsNames offset.identity
  pub start : offset.start.0 < 2 ^ 64
  pub lsn : offset.lsn.0 < 2 ^ 64
  pub end_lsn : offset.end_lsn.0 < 2 ^ 64
  pub tables : AllByRecursion FitsTableCursor (tables_with_cursors offset)
