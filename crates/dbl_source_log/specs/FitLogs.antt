-- Logs whose changes are valid after the rows just before them, key by key and as texts, independently of which tables are captured.
use Rattle.std.specs.Prelude.{◌≡◌, ◌⊎◌, ◌↔◌, ◌<◌, false, IsTrue, Option, None, IfSome, IsSome, IsSomeAnd, List, [], ◌∷◌, length, map}
use Rattle.std.specs.List.{AllByRecursion, AllZip}
use Rattle.dbl_model_table.specs.Value.Values.{value_of}
use Rattle.dbl_model_table.specs.declared.row.Key.{Key}
use Rattle.dbl_model_table.specs.declared.table.RawRow.{RawRow}
use Rattle.dbl_model_table.specs.declared.table.RawTable.{RawTable}
use Rattle.dbl_model_table.specs.declared.table.RawColumn.{RawColumn}
use Rattle.dbl_model_table.specs.Keys.{same_key}
use Rattle.dbl_model_table.specs.Tables.{is_watermark, same_name, are_distinct}
use Rattle.dbl_source_model.specs.ModelHistory.History.{RawCell, RawKey, RawChange, name_of, raw_changes_of}
use Rattle.dbl_source_model.specs.ModelHistory.History.RawChange.{Insert, Update, Delete, Clear}
use Rattle.dbl_source_model.specs.ModelHistory.Ranges.{IsEntryInRange, IsRawBodyInRange}
use Rattle.dbl_source_model.specs.ModelHistory.KeptKeys.{KeepsKey}
use Rattle.dbl_source_log.specs.declared.logged.LogTable.{LogTable}
use Rattle.dbl_source_log.specs.declared.logged.Logged.{Logged}
use Rattle.dbl_source_log.specs.declared.logged.Logged.TheVariants.{Changes, Mark, Alter}
use Rattle.dbl_source_log.specs.Relations.{catalogue}
use Rattle.dbl_source_log.specs.Texts.{Texts, raw_key, raw_key_types, key_from, key_in, given_text, all_texts}
use Rattle.dbl_source_log.specs.TextRows.{TextRows, no_text_rows, log_table_named, text_rows_after}
use Rattle.dbl_source_log.specs.Alterations.{IsUnaltered, altered_entry, tables_after, row_among}
use Rattle.dbl_source_log.specs.Histories.{body_at, text_rows_at}
use Rattle.dbl_source_log.specs.Numbers.{commit_limit}

-- Whether there is a text for each column of the key, which parses as a value of the column's type.
abbrev pub IsTextKey : RawTable → RawKey → Type 0
IsTextKey raw texts = AllZip (λ ty text. IsSomeAnd text (λ t. IsSome (value_of ty t))) (raw_key_types raw) texts

-- A valid insert: one text per column, and a key that had no row just before.
pub record IsFitTextInsert (raw : RawTable) (rows : Key → Option Texts) (row : RawRow) : Type 0 where
  pub wide : length row.cells ≡ length raw.columns
  pub key : IsTextKey raw (raw_key raw row.cells)
  pub absent : rows (key_in raw row.cells) ≡ None

-- A valid update: one cell per column, and a row just before at the old key; if it moves the key, every cell is sent and the new key had no
-- row.
pub record IsFitTextUpdate (raw : RawTable) (rows : Key → Option Texts) (from : RawKey) (old : Option RawRow)
    (cells : List RawCell) : Type 0 where
  pub wide : length cells ≡ length raw.columns
  pub old_wide : IfSome old (λ row. length row.cells ≡ length raw.columns)
  pub old_key : IsTextKey raw from
  pub new_key : IsTextKey raw (raw_key raw (map given_text cells))
  pub present : IsSome (rows (key_from raw from))
  pub stays_or_moves : (key_from raw from ≡ key_in raw (map given_text cells))
      ⊎ ((rows (key_in raw (map given_text cells)) ≡ None) × IsSome (all_texts cells))

-- A valid delete: there is a row at its key just before.
pub record IsFitTextDelete (raw : RawTable) (rows : Key → Option Texts) (from : RawKey) (old : RawRow) : Type 0 where
  pub old_wide : length old.cells ≡ length raw.columns
  pub old_key : IsTextKey raw from
  pub present : IsSome (rows (key_from raw from))

-- Whether a change of a table is valid after its rows just before.
abbrev pub IsFitText : RawTable → (Key → Option Texts) → RawChange → Type 0
IsFitText raw rows (Insert name row) = IsFitTextInsert raw rows row
IsFitText raw rows (Update name from old cells) = IsFitTextUpdate raw rows from old cells
IsFitText raw rows (Delete name from old) = IsFitTextDelete raw rows from old
IsFitText raw rows (Clear name) = Unit {0}

-- Whether the change is of a table of the log, not the watermark table, and valid after the rows just before it.
abbrev pub IsFitChange : List LogTable → TextRows → RawChange → Type 0
IsFitChange tables rows change =
    (is_watermark (name_of change) ≡ false)
    × IsSomeAnd (log_table_named tables (name_of change)) (λ table. IsFitText table.raw (rows (name_of change)) change)

-- Whether each change of a list is valid after the rows just before it.
abbrev pub AreFitChanges : List LogTable → TextRows → List RawChange → Type 0
AreFitChanges tables rows [] = Unit {0}
AreFitChanges tables rows (change ∷ changes) = IsFitChange tables rows change
    × AreFitChanges tables (text_rows_after tables change rows) changes

-- A valid alteration: the key columns stay, and the rows are as wide as the new columns, each at a readable key and no two at one; there is
-- one for each key that had a row just before, and for no other.
pub record IsFitTextAlteration (raw : RawTable) (rows : Key → Option Texts) (columns : List RawColumn) (list : List RawRow) : Type 0 where
  pub keeps : KeepsKey raw columns
  pub wide : AllByRecursion (λ row. length row.cells ≡ length columns) list
  pub readable : AllByRecursion (λ row. IsTextKey (altered_entry columns raw) (raw_key (altered_entry columns raw) row.cells)) list
  pub distinct : IsTrue (are_distinct same_key (map (λ row. key_in (altered_entry columns raw) row.cells) list))
  pub keys : (key : Key) → IsSome (rows key) ↔ IsSome (row_among (altered_entry columns raw) list key)

-- Whether a commit's alteration is of a table of the log, not the watermark table, and valid after the rows just before it. Other commits
-- have no alteration.
abbrev pub AltersFit : List LogTable → TextRows → Logged → Type 0
AltersFit tables rows (Changes ms) = Unit {0}
AltersFit tables rows (Mark value) = Unit {0}
AltersFit tables rows (Alter name columns list) =
    (is_watermark name ≡ false)
    × IsSomeAnd (log_table_named tables name) (λ table. IsFitTextAlteration table.raw (rows name) columns list)

-- Whether a commit's numbers and texts are in PostgreSQL's ranges, and each change or its alteration is valid after the rows just before it.
pub record IsFitEntry (tables : List LogTable) (rows : TextRows) (entry : Logged) : Type 0 where
  pub ranges : IsRawBodyInRange (body_at tables rows entry)
  pub changes : AreFitChanges tables rows (raw_changes_of (body_at tables rows entry))
  pub alters : AltersFit tables rows entry

-- Whether each commit of a log is valid after the tables and rows just before it.
abbrev pub AreFitEntries : List LogTable → TextRows → List Logged → Type 0
AreFitEntries tables rows [] = Unit {0}
AreFitEntries tables rows (entry ∷ log) =
    IsFitEntry tables rows entry × AreFitEntries (tables_after entry tables) (text_rows_at tables rows entry) log

-- Whether a log is valid: short enough, with tables in range, distinct and of version 1, and with valid commits, none of which alters a
-- table.
pub record AreFitLog (tables : List LogTable) (log : List Logged) : Type 0 where
  -- Its LSNs have 64 bits.
  pub short : length log < commit_limit
  pub ranges : AllByRecursion IsEntryInRange (catalogue tables)
  pub opening : AllByRecursion (λ raw. raw.version ≡ 1) (catalogue tables)
  pub distinct : IsTrue (are_distinct same_name (map (λ table. table.raw.name) tables))
  pub entries : AreFitEntries tables no_text_rows log
  pub unaltered : IsUnaltered log
