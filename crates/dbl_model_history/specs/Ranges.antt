-- The ranges of numbers and texts in PostgreSQL's types and protocol (PostgreSQL "Logical Replication Message Formats"). An LSN is unsigned
-- of 64 bits, a time signed of 64 bits, a transaction id and an OID unsigned of 32 bits, and each text is UTF-8.
use Rattle.std.specs.Prelude.{ℕ, ℤ, ◌+◌, ◌<◌, ◌≤◌, ◌^◌, FitsSigned, IsTrue, Option, IfSome, List, [], ◌∷◌, length, map, bytes_eq}
use Rattle.std.specs.List.{AllByRecursion}
use Rattle.std.specs.Str.{IsUtf8}
use Rattle.std.specs.Int.{w32, w64}
use Rattle.hex.specs.Hex.{IsBytes}
use Rattle.dbl_value_types.specs.declared.value.Val.{Val}
use Rattle.dbl_value_types.specs.declared.value.Val.TheVariants as val
use Rattle.dbl_model_table.specs.declared.table.TableName.{TableName}
use Rattle.dbl_model_table.specs.declared.table.RawColumn.{RawColumn}
use Rattle.dbl_model_table.specs.declared.table.RawTable.{RawTable}
use Rattle.dbl_model_table.specs.declared.table.RawRow.{RawRow}
use Rattle.dbl_model_table.specs.declared.table.TableInfo.{TableInfo}
use Rattle.dbl_model_table.specs.Tables.{are_distinct}
use Rattle.dbl_model_table.specs.declared.row.Key.{Key}
use Rattle.dbl_model_table.specs.declared.row.Row.{Row}
use Rattle.dbl_model_table.specs.declared.change.Cell.{Cell}
use Rattle.dbl_model_table.specs.declared.change.Cell.TheVariants as cell
use Rattle.dbl_model_table.specs.declared.change.Change.{Change}
use Rattle.dbl_model_table.specs.declared.change.Change.TheVariants as change
use Rattle.dbl_model_table.specs.declared.change.Body.{Body}
use Rattle.dbl_model_table.specs.declared.change.Body.TheVariants as body
use Rattle.dbl_model_table.specs.declared.change.Commit.{Commit}
use Rattle.dbl_model_history.specs.History.{RawCell, RawKey, RawChange, RawBody, RawCommit, History}
use Rattle.dbl_model_history.specs.History as raw

-- ---- a source's history

-- Whether a table's schema and name are UTF-8.
pub record IsNameInRange (table : TableName) : Type 0 where
  pub schema : IsUtf8 table.schema
  pub name : IsUtf8 table.name

-- Whether a column's name is UTF-8 and its OID has 32 bits.
pub record IsColumnInRange (column : RawColumn) : Type 0 where
  pub name : IsUtf8 column.name
  pub oid : column.oid < 2 ^ 32

-- Whether a catalogue entry's texts and numbers are in range. Versions are counted from 1 and have 64 bits.
pub record IsEntryInRange (raw : RawTable) : Type 0 where
  pub name : IsNameInRange raw.name
  pub columns : AllByRecursion IsColumnInRange raw.columns
  pub key : AllByRecursion IsUtf8 raw.key
  pub version : (1 ≤ raw.version) × (raw.version < 2 ^ 64)

-- Whether each text is null or UTF-8.
abbrev pub AreTextsInRange : List (Option (List ℕ)) → Type 0
AreTextsInRange texts = AllByRecursion (λ text. IfSome text IsUtf8) texts

-- Whether a sent cell's text is null or UTF-8; an unsent cell is in range.
abbrev pub IsRawCellInRange : RawCell → Type 0
IsRawCellInRange (raw.Given text) = IfSome text IsUtf8
IsRawCellInRange raw.Unchanged = Unit {0}

-- Whether the parts of an update are in range.
pub record IsRawUpdateInRange (table : TableName) (from : RawKey) (before : Option RawRow) (after : List RawCell) : Type 0 where
  pub name : IsNameInRange table
  pub key : AreTextsInRange from
  pub old : IfSome before (λ row. AreTextsInRange row.cells)
  pub cells : AllByRecursion IsRawCellInRange after

-- Whether the texts of a change are in range.
abbrev pub IsRawChangeInRange : RawChange → Type 0
IsRawChangeInRange (raw.Insert name row) = IsNameInRange name × AreTextsInRange row.cells
IsRawChangeInRange (raw.Update name key old cells) = IsRawUpdateInRange name key old cells
IsRawChangeInRange (raw.Delete name key old) = IsNameInRange name × AreTextsInRange key × AreTextsInRange old.cells
IsRawChangeInRange (raw.Clear name) = IsNameInRange name

-- Whether the parts of an alteration are in range. No two of the new columns have one name.
pub record IsAlterInRange (table : TableName) (new_columns : List RawColumn) (new_rows : List RawRow) : Type 0 where
  pub name : IsNameInRange table
  pub columns : AllByRecursion IsColumnInRange new_columns
  pub distinct : IsTrue (are_distinct bytes_eq (map (λ column. column.name) new_columns))
  pub rows : AllByRecursion (λ row. AreTextsInRange row.cells) new_rows
  pub few : length new_rows < 2 ^ 62

-- The most events that a change can have: three for an update, which may move its row, and two for a delete.
abbrev pub most_raw_events_of : RawChange → ℕ
most_raw_events_of (raw.Insert name row) = 1
most_raw_events_of (raw.Update name key old cells) = 3
most_raw_events_of (raw.Delete name key old) = 2
most_raw_events_of (raw.Clear name) = 1

-- The most events that some changes can have.
abbrev pub most_raw_events : List RawChange → ℕ
most_raw_events [] = 0
most_raw_events (change ∷ changes) = most_raw_events_of change + most_raw_events changes

-- Whether the contents of a commit are in range. Its changes have fewer than 2^62 events, as each event takes more than four bytes of a log
-- whose positions are LSNs, so that the numbers of its records have 64 bits.
abbrev pub IsRawBodyInRange : RawBody → Type 0
IsRawBodyInRange (raw.Changes changes) = (most_raw_events changes < 2 ^ 62) × AllByRecursion IsRawChangeInRange changes
IsRawBodyInRange (raw.Mark value) = IsUtf8 value
IsRawBodyInRange (raw.Alter name columns rows) = IsAlterInRange name columns rows

-- Whether the numbers and contents of a commit are in range.
pub record IsRawCommitInRange (commit : RawCommit) : Type 0 where
  pub lsn : commit.lsn.0 < 2 ^ 64
  pub end_lsn : commit.end_lsn.0 < 2 ^ 64
  pub time : FitsSigned w64 commit.time
  pub xid : commit.xid < 2 ^ 32
  pub body : IsRawBodyInRange commit.body

-- Whether the catalogue and the commits of a history are in range.
pub record HasRanges (history : History) : Type 0 where
  pub tables : AllByRecursion IsEntryInRange history.tables
  pub commits : AllByRecursion IsRawCommitInRange history.commits

-- ---- captured tables and typed commits

-- Whether a value is in the range of its kind.
abbrev pub IsValueInRange : Val → Type 0
IsValueInRange val.Null = Unit {0}
IsValueInRange (val.Bool truth) = Unit {0}
IsValueInRange (val.Int z) = FitsSigned w64 z
IsValueInRange (val.Text text) = IsUtf8 text
IsValueInRange (val.Bytes bytes) = IsBytes bytes
IsValueInRange (val.Date day) = FitsSigned w32 day
IsValueInRange (val.Time micros) = FitsSigned w64 micros
IsValueInRange (val.Stamp moment) = FitsSigned w64 moment
IsValueInRange (val.StampTz instant) = FitsSigned w64 instant

-- Whether each value is in the range of its kind.
abbrev pub AreValuesInRange : List Val → Type 0
AreValuesInRange values = AllByRecursion IsValueInRange values

-- Whether a sent cell's value is in range; an unsent cell is.
abbrev pub IsCellInRange : Cell → Type 0
IsCellInRange (cell.Given v) = IsValueInRange v
IsCellInRange cell.Unchanged = Unit {0}

-- Whether the parts of a typed update are in range.
pub record IsUpdateInRange (from : Key) (before : Option Row) (after : List Cell) : Type 0 where
  pub key : AreValuesInRange from.cells
  pub old : IfSome before (λ row. AreValuesInRange row.cells)
  pub cells : AllByRecursion IsCellInRange after

-- Whether the values of a typed change are in range. The table's index is not restricted.
abbrev pub IsChangeInRange : Change → Type 0
IsChangeInRange (change.Insert table row) = AreValuesInRange row.cells
IsChangeInRange (change.Update table key old cells) = IsUpdateInRange key old cells
IsChangeInRange (change.Delete table key old) = AreValuesInRange key.cells × AreValuesInRange old.cells
IsChangeInRange (change.Clear table) = Unit {0}

-- The most events that a typed change can have.
abbrev pub most_events_of : Change → ℕ
most_events_of (change.Insert table row) = 1
most_events_of (change.Update table key old cells) = 3
most_events_of (change.Delete table key old) = 2
most_events_of (change.Clear table) = 1

-- The most events that some typed changes can have.
abbrev pub most_events : List Change → ℕ
most_events [] = 0
most_events (c ∷ changes) = most_events_of c + most_events changes

-- Whether the contents of a typed commit are in range.
abbrev pub IsBodyInRange : Body → Type 0
IsBodyInRange (body.Changes changes) = (length changes < 2 ^ 62) × AllByRecursion IsChangeInRange changes
IsBodyInRange (body.Mark value) = IsUtf8 value

-- Whether the numbers and contents of a typed commit are in range.
pub record IsCommitInRange (commit : Commit) : Type 0 where
  pub lsn : commit.lsn.0 < 2 ^ 64
  pub end_lsn : commit.end_lsn.0 < 2 ^ 64
  pub time : FitsSigned w64 commit.time
  pub xid : commit.xid < 2 ^ 32
  pub body : IsBodyInRange commit.body

-- Whether the names of a captured table and of its columns are UTF-8.
pub record IsInfoInRange (info : TableInfo) : Type 0 where
  pub name : IsNameInRange info.name
  pub columns : AllByRecursion (λ column. IsUtf8 column.name) info.columns

-- Whether a number of milliseconds since 1970-01-01 UTC, the time of an event, is in range.
abbrev pub IsMomentInRange : ℤ → Type 0
IsMomentInRange now = FitsSigned w64 now
