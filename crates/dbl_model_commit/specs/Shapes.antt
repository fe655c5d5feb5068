-- Captured tables in the columns of the log's Relations, and the errors of a Relation that changes a table's columns. Lists of messages
-- have the newest first. PostgreSQL's "Logical Replication Message Formats", Relation.
use Rattle.std.specs.Prelude.{◌≡◌, ℕ, ◌==◌, ◌&&◌, ◌||◌, not, Bool, false, if◌then◌else◌, Option, Some, None, is_some, IsTrue}
use Rattle.std.specs.Prelude.{List, [], ◌∷◌, map, slice_get, slice_set}
use Rattle.std.specs.List.{list_any, list_all}
use Rattle.dbl_pgmsg.specs.declared.messages.Message.{Message}
use Rattle.dbl_pgmsg.specs.declared.messages.Message.TheVariants as says
use Rattle.dbl_pgmsg.specs.declared.messages.RelationColumn.{RelationColumn}
use Rattle.dbl_model_table.specs.declared.table.TableName.{TableName}
use Rattle.dbl_model_table.specs.declared.table.Column.{Column}
use Rattle.dbl_model_table.specs.declared.table.RawColumn.{RawColumn}
use Rattle.dbl_model_table.specs.declared.table.RawTable.{RawTable}
use Rattle.dbl_model_table.specs.declared.table.TableInfo.{TableInfo}
use Rattle.dbl_model_table.specs.declared.change.Change.{Change}
use Rattle.dbl_model_table.specs.Tables.{same_name}
use Rattle.dbl_model_table.specs.Infos.{key_names}
use Rattle.dbl_model_table.specs.Made.{table_fault}
use Rattle.dbl_model_table.specs.Rows.{table_of}
use Rattle.dbl_model_history.specs.InForce.{reshaped}
use Rattle.dbl_model_commit.specs.declared.message_parts.Target.{Target}
use Rattle.dbl_model_commit.specs.declared.message_parts.Target.TheVariants.{Watermark, Captured, Passed}
use Rattle.dbl_model_commit.specs.declared.txn_error.TxnError.{TxnError}
use Rattle.dbl_model_commit.specs.declared.txn_error.TxnError.TheVariants as errors
use Rattle.dbl_model_commit.specs.Past.{table_named, Head, begin_of}
use Rattle.dbl_model_commit.specs.Stated.{same_column, same_columns, target, stated, err_of}
use Rattle.dbl_model_commit.specs.Pieces.{changes_so_far}

-- ---- one table in a Relation's columns

-- A column of a Relation as the catalogue has it.
abbrev pub column_in : RelationColumn → RawColumn
column_in column = record { name = column.name; oid = column.oid }

-- The columns of a Relation as the catalogue has them.
abbrev pub columns_in : List RelationColumn → List RawColumn
columns_in columns = map column_in columns

-- The catalogue entry of a captured table in a Relation's columns, its key by name.
abbrev pub entry_in : TableInfo → List RelationColumn → RawTable
entry_in info columns = record { name = info.name; columns = columns_in columns; key = key_names info; version = 1 }

-- A captured table in a Relation's columns, its key by name.
abbrev pub shaped_by : List RelationColumn → TableInfo → TableInfo
shaped_by columns info = reshaped (columns_in columns) info

-- Whether one of a Relation's columns has this column's name and type.
abbrev pub has_column : List RelationColumn → Option Column → Bool
has_column columns None = false
has_column columns (Some column) = list_any (λ given. same_column (column, given)) columns

-- Whether a Relation's columns have each key column of a table, with its type.
abbrev pub keep_key : TableInfo → List RelationColumn → Bool
keep_key info columns = list_all (λ place. has_column columns (slice_get info.columns place)) info.key

-- Whether a Relation's columns make no table with the key of a captured one, or give a key column another type.
abbrev pub are_unfit : TableInfo → List RelationColumn → Bool
are_unfit info columns = is_some (table_fault (entry_in info columns)) || not (keep_key info columns)

-- ---- the messages before a Relation

-- Whether an earlier Relation of the table has another OID.
abbrev pub has_other_oid : ℕ → TableName → List Message → Bool
has_other_oid oid table [] = false
has_other_oid oid table (says.Relation given namespace name identity columns ∷ ms) =
    same_name (table_named namespace name) table && not (given == oid) || has_other_oid oid table ms
has_other_oid oid table (m ∷ ms) = has_other_oid oid table ms

-- Whether one of the changes is of the captured table with this index.
abbrev pub changes_table : ℕ → List Change → Bool
changes_table table changes = list_any (λ change. table_of change == table) changes

-- ---- the errors of a Relation with other columns

-- Whether a captured table can't be read in a Relation's columns from here on: they are unfit, or a change of the table is earlier in the
-- same transaction, or an earlier Relation of the table has another OID.
abbrev pub is_refused : List TableInfo → ℕ → List RelationColumn → List Message → ℕ → TableInfo → Bool
is_refused infos oid columns ms table info =
    are_unfit info columns || (changes_table table (changes_so_far infos ms) || has_other_oid oid info.name ms)

-- The error of a Relation with this OID and these columns of a captured table, as it is in its columns so far.
abbrev pub columns_refused : List TableInfo → ℕ → List RelationColumn → List Message → ℕ → Option TableInfo → Option TxnError
columns_refused infos oid columns ms table None = None
columns_refused infos oid columns ms table (Some info) =
    if not (same_columns info.columns columns) && is_refused infos oid columns ms table info
    then Some (errors.SchemaChanged info.name) else None

-- The same by the kind of the Relation's table.
abbrev pub target_refused : List TableInfo → ℕ → List RelationColumn → List Message → Target → Option TxnError
target_refused infos oid columns ms (Captured table) = columns_refused infos oid columns ms table (slice_get infos table)
target_refused infos oid columns ms Watermark = None
target_refused infos oid columns ms Passed = None

-- The error of a message after these that changes the columns of a captured table, where a table is captured in the columns of its last
-- Relation.
abbrev pub shape_fault : List TableInfo → Message → List Message → Option TxnError
shape_fault infos (says.Relation oid namespace name identity columns) ms =
    target_refused infos oid columns ms (target infos (table_named namespace name))
shape_fault infos m ms = None

-- ---- theorems

-- In a Relation of the table's own columns a table is as it is captured.
abbrev pub SameColumnsReadAlike : Type 0
SameColumnsReadAlike =
    (columns : List RelationColumn) (info : TableInfo) → IsTrue (same_columns info.columns columns) → shaped_by columns info ≡ info

-- Each message since the last Begin states its changes without an error.
abbrev pub AreStated : List TableInfo → List Message → Type 0
AreStated infos [] = Unit {0}
AreStated infos (says.Begin lsn time xid ∷ ms) = Unit {0}
AreStated infos (m ∷ ms) = (err_of (stated infos m ms) ≡ None) × AreStated infos ms

-- Each message of the open transaction states its changes without an error.
abbrev pub IsOpenStated : List TableInfo → List Message → Type 0
IsOpenStated infos ms = (head : Head) → begin_of ms ≡ Some head → AreStated infos ms

-- Of a captured table that the open transaction doesn't change so far, other columns change nothing of what it states.
abbrev pub UnchangedTablesMayBeReshaped : Type 0
UnchangedTablesMayBeReshaped =
    (infos : List TableInfo) (ms : List Message) (table : ℕ) (old new : TableInfo)
    → slice_get infos table ≡ Some old → new.name ≡ old.name → IsOpenStated infos ms
    → changes_table table (changes_so_far infos ms) ≡ false
    → (changes_so_far (slice_set infos table new) ms ≡ changes_so_far infos ms) × IsOpenStated (slice_set infos table new) ms
