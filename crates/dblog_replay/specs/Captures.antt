-- The tables that `replay` captures: each at its first Relation, except that of the watermarks, and in the columns of its last one.
-- PostgreSQL's "Logical Replication Message Formats", Relation. Lists of messages have the newest first.
use Rattle.std.specs.Prelude.{◌≡◌, ℕ, ◌%◌, ◌==◌, ◌||◌, nat_lt, Bool, if◌then◌else◌, Option, Some}
use Rattle.std.specs.Prelude.{None, option_map, option_and_then, List, [], ◌∷◌, ◌++◌, length, map, filter}
use Rattle.std.specs.List.{list_any}
use Rattle.dbl_pgmsg.specs.declared.messages.Message.{Message}
use Rattle.dbl_pgmsg.specs.declared.messages.Message.TheVariants as says
use Rattle.dbl_pgmsg.specs.declared.messages.RelationColumn.{RelationColumn}
use Rattle.dbl_model_table.specs.declared.error.ModelError.{ModelError}
use Rattle.dbl_model_table.specs.declared.table.RawTable.{RawTable}
use Rattle.dbl_model_table.specs.declared.table.TableInfo.{TableInfo}
use Rattle.dbl_model_table.specs.declared.table.TableKey.{TableKey}
use Rattle.dbl_model_table.specs.declared.table.TableName.{TableName}
use Rattle.dbl_model_table.specs.Tables.{same_name, is_watermark}
use Rattle.dbl_model_table.specs.Infos.{catalogue_of}
use Rattle.dbl_model_table.specs.Made.{table_fault}
use Rattle.dbl_hooks_masks.specs.declared.masking.Masking.{Masking}
use Rattle.dbl_hooks_masks.specs.Faults.{mask_fault}
use Rattle.dbl_model_commit.specs.Past.{table_named}
use Rattle.dbl_model_commit.specs.Stated.{list_of}
use Rattle.dbl_model_commit.specs.Shapes.{columns_in}
use Rattle.dblog_replay.specs.declared.log_fault.LogFault.{LogFault}
use Rattle.dblog_replay.specs.declared.log_fault.LogFault.TheVariants.{Table, TooManyTables, Mask}
use Rattle.dblog_replay.specs.declared.options.LogOptions.{LogOptions}

-- Whether a column is flagged as a key column: by the bit of value 1.
abbrev pub is_key_flagged : RelationColumn → Bool
is_key_flagged column = column.flags % 2 == 1

-- The names of the flagged columns, in order.
abbrev pub flagged_names : List RelationColumn → List (List ℕ)
flagged_names columns = map (λ column. column.name) (filter is_key_flagged columns)

-- The key of a table in the options, or else its flagged columns in order.
abbrev pub key_names_of : List TableKey → TableName → List RelationColumn → List (List ℕ)
key_names_of [] name columns = flagged_names columns
key_names_of (key ∷ keys) name columns = if same_name key.table name then key.columns else key_names_of keys name columns

-- The catalogue's entry that a Relation describes, with the keys of the options.
abbrev pub entry_of : List TableKey → TableName → List RelationColumn → RawTable
entry_of keys name columns = record { name = name; columns = columns_in columns; key = key_names_of keys name columns; version = 1 }

-- Whether a table of the list has this name.
abbrev pub is_among : TableName → List RawTable → Bool
is_among name tables = list_any (λ table. same_name table.name name) tables

-- The table if it is to be captured: not one of these, and not that of the watermarks.
abbrev pub new_table : List RawTable → RawTable → Option RawTable
new_table tables table = if is_watermark table.name || is_among table.name tables then None else Some table

-- The table that a message is the first to describe, after these.
abbrev pub table_told : List TableKey → List RawTable → Message → Option RawTable
table_told keys tables (says.Relation oid namespace name identity columns) =
    new_table tables (entry_of keys (table_named namespace name) columns)
table_told keys tables m = None

-- The tables of a list, the first of this name in a Relation's columns.
abbrev pub with_columns : TableName → List RelationColumn → List RawTable → List RawTable
with_columns name columns [] = []
with_columns name columns (table ∷ tables) = if same_name table.name name
    then record table { columns = columns_in columns } ∷ tables else table ∷ with_columns name columns tables

-- The tables after one more message: that of a Relation has its columns from there on, unless it is that of the watermarks.
abbrev pub altered_by : Message → List RawTable → List RawTable
altered_by (says.Relation oid namespace name identity columns) tables = if is_watermark (table_named namespace name)
    then tables else with_columns (table_named namespace name) columns tables
altered_by m tables = tables

-- The tables that messages describe, in the order of their first Relations, each in the columns of its last one. A table's key is that of
-- its first Relation.
abbrev pub tables_in : List TableKey → List Message → List RawTable
tables_in keys [] = []
tables_in keys (m ∷ ms) = altered_by m (tables_in keys ms) ++ list_of (table_told keys (tables_in keys ms) m)

-- The infos are what is captured of the tables that the messages describe.
abbrev pub AreCaptured : List TableKey → List Message → List TableInfo → Type 0
AreCaptured keys ms infos = map catalogue_of infos ≡ tables_in keys ms

-- The largest number of captured tables.
abbrev pub table_limit : ℕ
table_limit = 64

-- The error of one table more than the limit.
abbrev pub room_fault : ℕ → Option LogFault
room_fault count = if nat_lt count table_limit then None else Some TooManyTables

-- The error of the catalogue's entry of a table, or else of too many tables.
abbrev pub entry_fault : ℕ → Option ModelError → Option LogFault
entry_fault count (Some error) = Some (Table error)
entry_fault count None = room_fault count

-- The error of a table whose column is to be masked, if the column can't be.
abbrev pub column_fault : Option Masking → RawTable → Option LogFault
column_fault None table = None
column_fault (Some plan) table =
    if same_name plan.table table.name then option_map (Mask plan.table plan.column) (mask_fault table plan.column) else None

-- An error, or else the other.
abbrev pub or_else : Option LogFault → Option LogFault → Option LogFault
or_else (Some fault) other = Some fault
or_else None other = other

-- Why a table can't be captured after so many others, or its column not masked.
abbrev pub capture_fault : Option Masking → ℕ → RawTable → Option LogFault
capture_fault mask count table = or_else (entry_fault count (table_fault table)) (column_fault mask table)

-- Why the table that a message is the first to describe can't be captured.
abbrev pub told_fault : LogOptions → List RawTable → Message → Option LogFault
told_fault options tables m = option_and_then (capture_fault options.mask (length tables)) (table_told options.keys tables m)
