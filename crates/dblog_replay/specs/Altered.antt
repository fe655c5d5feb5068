-- Captured tables whose Relation has other columns: why such a message isn't read. Lists of messages have the newest first.
use Rattle.std.specs.Prelude.{ℕ, if◌then◌else◌, Option, Some, None, option_map}
use Rattle.std.specs.Prelude.{List, slice_get, slice_set}
use Rattle.dbl_pgmsg.specs.declared.messages.Message.{Message}
use Rattle.dbl_pgmsg.specs.declared.messages.Message.TheVariants as says
use Rattle.dbl_pgmsg.specs.declared.messages.RelationColumn.{RelationColumn}
use Rattle.dbl_model_table.specs.declared.table.TableInfo.{TableInfo}
use Rattle.dbl_model_commit.specs.declared.message_parts.Target.{Target}
use Rattle.dbl_model_commit.specs.declared.message_parts.Target.TheVariants.{Watermark, Captured, Passed}
use Rattle.dbl_model_commit.specs.Past.{table_named}
use Rattle.dbl_model_commit.specs.Stated.{same_columns, target}
use Rattle.dbl_model_commit.specs.Shapes.{entry_in, shape_fault}
use Rattle.dbl_hooks_masks.specs.declared.masking.Masking.{Masking}
use Rattle.dblog_replay.specs.declared.log_fault.LogFault.{LogFault}
use Rattle.dblog_replay.specs.declared.log_fault.LogFault.TheVariants as log
use Rattle.dblog_replay.specs.declared.options.LogOptions.{LogOptions}
use Rattle.dblog_replay.specs.Captures.{column_fault, or_else, tables_in, told_fault}

-- ---- errors

-- Why the column to be masked can't be masked in a Relation's other columns of a captured table.
abbrev pub masking_fault : Option Masking → List RelationColumn → Option TableInfo → Option LogFault
masking_fault mask columns None = None
masking_fault mask columns (Some info) = if same_columns info.columns columns then None else column_fault mask (entry_in info columns)

-- The same by the kind of the Relation's table.
abbrev pub remasking_fault : Option Masking → List TableInfo → List RelationColumn → Target → Option LogFault
remasking_fault mask infos columns (Captured table) = masking_fault mask columns (slice_get infos table)
remasking_fault mask infos columns Watermark = None
remasking_fault mask infos columns Passed = None

-- Why a message of this number after these isn't read if it gives a captured table other columns: the table can't be read in them from here
-- on, or its column not be masked.
abbrev pub altered_fault : Option Masking → List TableInfo → ℕ → Message → List Message → Option LogFault
altered_fault mask infos number (says.Relation oid namespace name identity columns) ms =
    or_else (option_map (log.Transaction number) (shape_fault infos (says.Relation oid namespace name identity columns) ms))
    (remasking_fault mask infos columns (target infos (table_named namespace name)))
altered_fault mask infos number m ms = None

-- Why a message of this number after these isn't read for the table that it describes: the table is new and can't be captured, or it has
-- other columns now, in which it can't be read.
abbrev pub table_fault_of : LogOptions → List TableInfo → ℕ → Message → List Message → Option LogFault
table_fault_of options infos number m ms =
    or_else (told_fault options (tables_in options.keys ms) m) (altered_fault options.mask infos number m ms)

-- ---- for private clauses

-- Why the column to be masked can't be masked after a message that gives a captured table other columns.
abbrev pub masking_in : Option Masking → List TableInfo → Message → Option LogFault
masking_in mask infos (says.Relation oid namespace name identity columns) =
    remasking_fault mask infos columns (target infos (table_named namespace name))
masking_in mask infos m = None

-- The tables, the one at an index replaced by this one, if there is one.
abbrev pub set_from : ℕ → List TableInfo → Option TableInfo → List TableInfo
set_from table infos None = infos
set_from table infos (Some info) = slice_set infos table info
