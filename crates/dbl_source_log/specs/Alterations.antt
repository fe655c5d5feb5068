-- The tables of a log that alters them: their columns and versions in force, and the rows of an altered table.
use Rattle.std.specs.Prelude.{ℕ, ◌+◌, ◌<◌, ◌^◌, if◌then◌else◌, Option, Some, None, option_and_then, List, [], ◌∷◌, map}
use Rattle.std.specs.List.{AllByRecursion}
use Rattle.dbl_model_table.specs.declared.row.Key.{Key}
use Rattle.dbl_model_table.specs.declared.table.RawColumn.{RawColumn}
use Rattle.dbl_model_table.specs.declared.table.RawRow.{RawRow}
use Rattle.dbl_model_table.specs.declared.table.RawTable.{RawTable}
use Rattle.dbl_model_table.specs.declared.table.TableName.{TableName}
use Rattle.dbl_model_table.specs.Keys.{same_key}
use Rattle.dbl_model_table.specs.Tables.{same_name}
use Rattle.dbl_source_log.specs.declared.logged.LogTable.{LogTable}
use Rattle.dbl_source_log.specs.declared.logged.Logged.{Logged}
use Rattle.dbl_source_log.specs.declared.logged.Logged.TheVariants.{Changes, Mark, Alter}
use Rattle.dbl_source_log.specs.Texts.{Texts, key_in}
use Rattle.dbl_source_log.specs.TextRows.{TextRows, log_table_named}

-- Whether a commit alters no table.
abbrev pub HasNoAlteration : Logged → Type 0
HasNoAlteration (Changes ms) = Unit {0}
HasNoAlteration (Mark value) = Unit {0}
HasNoAlteration (Alter name columns rows) = ⊥

-- Whether no commit of a log alters a table.
abbrev pub IsUnaltered : List Logged → Type 0
IsUnaltered log = AllByRecursion HasNoAlteration log

-- Whether a commit is another session's: it has changes or alters a table, and is no watermark's.
abbrev pub IsOthers : Logged → Type 0
IsOthers (Changes ms) = Unit {0}
IsOthers (Mark value) = ⊥
IsOthers (Alter name columns rows) = Unit {0}

-- A catalogue entry in other columns, with the next version.
abbrev pub altered_entry : List RawColumn → RawTable → RawTable
altered_entry columns raw = record raw { columns = columns; version = raw.version + 1 }

-- A table after an alteration of the table of this name.
abbrev pub altered_table : TableName → List RawColumn → LogTable → LogTable
altered_table name columns table =
    if same_name table.raw.name name then record table { raw = altered_entry columns table.raw } else table

-- The tables after a commit, each at the same index.
abbrev pub tables_after : Logged → List LogTable → List LogTable
tables_after (Changes ms) tables = tables
tables_after (Mark value) tables = tables
tables_after (Alter name columns rows) tables = map (altered_table name columns) tables

-- The tables after the commits of a log.
abbrev pub tables_through : List Logged → List LogTable → List LogTable
tables_through [] tables = tables
tables_through (entry ∷ log) tables = tables_through log (tables_after entry tables)

-- Whether each table's version has 64 bits after this many alterations.
abbrev pub HaveVersions : ℕ → List LogTable → Type 0
HaveVersions more tables = AllByRecursion (λ table. table.raw.version + more < 2 ^ 64) tables

-- The row of a list at a key, by the table's columns.
abbrev pub row_among : RawTable → List RawRow → Key → Option Texts
row_among raw [] key = None
row_among raw (row ∷ rows) key = if same_key (key_in raw row.cells) key then Some row.cells else row_among raw rows key

-- The rows after an alteration: the altered table has exactly these, read in its new columns.
abbrev pub altered_text_rows : List LogTable → TableName → List RawRow → TextRows → TextRows
altered_text_rows tables name list rows other key =
    if same_name name other then option_and_then (λ table. row_among table.raw list key) (log_table_named tables name) else rows other key
