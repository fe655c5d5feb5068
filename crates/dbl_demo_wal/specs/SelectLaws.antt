-- Theorems about a select of a workload's source.
use Rattle.std.specs.Prelude.{◌≡◌, ℕ, ◌≤◌, Option, None, Some, List, [], length}
use Rattle.dbl_script.specs.ModelTable.declared.row.Key.{Key}
use Rattle.dbl_script.specs.ModelTable.declared.table.RawRow.{RawRow}
use Rattle.dbl_script.specs.ModelTable.declared.table.TableName.{TableName}
use Rattle.dbl_tables_laws.specs.SourceModel.declared.selected.Selected.{Selected}
use Rattle.dbl_tables_laws.specs.SourceModel.Selected.{Selects}
use Rattle.dbl_tables_laws.specs.TablesRows.declared.demo_table.DemoTable.{DemoTable}
use Rattle.dbl_tables_laws.specs.TablesRows.Acts.{Accepted}
use Rattle.dbl_tables_laws.specs.TablesRows.Steps.{FoundTable, found}
use Rattle.dbl_tables_laws.specs.Laws.{AreOneList}
use Rattle.dbl_demo_wal.specs.Workloads.{acts_at, steps_of}
use Rattle.dbl_demo_wal.specs.Sound.{IsSilent}
use Rattle.dbl_demo_wal.specs.Standings.{history_in}
use Rattle.dbl_demo_wal.specs.CrashState.{added_by, with_entries}
use Rattle.dbl_demo_wal.specs.Wals.{Wal, IsWal}
use Rattle.dbl_demo_wal.specs.Shown.{AreRowsShown}

-- Two lists of rows are equal, for a table that exists with any key and for one that doesn't exist.
abbrev pub AreOneAt : Option FoundTable → Option Key → List RawRow → List RawRow → Type 0
AreOneAt None above a b = a ≡ b
AreOneAt (Some there) above a b = AreOneList there.table.info above a b

-- The rows that a select shows are exactly one list.
abbrev pub RowsShownAreOne : Type 0
RowsShownAreOne = (tables : List DemoTable) (past : List Accepted) (name : TableName) (above : Option Key) (limit : ℕ) (a b : List RawRow)
    → AreRowsShown tables past name above limit a → AreRowsShown tables past name above limit b → AreOneAt (found tables name) above a b

-- A select runs some steps, takes the rows of the store, and runs some more: version 1 and these rows are those of one position between
-- its call and its return, for every choice of captured tables.
abbrev pub SelectsAreAnswered : Type 0
SelectsAreAnswered = (bytes : List ℕ) (wal : Wal) (done between upto : ℕ) (name : TableName) (above : Option Key) (limit : ℕ)
    (answer : Selected) → answer.version ≡ 1
    → IsSilent wal.workload wal.entries done → done ≤ between → between ≤ upto → upto ≤ length (steps_of wal.workload)
    → IsWal bytes (with_entries wal (added_by wal done upto []))
    → AreRowsShown wal.workload.tables (acts_at wal.workload between) name above limit answer.rows
    → Selects name above limit (history_in wal) (history_in (with_entries wal (added_by wal done upto []))) answer
