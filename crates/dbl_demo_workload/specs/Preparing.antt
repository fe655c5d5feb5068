-- For private clauses: how a workload's tables and rows are read, one line after the other.
use Rattle.std.specs.Prelude.{◌≡◌, ◌⊎◌, ℕ, None, Some, IfSome, option_to_list, Option, Result, Ok, Err, IsOk, List, [], ◌∷◌, ◌++◌, map}
use Rattle.std.specs.List.{AllByRecursion, AllZip}
use Rattle.dbl_pgmsg.specs.declared.messages.Message.{Message}
use Rattle.dbl_model_table.specs.declared.table.TableName.{TableName}
use Rattle.dbl_model_table.specs.declared.error.ModelError.{ModelError}
use Rattle.dbl_model_table.specs.Made.{table_fault}
use Rattle.dbl_source_log.specs.declared.logged.LogTable.{LogTable}
use Rattle.dbl_script.specs.declared.error.ScriptError.TheVariants as script
use Rattle.dbl_script.specs.declared.script.Script.{Script}
use Rattle.dbl_script.specs.declared.script.ScriptTable.{ScriptTable}
use Rattle.dbl_script.specs.declared.script.ScriptRow.{ScriptRow}
use Rattle.dbl_tables_rows.specs.declared.demo_table.DemoTable.{DemoTable}
use Rattle.dbl_tables_rows.specs.declared.error.StepError.{StepError}
use Rattle.dbl_tables_rows.specs.declared.error.StepError.TheVariants as errors
use Rattle.dbl_tables_rows.specs.Acts.{Accepted, log_in}
use Rattle.dbl_tables_rows.specs.Sending.{log_tables}
use Rattle.dbl_tables_rows.specs.Steps.{Step as SessionStep, judged}
use Rattle.dbl_tables_rows.specs.Steps.Step.{Begin, Insert}
use Rattle.dbl_tables_rows.specs.Serial.{acts_after, initial_steps, accepted_onto}
use Rattle.dbl_tables.specs.declared.first_rows.FirstRows.{FirstRows}
use Rattle.dbl_tables.specs.declared.tables.Tables.{Tables}
use Rattle.dbl_tables.specs.FirstRows.{InsertsAfter}
use Rattle.dbl_tables.specs.Stands.{Stands}
use Rattle.dbl_demo_wal.specs.Workloads.{AreAccepted, IsTableOf, initial_row}
use Rattle.dbl_demo_workload.specs.declared.error.DemoError.{DemoError}
use Rattle.dbl_demo_workload.specs.declared.error.DemoError.TheVariants as demo
use Rattle.dbl_demo_workload.specs.declared.preparing.Prepared.{Prepared}
use Rattle.dbl_demo_workload.specs.Ready.{IsReady}
use Rattle.dbl_demo_workload.specs.Refusals.{row_calls}
use Rattle.dbl_demo_workload.specs.Steps.{IsShortCommit}

-- The tables of these lines, as names, as the store's and as the log's.
pub record AreTablesRead (lines : List ScriptTable) (names : List TableName) (tables : List DemoTable) (log : List LogTable) : Type 0 where
  pub are : AllZip IsTableOf lines tables
  pub named : names ≡ map (λ table. table.info.name) tables
  pub log_is : log ≡ log_tables tables

-- The tables of these lines were read, and each can be captured.
pub record AreReadSoFar (lines : List ScriptTable) (names : List TableName) (tables : List DemoTable) (log : List LogTable) : Type 0 where
  pub read : AreTablesRead lines names tables log
  pub good : AllByRecursion (λ other. table_fault other.raw ≡ None) lines

-- Memory ran out, or the error is why the line's table can't be captured.
abbrev pub HasBadTable : ScriptTable → DemoError → Type 0
HasBadTable line e = (e ≡ demo.Memory) ⊎ ((fault : ModelError) × (table_fault line.raw ≡ Some fault) × (e ≡ demo.Model fault))

-- The error is of the first of these lines whose table can't be captured.
pub record HasBadTableIn (lines : List ScriptTable) (e : DemoError) : Type 0 where
  pub before : List ScriptTable
  pub table : ScriptTable
  pub subsequent : List ScriptTable
  pub are : lines ≡ before ++ table ∷ subsequent
  pub good : AllByRecursion (λ other. table_fault other.raw ≡ None) before
  pub fault : ModelError
  pub is_fault : table_fault table.raw ≡ Some fault
  pub is : e ≡ demo.Model fault

-- The error of a row that can't be inserted: its line is bad, unless memory ran out.
abbrev pub row_error : StepError → ℕ → DemoError
row_error errors.Memory line = demo.Memory
row_error e line = demo.Script (script.BadLine line)

-- The result of inserting a row: it was accepted, or its line is bad.
abbrev pub InsertsRow : List DemoTable → List Accepted → ScriptRow → FirstRows → Result Unit DemoError → Type 0
InsertsRow tables past row new (Ok done) =
    IsOk (judged tables past (Insert [] row.table row.cells))
    × InsertsAfter tables (accepted_onto (judged tables past (Insert [] row.table row.cells)) past) new
InsertsRow tables past row new (Err e) = (e ≡ demo.Memory)
    ⊎ ((e ≡ demo.Script (script.BadLine row.line)) × ¬ IsOk (judged tables past (Insert [] row.table row.cells)))

-- The result of inserting a row after any acts.
abbrev pub IsRowRefused : ScriptRow → FirstRows → FirstRows → Result Unit DemoError → Type 0
IsRowRefused row old new result = (tables : List DemoTable) (past : List Accepted) → InsertsAfter tables past old
    → InsertsRow tables past row new result

-- The error is of the first of these rows that can't be inserted after some acts.
pub record HasBadRowIn (tables : List DemoTable) (past : List Accepted) (rows : List ScriptRow) (e : DemoError) : Type 0 where
  pub before : List ScriptRow
  pub row : ScriptRow
  pub subsequent : List ScriptRow
  pub are : rows ≡ before ++ row ∷ subsequent
  pub accepted : AreAccepted tables past (row_calls before)
  pub refused : ¬ IsOk (judged tables (acts_after tables past (row_calls before)) (Insert [] row.table row.cells))
  pub is : e ≡ demo.Script (script.BadLine row.line)

-- The result of inserting rows: all were accepted, or one can't be inserted.
abbrev pub InsertsRows : List DemoTable → List Accepted → List ScriptRow → FirstRows → Result Unit DemoError → Type 0
InsertsRows tables past rows new (Ok done) = AreAccepted tables past (row_calls rows)
    × InsertsAfter tables (acts_after tables past (row_calls rows)) new
InsertsRows tables past rows new (Err e) = (e ≡ demo.Memory) ⊎ HasBadRowIn tables past rows e

-- All steps of the initial rows: the begin, the inserts and the commit.
abbrev pub initial_row_calls : List ScriptRow → List SessionStep
initial_row_calls rows = initial_steps (map initial_row rows)

-- The result of committing the initial rows in a store without rows: the store with them, and their messages.
abbrev pub CommitsRows : List DemoTable → List ScriptRow → Result (Tables × Option (List Message)) DemoError → Type 0
CommitsRows tables rows (Ok made) =
    AreAccepted tables [] (initial_row_calls rows) × Stands tables (acts_after tables [] (initial_row_calls rows)) made.0
    × (log_in (acts_after tables [] (initial_row_calls rows)) ≡ option_to_list made.1) × IfSome made.1 IsShortCommit
CommitsRows tables rows (Err e) = (e ≡ demo.Memory) ⊎ HasBadRowIn tables (acts_after tables [] (Begin [] ∷ [])) rows e

-- The result of committing the initial rows in every store without rows.
abbrev pub HasRows : List ScriptRow → Tables → Result (Tables × Option (List Message)) DemoError → Type 0
HasRows rows old result = (tables : List DemoTable) → Stands tables [] old → CommitsRows tables rows result

-- The prepared state of a script whose lines are good.
pub record IsReadyOf (script : Script) (ready : Prepared) : Type 0 where
  pub tables : List DemoTable
  pub are : AllZip IsTableOf script.tables tables
  pub accepted : AreAccepted tables [] (initial_row_calls script.rows)
  pub is : IsReady (record { script = script; tables = tables }) ready

-- Why a script can't be run: a table that can't be captured, or a row that can't be inserted.
pub data IsRefusedBy (script : Script) (e : DemoError) : Type 0 where
  table : HasBadTableIn script.tables e → IsRefusedBy script e
  row : (tables : List DemoTable) → AllZip IsTableOf script.tables tables
      → HasBadRowIn tables (acts_after tables [] (Begin [] ∷ [])) script.rows e → IsRefusedBy script e
