-- Why bytes are no workload that can be run: the first cause, in the order of the checks.
use Rattle.std.specs.Prelude.{◌≡◌, ℕ, ◌≤◌, ◌<◌, None, Some, IsOk, List, [], ◌∷◌, ◌++◌, length, map}
use Rattle.std.specs.List.{AllByRecursion, AllZip}
use Rattle.dbl_base.specs.Lines.{lines_of}
use Rattle.dbl_model_table.specs.declared.error.ModelError.{ModelError}
use Rattle.dbl_model_table.specs.Made.{table_fault}
use Rattle.dbl_script.specs.declared.error.ScriptError.{ScriptError}
use Rattle.dbl_script.specs.declared.error.ScriptError.TheVariants as script
use Rattle.dbl_script.specs.declared.script.ScriptTable.{ScriptTable}
use Rattle.dbl_script.specs.declared.script.ScriptRow.{ScriptRow}
use Rattle.dbl_script.specs.Scripts.{script_of, first_bad}
use Rattle.dbl_tables_rows.specs.declared.demo_table.DemoTable.{DemoTable}
use Rattle.dbl_tables_rows.specs.Steps.{Step as SessionStep, judged}
use Rattle.dbl_tables_rows.specs.Steps.Step.{Begin, Insert}
use Rattle.dbl_tables_rows.specs.Serial.{acts_after}
use Rattle.dbl_demo_wal.specs.Workloads.{AreAccepted, IsTableOf}
use Rattle.dbl_demo_workload.specs.declared.error.DemoError.{DemoError}
use Rattle.dbl_demo_workload.specs.declared.error.DemoError.TheVariants as demo

-- A line is bad by itself or after those before it, or there are too many lines.
pub data HasBadLines (bytes : List ℕ) (e : ScriptError) : Type 0 where
  too_many : 1000000 < length (lines_of bytes) → e ≡ script.TooManyLines → HasBadLines bytes e
  bad_line : (number : ℕ) → length (lines_of bytes) ≤ 1000000 → first_bad (lines_of bytes) ≡ Some number → e ≡ script.BadLine number
      → HasBadLines bytes e

-- The lines are good, each by itself and together.
pub record HasGoodLines (bytes : List ℕ) : Type 0 where
  pub few : length (lines_of bytes) ≤ 1000000
  pub good : first_bad (lines_of bytes) ≡ None

-- The error is of the first table that can't be captured, by its line.
pub record HasBadTable (bytes : List ℕ) (e : ModelError) : Type 0 where
  pub lines : HasGoodLines bytes
  pub before : List ScriptTable
  pub table : ScriptTable
  pub subsequent : List ScriptTable
  pub are : (script_of (lines_of bytes)).tables ≡ before ++ table ∷ subsequent
  pub good : AllByRecursion (λ other. table_fault other.raw ≡ None) before
  pub fault : table_fault table.raw ≡ Some e

-- The inserts of some rows by a session without a name that has begun.
abbrev pub row_calls : List ScriptRow → List SessionStep
row_calls rows = map (λ row. Insert [] row.table row.cells) rows

-- The number is the line of the first row that can't be inserted.
pub record HasBadRow (bytes : List ℕ) (number : ℕ) : Type 0 where
  pub lines : HasGoodLines bytes
  pub tables : List DemoTable
  pub are_tables : AllZip IsTableOf (script_of (lines_of bytes)).tables tables
  pub before : List ScriptRow
  pub row : ScriptRow
  pub subsequent : List ScriptRow
  pub are : (script_of (lines_of bytes)).rows ≡ before ++ row ∷ subsequent
  pub accepted : AreAccepted tables [] (Begin [] ∷ row_calls before)
  pub refused : ¬ IsOk (judged tables (acts_after tables [] (Begin [] ∷ row_calls before)) (Insert [] row.table row.cells))
  pub line : number ≡ row.line

-- The bytes are no workload that can be run, for this cause.
pub data IsRefused (bytes : List ℕ) (e : DemoError) : Type 0 where
  lines : (fault : ScriptError) → HasBadLines bytes fault → e ≡ demo.Script fault → IsRefused bytes e
  table : (fault : ModelError) → HasBadTable bytes fault → e ≡ demo.Model fault → IsRefused bytes e
  row : (number : ℕ) → HasBadRow bytes number → e ≡ demo.Script (script.BadLine number) → IsRefused bytes e
