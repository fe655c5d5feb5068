-- For private clauses: the table that a step names, and a planned change of it.
use Rattle.std.specs.Prelude.{◌≡◌, ℕ, true, Some, Result, Ok, Err, slice_get, List}
use Rattle.dbl_tables_rows.specs.declared.demo_table.DemoTable.{DemoTable}
use Rattle.dbl_tables_rows.specs.declared.error.StepError.{StepError}
use Rattle.dbl_tables_changes.specs.declared.planned.Planned.{Planned}
use Rattle.dbl_tables_rows.specs.declared.rows.Rows.{Rows}
use Rattle.dbl_tables_rows.specs.Acts.{Accepted, is_open}
use Rattle.dbl_tables_rows.specs.Steps.{Step, FoundTable, judged}
use Rattle.dbl_tables_changes.specs.AcceptedSteps.{found_at}
use Rattle.dbl_tables_changes.specs.Planned.{IsPlanned}

-- The index of the table that was found.
pub record IsPlaceOf (at : FoundTable) (place : ℕ) (tables : List Rows) : Type 0 where
  pub rows : Rows
  pub there : slice_get tables place ≡ Some rows
  pub is : at ≡ found_at place rows.table

-- The index of a table, or the refusal to find it.
abbrev pub PlacesFor : Result FoundTable StepError → List Rows → Result ℕ StepError → Type 0
PlacesFor (Ok at) tables (Ok place) = IsPlaceOf at place tables
PlacesFor (Ok at) tables (Err e) = ⊥
PlacesFor (Err refusal) tables (Ok place) = ⊥
PlacesFor (Err refusal) tables (Err e) = e ≡ refusal

-- A planned change of the table at an index, as the call is judged.
pub record IsPlannedAt (tables : List DemoTable) (past : List Accepted) (call : Step) (name : List ℕ) (place : ℕ) (rows : List Rows)
    (planned : Planned) : Type 0 where
  pub at : FoundTable
  pub begun : is_open name past ≡ true
  pub there : IsPlaceOf at place rows
  pub planned_is : IsPlanned tables past name at (judged tables past call) planned
