-- The cells of a source's rows that encode values of their columns' types.
use Rattle.std.specs.Prelude.{◌≡◌, ℕ, Some, None, List, slice_get}
use Rattle.dbl_value_types.specs.declared.value.Val.{Val}
use Rattle.dbl_value_types.specs.declared.value.Val.TheVariants as val
use Rattle.dbl_value_types.specs.Faults.{value_fault}
use Rattle.dbl_model_table.specs.declared.row.Key.{Key}
use Rattle.dbl_model_table.specs.declared.table.Column.{Column}
use Rattle.dbl_model_table.specs.declared.table.TableInfo.{TableInfo}
use Rattle.dbl_model_history.specs.Fit.{AreInfosOf}
use Rattle.dbl_model_history.specs.History.{History}
use Rattle.dbl_tables_laws.specs.SourceModel.Selected.{rows_up_to}
use Rattle.dbl_demo_wal.specs.Standings.{history_in}
use Rattle.dbl_demo_wal.specs.Wals.{Wal, IsWal}

-- Each cell of the row encodes a value of its column's type; in a history, a cell that encodes none is its text.
abbrev pub HasValidTexts : TableInfo → List Val → Type 0
HasValidTexts info cells = (number : ℕ) (column : Column) (text : List ℕ)
    → slice_get info.columns number ≡ Some column → slice_get cells number ≡ Some (val.Text text) → value_fault column.ty text ≡ None

-- Each row that a captured table had at some point in the history is readable.
abbrev pub RowsAreReadable : List TableInfo → History → Type 0
RowsAreReadable infos history = (place table : ℕ) (info : TableInfo) (key : Key) (cells : List Val)
    → slice_get infos table ≡ Some info → rows_up_to infos history place table key ≡ Some cells → HasValidTexts info cells

-- In the log of a workload each row that a captured table ever had is readable, since a step with any other text is refused.
abbrev pub RowsOfWalsAreReadable : Type 0
RowsOfWalsAreReadable = (bytes : List ℕ) (wal : Wal) (infos : List TableInfo) → IsWal bytes wal → AreInfosOf (history_in wal) infos
    → RowsAreReadable infos (history_in wal)
