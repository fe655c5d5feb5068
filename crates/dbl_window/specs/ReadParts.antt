-- For private clauses: the reading of a row's cells.
use Rattle.std.specs.Prelude.{◌≡◌, ◌⊎◌, ℕ, true, Result, Ok, Err, Some, List, length, slice_get}
use Rattle.dbl_value_types.specs.declared.column_type.PgType.{PgType}
use Rattle.dbl_value_types.specs.declared.value.Val.{Val}
use Rattle.dbl_value_types.specs.Values.{IsOf, IsCellOf}
use Rattle.dbl_model_table.specs.declared.table.TableInfo.{TableInfo}
use Rattle.dbl_model_table.specs.Tables.{type_at}
use Rattle.dbl_model_table.specs.Infos.{width}
use Rattle.dbl_window.specs.declared.error.WindowError.{WindowError}
use Rattle.dbl_window.specs.declared.error.WindowError.TheVariants.{Memory}
use Rattle.dbl_window.specs.Reading.{is_of_key}

-- Whether the actual result is the expected one, or memory ran out.
abbrev pub ReadsPart : {A : Type 0} → Result A WindowError → Result A WindowError → Type 0
ReadsPart (Ok x) read = read ≡ Ok x
ReadsPart (Err e) read = (e ≡ Memory) ⊎ (read ≡ Err e)

-- Whether a cell is of the column's type, and not null in a key column.
abbrev pub FitsColumnCell : TableInfo → ℕ → PgType → Val → Type 0
FitsColumnCell info place ty v = IsCellOf ty v × (is_of_key info place ≡ true → IsOf ty v)

-- Whether there is one such cell per column.
pub record FitCells (info : TableInfo) (cells : List Val) : Type 0 where
  pub wide : length cells ≡ width info
  pub each : (place : ℕ) (v : Val) → slice_get cells place ≡ Some v → FitsColumnCell info place (type_at info.columns place) v
