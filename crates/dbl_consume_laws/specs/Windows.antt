-- What a closed window of a snapshot guarantees at the point after its high watermark. After the DBLog paper, made exact.
use Rattle.std.specs.Prelude.{◌≡◌, ◌⊎◌, ℕ, IsTrue, Option, Some, None, List, slice_get}
use Rattle.std.specs.List.{AllByRecursion}
use Rattle.dbl_model_table.specs.declared.row.Key.{Key}
use Rattle.dbl_model_table.specs.declared.table.TableInfo.{TableInfo}
use Rattle.dbl_model_table.specs.declared.change.Change.{Change}
use Rattle.dbl_model_table.specs.Rows.{rows_at}
use Rattle.dbl_model_history.specs.Fit.{IsKeyOf}
use Rattle.dbl_model_history.specs.KeyBounds.{IsAbove, IsUpTo}
use Rattle.dbl_model_history.specs.KeyedRows.{row_in}
use Rattle.dbl_model_history.specs.WholeChanges.{IsTouched}
use Rattle.dbl_model_event.specs.declared.closed.Closed.{Closed}

-- Whether the window is right at its high watermark, where low and high are the points after its watermarks, and it began after this bound.
pub record IsRightWindow (infos : List TableInfo) (changes : List Change) (low high : ℕ) (above : Option Key)
    (closed : Closed) : Type 0 where
  -- Each row is the source's at the high watermark.
  pub right : AllByRecursion (λ entry. rows_at infos changes high closed.table entry.0 ≡ Some entry.1.cells) closed.rows
  -- A key of the window's range, above the bound and up to the last key or the table's end, that has no row in it was touched between the
  -- watermarks, or has no row at the high watermark.
  pub missing : (info : TableInfo) (key : Key) → slice_get infos closed.table ≡ Some info → IsKeyOf info key
      → IsAbove above key → IsTrue closed.done ⊎ IsUpTo closed.through key → row_in closed.rows key ≡ None
      → IsTouched infos changes low high closed.table key ⊎ (rows_at infos changes high closed.table key ≡ None)
