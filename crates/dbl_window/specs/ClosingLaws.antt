-- Theorems about a window's rows when a caller other than its owner closes it.
use Rattle.std.specs.Prelude.{Option, List}
use Rattle.dbl_model_table.specs.declared.row.Key.{Key}
use Rattle.dbl_model_table.specs.declared.row.Row.{Row}
use Rattle.dbl_model_history.specs.KeyedRows.{AreAbove}
use Rattle.dbl_model_event.specs.declared.closed.Closed.{Closed}
use Rattle.dbl_model_event.specs.Snapshots.{AreInKeyOrder}
use Rattle.dbl_window.specs.Plans.{Chunk}
use Rattle.dbl_window.specs.Promise.{KeepsPromise, IsClosedOf}

-- Rows each above the one before are in key order.
abbrev pub RowsAboveAreInOrder : Type 0
RowsAboveAreInOrder = (above : Option Key) (rows : List (Key × Row)) → AreAbove above rows → AreInKeyOrder rows

-- A closed window that has its chunk's rows in key order keeps the chunk's promise.
abbrev pub ClosedWindowsKeepTheirPromise : Type 0
ClosedWindowsKeepTheirPromise = (chunk : Chunk) (closed : Closed) → IsClosedOf chunk closed → AreInKeyOrder closed.rows
    → KeepsPromise chunk closed
