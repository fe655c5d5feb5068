use Rattle.std.proofs.Common.{◌≡◌, take}
use Rattle.dbl_model_table.specs.Rows.{overlay}
use Rattle.dbl_window.proofs.rows.overlaid_row.Given as goal

abbrev pub invariant-loop-place : goal.invariant-loop-place
invariant-loop-place l = l.values.items ≡ overlay (take l.place l.cells) l.fn.row.cells
