use Rattle.std.proofs.Common.{◌≡◌, ◌++◌, drop}
use Rattle.dbl_model_table.specs.Rows.{overlay}
use Rattle.cases_ages.proofs.plain_rows.overlaid_cells.Given as goal

abbrev pub invariant-loop-i : goal.invariant-loop-i
invariant-loop-i l = l.new.items ++ overlay (drop l.i l.cells) (drop l.i l.row) ≡ overlay l.cells l.row
