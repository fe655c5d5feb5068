use Rattle.std.proofs.Common.{◌≡◌, ◌++◌, false}
use Rattle.dbl_consume.specs.RowTexts.{cells_tail}
use Rattle.dbl_consume.proofs.printing.append_cells.Given as goal

abbrev pub invariant-loop-column : goal.invariant-loop-column
invariant-loop-column l = l.done.items ++ cells_tail l.later l.column-iterator ≡ l.fn.out.items ++ cells_tail false l.row.entries
