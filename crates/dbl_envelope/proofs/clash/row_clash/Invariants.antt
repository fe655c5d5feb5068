use Rattle.std.proofs.Common.{◌≡◌, drop, map}
use Rattle.dbl_model_table.specs.declared.change.Cell.TheVariants.{Given}
use Rattle.dbl_model_table.specs.Tables.{column_names}
use Rattle.dbl_model_event.specs.Clashes.{clash_among}
use Rattle.dbl_envelope.proofs.clash.row_clash.Given as goal

abbrev pub invariant-loop-i : goal.invariant-loop-i
invariant-loop-i l = clash_among l.placeholder (drop l.i (column_names l.fn.columns)) (drop l.i (map Given l.fn.cells)) ≡ clash_among l.placeholder (column_names l.fn.columns) (map Given l.fn.cells)
