use Rattle.std.proofs.Common.{◌≡◌, drop, IsUtf8}
use Rattle.dbl_consume.specs.Cells.{names_ascend_after, cells_data}
use Rattle.dbl_consume.proofs.cells.names_ascend_after.Given as goal

abbrev pub invariant-loop-cell : goal.invariant-loop-cell
invariant-loop-cell l = record {
  utf8 : IsUtf8 l.previous;
  ascends : names_ascend_after l.previous (cells_data (drop l.cell-index l.cells)) ≡ names_ascend_after l.fn.first (cells_data l.cells);
}
