use Rattle.std.proofs.Common.{◌≡◌, drop}
use Rattle.dbl_record.specs.Acts.{first_error}
use Rattle.dbl_consume.specs.Cells.{cells_data}
use Rattle.dbl_consume.proofs.acting.check_cells.Given as goal

abbrev pub invariant-loop-cell : goal.invariant-loop-cell
invariant-loop-cell l = first_error (cells_data (drop l.cell-index l.cells)) ≡ first_error (cells_data l.cells)
