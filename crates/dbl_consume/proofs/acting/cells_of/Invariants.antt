use Rattle.std.proofs.Common.{◌≡◌, ◌++◌, None, drop}
use Rattle.dbl_record.specs.Acts.{first_error, cells_of}
use Rattle.dbl_consume.specs.Cells.{cells_data}
use Rattle.dbl_consume.proofs.acting.cells_of.Given as goal

abbrev pub invariant-loop-cell : goal.invariant-loop-cell
invariant-loop-cell l = record {
  unread : first_error (cells_data (drop l.cell-index l.cells)) ≡ None;
  given : l.given.items ++ cells_of l.placeholder (cells_data (drop l.cell-index l.cells)) ≡ cells_of l.placeholder (cells_data l.cells);
}
