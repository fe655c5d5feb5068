use Rattle.std.proofs.Common.{◌≡◌, drop}
use Rattle.dbl_record.specs.Acts.{cells_of}
use Rattle.dbl_consume.specs.Cells.{cells_data}
use Rattle.dbl_consume.specs.Kinds.{are_sent}
use Rattle.dbl_consume.proofs.classifying.are_sent.Given as goal

abbrev pub invariant-loop-cell : goal.invariant-loop-cell
invariant-loop-cell l = are_sent (cells_of l.placeholder (cells_data (drop l.cell-index l.cells))) ≡ are_sent (cells_of l.placeholder (cells_data l.cells))
