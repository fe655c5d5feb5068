use Rattle.dbl_consume_laws.proofs.Cells.{consumers_hold_cells}
use Rattle.dbl_consume_laws.proofs.record_laws.consumers_hold_cells.Goals as goal

pub returns : goal.returns
returns c = consumers_hold_cells
