use Rattle.dbl_consume_laws.proofs.CellEvents.{events_change_cells}
use Rattle.dbl_consume_laws.proofs.record_laws.events_change_cells.Goals as goal

pub returns : goal.returns
returns c = events_change_cells
