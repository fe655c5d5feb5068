use Rattle.dbl_consume_laws.proofs.CellEffects.{changes_change_cells}
use Rattle.dbl_consume_laws.proofs.record_laws.changes_change_cells.Goals as goal

pub returns : goal.returns
returns c = changes_change_cells
