use Rattle.dbl_consume_laws.proofs.Cells.{cells_go_alone}
use Rattle.dbl_consume_laws.proofs.record_laws.cells_go_alone.Goals as goal

pub returns : goal.returns
returns c = cells_go_alone
