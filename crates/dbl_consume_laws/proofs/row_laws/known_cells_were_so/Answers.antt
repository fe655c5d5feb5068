use Rattle.dbl_consume_laws.proofs.Rows.{known_cells_were_so}
use Rattle.dbl_consume_laws.proofs.row_laws.known_cells_were_so.Goals as goal

pub returns : goal.returns
returns c = known_cells_were_so
