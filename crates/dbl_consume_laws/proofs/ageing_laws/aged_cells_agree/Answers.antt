use Rattle.dbl_consume_laws.proofs.Rows.{cells_agree}
use Rattle.dbl_consume_laws.proofs.ageing_laws.aged_cells_agree.Goals as goal

pub returns : goal.returns
returns c = cells_agree
