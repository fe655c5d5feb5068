use Rattle.dbl_consume_laws.proofs.Rows.{aged_records_agree}
use Rattle.dbl_consume_laws.proofs.ageing_laws.aged_records_agree.Goals as goal

pub returns : goal.returns
returns c = aged_records_agree
