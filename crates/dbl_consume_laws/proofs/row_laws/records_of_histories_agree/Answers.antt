use Rattle.dbl_consume_laws.proofs.AgeingNames.{records_agree}
use Rattle.dbl_consume_laws.proofs.row_laws.records_of_histories_agree.Goals as goal

pub returns : goal.returns
returns c = records_agree
