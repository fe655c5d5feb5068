use Rattle.dbl_consume_laws.proofs.Changes.{records_keep_age}
use Rattle.dbl_consume_laws.proofs.ageing_laws.records_of_a_change_keep_age.Goals as goal

pub returns : goal.returns
returns c = records_keep_age
