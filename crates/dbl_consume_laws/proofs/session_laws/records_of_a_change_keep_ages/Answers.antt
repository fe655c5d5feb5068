use Rattle.dbl_consume_laws.proofs.Between.{records_of_a_change_keep_ages}
use Rattle.dbl_consume_laws.proofs.session_laws.records_of_a_change_keep_ages.Goals as goal

pub returns : goal.returns
returns c = records_of_a_change_keep_ages
