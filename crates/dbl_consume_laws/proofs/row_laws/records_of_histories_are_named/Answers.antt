use Rattle.dbl_consume_laws.proofs.AgeingNames.{records_are_named}
use Rattle.dbl_consume_laws.proofs.row_laws.records_of_histories_are_named.Goals as goal

pub returns : goal.returns
returns c = records_are_named
