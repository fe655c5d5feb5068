use Rattle.dbl_consume_laws.proofs.AgeingNames.{no_records_are_named}
use Rattle.dbl_consume_laws.proofs.row_laws.no_records_are_named.Goals as goal

pub returns : goal.returns
returns c = no_records_are_named
