use Rattle.dbl_consume_laws.proofs.AgeingNames.{events_keep_names}
use Rattle.dbl_consume_laws.proofs.row_laws.events_keep_names.Goals as goal

pub returns : goal.returns
returns c = events_keep_names
