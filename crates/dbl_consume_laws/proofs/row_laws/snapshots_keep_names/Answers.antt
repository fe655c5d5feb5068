use Rattle.dbl_consume_laws.proofs.AgeingNames.{snapshots_keep_names}
use Rattle.dbl_consume_laws.proofs.row_laws.snapshots_keep_names.Goals as goal

pub returns : goal.returns
returns c = snapshots_keep_names
