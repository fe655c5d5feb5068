use Rattle.dbl_consume_laws.proofs.Snapshot.{parts_of_snapshots_keep_age}
use Rattle.dbl_consume_laws.proofs.ageing_laws.parts_of_snapshots_keep_age.Goals as goal

pub returns : goal.returns
returns c = parts_of_snapshots_keep_age
