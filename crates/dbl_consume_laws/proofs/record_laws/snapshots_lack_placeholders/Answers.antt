use Rattle.dbl_consume_laws.proofs.Clashes.{snapshots_lack_placeholders}
use Rattle.dbl_consume_laws.proofs.record_laws.snapshots_lack_placeholders.Goals as goal

pub returns : goal.returns
returns c = snapshots_lack_placeholders
