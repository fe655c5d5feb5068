use Rattle.dbl_consume_laws.proofs.SnapshotLines.{snapshot_lines_are_read}
use Rattle.dbl_consume_laws.proofs.agreement_laws.snapshot_lines_are_read.Goals as goal

pub returns : goal.returns
returns c = snapshot_lines_are_read
