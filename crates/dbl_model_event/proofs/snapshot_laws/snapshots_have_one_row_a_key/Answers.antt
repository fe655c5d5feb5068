use Rattle.dbl_model_event.proofs.SnapshotLemmas.{one_row_a_key}
use Rattle.dbl_model_event.proofs.snapshot_laws.snapshots_have_one_row_a_key.Goals as goal

pub returns : goal.returns
returns c = one_row_a_key
