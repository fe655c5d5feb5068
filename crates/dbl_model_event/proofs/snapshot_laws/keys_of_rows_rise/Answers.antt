use Rattle.dbl_model_event.proofs.SnapshotLemmas.{keys_rise}
use Rattle.dbl_model_event.proofs.snapshot_laws.keys_of_rows_rise.Goals as goal

pub returns : goal.returns
returns c = keys_rise
