use Rattle.dbl_faithful.proofs.Words.{snapshot_rows_overwrite_nothing}
use Rattle.dbl_faithful.proofs.log_laws.snapshot_rows_overwrite_nothing.Goals as goal

pub returns : goal.returns
returns c = snapshot_rows_overwrite_nothing
