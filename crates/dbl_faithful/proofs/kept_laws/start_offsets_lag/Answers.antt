use Rattle.dbl_faithful.proofs.Offsets.{start_offsets_lag}
use Rattle.dbl_faithful.proofs.kept_laws.start_offsets_lag.Goals as goal

pub returns : goal.returns
returns c = start_offsets_lag
