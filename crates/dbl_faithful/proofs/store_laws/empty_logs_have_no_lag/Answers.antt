use Rattle.dbl_faithful.proofs.StorePositions.{empty_logs_have_no_lag}
use Rattle.dbl_faithful.proofs.store_laws.empty_logs_have_no_lag.Goals as goal

pub returns : goal.returns
returns c = empty_logs_have_no_lag
