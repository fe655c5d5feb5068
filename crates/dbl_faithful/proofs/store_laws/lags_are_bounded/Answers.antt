use Rattle.dbl_faithful.proofs.StorePositions.{lags_are_bounded}
use Rattle.dbl_faithful.proofs.store_laws.lags_are_bounded.Goals as goal

pub returns : goal.returns
returns c = lags_are_bounded
