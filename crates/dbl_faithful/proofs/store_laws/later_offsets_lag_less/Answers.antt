use Rattle.dbl_faithful.proofs.StorePositions.{later_offsets_lag_less}
use Rattle.dbl_faithful.proofs.store_laws.later_offsets_lag_less.Goals as goal

pub returns : goal.returns
returns c = later_offsets_lag_less
