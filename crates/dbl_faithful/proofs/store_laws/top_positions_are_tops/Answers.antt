use Rattle.dbl_faithful.proofs.StorePositions.{top_positions_are_tops}
use Rattle.dbl_faithful.proofs.store_laws.top_positions_are_tops.Goals as goal

pub returns : goal.returns
returns c = top_positions_are_tops
