use Rattle.dbl_offset.proofs.StoreLaws.{one_store}
use Rattle.dbl_offset.proofs.laws.stores_are_read_once.Goals as goal

pub returns : goal.returns
returns c = one_store
