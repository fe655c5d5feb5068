use Rattle.dbl_offset.proofs.StoreLaws.{store_or_not}
use Rattle.dbl_offset.proofs.laws.bytes_are_a_store_or_not.Goals as goal

pub returns : goal.returns
returns c = store_or_not
