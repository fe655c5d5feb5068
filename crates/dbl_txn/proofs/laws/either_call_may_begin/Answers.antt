use Rattle.dbl_txn.proofs.Buffering.{both_stand}
use Rattle.dbl_txn.proofs.laws.either_call_may_begin.Goals as goal

pub returns : goal.returns
returns c = both_stand
