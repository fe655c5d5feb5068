use Rattle.dbl_follow.proofs.AmidLemmas.{armed_within}
use Rattle.dbl_follow.proofs.laws.armed_within_transactions.Goals as goal

pub returns : goal.returns
returns c = armed_within
