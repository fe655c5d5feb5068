use Rattle.dbl_follow.proofs.StepLemmas.{one_step}
use Rattle.dbl_follow.proofs.laws.steps_are_one.Goals as goal

pub returns : goal.returns
returns c = one_step
