use Rattle.dbl_follow.proofs.StepLemmas.{nothing_done}
use Rattle.dbl_follow.proofs.laws.other_marks_do_nothing.Goals as goal

pub returns : goal.returns
returns c = nothing_done
