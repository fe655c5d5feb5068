use Rattle.dbl_model_history.proofs.MomentLemmas.{moments_are}
use Rattle.dbl_model_history.proofs.laws.moments_are_changes.Goals as goal

pub returns : goal.returns
returns c = moments_are
