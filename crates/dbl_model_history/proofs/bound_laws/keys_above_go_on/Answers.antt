use Rattle.dbl_model_history.proofs.BoundLemmas.{above_goes_on}
use Rattle.dbl_model_history.proofs.bound_laws.keys_above_go_on.Goals as goal

pub returns : goal.returns
returns c = above_goes_on
