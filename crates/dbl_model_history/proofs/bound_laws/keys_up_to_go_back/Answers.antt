use Rattle.dbl_model_history.proofs.BoundLemmas.{up_to_goes_back}
use Rattle.dbl_model_history.proofs.bound_laws.keys_up_to_go_back.Goals as goal

pub returns : goal.returns
returns c = up_to_goes_back
