use Rattle.dbl_model_history.proofs.KeptKeysLemmas.{versions_follow}
use Rattle.dbl_model_history.proofs.alteration_laws.versions_follow.Goals as goal

pub returns : goal.returns
returns c = versions_follow
