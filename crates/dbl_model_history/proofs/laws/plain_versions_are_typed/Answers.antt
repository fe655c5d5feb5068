use Rattle.dbl_model_history.proofs.InForceLemmas.{plain_versions}
use Rattle.dbl_model_history.proofs.laws.plain_versions_are_typed.Goals as goal

pub returns : goal.returns
returns c = plain_versions
