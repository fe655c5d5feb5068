use Rattle.dbl_model_history.proofs.KeptKeysLemmas.{entries_in_force}
use Rattle.dbl_model_history.proofs.alteration_laws.entries_are_in_force.Goals as goal

pub returns : goal.returns
returns c = entries_in_force
