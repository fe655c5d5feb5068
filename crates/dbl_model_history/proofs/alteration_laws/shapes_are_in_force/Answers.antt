use Rattle.dbl_model_history.proofs.KeptKeysLemmas.{shapes_in_force}
use Rattle.dbl_model_history.proofs.alteration_laws.shapes_are_in_force.Goals as goal

pub returns : goal.returns
returns c = shapes_in_force
