use Rattle.dbl_model_history.proofs.KeptKeysLemmas.{shapes_described}
use Rattle.dbl_model_history.proofs.alteration_laws.shapes_are_descriptions.Goals as goal

pub returns : goal.returns
returns c = shapes_described
