use Rattle.dbl_model_history.proofs.BoundLemmas.{bounds_part}
use Rattle.dbl_model_history.proofs.bound_laws.bounds_part_keys.Goals as goal

pub returns : goal.returns
returns c = bounds_part
