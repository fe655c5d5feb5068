use Rattle.dbl_model_history.proofs.WholeLemmas.{touched_parts}
use Rattle.dbl_model_history.proofs.window_laws.touched_keys_are_parted.Goals as goal

pub returns : goal.returns
returns c = touched_parts
