use Rattle.dbl_model_history.proofs.InForceLemmas.{unaltered_entries}
use Rattle.dbl_model_history.proofs.laws.unaltered_entries_stay.Goals as goal

pub returns : goal.returns
returns c = unaltered_entries
