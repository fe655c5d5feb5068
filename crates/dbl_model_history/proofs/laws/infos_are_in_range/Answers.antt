use Rattle.dbl_model_history.proofs.RangeLemmas.{infos_in_range}
use Rattle.dbl_model_history.proofs.laws.infos_are_in_range.Goals as goal

pub returns : goal.returns
returns c = infos_in_range
