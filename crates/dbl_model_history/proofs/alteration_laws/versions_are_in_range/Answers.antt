use Rattle.dbl_model_history.proofs.RangeLemmas.{versions_in_range}
use Rattle.dbl_model_history.proofs.alteration_laws.versions_are_in_range.Goals as goal

pub returns : goal.returns
returns c = versions_in_range
