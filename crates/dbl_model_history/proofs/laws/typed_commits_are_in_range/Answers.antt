use Rattle.dbl_model_history.proofs.RangeLemmas.{typed_in_range}
use Rattle.dbl_model_history.proofs.laws.typed_commits_are_in_range.Goals as goal

pub returns : goal.returns
returns c = typed_in_range
