use Rattle.dbl_model_history.proofs.WholeLemmas.{whole_by_case}
use Rattle.dbl_model_history.proofs.window_laws.whole_changes_are_cases.Goals as goal

pub returns : goal.returns
returns c = whole_by_case
