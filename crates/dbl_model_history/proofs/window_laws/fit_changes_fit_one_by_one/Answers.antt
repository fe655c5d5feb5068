use Rattle.dbl_model_history.proofs.FitChangeLemmas.{fit_change}
use Rattle.dbl_model_history.proofs.window_laws.fit_changes_fit_one_by_one.Goals as goal

pub returns : goal.returns
returns c = fit_change
