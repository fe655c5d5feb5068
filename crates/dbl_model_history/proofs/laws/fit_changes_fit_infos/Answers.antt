use Rattle.dbl_model_history.proofs.FitsInfosLemmas.{fit_changes}
use Rattle.dbl_model_history.proofs.laws.fit_changes_fit_infos.Goals as goal

pub returns : goal.returns
returns c = fit_changes
