use Rattle.dbl_model_commit.proofs.ChangeFits.{open_fits}
use Rattle.dbl_model_commit.proofs.begun_laws.open_changes_fit.Goals as goal

pub returns : goal.returns
returns c = open_fits
