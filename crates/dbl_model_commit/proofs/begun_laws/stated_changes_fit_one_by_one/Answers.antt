use Rattle.dbl_model_commit.specs.Past.{open_mark}
use Rattle.dbl_model_commit.specs.Stated.{has_some, open_changes}
use Rattle.dbl_model_commit.proofs.ChangeFits.{stated_fits}
use Rattle.dbl_model_commit.proofs.begun_laws.stated_changes_fit_one_by_one.Goals as goal

pub returns : goal.returns
returns c = λ infos m ms changes fits is. stated_fits infos m ms (open_mark ms) (has_some (open_changes infos ms)) changes fits is
