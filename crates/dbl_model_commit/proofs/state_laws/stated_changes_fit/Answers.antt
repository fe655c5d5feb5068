use Rattle.dbl_model_commit.proofs.ChangeFits.{commits_fit}
use Rattle.dbl_model_commit.proofs.state_laws.stated_changes_fit.Goals as goal

pub returns : goal.returns
returns c = λ infos ms all. commits_fit infos ms all
