use Rattle.dbl_model_commit.proofs.Splitting.{states}
use Rattle.dbl_model_commit.proofs.state_laws.accepted_are_blocks.Goals as goal

pub returns : goal.returns
returns c = λ infos after ms accepted. states infos after ms accepted
