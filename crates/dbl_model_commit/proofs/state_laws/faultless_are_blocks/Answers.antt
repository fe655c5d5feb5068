use Rattle.dbl_model_commit.proofs.Splitting.{faultless_states}
use Rattle.dbl_model_commit.proofs.state_laws.faultless_are_blocks.Goals as goal

pub returns : goal.returns
returns c = λ infos after ms none. faultless_states infos after ms none
