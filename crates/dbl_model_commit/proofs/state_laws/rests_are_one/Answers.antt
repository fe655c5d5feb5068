use Rattle.dbl_model_commit.proofs.BlockLemmas.{one_rest}
use Rattle.dbl_model_commit.proofs.state_laws.rests_are_one.Goals as goal

pub returns : goal.returns
returns c = λ infos ms cs rest s. one_rest infos ms cs rest s
