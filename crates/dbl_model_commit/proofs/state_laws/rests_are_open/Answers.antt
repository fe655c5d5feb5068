use Rattle.dbl_model_commit.proofs.BlockLemmas.{one_inside}
use Rattle.dbl_model_commit.proofs.state_laws.rests_are_open.Goals as goal

pub returns : goal.returns
returns c = λ infos ms cs rest s. one_inside infos ms cs rest s
