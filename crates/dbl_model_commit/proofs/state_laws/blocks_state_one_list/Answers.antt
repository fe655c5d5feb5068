use Rattle.dbl_model_commit.proofs.BlockLemmas.{one_reading}
use Rattle.dbl_model_commit.proofs.state_laws.blocks_state_one_list.Goals as goal

pub returns : goal.returns
returns c = λ infos ms cs rest s. one_reading infos ms cs rest s
