use Rattle.dbl_model_history.proofs.MomentLemmas.{positions_are}
use Rattle.dbl_model_history.proofs.laws.positions_are_moments.Goals as goal

pub returns : goal.returns
returns c = positions_are
