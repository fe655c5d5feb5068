use Rattle.dbl_model_history.proofs.ImageLemmas.{names_one}
use Rattle.dbl_model_history.proofs.window_laws.names_are_one.Goals as goal

pub returns : goal.returns
returns c = names_one
