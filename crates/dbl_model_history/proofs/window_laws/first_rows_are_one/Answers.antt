use Rattle.dbl_model_history.proofs.BoundLemmas.{first_rows_one}
use Rattle.dbl_model_history.proofs.window_laws.first_rows_are_one.Goals as goal

pub returns : goal.returns
returns c = first_rows_one
