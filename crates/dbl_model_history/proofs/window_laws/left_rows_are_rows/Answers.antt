use Rattle.dbl_model_history.proofs.BoundLemmas.{left_rows}
use Rattle.dbl_model_history.proofs.window_laws.left_rows_are_rows.Goals as goal

pub returns : goal.returns
returns c = left_rows
