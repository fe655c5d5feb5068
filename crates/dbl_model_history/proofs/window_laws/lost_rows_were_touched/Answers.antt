use Rattle.dbl_model_history.proofs.BoundLemmas.{lost_rows}
use Rattle.dbl_model_history.proofs.window_laws.lost_rows_were_touched.Goals as goal

pub returns : goal.returns
returns c = lost_rows
