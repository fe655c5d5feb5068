use Rattle.dbl_model_history.proofs.MarkLemmas.{marks_short}
use Rattle.dbl_model_history.proofs.bound_laws.marks_are_short.Goals as goal

pub returns : goal.returns
returns c = marks_short
