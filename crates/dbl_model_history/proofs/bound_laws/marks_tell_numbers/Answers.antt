use Rattle.dbl_model_history.proofs.MarkLemmas.{marks_tell}
use Rattle.dbl_model_history.proofs.bound_laws.marks_tell_numbers.Goals as goal

pub returns : goal.returns
returns c = marks_tell
