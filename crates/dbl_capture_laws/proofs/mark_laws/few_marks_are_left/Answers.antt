use Rattle.dbl_capture_laws.proofs.Written.{few_marks_are_left}
use Rattle.dbl_capture_laws.proofs.mark_laws.few_marks_are_left.Goals as goal

pub returns : goal.returns
returns c = few_marks_are_left
