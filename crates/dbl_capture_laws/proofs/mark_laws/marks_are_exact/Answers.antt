use Rattle.dbl_capture_laws.proofs.Written.{marks_are_exact}
use Rattle.dbl_capture_laws.proofs.mark_laws.marks_are_exact.Goals as goal

pub returns : goal.returns
returns c = marks_are_exact
