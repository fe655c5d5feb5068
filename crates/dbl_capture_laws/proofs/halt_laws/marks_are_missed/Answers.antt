use Rattle.dbl_capture_laws.proofs.Causes.{marks_are_missed}
use Rattle.dbl_capture_laws.proofs.halt_laws.marks_are_missed.Goals as goal

pub returns : goal.returns
returns c = marks_are_missed
