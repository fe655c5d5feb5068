use Rattle.dbl_capture_laws.proofs.Puts.{steps_leave_gains}
use Rattle.dbl_capture_laws.proofs.put_laws.steps_leave_gains.Goals as goal

pub returns : goal.returns
returns c = steps_leave_gains
