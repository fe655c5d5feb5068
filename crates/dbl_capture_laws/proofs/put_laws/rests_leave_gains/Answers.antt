use Rattle.dbl_capture_laws.proofs.Puts.{rests_leave_gains}
use Rattle.dbl_capture_laws.proofs.put_laws.rests_leave_gains.Goals as goal

pub returns : goal.returns
returns c = rests_leave_gains
