use Rattle.dbl_capture_laws.proofs.Puts.{opens_leave_gains}
use Rattle.dbl_capture_laws.proofs.put_laws.opens_leave_gains.Goals as goal

pub returns : goal.returns
returns c = opens_leave_gains
