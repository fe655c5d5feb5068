use Rattle.dbl_capture_laws.proofs.Taken.{taken_ready}
use Rattle.dbl_capture_laws.proofs.laws.messages_leave_it_ready.Goals as goal

pub returns : goal.returns
returns c = taken_ready
