use Rattle.dbl_capture_laws.proofs.Taken.{stepped_ready}
use Rattle.dbl_capture_laws.proofs.laws.commits_leave_it_ready.Goals as goal

pub returns : goal.returns
returns c = stepped_ready
