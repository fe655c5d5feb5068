use Rattle.dbl_capture_laws.proofs.Carried.{commits_leave_it_read}
use Rattle.dbl_capture_laws.proofs.carried_laws.commits_leave_it_read.Goals as goal

pub returns : goal.returns
returns c = commits_leave_it_read
