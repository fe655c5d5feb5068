use Rattle.dbl_capture_laws.proofs.Turning.{armed_ready}
use Rattle.dbl_capture_laws.proofs.laws.windows_leave_it_ready.Goals as goal

pub returns : goal.returns
returns c = armed_ready
