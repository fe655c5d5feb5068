use Rattle.dbl_capture_laws.proofs.Taken.{part_ready}
use Rattle.dbl_capture_laws.proofs.laws.parts_leave_it_ready.Goals as goal

pub returns : goal.returns
returns c = part_ready
