use Rattle.dbl_capture_laws.proofs.Keeping.{settled_ready}
use Rattle.dbl_capture_laws.proofs.laws.stores_leave_it_ready.Goals as goal

pub returns : goal.returns
returns c = settled_ready
