use Rattle.dbl_capture_laws.proofs.Causes.{offsets_halt}
use Rattle.dbl_capture_laws.proofs.halt_laws.offsets_halt.Goals as goal

pub returns : goal.returns
returns c = offsets_halt
