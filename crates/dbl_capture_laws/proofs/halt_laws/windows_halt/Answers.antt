use Rattle.dbl_capture_laws.proofs.Causes.{windows_halt}
use Rattle.dbl_capture_laws.proofs.halt_laws.windows_halt.Goals as goal

pub returns : goal.returns
returns c = windows_halt
