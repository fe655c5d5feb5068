use Rattle.dbl_capture_laws.proofs.Causes.{bytes_halt}
use Rattle.dbl_capture_laws.proofs.halt_laws.bytes_halt.Goals as goal

pub returns : goal.returns
returns c = bytes_halt
