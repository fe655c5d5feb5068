use Rattle.dbl_capture_laws.proofs.Causes.{sources_stood_at_halts}
use Rattle.dbl_capture_laws.proofs.halt_laws.sources_stood_at_halts.Goals as goal

pub returns : goal.returns
returns c = sources_stood_at_halts
