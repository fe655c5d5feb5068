use Rattle.dbl_capture_laws.proofs.Causes.{sources_stood_at_offsets}
use Rattle.dbl_capture_laws.proofs.halt_laws.sources_stood_at_offsets.Goals as goal

pub returns : goal.returns
returns c = sources_stood_at_offsets
