use Rattle.dbl_capture_model.proofs.Sinks.{sinks_may_end}
use Rattle.dbl_capture_model.proofs.exit_laws.sinks_may_end.Goals as goal

pub returns : goal.returns
returns c = sinks_may_end
