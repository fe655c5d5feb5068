use Rattle.dbl_capture_model.proofs.Ending.{sources_may_end}
use Rattle.dbl_capture_model.proofs.exit_laws.sources_may_end.Goals as goal

pub returns : goal.returns
returns c = sources_may_end
