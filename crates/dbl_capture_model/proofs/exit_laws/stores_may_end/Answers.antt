use Rattle.dbl_capture_model.proofs.Ending.{stores_may_end}
use Rattle.dbl_capture_model.proofs.exit_laws.stores_may_end.Goals as goal

pub returns : goal.returns
returns c = stores_may_end
