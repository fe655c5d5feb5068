use Rattle.dbl_capture_model.proofs.Stepping.{stores_keep_going}
use Rattle.dbl_capture_model.proofs.step_laws.stores_keep_going.Goals as goal

pub returns : goal.returns
returns c = stores_keep_going
