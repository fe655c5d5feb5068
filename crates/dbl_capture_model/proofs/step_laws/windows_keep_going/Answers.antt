use Rattle.dbl_capture_model.proofs.Arming.{windows_keep_going}
use Rattle.dbl_capture_model.proofs.step_laws.windows_keep_going.Goals as goal

pub returns : goal.returns
returns c = windows_keep_going
