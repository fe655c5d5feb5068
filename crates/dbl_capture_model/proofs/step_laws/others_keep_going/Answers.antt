use Rattle.dbl_capture_model.proofs.Stepping.{others_keep_going}
use Rattle.dbl_capture_model.proofs.step_laws.others_keep_going.Goals as goal

pub returns : goal.returns
returns c = others_keep_going
