use Rattle.dbl_capture_model.proofs.Stepping.{confirms_keep_going}
use Rattle.dbl_capture_model.proofs.step_laws.confirms_keep_going.Goals as goal

pub returns : goal.returns
returns c = confirms_keep_going
