use Rattle.dbl_capture_model.proofs.Stepping.{messages_keep_going}
use Rattle.dbl_capture_model.proofs.step_laws.messages_keep_going.Goals as goal

pub returns : goal.returns
returns c = messages_keep_going
