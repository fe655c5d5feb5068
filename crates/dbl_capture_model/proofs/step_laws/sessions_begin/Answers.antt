use Rattle.dbl_capture_model.proofs.Starting.{sessions_begin}
use Rattle.dbl_capture_model.proofs.step_laws.sessions_begin.Goals as goal

pub returns : goal.returns
returns c = sessions_begin
