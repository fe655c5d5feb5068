use Rattle.dbl_capture_laws.proofs.Written.{steps_close_windows}
use Rattle.dbl_capture_laws.proofs.mark_laws.steps_close_windows.Goals as goal

pub returns : goal.returns
returns c = steps_close_windows
