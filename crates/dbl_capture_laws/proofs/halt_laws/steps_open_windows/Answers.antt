use Rattle.dbl_capture_laws.proofs.Moving.{steps_open_windows}
use Rattle.dbl_capture_laws.proofs.halt_laws.steps_open_windows.Goals as goal

pub returns : goal.returns
returns c = steps_open_windows
