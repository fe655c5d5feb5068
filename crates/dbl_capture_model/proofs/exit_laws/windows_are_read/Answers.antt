use Rattle.dbl_capture_model.proofs.Completing.{windows_are_read}
use Rattle.dbl_capture_model.proofs.exit_laws.windows_are_read.Goals as goal

pub returns : goal.returns
returns c = windows_are_read
