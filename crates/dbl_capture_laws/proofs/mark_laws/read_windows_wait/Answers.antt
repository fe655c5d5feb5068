use Rattle.dbl_capture_laws.proofs.Written.{read_windows_wait}
use Rattle.dbl_capture_laws.proofs.mark_laws.read_windows_wait.Goals as goal

pub returns : goal.returns
returns c = read_windows_wait
