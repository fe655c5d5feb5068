use Rattle.dbl_capture_laws.proofs.Carried.{windows_let_it_rest}
use Rattle.dbl_capture_laws.proofs.carried_laws.windows_let_it_rest.Goals as goal

pub returns : goal.returns
returns c = windows_let_it_rest
