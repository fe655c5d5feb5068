use Rattle.dbl_capture_laws.proofs.Ended.{ends_are_stood}
use Rattle.dbl_capture_laws.proofs.carried_laws.ends_are_stood.Goals as goal

pub returns : goal.returns
returns c = ends_are_stood
