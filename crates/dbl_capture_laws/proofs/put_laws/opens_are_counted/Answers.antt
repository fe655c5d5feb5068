use Rattle.dbl_capture_laws.proofs.Puts.{opens_are_counted}
use Rattle.dbl_capture_laws.proofs.put_laws.opens_are_counted.Goals as goal

pub returns : goal.returns
returns c = opens_are_counted
