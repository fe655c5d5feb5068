use Rattle.dbl_capture_laws.proofs.Puts.{steps_are_counted}
use Rattle.dbl_capture_laws.proofs.put_laws.steps_are_counted.Goals as goal

pub returns : goal.returns
returns c = steps_are_counted
