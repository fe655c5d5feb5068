use Rattle.dbl_faithful.proofs.Caught.{starts_are_caught}
use Rattle.dbl_faithful.proofs.step_laws.starts_are_caught.Goals as goal

pub returns : goal.returns
returns c = starts_are_caught
