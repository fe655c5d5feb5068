use Rattle.dbl_faithful.proofs.Prints.{prints_are_caught}
use Rattle.dbl_faithful.proofs.step_laws.prints_are_caught.Goals as goal

pub returns : goal.returns
returns c = prints_are_caught
