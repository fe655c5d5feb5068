use Rattle.dbl_faithful.proofs.Prints.{all_prints_are_caught}
use Rattle.dbl_faithful.proofs.step_laws.all_prints_are_caught.Goals as goal

pub returns : goal.returns
returns c = all_prints_are_caught
