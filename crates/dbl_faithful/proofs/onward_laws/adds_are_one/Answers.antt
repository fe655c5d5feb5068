use Rattle.dbl_faithful.proofs.Onward.{adds_are_one}
use Rattle.dbl_faithful.proofs.onward_laws.adds_are_one.Goals as goal

pub returns : goal.returns
returns c = adds_are_one
