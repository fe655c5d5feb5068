use Rattle.dbl_faithful.proofs.Onward.{adds_go_on}
use Rattle.dbl_faithful.proofs.onward_laws.adds_go_on.Goals as goal

pub returns : goal.returns
returns c = adds_go_on
