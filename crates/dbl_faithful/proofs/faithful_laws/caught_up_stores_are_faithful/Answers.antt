use Rattle.dbl_faithful.proofs.Faithful.{caught_up_stores_are_faithful}
use Rattle.dbl_faithful.proofs.faithful_laws.caught_up_stores_are_faithful.Goals as goal

pub returns : goal.returns
returns c = caught_up_stores_are_faithful
