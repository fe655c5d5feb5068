use Rattle.dbl_faithful.proofs.Faithful.{faithful_stores_are_caught_up}
use Rattle.dbl_faithful.proofs.faithful_laws.faithful_stores_are_caught_up.Goals as goal

pub returns : goal.returns
returns c = faithful_stores_are_caught_up
