use Rattle.dbl_faithful.proofs.CaughtUp.{starts_are_caught_up}
use Rattle.dbl_faithful.proofs.caught_up_laws.starts_are_caught_up.Goals as goal

pub returns : goal.returns
returns c = starts_are_caught_up
