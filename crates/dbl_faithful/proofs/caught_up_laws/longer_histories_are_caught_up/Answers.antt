use Rattle.dbl_faithful.proofs.CaughtUp.{longer_histories_are_caught_up}
use Rattle.dbl_faithful.proofs.caught_up_laws.longer_histories_are_caught_up.Goals as goal

pub returns : goal.returns
returns c = longer_histories_are_caught_up
