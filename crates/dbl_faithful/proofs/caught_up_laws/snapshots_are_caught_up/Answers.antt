use Rattle.dbl_faithful.proofs.CaughtUp.{snapshots_are_caught_up}
use Rattle.dbl_faithful.proofs.caught_up_laws.snapshots_are_caught_up.Goals as goal

pub returns : goal.returns
returns c = snapshots_are_caught_up
