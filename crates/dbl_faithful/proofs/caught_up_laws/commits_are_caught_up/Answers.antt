use Rattle.dbl_faithful.proofs.CaughtUp.{commits_are_caught_up}
use Rattle.dbl_faithful.proofs.caught_up_laws.commits_are_caught_up.Goals as goal

pub returns : goal.returns
returns c = commits_are_caught_up
