use Rattle.dbl_faithful.proofs.CaughtUp.{caught_up_logs_are_right}
use Rattle.dbl_faithful.proofs.caught_up_laws.caught_up_logs_are_right.Goals as goal

pub returns : goal.returns
returns c = caught_up_logs_are_right
