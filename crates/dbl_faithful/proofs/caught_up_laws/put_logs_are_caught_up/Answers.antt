use Rattle.dbl_faithful.proofs.CaughtUp.{put_logs_are_caught_up}
use Rattle.dbl_faithful.proofs.caught_up_laws.put_logs_are_caught_up.Goals as goal

pub returns : goal.returns
returns c = put_logs_are_caught_up
