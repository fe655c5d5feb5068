use Rattle.dbl_faithful.proofs.CaughtUp.{delivered_events_are_put}
use Rattle.dbl_faithful.proofs.caught_up_laws.delivered_events_are_put.Goals as goal

pub returns : goal.returns
returns c = delivered_events_are_put
