use Rattle.dbl_consume_laws.proofs.Moments.{events_stand}
use Rattle.dbl_consume_laws.proofs.moment_laws.events_stand_for_changes.Goals as goal

pub returns : goal.returns
returns c = events_stand
