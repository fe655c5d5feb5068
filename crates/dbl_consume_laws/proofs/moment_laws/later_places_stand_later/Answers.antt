use Rattle.dbl_consume_laws.proofs.Moments.{later_places}
use Rattle.dbl_consume_laws.proofs.moment_laws.later_places_stand_later.Goals as goal

pub returns : goal.returns
returns c = later_places
