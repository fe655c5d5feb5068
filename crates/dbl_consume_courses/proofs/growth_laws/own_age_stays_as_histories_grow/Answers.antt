use Rattle.dbl_consume_courses.proofs.GrowthLemmas.{stays}
use Rattle.dbl_consume_courses.proofs.growth_laws.own_age_stays_as_histories_grow.Goals as goal

pub returns : goal.returns
returns c = stays
