use Rattle.dbl_consume_courses.proofs.GrowthLemmas.{goes_back}
use Rattle.dbl_consume_courses.proofs.growth_laws.own_age_goes_back.Goals as goal

pub returns : goal.returns
returns c = goes_back
