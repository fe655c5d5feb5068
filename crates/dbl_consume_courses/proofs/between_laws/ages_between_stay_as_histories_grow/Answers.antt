use Rattle.dbl_consume_courses.proofs.BetweenLemmas.{histories_between}
use Rattle.dbl_consume_courses.proofs.between_laws.ages_between_stay_as_histories_grow.Goals as goal

pub returns : goal.returns
returns c = histories_between
