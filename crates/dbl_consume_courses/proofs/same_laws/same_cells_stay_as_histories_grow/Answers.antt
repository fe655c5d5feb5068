use Rattle.dbl_consume_courses.proofs.SameLemmas.{same_stays}
use Rattle.dbl_consume_courses.proofs.same_laws.same_cells_stay_as_histories_grow.Goals as goal

pub returns : goal.returns
returns c = same_stays
