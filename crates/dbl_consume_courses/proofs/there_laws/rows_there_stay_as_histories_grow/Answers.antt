use Rattle.dbl_consume_courses.proofs.ThereWindows.{there_stays}
use Rattle.dbl_consume_courses.proofs.there_laws.rows_there_stay_as_histories_grow.Goals as goal

pub returns : goal.returns
returns c = there_stays
