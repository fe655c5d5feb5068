use Rattle.dbl_consume_courses.proofs.AgeLemmas.{own}
use Rattle.dbl_consume_courses.proofs.age_laws.aged_courses_are_own.Goals as goal

pub returns : goal.returns
returns c = own
