use Rattle.dbl_consume_courses.proofs.CourseLemmas.{goes_on}
use Rattle.dbl_consume_courses.proofs.course_laws.courses_go_on.Goals as goal

pub returns : goal.returns
returns c = goes_on
