use Rattle.dbl_consume_courses.proofs.CourseLemmas.{begins_anew}
use Rattle.dbl_consume_courses.proofs.course_laws.courses_begin_anew.Goals as goal

pub returns : goal.returns
returns c = begins_anew
