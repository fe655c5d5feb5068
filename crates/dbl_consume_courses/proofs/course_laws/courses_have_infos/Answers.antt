use Rattle.dbl_consume_courses.proofs.CourseLemmas.{has_infos}
use Rattle.dbl_consume_courses.proofs.course_laws.courses_have_infos.Goals as goal

pub returns : goal.returns
returns c = has_infos
