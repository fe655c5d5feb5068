use Rattle.dbl_consume_courses.proofs.CourseLemmas.{shows_rows}
use Rattle.dbl_consume_courses.proofs.course_laws.courses_show_rows.Goals as goal

pub returns : goal.returns
returns c = shows_rows
