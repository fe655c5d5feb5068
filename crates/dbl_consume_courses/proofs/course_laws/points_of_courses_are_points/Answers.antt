use Rattle.dbl_consume_courses.proofs.CoursePoints.{points_are}
use Rattle.dbl_consume_courses.proofs.course_laws.points_of_courses_are_points.Goals as goal

pub returns : goal.returns
returns c = points_are
