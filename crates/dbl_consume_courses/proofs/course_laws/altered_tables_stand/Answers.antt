use Rattle.dbl_consume_courses.proofs.Example.{stands}
use Rattle.dbl_consume_courses.proofs.course_laws.altered_tables_stand.Goals as goal

pub returns : goal.returns
returns c = stands
