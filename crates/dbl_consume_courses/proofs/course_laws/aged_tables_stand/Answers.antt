use Rattle.dbl_consume_courses.proofs.Example.{aged_stands}
use Rattle.dbl_consume_courses.proofs.course_laws.aged_tables_stand.Goals as goal

pub returns : goal.returns
returns c = aged_stands
