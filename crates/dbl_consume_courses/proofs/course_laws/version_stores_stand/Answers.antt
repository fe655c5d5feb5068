use Rattle.dbl_consume_courses.proofs.Example.{stores_stand}
use Rattle.dbl_consume_courses.proofs.course_laws.version_stores_stand.Goals as goal

pub returns : goal.returns
returns c = stores_stand
