use Rattle.dbl_consume_courses.proofs.ThereWindows.{go_back}
use Rattle.dbl_consume_courses.proofs.there_laws.rows_there_go_back.Goals as goal

pub returns : goal.returns
returns c = go_back
