use Rattle.dbl_consume_courses.proofs.TableWindows.{versions_reach}
use Rattle.dbl_consume_courses.proofs.table_laws.versions_reach_their_top.Goals as goal

pub returns : goal.returns
returns c = versions_reach
