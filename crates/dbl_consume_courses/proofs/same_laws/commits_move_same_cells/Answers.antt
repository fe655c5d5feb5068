use Rattle.dbl_consume_courses.proofs.SameLemmas.{commits_move_same}
use Rattle.dbl_consume_courses.proofs.same_laws.commits_move_same_cells.Goals as goal

pub returns : goal.returns
returns c = commits_move_same
