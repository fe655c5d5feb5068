use Rattle.dbl_consume_courses.proofs.SameLemmas.{parts_keep_same}
use Rattle.dbl_consume_courses.proofs.same_laws.parts_of_commits_keep_same_cells.Goals as goal

pub returns : goal.returns
returns c = parts_keep_same
