use Rattle.dbl_consume_courses.proofs.SameLemmas.{snapshots_keep_same}
use Rattle.dbl_consume_courses.proofs.same_laws.parts_of_snapshots_keep_same_cells.Goals as goal

pub returns : goal.returns
returns c = snapshots_keep_same
