use Rattle.dbl_consume_courses.proofs.SameLemmas.{new_same}
use Rattle.dbl_consume_courses.proofs.same_laws.new_courses_have_same_cells.Goals as goal

pub returns : goal.returns
returns c = new_same
