use Rattle.dbl_consume_courses.proofs.GrowthLemmas.{commits_move}
use Rattle.dbl_consume_courses.proofs.growth_laws.commits_move_own_age.Goals as goal

pub returns : goal.returns
returns c = commits_move
