use Rattle.dbl_consume_courses.proofs.BetweenLemmas.{commits_between}
use Rattle.dbl_consume_courses.proofs.between_laws.commits_move_ages_between.Goals as goal

pub returns : goal.returns
returns c = commits_between
