use Rattle.dbl_consume_courses.proofs.BetweenLemmas.{parts_between}
use Rattle.dbl_consume_courses.proofs.between_laws.parts_of_commits_keep_ages_between.Goals as goal

pub returns : goal.returns
returns c = parts_between
