use Rattle.dbl_consume_courses.proofs.GrowthLemmas.{parts_keep}
use Rattle.dbl_consume_courses.proofs.growth_laws.parts_of_commits_keep_own_age.Goals as goal

pub returns : goal.returns
returns c = parts_keep
