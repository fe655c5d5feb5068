use Rattle.dbl_consume_courses.proofs.GrowthLemmas.{snapshots_keep}
use Rattle.dbl_consume_courses.proofs.growth_laws.parts_of_snapshots_keep_own_age.Goals as goal

pub returns : goal.returns
returns c = snapshots_keep
