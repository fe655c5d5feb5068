use Rattle.dbl_consume_courses.proofs.SinceLemmas.{less}
use Rattle.dbl_consume_courses.proofs.since_laws.later_starts_keep_less.Goals as goal

pub returns : goal.returns
returns c = less
