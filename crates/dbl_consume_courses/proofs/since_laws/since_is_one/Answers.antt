use Rattle.dbl_consume_courses.proofs.SinceLemmas.{one}
use Rattle.dbl_consume_courses.proofs.since_laws.since_is_one.Goals as goal

pub returns : goal.returns
returns c = one
