use Rattle.dbl_consume_courses.proofs.SinceLemmas.{is_since}
use Rattle.dbl_consume_courses.proofs.since_laws.since_is_since.Goals as goal

pub returns : goal.returns
returns c = is_since
