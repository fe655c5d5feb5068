use Rattle.dbl_consume_courses.proofs.AgeLemmas.{none_known}
use Rattle.dbl_consume_courses.proofs.age_laws.nothing_is_known_at_first.Goals as goal

pub returns : goal.returns
returns c = none_known
