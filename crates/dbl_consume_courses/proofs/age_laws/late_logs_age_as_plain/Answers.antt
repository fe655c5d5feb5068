use Rattle.dbl_consume_courses.proofs.AgeLemmas.{late_plain}
use Rattle.dbl_consume_courses.proofs.age_laws.late_logs_age_as_plain.Goals as goal

pub returns : goal.returns
returns c = late_plain
