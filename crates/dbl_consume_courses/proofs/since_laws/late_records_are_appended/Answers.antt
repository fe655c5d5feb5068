use Rattle.dbl_consume_courses.proofs.SinceLemmas.{appended}
use Rattle.dbl_consume_courses.proofs.since_laws.late_records_are_appended.Goals as goal

pub returns : goal.returns
returns c = appended
