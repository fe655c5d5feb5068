use Rattle.dbl_consume_courses.proofs.SinceLemmas.{whole}
use Rattle.dbl_consume_courses.proofs.since_laws.late_logs_are_whole.Goals as goal

pub returns : goal.returns
returns c = whole
