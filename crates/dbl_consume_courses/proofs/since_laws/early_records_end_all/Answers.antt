use Rattle.dbl_consume_courses.proofs.SinceLemmas.{ended}
use Rattle.dbl_consume_courses.proofs.since_laws.early_records_end_all.Goals as goal

pub returns : goal.returns
returns c = ended
