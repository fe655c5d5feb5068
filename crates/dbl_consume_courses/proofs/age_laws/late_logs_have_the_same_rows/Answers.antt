use Rattle.dbl_consume_courses.proofs.AgeLemmas.{same_rows}
use Rattle.dbl_consume_courses.proofs.age_laws.late_logs_have_the_same_rows.Goals as goal

pub returns : goal.returns
returns c = same_rows
