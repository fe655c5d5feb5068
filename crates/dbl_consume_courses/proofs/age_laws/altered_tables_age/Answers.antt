use Rattle.dbl_consume_courses.proofs.AlteredLemmas.{altered}
use Rattle.dbl_consume_courses.proofs.age_laws.altered_tables_age.Goals as goal

pub returns : goal.returns
returns c = altered
