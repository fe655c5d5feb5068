use Rattle.dbl_consume_courses.proofs.PlainLemmas.{plain_age}
use Rattle.dbl_consume_courses.proofs.age_laws.plain_tables_age.Goals as goal

pub returns : goal.returns
returns c = plain_age
