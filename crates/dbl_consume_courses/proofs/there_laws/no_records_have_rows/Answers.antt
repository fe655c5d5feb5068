use Rattle.dbl_consume_courses.proofs.ThereLemmas.{no_rows_there}
use Rattle.dbl_consume_courses.proofs.there_laws.no_records_have_rows.Goals as goal

pub returns : goal.returns
returns c = no_rows_there
