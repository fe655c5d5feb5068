use Rattle.dbl_consume_courses.proofs.KeyRowLemmas.{no_rows_of_keys}
use Rattle.dbl_consume_courses.proofs.row_laws.no_records_have_rows_of_keys.Goals as goal

pub returns : goal.returns
returns c = no_rows_of_keys
