use Rattle.dbl_consume_courses.proofs.KeyRowLemmas.{have_rows}
use Rattle.dbl_consume_courses.proofs.row_laws.altered_tables_have_rows.Goals as goal

pub returns : goal.returns
returns c = have_rows
