use Rattle.dbl_consume_courses.proofs.TableLemmas.{table_goes_back}
use Rattle.dbl_consume_courses.proofs.table_laws.table_age_goes_back.Goals as goal

pub returns : goal.returns
returns c = table_goes_back
