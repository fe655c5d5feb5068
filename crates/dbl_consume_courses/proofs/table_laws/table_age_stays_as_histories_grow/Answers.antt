use Rattle.dbl_consume_courses.proofs.TableLemmas.{table_in_longer_histories}
use Rattle.dbl_consume_courses.proofs.table_laws.table_age_stays_as_histories_grow.Goals as goal

pub returns : goal.returns
returns c = table_in_longer_histories
