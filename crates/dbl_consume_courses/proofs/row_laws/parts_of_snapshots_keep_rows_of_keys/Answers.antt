use Rattle.dbl_consume_courses.proofs.KeyRowLemmas.{snapshots_keep_rows_of_keys}
use Rattle.dbl_consume_courses.proofs.row_laws.parts_of_snapshots_keep_rows_of_keys.Goals as goal

pub returns : goal.returns
returns c = snapshots_keep_rows_of_keys
