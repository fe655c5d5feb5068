use Rattle.dbl_consume_courses.proofs.KeyRowLemmas.{parts_keep_rows_of_keys}
use Rattle.dbl_consume_courses.proofs.row_laws.parts_of_commits_keep_rows_of_keys.Goals as goal

pub returns : goal.returns
returns c = parts_keep_rows_of_keys
