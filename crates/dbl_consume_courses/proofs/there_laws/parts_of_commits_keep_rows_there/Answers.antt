use Rattle.dbl_consume_courses.proofs.ThereLemmas.{parts_keep_there}
use Rattle.dbl_consume_courses.proofs.there_laws.parts_of_commits_keep_rows_there.Goals as goal

pub returns : goal.returns
returns c = parts_keep_there
