use Rattle.dbl_consume_courses.proofs.ThereLemmas.{commits_move_there}
use Rattle.dbl_consume_courses.proofs.there_laws.commits_move_rows_there.Goals as goal

pub returns : goal.returns
returns c = commits_move_there
