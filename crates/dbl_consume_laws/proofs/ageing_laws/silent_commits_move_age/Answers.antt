use Rattle.dbl_consume_laws.proofs.Changes.{silent_commits_move_age}
use Rattle.dbl_consume_laws.proofs.ageing_laws.silent_commits_move_age.Goals as goal

pub returns : goal.returns
returns c = silent_commits_move_age
