use Rattle.dbl_consume_laws.proofs.Changes.{commits_move_age}
use Rattle.dbl_consume_laws.proofs.ageing_laws.commits_move_age.Goals as goal

pub returns : goal.returns
returns c = commits_move_age
