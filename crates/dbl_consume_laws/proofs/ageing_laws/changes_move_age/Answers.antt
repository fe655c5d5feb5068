use Rattle.dbl_consume_laws.proofs.Changes.{changes_move_age}
use Rattle.dbl_consume_laws.proofs.ageing_laws.changes_move_age.Goals as goal

pub returns : goal.returns
returns c = changes_move_age
