use Rattle.dbl_tables_laws.proofs.MovedLemmas.{changes_move}
use Rattle.dbl_tables_laws.proofs.laws.sent_changes_move_at_most.Goals as goal

pub returns : goal.returns
returns c = changes_move
