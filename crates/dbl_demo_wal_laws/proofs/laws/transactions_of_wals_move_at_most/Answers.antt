use Rattle.dbl_demo_wal_laws.proofs.MovedLaws.{transactions_move}
use Rattle.dbl_demo_wal_laws.proofs.laws.transactions_of_wals_move_at_most.Goals as goal

pub returns : goal.returns
returns c = transactions_move
