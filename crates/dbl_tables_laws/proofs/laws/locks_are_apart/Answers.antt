use Rattle.dbl_tables_laws.proofs.AcceptedLemmas.{locks_apart}
use Rattle.dbl_tables_laws.proofs.laws.locks_are_apart.Goals as goal

pub returns : goal.returns
returns c = locks_apart
