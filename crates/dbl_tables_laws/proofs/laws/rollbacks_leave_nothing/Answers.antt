use Rattle.dbl_tables_laws.proofs.SeenLemmas.{leaves_nothing}
use Rattle.dbl_tables_laws.proofs.laws.rollbacks_leave_nothing.Goals as goal

pub returns : goal.returns
returns c = leaves_nothing
