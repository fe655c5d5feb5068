use Rattle.dbl_tables_laws.proofs.AcceptedLemmas.{changes_fit}
use Rattle.dbl_tables_laws.proofs.laws.open_changes_are_fit.Goals as goal

pub returns : goal.returns
returns c = changes_fit
