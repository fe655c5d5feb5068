use Rattle.dbl_tables_epochs.proofs.ReopenLemmas.{altered_stand}
use Rattle.dbl_tables_epochs.proofs.laws.altered_stores_stand.Goals as goal

pub returns : goal.returns
returns c = altered_stand
