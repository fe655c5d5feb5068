use Rattle.dbl_tables_epochs.proofs.AlikeLemmas.{reopened_alike}
use Rattle.dbl_tables_epochs.proofs.laws.reopened_acts_are_alike.Goals as goal

pub returns : goal.returns
returns c = reopened_alike
