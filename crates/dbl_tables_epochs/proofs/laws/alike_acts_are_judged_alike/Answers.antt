use Rattle.dbl_tables_epochs.proofs.AlikeLemmas.{alike_judged}
use Rattle.dbl_tables_epochs.proofs.laws.alike_acts_are_judged_alike.Goals as goal

pub returns : goal.returns
returns c = alike_judged
