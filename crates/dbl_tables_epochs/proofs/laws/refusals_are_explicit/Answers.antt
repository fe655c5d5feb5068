use Rattle.dbl_tables_epochs.proofs.ExplicitLemmas.{explicit}
use Rattle.dbl_tables_epochs.proofs.laws.refusals_are_explicit.Goals as goal

pub returns : goal.returns
returns c = explicit
