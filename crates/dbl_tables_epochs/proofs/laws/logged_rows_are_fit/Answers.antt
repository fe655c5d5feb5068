use Rattle.dbl_tables_epochs.proofs.FitLemmas.{logged_fit}
use Rattle.dbl_tables_epochs.proofs.laws.logged_rows_are_fit.Goals as goal

pub returns : goal.returns
returns c = logged_fit
