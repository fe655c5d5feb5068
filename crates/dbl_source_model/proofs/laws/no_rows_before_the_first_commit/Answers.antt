use Rattle.dbl_source_model.proofs.SelectLemmas.{no_rows_yet}
use Rattle.dbl_source_model.proofs.laws.no_rows_before_the_first_commit.Goals as goal

pub returns : goal.returns
returns c = no_rows_yet
