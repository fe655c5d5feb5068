use Rattle.dbl_source_model.proofs.GrowthLemmas.{same_rows}
use Rattle.dbl_source_model.proofs.laws.grown_histories_keep_rows.Goals as goal

pub returns : goal.returns
returns c = same_rows
