use Rattle.dbl_source_model.proofs.GrowthLemmas.{rows_are}
use Rattle.dbl_source_model.proofs.laws.rows_up_to_are_rows.Goals as goal

pub returns : goal.returns
returns c = rows_are
