use Rattle.dbl_source_model.proofs.SelectLemmas.{standing_row}
use Rattle.dbl_source_model.proofs.laws.standing_rows_are_answered.Goals as goal

pub returns : goal.returns
returns c = standing_row
