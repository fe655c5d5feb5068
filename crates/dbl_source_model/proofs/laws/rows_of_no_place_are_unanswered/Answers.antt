use Rattle.dbl_source_model.proofs.SelectLemmas.{no_place_no_row}
use Rattle.dbl_source_model.proofs.laws.rows_of_no_place_are_unanswered.Goals as goal

pub returns : goal.returns
returns c = no_place_no_row
