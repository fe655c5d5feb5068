use Rattle.dbl_window.proofs.LawLemmas.{selected_stays}
use Rattle.dbl_window.proofs.laws.selected_rows_stay.Goals as goal

pub returns : goal.returns
returns c = selected_stays
