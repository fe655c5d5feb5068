use Rattle.dbl_window.proofs.LawLemmas.{selected_given}
use Rattle.dbl_window.proofs.laws.selected_rows_were_given.Goals as goal

pub returns : goal.returns
returns c = selected_given
