use Rattle.dbl_window.proofs.LeftLemmas.{left_goes_on}
use Rattle.dbl_window.proofs.laws.left_rows_go_on.Goals as goal

pub returns : goal.returns
returns c = left_goes_on
