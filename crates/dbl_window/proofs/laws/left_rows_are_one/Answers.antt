use Rattle.dbl_window.proofs.LawLemmas.{left_one}
use Rattle.dbl_window.proofs.laws.left_rows_are_one.Goals as goal

pub returns : goal.returns
returns c = left_one
