use Rattle.dbl_window.proofs.LawLemmas.{above_in_order}
use Rattle.dbl_window.proofs.laws.rows_above_are_in_order.Goals as goal

pub returns : goal.returns
returns c = above_in_order
