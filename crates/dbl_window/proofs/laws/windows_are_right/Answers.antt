use Rattle.dbl_window.proofs.RightLemmas.{windows_right}
use Rattle.dbl_window.proofs.laws.windows_are_right.Goals as goal

pub returns : goal.returns
returns c = windows_right
