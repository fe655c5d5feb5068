use Rattle.dbl_window.proofs.LawLemmas.{clears_leave}
use Rattle.dbl_window.proofs.laws.clears_leave_nothing.Goals as goal

pub returns : goal.returns
returns c = clears_leave
