use Rattle.dbl_window.proofs.LeftLemmas.{others_leave}
use Rattle.dbl_window.proofs.laws.other_tables_leave_rows.Goals as goal

pub returns : goal.returns
returns c = others_leave
