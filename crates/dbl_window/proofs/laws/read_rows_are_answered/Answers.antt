use Rattle.dbl_window.proofs.ReadLemmas.{read_answered}
use Rattle.dbl_window.proofs.laws.read_rows_are_answered.Goals as goal

pub returns : goal.returns
returns c = read_answered
