use Rattle.dbl_demo_wal.proofs.SelectLemmas.{selects_answered}
use Rattle.dbl_demo_wal.proofs.select_laws.selects_are_answered.Goals as goal

pub returns : goal.returns
returns c = selects_answered
