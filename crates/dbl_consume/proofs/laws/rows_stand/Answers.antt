use Rattle.dbl_consume.proofs.StandLemmas.{rows_stand}
use Rattle.dbl_consume.proofs.laws.rows_stand.Goals as goal

pub returns : goal.returns
returns c = rows_stand
