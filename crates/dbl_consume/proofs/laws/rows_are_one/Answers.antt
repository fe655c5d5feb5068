use Rattle.dbl_consume.proofs.RowLemmas.{rows_are_one}
use Rattle.dbl_consume.proofs.laws.rows_are_one.Goals as goal

pub returns : goal.returns
returns c = rows_are_one
