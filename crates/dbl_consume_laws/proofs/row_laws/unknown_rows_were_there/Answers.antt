use Rattle.dbl_consume_laws.proofs.Rows.{unknown_rows_were_there}
use Rattle.dbl_consume_laws.proofs.row_laws.unknown_rows_were_there.Goals as goal

pub returns : goal.returns
returns c = unknown_rows_were_there
