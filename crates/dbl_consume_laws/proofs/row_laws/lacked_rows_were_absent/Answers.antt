use Rattle.dbl_consume_laws.proofs.Rows.{lacked_rows_were_absent}
use Rattle.dbl_consume_laws.proofs.row_laws.lacked_rows_were_absent.Goals as goal

pub returns : goal.returns
returns c = lacked_rows_were_absent
