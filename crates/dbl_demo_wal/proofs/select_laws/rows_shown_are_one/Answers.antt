use Rattle.dbl_demo_wal.proofs.SelectLemmas.{rows_one}
use Rattle.dbl_demo_wal.proofs.select_laws.rows_shown_are_one.Goals as goal

pub returns : goal.returns
returns c = rows_one
