use Rattle.dbl_demo_wal_laws.proofs.ReadableLaws.{rows_readable}
use Rattle.dbl_demo_wal_laws.proofs.laws.rows_of_wals_are_readable.Goals as goal

pub returns : goal.returns
returns c = rows_readable
