use Rattle.dbl_demo_wal.proofs.LogLeftLemmas.{one_left}
use Rattle.dbl_demo_wal.proofs.log_laws.one_wal_is_left.Goals as goal

pub returns : goal.returns
returns g c = one_left g.D.Disk
