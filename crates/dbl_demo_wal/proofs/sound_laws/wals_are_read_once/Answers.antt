use Rattle.dbl_demo_wal.proofs.WalLaws.{one_workload, one_wal}
use Rattle.dbl_demo_wal.proofs.sound_laws.wals_are_read_once.Goals as goal

pub returns-clause-workload : goal.returns-clause-workload
returns-clause-workload c = one_workload

pub returns-clause-wal : goal.returns-clause-wal
returns-clause-wal c = one_wal
