use Rattle.dbl_demo_wal.proofs.EntryLaws.{one_workload, no_workload}
use Rattle.dbl_demo_wal.proofs.entry_laws.workloads_are_told_apart.Goals as goal

pub returns-clause-one : goal.returns-clause-one
returns-clause-one c = one_workload

pub returns-clause-apart : goal.returns-clause-apart
returns-clause-apart c = no_workload
