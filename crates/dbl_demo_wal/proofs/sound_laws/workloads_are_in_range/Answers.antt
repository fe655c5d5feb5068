use Rattle.dbl_demo_wal.proofs.RangeLaws.{workload_in_range}
use Rattle.dbl_demo_wal.proofs.sound_laws.workloads_are_in_range.Goals as goal

pub returns : goal.returns
returns c = workload_in_range
