use Rattle.dbl_gen.proofs.Accepted.{workload_read}
use Rattle.dbl_gen.proofs.laws.workloads_are_read.Goals as goal

pub returns : goal.returns
returns c = workload_read
