use Rattle.dbl_gen.proofs.Sizes.{workloads_short}
use Rattle.dbl_gen.proofs.laws.workloads_are_short.Goals as goal

pub returns : goal.returns
returns c = workloads_short
