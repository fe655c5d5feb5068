use Rattle.dbl_gen_laws.proofs.RunLaws.{can_run}
use Rattle.dbl_gen_laws.proofs.laws.generated_workloads_can_run.Goals as goal

pub returns : goal.returns
returns c = can_run
