use Rattle.dbl_model_table.proofs.Capturable.{capturable}
use Rattle.dbl_demo_workload.proofs.OneOfLaws.{workload_or_refused}
use Rattle.dbl_demo_workload.proofs.RefusalLaws.{not_refused, one_refused}
use Rattle.dbl_demo_workload.proofs.laws.workloads_or_refusals.Goals as goal

pub returns-clause-one : goal.returns-clause-one
returns-clause-one c = one_refused capturable

pub returns-clause-not_both : goal.returns-clause-not_both
returns-clause-not_both c = not_refused capturable

pub returns-clause-one_of : goal.returns-clause-one_of
returns-clause-one_of c = workload_or_refused capturable
