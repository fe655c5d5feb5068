use Rattle.dblog_laws.proofs.CommandLaws.{printed_workloads_succeed}
use Rattle.dblog_laws.proofs.run_laws.printed_workloads_succeed.Goals as goal

pub returns : goal.returns
returns c = printed_workloads_succeed
