use Rattle.dblog_laws.proofs.CommandLaws.{other_runs_succeed}
use Rattle.dblog_laws.proofs.run_laws.other_runs_succeed.Goals as goal

pub returns : goal.returns
returns c = other_runs_succeed
