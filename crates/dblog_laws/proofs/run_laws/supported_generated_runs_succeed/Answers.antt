use Rattle.dblog_laws.proofs.GeneratedLaws.{supported_generated_runs_succeed}
use Rattle.dblog_laws.proofs.run_laws.supported_generated_runs_succeed.Goals as goal

pub returns : goal.returns
returns g c = supported_generated_runs_succeed g.W.Disk g.T.Disk g.F.Disk
