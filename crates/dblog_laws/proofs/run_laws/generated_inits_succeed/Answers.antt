use Rattle.dblog_laws.proofs.GeneratedLaws.{generated_inits_succeed}
use Rattle.dblog_laws.proofs.run_laws.generated_inits_succeed.Goals as goal

pub returns : goal.returns
returns g c = generated_inits_succeed g.W.Disk g.T.Disk g.F.Disk
