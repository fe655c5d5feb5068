use Rattle.dblog_laws.proofs.GeneratedLaws.{generated_statuses_tell_budgets}
use Rattle.dblog_laws.proofs.run_laws.generated_statuses_tell_budgets.Goals as goal

pub returns : goal.returns
returns g c = generated_statuses_tell_budgets g.W.Disk g.T.Disk g.F.Disk
