use Rattle.dblog_laws.proofs.MadeLaws.{generated_budgets_suffice}
use Rattle.dblog_laws.proofs.run_laws.generated_budgets_suffice.Goals as goal

pub returns : goal.returns
returns g c = generated_budgets_suffice g.W.Disk g.T.Disk g.F.Disk
