use Rattle.dblog_laws.proofs.BudgetLaws.{generous_budgets_suffice}
use Rattle.dblog_laws.proofs.run_laws.generous_budgets_suffice.Goals as goal

pub returns : goal.returns
returns g c = λ old new. generous_budgets_suffice (g.W.Disk.may_leave old.wal) (g.T.Disk.may_leave old.topics) (g.F.Disk.may_leave old.offsets) (g.W.Disk.may_leave new.wal) (g.T.Disk.may_leave new.topics) (g.F.Disk.may_leave new.offsets)
