use Rattle.dblog_laws.proofs.BudgetStatuses.{statuses_tell_budgets}
use Rattle.dblog_laws.proofs.run_laws.statuses_tell_budgets.Goals as goal

pub returns : goal.returns
returns g c = λ old new. statuses_tell_budgets (g.W.Disk.may_leave old.wal) (g.T.Disk.may_leave old.topics) (g.F.Disk.may_leave old.offsets) (g.W.Disk.may_leave new.wal) (g.T.Disk.may_leave new.topics) (g.F.Disk.may_leave new.offsets)
