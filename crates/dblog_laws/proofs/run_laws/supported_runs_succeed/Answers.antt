use Rattle.dblog_laws.proofs.SessionLaws.{supported_runs_succeed}
use Rattle.dblog_laws.proofs.run_laws.supported_runs_succeed.Goals as goal

pub returns : goal.returns
returns g c = λ old new. supported_runs_succeed (g.W.Disk.may_leave old.wal) (g.T.Disk.may_leave old.topics) (g.F.Disk.may_leave old.offsets) (g.W.Disk.may_leave new.wal) (g.T.Disk.may_leave new.topics) (g.F.Disk.may_leave new.offsets)
