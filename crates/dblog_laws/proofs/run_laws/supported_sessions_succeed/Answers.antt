use Rattle.dblog_laws.proofs.SessionLaws.{supported_sessions_succeed}
use Rattle.dblog_laws.proofs.run_laws.supported_sessions_succeed.Goals as goal

pub returns : goal.returns
returns g c = λ old new. supported_sessions_succeed (g.W.Disk.may_leave old.wal) (g.T.Disk.may_leave old.topics) (g.W.Disk.may_leave new.wal) (g.T.Disk.may_leave new.topics) (g.F.Disk.may_leave new.offsets)
