use Rattle.dblog_laws.proofs.MoveLaws as laws
use Rattle.dblog_laws.proofs.run_laws.only_unsent_moves_stop_sessions.Goals as goal

pub returns : goal.returns
returns g c = laws.only_unsent_moves_stop_sessions g.W.Disk g.T.Disk g.F.Disk g.met.W.Disk.seen_may_be_left g.met.T.Disk.seen_may_be_left g.met.F.Disk.seen_may_be_left
