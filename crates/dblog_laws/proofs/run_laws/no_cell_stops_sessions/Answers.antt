use Rattle.dblog_laws.proofs.CellLaws as laws
use Rattle.dblog_laws.proofs.run_laws.no_cell_stops_sessions.Goals as goal

pub returns : goal.returns
returns g c = laws.no_cell_stops_sessions g.W.Disk g.T.Disk g.F.Disk g.met.W.Disk.seen_may_be_left g.met.T.Disk.seen_may_be_left g.met.F.Disk.seen_may_be_left
