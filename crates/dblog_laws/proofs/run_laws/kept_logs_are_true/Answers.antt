use Rattle.dblog_laws.proofs.KeptLogLaws as laws
use Rattle.dblog_laws.proofs.run_laws.kept_logs_are_true.Goals as goal

pub returns : goal.returns
returns g c = laws.kept_logs_are_true g.W.Disk g.T.Disk g.F.Disk
