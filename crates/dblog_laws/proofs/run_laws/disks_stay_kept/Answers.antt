use Rattle.dblog_laws.proofs.SequenceLaws as laws
use Rattle.dblog_laws.proofs.run_laws.disks_stay_kept.Goals as goal

pub returns : goal.returns
returns g c = laws.disks_stay_kept g.W.Disk g.T.Disk g.F.Disk
