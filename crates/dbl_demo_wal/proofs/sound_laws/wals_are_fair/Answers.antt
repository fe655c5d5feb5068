use Rattle.dbl_demo_wal.proofs.FitLaws.{wal_is_fair}
use Rattle.dbl_demo_wal.proofs.sound_laws.wals_are_fair.Goals as goal

pub returns : goal.returns
returns c = wal_is_fair
