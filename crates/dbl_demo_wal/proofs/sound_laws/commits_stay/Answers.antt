use Rattle.dbl_demo_wal.proofs.GrowthLaws.{commits_stay}
use Rattle.dbl_demo_wal.proofs.sound_laws.commits_stay.Goals as goal

pub returns : goal.returns
returns c = commits_stay
