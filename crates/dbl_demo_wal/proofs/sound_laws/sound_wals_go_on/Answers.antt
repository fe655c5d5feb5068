use Rattle.dbl_demo_wal.proofs.GrowthLaws.{sound_wals_go_on}
use Rattle.dbl_demo_wal.proofs.sound_laws.sound_wals_go_on.Goals as goal

pub returns : goal.returns
returns c = sound_wals_go_on
