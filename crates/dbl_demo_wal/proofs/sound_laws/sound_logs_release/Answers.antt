use Rattle.dbl_demo_wal.proofs.ReleaseLaws.{logs_release}
use Rattle.dbl_demo_wal.proofs.sound_laws.sound_logs_release.Goals as goal

pub returns : goal.returns
returns c = logs_release
