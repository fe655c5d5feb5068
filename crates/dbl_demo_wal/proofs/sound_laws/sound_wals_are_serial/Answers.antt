use Rattle.dbl_demo_wal.proofs.SerialLaws.{sound_wals_are_serial}
use Rattle.dbl_demo_wal.proofs.sound_laws.sound_wals_are_serial.Goals as goal

pub returns : goal.returns
returns c = sound_wals_are_serial
