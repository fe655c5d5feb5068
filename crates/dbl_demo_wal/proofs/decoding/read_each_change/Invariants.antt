use Rattle.std.proofs.Common.{◌≡◌, ◌-◌}
use Rattle.dbl_record.specs.GroupReading.{many_at}
use Rattle.dbl_record.proofs.Many.{with_front}
use Rattle.dbl_demo_wal.specs.Reading.{change_at}
use Rattle.dbl_demo_wal.proofs.decoding.read_each_change.Given as goal

abbrev pub invariant-reading : goal.invariant-reading
invariant-reading l = with_front change_at l.messages.items (many_at change_at (l.count - l.counter) l.rest) ≡ many_at change_at l.count l.bytes
