use Rattle.std.proofs.Common.{◌≡◌, ◌-◌}
use Rattle.dbl_record.specs.GroupReading.{record_at, many_at}
use Rattle.dbl_record.proofs.Many.{with_front}
use Rattle.dbl_record.proofs.groups.read_records.Given as goal

abbrev pub invariant-reading : goal.invariant-reading
invariant-reading l = with_front (record_at l.total) l.records.items (many_at (record_at l.total) (l.count - l.counter) l.rest) ≡ many_at (record_at l.total) l.count l.bytes
