use Rattle.std.proofs.Common.{◌≡◌, ◌-◌}
use Rattle.std.specs.Int.{w32}
use Rattle.dbl_record.specs.GroupReading.{number_at, many_at}
use Rattle.dbl_record.proofs.Many.{with_front}
use Rattle.dbl_offset_content.proofs.tables.read_each_place.Given as goal

abbrev pub invariant-loop : goal.invariant-loop
invariant-loop l = with_front (number_at w32 0) l.places.items (many_at (number_at w32 0) (l.count - l.counter) l.rest) ≡ many_at (number_at w32 0) l.count l.bytes
