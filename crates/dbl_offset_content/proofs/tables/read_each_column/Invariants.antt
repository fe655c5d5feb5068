use Rattle.std.proofs.Common.{◌≡◌, ◌-◌}
use Rattle.dbl_record.specs.GroupReading.{many_at}
use Rattle.dbl_offset_content.specs.Reading.{offset_column_at}
use Rattle.dbl_record.proofs.Many.{with_front}
use Rattle.dbl_offset_content.proofs.tables.read_each_column.Given as goal

abbrev pub invariant-loop : goal.invariant-loop
invariant-loop l = with_front offset_column_at l.columns.items (many_at offset_column_at (l.count - l.counter) l.rest) ≡ many_at offset_column_at l.count l.bytes
