use Rattle.std.proofs.Common.{◌≡◌, ◌-◌, length}
use Rattle.dbl_record.specs.GroupReading.{many_at}
use Rattle.dbl_offset_content.specs.Entries.{entries_of}
use Rattle.dbl_offset_content.specs.Reading.{table_cursor_at}
use Rattle.dbl_record.proofs.Many.{with_front}
use Rattle.dbl_offset_content.proofs.decoding.read_each_table.Given as goal

abbrev pub invariant-loop : goal.invariant-loop
invariant-loop l = record {
  read : with_front (table_cursor_at l.format) (entries_of l.infos.items l.versions.items l.cursors.items) (many_at (table_cursor_at l.format) (l.count - l.counter) l.rest) ≡ many_at (table_cursor_at l.format) l.count l.bytes;
  long : length l.cursors.items ≡ length l.infos.items;
  versions : length l.versions.items ≡ length l.infos.items;
}
