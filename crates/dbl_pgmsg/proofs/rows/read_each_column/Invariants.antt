use Rattle.std.proofs.Common.{◌≡◌, ◌-◌}
use Rattle.dbl_pgmsg.specs.Reading.{column_at, many_at}
use Rattle.dbl_pgmsg.proofs.Many.{with_front}
use Rattle.dbl_pgmsg.proofs.rows.read_each_column.Given as goal

abbrev pub invariant-loop : goal.invariant-loop
invariant-loop l = with_front (column_at l.total) l.columns.items (many_at (column_at l.total) (l.count - l.counter) l.rest) ≡ many_at (column_at l.total) l.count l.bytes
