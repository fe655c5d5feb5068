use Rattle.std.proofs.Common.{◌≡◌, ◌-◌}
use Rattle.dbl_pgmsg.specs.Reading.{cell_at, many_at}
use Rattle.dbl_pgmsg.proofs.Many.{with_front}
use Rattle.dbl_pgmsg.proofs.rows.read_cells.Given as goal

abbrev pub invariant-loop : goal.invariant-loop
invariant-loop l = with_front (cell_at l.total) l.cells.items (many_at (cell_at l.total) (l.count - l.counter) l.rest) ≡ many_at (cell_at l.total) l.count l.bytes
