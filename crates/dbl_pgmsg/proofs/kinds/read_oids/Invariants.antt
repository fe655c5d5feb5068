use Rattle.std.proofs.Common.{◌≡◌, ◌-◌}
use Rattle.std.specs.Int.{w32}
use Rattle.dbl_pgmsg.specs.Reading.{number_at, many_at}
use Rattle.dbl_pgmsg.proofs.Many.{with_front}
use Rattle.dbl_pgmsg.proofs.kinds.read_oids.Given as goal

abbrev pub invariant-loop : goal.invariant-loop
invariant-loop l = with_front (number_at w32 l.total) l.oids.items (many_at (number_at w32 l.total) (l.count - l.counter) l.rest) ≡ many_at (number_at w32 l.total) l.count l.bytes
