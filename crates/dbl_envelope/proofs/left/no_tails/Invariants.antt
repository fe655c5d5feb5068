use Rattle.std.proofs.Common.{◌≡◌, replicate, None}
use Rattle.dbl_envelope.proofs.left.no_tails.Given as goal

abbrev pub invariant-loop-table : goal.invariant-loop-table
invariant-loop-table l = l.tails.items ≡ replicate l._table None
