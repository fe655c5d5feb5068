use Rattle.std.proofs.Common.{◌≡◌, replicate}
use Rattle.dbl_tables.proofs.truncating.copies.Given as goal

abbrev pub invariant-loop-place : goal.invariant-loop-place
invariant-loop-place l = l.names.items ≡ replicate l._place l.name
