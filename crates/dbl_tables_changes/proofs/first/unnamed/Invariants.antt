use Rattle.std.proofs.Common.{◌≡◌, None, replicate}
use Rattle.dbl_tables_changes.proofs.first.unnamed.Given as goal

abbrev pub invariant-loop-column : goal.invariant-loop-column
invariant-loop-column l = l.named.items ≡ replicate l._column None
