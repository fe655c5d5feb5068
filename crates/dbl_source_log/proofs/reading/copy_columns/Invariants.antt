use Rattle.std.proofs.Common.{◌≡◌, take}
use Rattle.dbl_source_log.proofs.reading.copy_columns.Given as goal

abbrev pub invariant-loop-column : goal.invariant-loop-column
invariant-loop-column l = l.copy.items ≡ take l.column-index l.column-items
