use Rattle.std.proofs.Common.{length}
use Rattle.dbl_script.proofs.ColumnLemmas.{IsReading}
use Rattle.dbl_script.proofs.columns.all_columns.Given as goal

abbrev pub invariant-words : goal.invariant-words
invariant-words l = IsReading l.fn.words l.words l.columns.items l.key.items

abbrev pub decreases-words : goal.decreases-words
decreases-words l = length l.words
