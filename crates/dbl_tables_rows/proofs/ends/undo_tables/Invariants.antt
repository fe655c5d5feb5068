use Rattle.std.specs.Prelude.{nat_lt}
use Rattle.dbl_tables_rows.specs.Changing.{IsUndone}
use Rattle.dbl_tables_rows.specs.Ends.{EachChanges}
use Rattle.dbl_tables_rows.proofs.RowLemmas.{SoFar}
use Rattle.dbl_tables_rows.proofs.ends.undo_tables.Given as goal

abbrev pub invariant-loop-rows : goal.invariant-loop-rows
invariant-loop-rows l = EachChanges (λ p old new. SoFar (nat_lt p l.rows-index) (IsUndone l.session) old new) l.fn.tables.items l.rows-items
