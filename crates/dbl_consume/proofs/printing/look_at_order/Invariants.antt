use Rattle.dbl_consume.specs.RowTexts.{AreInOrder}
use Rattle.dbl_consume.proofs.printing.look_at_order.Given as goal

abbrev pub invariant-loop-entry : goal.invariant-loop-entry
invariant-loop-entry l = AreInOrder l.entry-iterator → AreInOrder l.tables.entries
