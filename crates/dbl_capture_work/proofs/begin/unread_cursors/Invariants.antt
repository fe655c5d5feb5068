use Rattle.dbl_capture_work.specs.Begins.{AreUnread}
use Rattle.dbl_capture_work.proofs.begin.unread_cursors.Given as goal

abbrev pub invariant-loop-table : goal.invariant-loop-table
invariant-loop-table l = AreUnread l._table l.cursors.items
