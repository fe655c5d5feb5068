use Rattle.std.proofs.Common.{◌+◌, ℕ, List, drop}
use Rattle.dbl_record.specs.declared.record.Record.{Record}
use Rattle.dblog_stores.specs.Compacting.{HasMarked, HasMarkedPart}
use Rattle.dblog_stores.proofs.compacting.mark_group.Given as goal

abbrev pub invariant-records : goal.invariant-records
invariant-records l = (placeholder : List ℕ) (groups : List (List Record)) → HasMarked placeholder (l.number + 1) groups l.fn.marking
    → HasMarkedPart placeholder l.number (drop l.index l.group.items) groups l.marking
