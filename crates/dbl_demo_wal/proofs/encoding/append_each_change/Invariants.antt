use Rattle.std.proofs.Common.{◌≡◌, ◌++◌, drop}
use Rattle.std.specs.List.{flat_map}
use Rattle.dbl_demo_wal.specs.Entries.{change_form}
use Rattle.dbl_demo_wal.proofs.encoding.append_each_change.Given as goal

abbrev pub invariant-loop-message : goal.invariant-loop-message
invariant-loop-message l = l.out.items ++ flat_map change_form (drop l.message-index l.messages) ≡ l.fn.out.items ++ flat_map change_form l.messages
