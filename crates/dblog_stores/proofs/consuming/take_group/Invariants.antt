use Rattle.std.proofs.Common.{◌≡◌, ◌++◌, List, drop, take}
use Rattle.dbl_record.specs.Acts.{Reading}
use Rattle.dbl_consume.specs.Holdings.{Took, placeholder_of}
use Rattle.dblog_stores.specs.Answers.{takes}
use Rattle.dblog_stores.specs.Consuming.{readings_of}
use Rattle.dblog_stores.proofs.consuming.take_group.Given as goal

abbrev pub invariant-records : goal.invariant-records
invariant-records l = record {
  took : (taken : List Reading) → Took taken l.fn.held → Took (taken ++ readings_of (take l.item-index l.group.items)) l.held;
  same : placeholder_of l.held ≡ placeholder_of l.fn.held;
  takes : takes (placeholder_of l.fn.held) l.group.items ≡ takes (placeholder_of l.fn.held) (drop l.item-index l.group.items);
}
