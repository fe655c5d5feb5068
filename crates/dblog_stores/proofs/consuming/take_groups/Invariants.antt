use Rattle.std.proofs.Common.{◌≡◌, List}
use Rattle.dbl_journal.specs.Stored.{count_of}
use Rattle.dbl_record.specs.declared.record.Record.{Record}
use Rattle.dbl_topic.specs.Held.{HoldsGroups}
use Rattle.dbl_consume.specs.Holdings.{placeholder_of}
use Rattle.dblog_stores.proofs.Consumed.{IsConsuming}
use Rattle.dbl_journal.specs.Calls.{Keeps}
use Rattle.dblog_stores.proofs.consuming.take_groups.Given as goal

abbrev pub invariant-each : goal.invariant-each
invariant-each g l = record {
  live : l.log.live ≡ l.fn.log.live;
  count : count_of l.log ≡ count_of l.fn.log;
  keeps : Keeps g.D.Disk ⊥ l.fn.log.disk l.log.disk;
  holds : (groups : List (List Record)) → HoldsGroups g.D.Disk l.fn.log groups → HoldsGroups g.D.Disk l.log groups;
  consumes : (groups : List (List Record)) → HoldsGroups g.D.Disk l.fn.log groups → IsConsuming (placeholder_of l.fn.held) groups l.number l.held;
}
