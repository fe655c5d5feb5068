use Rattle.std.proofs.Common.{◌≡◌, List, drop}
use Rattle.dbl_journal.specs.Stored.{count_of}
use Rattle.dbl_record.specs.declared.record.Record.{Record}
use Rattle.dbl_topic.specs.Held.{HoldsGroups}
use Rattle.dbl_journal.specs.Calls.{Keeps}
use Rattle.dblog_stores.specs.Compacting.{HasMarked}
use Rattle.dblog_stores.proofs.compacting.mark_groups.Given as goal

abbrev pub invariant-each : goal.invariant-each
invariant-each g l = record {
  live : l.log.live ≡ l.fn.log.live;
  count : count_of l.log ≡ count_of l.fn.log;
  keeps : Keeps g.D.Disk ⊥ l.fn.log.disk l.log.disk;
  holds : (groups : List (List Record)) → HoldsGroups g.D.Disk l.fn.log groups → HoldsGroups g.D.Disk l.log groups;
  marked : (groups : List (List Record)) → HoldsGroups g.D.Disk l.fn.log groups → HasMarked l.placeholder l.number (drop l.number groups) l.marking;
}
