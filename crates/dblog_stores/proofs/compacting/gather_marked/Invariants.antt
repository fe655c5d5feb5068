use Rattle.std.proofs.Common.{◌≡◌, ◌≤◌, List, drop}
use Rattle.dbl_journal.specs.Stored.{count_of}
use Rattle.dbl_record.specs.declared.record.Record.{Record}
use Rattle.dbl_lines.proofs.PutLemmas.{IsPutting}
use Rattle.dbl_topic.specs.Held.{HoldsGroups}
use Rattle.dbl_journal.specs.Calls.{Keeps}
use Rattle.dblog_stores.specs.Compacting.{marked_lines}
use Rattle.dblog_stores.proofs.compacting.gather_marked.Given as goal

abbrev pub invariant-each : goal.invariant-each
invariant-each g l = record {
  live : l.log.live ≡ l.fn.log.live;
  count : count_of l.log ≡ count_of l.fn.log;
  keeps : Keeps g.D.Disk ⊥ l.fn.log.disk l.log.disk;
  holds : (groups : List (List Record)) → HoldsGroups g.D.Disk l.fn.log groups → HoldsGroups g.D.Disk l.log groups;
  puts : (groups : List (List Record)) → HoldsGroups g.D.Disk l.fn.log groups
      → IsPutting (marked_lines l.fn.marks groups) (marked_lines l.marks (drop l.number groups)) l.fn.lines l.lines
      (g.O.Output.written l.fn.output) (g.O.Output.written l.output);
  later : g.O.Output.faults l.fn.output ≤ g.O.Output.faults l.output;
}
