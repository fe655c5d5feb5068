use Rattle.std.proofs.Common.{◌≡◌, ◌≤◌, ℕ, List, Some, take}
use Rattle.dbl_journal.specs.Stored.{Lists, count_of}
use Rattle.dbl_record.specs.declared.record.Record.{Record}
use Rattle.dbl_topic.specs.Logs.{AreLogEntries}
use Rattle.dbl_topic.proofs.log.check_entries.Given as goal

abbrev pub invariant-entries : goal.invariant-entries
invariant-entries g l = record {
  live : l.journal.live ≡ l.fn.journal.live;
  count : count_of l.journal ≡ count_of l.fn.journal;
  lists : (entries : List (List ℕ)) → Lists g.D.Disk l.fn.journal entries → Lists g.D.Disk l.journal entries;
  good : (entries : List (List ℕ)) → Lists g.D.Disk l.fn.journal entries → (groups : List (List Record)) × AreLogEntries (take l.number entries) groups;
  seen : g.D.Disk.seen l.journal.disk ≡ g.D.Disk.seen l.fn.journal.disk;
  crash : (crashed : List ℕ) → g.D.Disk.may_leave l.journal.disk crashed → g.D.Disk.may_leave l.fn.journal.disk crashed;
  steady : (bytes : List ℕ) → g.D.Disk.seen l.fn.journal.disk ≡ Some bytes → g.D.Disk.faults l.journal.disk ≡ g.D.Disk.faults l.fn.journal.disk;
  later : g.D.Disk.faults l.fn.journal.disk ≤ g.D.Disk.faults l.journal.disk;
}
