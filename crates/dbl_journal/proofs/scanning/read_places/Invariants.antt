use Rattle.std.proofs.Common.{◌≡◌, ◌↔◌, ◌≤◌, ◌<◌, ◌^◌, ◌-◌, ◌++◌, ℕ, List, Some, length, drop}
use Rattle.dbl_journal.specs.Form.{magic}
use Rattle.dbl_journal.specs.Steps.{AreRead}
use Rattle.dbl_journal.proofs.scanning.read_places.Given as goal

abbrev pub invariant-entries : goal.invariant-entries
invariant-entries g l = record {
  read : (bytes : List ℕ) → g.D.Disk.seen l.fn.disk ≡ Some bytes → l.total ≡ length bytes → bytes ≡ magic ++ drop 8 bytes → AreRead bytes l.gate l.places.items;
  seen : g.D.Disk.seen l.disk ≡ g.D.Disk.seen l.fn.disk;
  crash : (crashed : List ℕ) → g.D.Disk.may_leave l.disk crashed ↔ g.D.Disk.may_leave l.fn.disk crashed;
  inside : l.gate ≤ l.total;
  small : l.total < 2 ^ 40;
  few : length l.places.items ≤ l.gate;
  steady : (bytes : List ℕ) → g.D.Disk.seen l.fn.disk ≡ Some bytes → g.D.Disk.faults l.disk ≡ g.D.Disk.faults l.fn.disk;
  later : g.D.Disk.faults l.fn.disk ≤ g.D.Disk.faults l.disk;
}

abbrev pub decreases-entries : goal.decreases-entries
decreases-entries g l = l.total - l.gate
