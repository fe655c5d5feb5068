use Rattle.std.proofs.Common.{◌≡◌, ◌↔◌, ◌≤◌, ◌<◌, ◌+◌, ◌*◌, ◌-◌, ◌^◌, ℕ, List, Some, length}
use Rattle.dbl_offset.specs.Slots.{HasSlotContent, ReachesInSlot}
use Rattle.dbl_offset.proofs.finding.read_blocks.Given as goal

abbrev pub invariant-each : goal.invariant-each
invariant-each g l = record {
  slot : l.slot < 2;
  short : l.total ≤ 2 ^ 28 + 4;
  within : length l.content.items ≤ l.total;
  full : length l.content.items < l.total → length l.content.items ≡ 4096 * l.block;
  read : (bytes : List ℕ) → g.D.Disk.seen l.fn.disk ≡ Some bytes → ReachesInSlot bytes l.slot l.total → HasSlotContent bytes l.slot l.content.items;
  seen : g.D.Disk.seen l.disk ≡ g.D.Disk.seen l.fn.disk;
  crash : (crashed : List ℕ) → g.D.Disk.may_leave l.disk crashed ↔ g.D.Disk.may_leave l.fn.disk crashed;
  later : g.D.Disk.faults l.fn.disk ≤ g.D.Disk.faults l.disk;
  steady : (bytes : List ℕ) → g.D.Disk.seen l.fn.disk ≡ Some bytes → g.D.Disk.faults l.disk ≡ g.D.Disk.faults l.fn.disk;
}

abbrev pub decreases-each : goal.decreases-each
decreases-each g l = l.total - length l.content.items
