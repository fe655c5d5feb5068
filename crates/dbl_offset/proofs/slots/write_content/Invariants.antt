use Rattle.std.proofs.Common.{◌≡◌, ◌≤◌, ◌<◌, ◌+◌, ◌*◌, ◌-◌, ℕ, Option, List, Some, length, max}
use Rattle.dbl_disk.specs.Disks.{Follows}
use Rattle.dbl_offset.specs.Slots.{KeepsOutsideSlot, content_end}
use Rattle.dbl_offset.proofs.Blocks.{HasSlotBlocks}
use Rattle.dbl_offset.proofs.slots.write_content.Given as goal

-- the contents after so many blocks
pub record WasWritten {D : Type 0} (seen : D → Option (List ℕ)) (slot : ℕ) (content : List ℕ) (block : ℕ) (old : List ℕ) (disk : D) : Type 0 where
  pub now : List ℕ
  pub told : seen disk ≡ Some now
  pub keeps : KeepsOutsideSlot slot old now
  pub blocks : HasSlotBlocks now slot content block
  pub short : length now ≤ max (length old) (content_end (length content))

abbrev pub invariant-each : goal.invariant-each
invariant-each g l = record {
  slot : l.slot < 2;
  within : 4096 * l.block ≤ length l.content + 4095;
  wrote : (old : List ℕ) → g.D.Disk.seen l.fn.disk ≡ Some old → WasWritten g.D.Disk.seen l.slot l.content l.block old l.disk;
  crash : Follows (KeepsOutsideSlot l.slot) (g.D.Disk.may_leave l.fn.disk) (g.D.Disk.may_leave l.disk);
  later : g.D.Disk.faults l.fn.disk ≤ g.D.Disk.faults l.disk;
  steady : (old : List ℕ) → g.D.Disk.seen l.fn.disk ≡ Some old → g.D.Disk.faults l.disk ≡ g.D.Disk.faults l.fn.disk;
}

abbrev pub decreases-each : goal.decreases-each
decreases-each g l = length l.content + 4095 - 4096 * l.block
