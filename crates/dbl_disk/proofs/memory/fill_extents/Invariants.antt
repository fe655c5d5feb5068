use Rattle.std.proofs.Common.{take}
use Rattle.dbl_disk.specs.Memory.{AreFilled}
use Rattle.dbl_disk.proofs.memory.fill_extents.Given as goal

abbrev pub invariant-extents : goal.invariant-extents
invariant-extents l = AreFilled l.byte (take l.extent-index l.dirty) l.fn.crashed l.crashed
