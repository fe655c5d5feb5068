use Rattle.std.proofs.Common.{drop}
use Rattle.dbl_disk.specs.Memory.{DiffersInside}
use Rattle.dbl_disk.proofs.memory.copy_extents.Given as goal

abbrev pub invariant-extents : goal.invariant-extents
invariant-extents l = DiffersInside (drop l.extent-index l.dirty) l.stable l.current
