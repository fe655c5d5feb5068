use Rattle.std.proofs.Common.{◌≤◌, length}
use Rattle.dbl_disk.proofs.file.read_all.Given as goal

abbrev pub invariant-pieces : goal.invariant-pieces
invariant-pieces g l = record { later : l.fn.faults ≤ l.faults; within : l.done ≤ length l.buffer }
