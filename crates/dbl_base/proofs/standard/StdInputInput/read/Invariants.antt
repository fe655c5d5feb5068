use Rattle.std.proofs.Common.{◌≤◌}
use Rattle.dbl_base.proofs.standard.StdInputInput.read.Given as goal

abbrev pub invariant-loop : goal.invariant-loop
invariant-loop g l = l.fn.self ≤ l.self-inside.faults
