use Rattle.dbl_tables_changes.proofs.WriteLemmas.{IsHeldSoFar}
use Rattle.dbl_tables_changes.proofs.taking.hold_all.Given as goal

abbrev pub invariant-loop-write : goal.invariant-loop-write
invariant-loop-write l = IsHeldSoFar l.yielded l.initial.slots l.slots
