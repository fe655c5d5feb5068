use Rattle.std.proofs.Common.{◌≡◌, ◌≤◌, length, take}
use Rattle.dbl_source_scripted.specs.Played.{altered_at}
use Rattle.dbl_source_scripted.proofs.moves.count_altered.Given as goal

abbrev pub invariant-loop-alter : goal.invariant-loop-alter
invariant-loop-alter l = record {
  is : l.count ≡ length (altered_at l.call (take l.alter-index l.alters));
  few : l.count ≤ l.alter-index;
}
