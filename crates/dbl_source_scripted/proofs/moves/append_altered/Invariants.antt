use Rattle.std.proofs.Common.{◌≡◌, ◌++◌, map, take}
use Rattle.dbl_source_scripted.specs.AlteredRows.{bare_alteration}
use Rattle.dbl_source_scripted.specs.Played.{altered_at}
use Rattle.dbl_source_scripted.proofs.moves.append_altered.Given as goal

abbrev pub invariant-loop-alter : goal.invariant-loop-alter
invariant-loop-alter l = l.log.items ≡ l.initial.log.items ++ map bare_alteration (altered_at l.call (take l.alter-index l.alters))
