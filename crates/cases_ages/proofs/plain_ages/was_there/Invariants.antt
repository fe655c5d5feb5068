use Rattle.std.specs.Prelude.{IsSome}
use Rattle.cases_ages.proofs.PlainAgeLemmas.{IsUnmet}
use Rattle.cases_ages.proofs.plain_ages.was_there.Given as goal

abbrev pub invariant-loop-i : goal.invariant-loop-i
invariant-loop-i l = IsUnmet IsSome l.life.items l.from l.to l.i
