use Rattle.std.specs.Option.{option_copied}
use Rattle.cases_ages.proofs.PlainAgeLemmas.{IsUnmet, IsCell}
use Rattle.cases_ages.proofs.plain_ages.occurs.Given as goal

abbrev pub invariant-loop-i : goal.invariant-loop-i
invariant-loop-i l = IsUnmet (IsCell (option_copied l.wanted)) l.life.items l.from l.to l.i
