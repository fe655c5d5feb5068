use Rattle.cases_ages.proofs.PlainAgeLemmas.{AreUntouched}
use Rattle.cases_ages.proofs.plain_ages.is_touched_in.Given as goal

abbrev pub invariant-loop-i : goal.invariant-loop-i
invariant-loop-i l = AreUntouched l.infos.items l.table l.key l.changes l.from l.to l.i
