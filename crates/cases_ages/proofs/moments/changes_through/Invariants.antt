use Rattle.cases_ages.proofs.MomentLemmas.{IsCounted}
use Rattle.cases_ages.proofs.moments.changes_through.Given as goal

abbrev pub invariant-loop-i : goal.invariant-loop-i
invariant-loop-i l = IsCounted l.infos.items l.changes l.ordinal l.i l.left
