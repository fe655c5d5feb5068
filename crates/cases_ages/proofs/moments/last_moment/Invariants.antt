use Rattle.cases_ages.proofs.MomentLemmas.{IsFar}
use Rattle.cases_ages.proofs.moments.last_moment.Given as goal

abbrev pub invariant-loop-item : goal.invariant-loop-item
invariant-loop-item l = IsFar l.infos.items l.commits.items l.start l.records.items l.item-index l.far
