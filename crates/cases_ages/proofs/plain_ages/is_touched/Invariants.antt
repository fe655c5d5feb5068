use Rattle.cases_ages.proofs.PlainAgeLemmas.{IsLeft}
use Rattle.cases_ages.proofs.plain_ages.is_touched.Given as goal

abbrev pub invariant-loop-commit : goal.invariant-loop-commit
invariant-loop-commit l = IsLeft l.infos.items l.table l.key l.commits.items l.from l.to l.commit-index l.left_from l.left_to
