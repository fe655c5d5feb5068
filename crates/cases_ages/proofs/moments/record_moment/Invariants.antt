use Rattle.dbl_record.specs.Places.{place_of}
use Rattle.cases_ages.proofs.MomentLemmas.{IsAlong}
use Rattle.cases_ages.proofs.moments.record_moment.Given as goal

abbrev pub invariant-loop-commit : goal.invariant-loop-commit
invariant-loop-commit l = IsAlong l.infos.items l.commits.items (place_of l.item) l.commit-index l.moment
