use Rattle.cases_courses.specs.AlteredHistories.{all_versioned}
use Rattle.cases_courses.proofs.VersionLemmas.{IsSpanned}
use Rattle.cases_courses.proofs.version_moments.version_span_end.Given as goal

abbrev pub invariant-loop-item : goal.invariant-loop-item
invariant-loop-item l = IsSpanned (all_versioned l.versions.items) l.records.items l.from l.item-index l.far
