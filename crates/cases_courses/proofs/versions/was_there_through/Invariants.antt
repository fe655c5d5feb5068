use Rattle.cases_courses.specs.AlteredHistories.{all_versioned}
use Rattle.cases_courses.proofs.AlteredLemmas.{IsAbsentThrough}
use Rattle.cases_courses.proofs.versions.was_there_through.Given as goal

abbrev pub invariant-loop-moment : goal.invariant-loop-moment
invariant-loop-moment l = IsAbsentThrough (all_versioned l.versions.items) l.table l.key l.from l.moment
