use Rattle.dbl_record.specs.Places.{place_of}
use Rattle.cases_courses.proofs.VersionLemmas.{IsVersionAlong}
use Rattle.cases_courses.proofs.version_moments.version_moment.Given as goal

abbrev pub invariant-loop-version : goal.invariant-loop-version
invariant-loop-version l = IsVersionAlong l.versions.items (place_of l.item) l.version-index l.moment
