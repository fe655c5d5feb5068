use Rattle.std.proofs.Common.{length}
use Rattle.dbl_model_table.specs.Rows.{changes_of}
use Rattle.cases_courses.specs.declared.versions.Version.{Version}
use Rattle.cases_courses.proofs.VersionLemmas.{IsCountedTo}
use Rattle.cases_courses.proofs.version_moments.position_moment.Given as goal

abbrev pub invariant-loop-version : goal.invariant-loop-version
invariant-loop-version l = IsCountedTo (λ (v : Version). v.commit.lsn.0) (λ (v : Version). length (changes_of v.commit)) l.position l.versions.items l.version-index l.moment
