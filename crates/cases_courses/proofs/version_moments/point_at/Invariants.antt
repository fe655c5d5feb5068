use Rattle.std.proofs.Common.{length}
use Rattle.dbl_model_table.specs.declared.change.Commit.{Commit}
use Rattle.dbl_model_table.specs.Rows.{changes_of}
use Rattle.cases_courses.proofs.VersionLemmas.{IsCountedTo}
use Rattle.cases_courses.proofs.version_moments.point_at.Given as goal

abbrev pub invariant-loop-commit : goal.invariant-loop-commit
invariant-loop-commit l = IsCountedTo (λ (c : Commit). c.lsn.0) (λ (c : Commit). length (changes_of c)) l.position l.commits.items l.commit-index l.moment
