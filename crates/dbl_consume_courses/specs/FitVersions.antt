-- Courses of valid histories with alterations.
use Rattle.std.specs.Prelude.{ℕ, List}
use Rattle.dbl_model_table.specs.declared.table.TableInfo.{TableInfo}
use Rattle.dbl_consume_laws.specs.Commits.{AreFitCommits}
use Rattle.dbl_consume_courses.specs.Versions.{Versioned}
use Rattle.dbl_consume_courses.specs.Courses.{course_from, first_course}
pub use Rattle.dbl_model_history.specs.FitVersions.{IsFitAlteration, IsFitVersion, AreFitFrom, AreFitVersions}

-- A course satisfies all that the theorems on commits without alterations require of them.
abbrev pub CoursesAreFit : Type 0
CoursesAreFit = (infos : List TableInfo) (versions : List Versioned) (start table : ℕ) → AreFitVersions infos versions
    → AreFitCommits (course_from table (first_course infos start) versions).infos
    (course_from table (first_course infos start) versions).commits
