-- The commits that the theorems are about: those of a valid history, as they are captured.
use Rattle.std.specs.Prelude.{◌≡◌, ℕ, List, ◌∷◌, ◌++◌, length}
use Rattle.std.specs.List.{AllByRecursion}
use Rattle.dbl_model_table.specs.declared.table.TableInfo.{TableInfo}
use Rattle.dbl_model_table.specs.declared.change.Commit.{Commit}
use Rattle.dbl_model_table.specs.Rows.{no_rows, all_changes}
use Rattle.dbl_model_history.specs.History.{History}
use Rattle.dbl_model_history.specs.Ranges.{IsCommitInRange}
use Rattle.dbl_model_history.specs.Typed.{typed}
use Rattle.dbl_model_history.specs.Fit.{AreFit, AreInfosOf, IsFitHistory}
use Rattle.dbl_model_history.specs.Laws.{CommitsRise, AreDistinctTables}

-- The point in the history after these commits, its first ones.
abbrev pub moment_after : List Commit → ℕ
moment_after commits = length (all_changes commits)

-- Whether commits satisfy what the captured commits of a valid history do (theorem FitHistoriesHaveFitCommits). The theorems require no
-- more of a history.
pub record AreFitCommits (infos : List TableInfo) (commits : List Commit) : Type 0 where
  pub distinct : AreDistinctTables infos
  pub rise : CommitsRise commits
  pub in_range : AllByRecursion IsCommitInRange commits
  -- The changes are valid from the first on, one after the other.
  pub fit : AreFit infos no_rows (all_changes commits)

-- The captured commits of a valid history satisfy all that the theorems require of commits.
abbrev pub FitHistoriesHaveFitCommits : Type 0
FitHistoriesHaveFitCommits = (history : History) (infos : List TableInfo)
    → IsFitHistory history → AreInfosOf history infos → AreFitCommits infos (typed infos history)

-- Whether the commit is one of these, between those before it and the later ones.
pub record IsCommitAmong (infos : List TableInfo) (commits before : List Commit) (commit : Commit) (later : List Commit) : Type 0 where
  pub fit : AreFitCommits infos commits
  pub spelled : commits ≡ before ++ commit ∷ later
