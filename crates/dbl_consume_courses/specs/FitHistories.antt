-- Valid histories whose tables may be altered, and that histories without alterations are among them.
use Rattle.std.specs.Prelude.{◌≡◌, IsTrue, IsSome, List, map}
use Rattle.std.specs.List.{AllByRecursion}
use Rattle.dbl_model_table.specs.declared.table.TableInfo.{TableInfo}
use Rattle.dbl_model_table.specs.Tables.{same_name, are_distinct}
use Rattle.dbl_model_table.specs.Rows.{no_rows}
use Rattle.dbl_model_history.specs.History.{History, IsRising, name_of, raw_changes_of, entry_of}
use Rattle.dbl_model_history.specs.Ranges.{HasRanges}
use Rattle.dbl_model_history.specs.Fit.{AreInfosOf, IsFitHistory}
use Rattle.dbl_model_history.specs.InForce.{opening_infos, versioned}
use Rattle.dbl_model_history.specs.KeptKeys.{KeepKeys, HaveKeysOf}
use Rattle.dbl_model_history.specs.FitVersions.{AreFitFrom, AreFitVersions}

-- A valid history with alterations: the changes and alterations of a source that could have made them, whichever tables are captured.
pub record IsFitWithAlterations (history : History) : Type 0 where
  -- Numbers and texts are in PostgreSQL's ranges.
  pub ranges : HasRanges history
  -- LSNs are above 0 and rise from commit to commit.
  pub rising : IsRising history
  -- The catalogue has at most one entry for a table.
  pub distinct : IsTrue (are_distinct same_name (map (λ raw. raw.name) history.tables))
  -- Versions are counted from 1.
  pub opening : AllByRecursion (λ raw. raw.version ≡ 1) history.tables
  -- Each alteration is of a table of the catalogue, and keeps the names and types of its key columns.
  pub keys : KeepKeys history.tables history.commits
  -- Each change is of a table of the catalogue.
  pub known : AllByRecursion (λ commit. AllByRecursion (λ change. IsSome (entry_of history (name_of change))) (raw_changes_of commit.body))
      history.commits
  -- For any captured tables, the changes and the alterations are valid one after the other, each in the columns in force.
  pub fit : (infos : List TableInfo) → HaveKeysOf history infos → AreFitFrom no_rows (versioned infos history)

-- ---- theorems

-- The captured commits of a valid history with alterations satisfy all that the theorems on courses require of them.
abbrev pub FitHistoriesHaveFitVersions : Type 0
FitHistoriesHaveFitVersions = (history : History) (infos : List TableInfo) → IsFitWithAlterations history → HaveKeysOf history infos
    → AreFitVersions (opening_infos history infos) (versioned infos history)

-- Without alterations, so do those of a valid history.
abbrev pub PlainHistoriesHaveFitVersions : Type 0
PlainHistoriesHaveFitVersions = (history : History) (infos : List TableInfo) → IsFitHistory history → AreInfosOf history infos
    → AreFitVersions infos (versioned infos history)
