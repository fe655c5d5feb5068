-- If no value equals the placeholder, no cell that a consumer receives is the placeholder.
use Rattle.std.specs.Prelude.{◌≡◌, List, None, IsSomeAnd, length, slice_get}
use Rattle.std.specs.List.{AllByRecursion}
use Rattle.dbl_model_table.specs.declared.identity.Identity.{Identity}
use Rattle.dbl_model_table.specs.declared.table.TableInfo.{TableInfo}
use Rattle.dbl_model_table.specs.declared.change.Change.{Change}
use Rattle.dbl_model_table.specs.declared.change.Change.TheVariants.{Insert, Update, Delete, Clear}
use Rattle.dbl_model_table.specs.declared.change.Commit.{Commit}
use Rattle.dbl_model_event.specs.declared.closed.Closed.{Closed}
use Rattle.dbl_model_table.specs.Infos.{width}
use Rattle.dbl_model_table.specs.Rows.{Rows, changes_of, all_changes}
use Rattle.dbl_model_history.specs.Fit.{AreFit}
use Rattle.dbl_model_history.specs.FitsInfos.{FitsInfos}
use Rattle.dbl_model_event.specs.Clashes.{clash_of, snapshot_clash}
use Rattle.dbl_model_event.specs.Snapshots.{FitsSnapshot}
use Rattle.dbl_consume_laws.specs.Laws.{IsNotPlaceholder, LacksPlaceholder}

-- Whether the change's new cells are those of a captured table, one per column.
abbrev pub IsAsWide : List TableInfo → Change → Type 0
IsAsWide infos (Insert table row) = IsSomeAnd (slice_get infos table) (λ info. length row.cells ≡ width info)
IsAsWide infos (Update table from old cells) = IsSomeAnd (slice_get infos table) (λ info. length cells ≡ width info)
IsAsWide infos (Delete table from old) = Unit {0}
IsAsWide infos (Clear table) = Unit {0}

-- The new cells of changes that are valid after the rows before them are one per column.
abbrev pub FitChangesAreWide : Type 0
FitChangesAreWide = (infos : List TableInfo) (at : Rows) (changes : List Change) → AreFit infos at changes
    → AllByRecursion (IsAsWide infos) changes

-- The new cells of a change that matches the captured tables are one per column.
abbrev pub FittingChangesAreWide : Type 0
FittingChangesAreWide = (infos : List TableInfo) (change : Change) → FitsInfos infos change → IsAsWide infos change

-- No change of a commit without a value equal to the placeholder sets a cell to the placeholder.
abbrev pub CommitsLackPlaceholders : Type 0
CommitsLackPlaceholders = (identity : Identity) (infos : List TableInfo) (commit : Commit)
    → AllByRecursion (IsAsWide infos) (changes_of commit) → clash_of identity infos commit ≡ None
    → AllByRecursion (LacksPlaceholder identity.placeholder) (changes_of commit)

-- No change of a list of commits without a value equal to the placeholder sets a cell to the placeholder.
abbrev pub HistoriesLackPlaceholders : Type 0
HistoriesLackPlaceholders = (identity : Identity) (infos : List TableInfo) (commits : List Commit)
    → AllByRecursion (IsAsWide infos) (all_changes commits) → AllByRecursion (λ commit. clash_of identity infos commit ≡ None) commits
    → AllByRecursion (LacksPlaceholder identity.placeholder) (all_changes commits)

-- No row of a snapshot without a value equal to the placeholder has such a cell.
abbrev pub SnapshotsLackPlaceholders : Type 0
SnapshotsLackPlaceholders = (identity : Identity) (infos : List TableInfo) (closed : Closed) → FitsSnapshot infos closed
    → snapshot_clash identity infos closed ≡ None
    → AllByRecursion (λ e. AllByRecursion (IsNotPlaceholder identity.placeholder) e.1.cells) closed.rows
