-- Theorems over the definitions of histories, rows and images.
use Rattle.std.specs.Prelude.{◌≡◌, ◌≤◌, ℕ, IsTrue, Option, Some, List, [], ◌∷◌, ◌++◌, length, map, take}
use Rattle.std.specs.List.{AllByRecursion}
use Rattle.dbl_value_types.specs.declared.value.Val.{Val}
use Rattle.dbl_model_table.specs.declared.row.Key.{Key}
use Rattle.dbl_model_table.specs.declared.table.TableInfo.{TableInfo}
use Rattle.dbl_model_table.specs.declared.change.Change.{Change}
use Rattle.dbl_model_table.specs.declared.change.Commit.{Commit}
use Rattle.dbl_model_table.specs.declared.identity.Identity.{Identity}
use Rattle.dbl_model_table.specs.Tables.{same_name, are_distinct}
use Rattle.dbl_model_table.specs.Rows.{Rows, no_rows, rows_from, rows_at, rows, changes_of, all_changes, moment_of, moment_at}
use Rattle.dbl_model_history.specs.History.{History, AreRising}
use Rattle.dbl_model_history.specs.Ranges.{HasRanges, IsCommitInRange, IsInfoInRange}
use Rattle.dbl_model_history.specs.Typed.{typed}
use Rattle.dbl_model_history.specs.Fit.{IsKeyOf, AreFit, IsRowOf, AreInfosOf, IsFitHistory}
use Rattle.dbl_model_history.specs.FitsInfos.{FitsInfos, IsReadableHistory}
use Rattle.dbl_model_history.specs.Image.{key_text, IsImage}

-- Whether the LSNs of commits are above 0 and rise.
abbrev pub CommitsRise : List Commit → Type 0
CommitsRise history = AreRising 0 (map (λ commit. commit.lsn.0) history)

-- The position 0 is the start of the history, and a commit's LSN the point after that whole commit.
abbrev pub PositionsAreMoments : Type 0
PositionsAreMoments = (before : List Commit) (commit : Commit) (later : List Commit) → CommitsRise (before ++ commit ∷ later)
    → (moment_at (before ++ commit ∷ later) 0 ≡ 0)
    × (moment_at (before ++ commit ∷ later) commit.lsn.0 ≡ length (all_changes (before ++ commit ∷ [])))

-- The rows after some whole commits and some changes of the next one are those after these changes in order.
abbrev pub MomentsAreChanges : Type 0
MomentsAreChanges = (infos : List TableInfo) (before : List Commit) (commit : Commit) (later : List Commit) (n : ℕ)
    → n ≤ length (changes_of commit)
    → rows infos (before ++ commit ∷ later) (moment_of (before ++ commit ∷ later) (length before) n) ≡ rows_from infos no_rows
    (all_changes before ++ take n (changes_of commit))

-- Whether no two of the captured tables have the same name.
abbrev pub AreDistinctTables : List TableInfo → Type 0
AreDistinctTables infos = IsTrue (are_distinct same_name (map (λ info. info.name) infos))

-- Keys of a table with equal texts are equal.
abbrev pub KeyTextsNameKeys : Type 0
KeyTextsNameKeys = (info : TableInfo) (a b : Key) → IsKeyOf info a → IsKeyOf info b → key_text info a ≡ key_text info b → a ≡ b

-- A topic and a text name at most one table and key, and the image has at most one value there.
abbrev pub RowsHaveOneImage : Type 0
RowsHaveOneImage = (identity : Identity) (infos : List TableInfo) (at : Rows) (topic text : List ℕ)
    (a b : Option (List ℕ → Option (List ℕ))) → AreDistinctTables infos
    → IsImage identity infos at topic text a → IsImage identity infos at topic text b → a ≡ b

-- At each point of a valid history a row is as wide as its table, and at its own key.
abbrev pub FitRowsAreRows : Type 0
FitRowsAreRows = (infos : List TableInfo) (changes : List Change) (moment : ℕ) → AreFit infos no_rows changes
    → (table : ℕ) (key : Key) (row : List Val) → rows_at infos changes moment table key ≡ Some row → IsRowOf infos table key row

-- The typed commits of a history in range are in range, for any captured tables.
abbrev pub TypedCommitsAreInRange : Type 0
TypedCommitsAreInRange = (infos : List TableInfo) (history : History) → HasRanges history
    → AllByRecursion IsCommitInRange (typed infos history)

-- The tables captured of a history in range are in range.
abbrev pub InfosAreInRange : Type 0
InfosAreInRange = (infos : List TableInfo) (history : History) → HasRanges history → AreInfosOf history infos
    → AllByRecursion IsInfoInRange infos

-- Each change of a valid history matches the captured tables if its cells are readable.
abbrev pub FitChangesFitInfos : Type 0
FitChangesFitInfos = (infos : List TableInfo) (history : History) → IsFitHistory history → AreInfosOf history infos
    → IsReadableHistory infos history
    → AllByRecursion (FitsInfos infos) (all_changes (typed infos history))
