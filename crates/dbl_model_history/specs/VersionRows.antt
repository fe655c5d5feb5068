-- The rows of a history whose tables may be altered, each row in the columns in force.
use Rattle.std.specs.Prelude.{ℕ, ◌≤◌, ◌-◌, ◌==◌, nat_le, nat_lt, if◌then◌else◌, IsTrue, IsSomeAnd, Option, Some, None}
use Rattle.std.specs.Prelude.{List, [], ◌∷◌, length, map, take, filter, fold}
use Rattle.std.specs.List.{AllByRecursion}
use Rattle.dbl_model_table.specs.declared.table.RawRow.{RawRow}
use Rattle.dbl_model_table.specs.declared.table.TableInfo.{TableInfo}
use Rattle.dbl_model_table.specs.declared.change.Change.{Change}
use Rattle.dbl_model_table.specs.declared.change.Change.TheVariants.{Insert}
use Rattle.dbl_model_table.specs.Tables.{same_name, are_distinct}
use Rattle.dbl_model_table.specs.Infos.{IsInfoOf}
use Rattle.dbl_model_table.specs.Rows.{Rows, no_rows, rows_from, changes_of}
use Rattle.dbl_model_history.specs.History.{History}
use Rattle.dbl_model_history.specs.Typed.{typed_row}
use Rattle.dbl_model_history.specs.InForce.{entry_at, infos_by, opening_infos, Alteration, Versioned, plain_commit, versioned}

-- The commits up to a position.
abbrev pub versions_to : ℕ → List Versioned → List Versioned
versions_to position versions = filter (λ v. nat_le v.lsn.0 position) versions

-- The changes that insert these rows into a table.
abbrev pub inserts : List TableInfo → ℕ → List RawRow → List Change
inserts infos table rows = map (λ row. Insert table (typed_row infos table row)) rows

-- The rows after an alteration: those of the altered table are replaced by the given ones.
abbrev pub altered_rows : List TableInfo → Option Alteration → Rows → Rows
altered_rows infos None rows = rows
altered_rows infos (Some alteration) rows =
    λ table key. if alteration.table == table then rows_from infos no_rows (inserts infos table alteration.rows) table key
    else rows table key

-- The rows after a commit: each of its changes is read in the columns in force, and an alteration replaces the rows of its table.
abbrev pub rows_through : Rows → Versioned → Rows
rows_through rows v = altered_rows v.infos v.altered (rows_from v.infos rows (changes_of (plain_commit v)))

-- The rows after the first changes of commits, where `rows` are those before them: each alteration before the next change has replaced its
-- table's rows.
abbrev pub rows_upto : Rows → List Versioned → ℕ → Rows
rows_upto rows [] moment = rows
rows_upto rows (v ∷ versions) moment =
    if nat_lt moment (length (changes_of (plain_commit v))) then rows_from v.infos rows (take moment (changes_of (plain_commit v)))
    else rows_upto (rows_through rows v) versions (moment - length (changes_of (plain_commit v)))

-- The rows of a history with alterations, after these commits.
abbrev pub version_rows : List Versioned → Rows
version_rows versions = fold rows_through no_rows versions

-- The rows after a number of first commits of a history, in the columns in force there; `infos` gives names and keys only.
abbrev pub rows_in_force : List TableInfo → History → ℕ → Rows
rows_in_force infos history place = version_rows (take place (versioned infos history))

-- The captured tables in the columns in force after a number of first commits of a history; `infos` gives names and keys only.
abbrev pub infos_in_force : List TableInfo → History → ℕ → List TableInfo
infos_in_force infos history place =
    fold (λ tables commit. infos_by commit.body tables) (opening_infos history infos) (take place history.commits)

-- Whether a description is that of its table's entry in the catalogue after some number of commits, at most this one.
pub record WasInfo (history : History) (upto : ℕ) (info : TableInfo) : Type 0 where
  pub place : ℕ
  pub not_after : place ≤ upto
  pub is : IsSomeAnd (entry_at history place info.name) (λ raw. IsInfoOf raw info)

-- Whether the captured tables are distinct tables of the catalogue, each as its entry described it up to a position.
pub record WereInfosOf (history : History) (upto : ℕ) (infos : List TableInfo) : Type 0 where
  pub distinct : IsTrue (are_distinct same_name (map (λ info. info.name) infos))
  pub each : AllByRecursion (WasInfo history upto) infos
