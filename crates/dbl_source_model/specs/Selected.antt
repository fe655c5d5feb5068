-- Correct answers of a select: the first rows above a key, in key order, and the version of the table, both at one position.
use Rattle.std.specs.Prelude.{◌≡◌, ℕ, ◌≤◌, Option, Some, None, IfSome, List, [], length, map, take, slice_get}
use Rattle.dbl_model_commit.specs.ModelTable.declared.table.TableName.{TableName}
use Rattle.dbl_model_commit.specs.ModelTable.declared.table.RawRow.{RawRow}
use Rattle.dbl_model_commit.specs.ModelTable.declared.table.TableInfo.{TableInfo}
use Rattle.dbl_model_commit.specs.ModelTable.declared.row.Key.{Key}
use Rattle.dbl_model_commit.specs.ModelTable.declared.row.Row.{Row}
use Rattle.dbl_model_commit.specs.ModelTable.Infos.{number_of}
use Rattle.dbl_model_commit.specs.ModelTable.Keys.{key_of}
use Rattle.dbl_model_commit.specs.ModelTable.Rows.{Rows, no_rows, rows_from, all_changes}
use Rattle.dbl_model_commit.specs.ModelHistory.History.{History, entry_of}
use Rattle.dbl_model_commit.specs.ModelHistory.Typed.{typed, typed_row}
use Rattle.dbl_model_commit.specs.ModelHistory.Fit.{IsKeyOf}
use Rattle.dbl_model_commit.specs.ModelHistory.InForce.{version_at}
use Rattle.dbl_model_commit.specs.ModelHistory.VersionRows.{rows_in_force, infos_in_force, WereInfosOf}
use Rattle.dbl_model_commit.specs.ModelHistory.KeyedRows.{AreFirst}
use Rattle.dbl_source_model.specs.declared.selected.Selected.{Selected}

-- The rows after a number of first commits of a history, typed by one description of each table: if none is altered.
abbrev pub rows_up_to : List TableInfo → History → ℕ → Rows
rows_up_to infos history place = rows_from infos no_rows (all_changes (take place (typed infos history)))

-- A row of an answer, read by its table's columns, with its key.
abbrev pub keyed_row : List TableInfo → ℕ → TableInfo → RawRow → Key × Row
keyed_row infos table info raw = (key_of info (typed_row infos table raw).cells, typed_row infos table raw)

-- Whether rows are the first ones above a key of the captured table with this index; if the key isn't of the table's key types, no row is
-- above it.
pub record AreFirstOf (infos : List TableInfo) (table : ℕ) (info : TableInfo) (at : Rows) (above : Option Key) (limit : ℕ)
    (rows : List RawRow) : Type 0 where
  pub captured : slice_get infos table ≡ Some info
  pub none_above : (¬ IfSome above (IsKeyOf info)) → rows ≡ []
  pub first : IfSome above (IsKeyOf info) → AreFirst info (at table) above limit (map (keyed_row infos table info) rows)

-- Whether the rows are, for any captured tables, the table's first rows above the key after the first `place` commits, in the columns in
-- force there. The rows of a table that couldn't be captured at any position up to there are not restricted.
abbrev pub AreRowsAt : History → ℕ → TableName → Option Key → ℕ → List RawRow → Type 0
AreRowsAt history place name above limit rows =
    (infos : List TableInfo) → WereInfosOf history place infos
    → IfSome (number_of infos name)
    (λ table. (info : TableInfo)
    × AreFirstOf (infos_in_force infos history place) table info (rows_in_force infos history place) above limit rows)

-- Whether the version and the rows are those of one position, not before the last of the first `from` commits, nor after the first `upto`.
-- A table that isn't in the catalogue has version 1 and no rows.
pub record AreAnswered (history : History) (from upto : ℕ) (name : TableName) (above : Option Key) (limit : ℕ)
    (answer : Selected) : Type 0 where
  pub absent : entry_of history name ≡ None → answer.rows ≡ []
  pub place : ℕ
  pub not_before : from ≤ place
  pub not_after : place ≤ upto
  pub version : answer.version ≡ version_at history place name
  pub are : AreRowsAt history place name above limit answer.rows

-- Whether the answer is that of one position between the call and the return of a select.
abbrev pub Selects : TableName → Option Key → ℕ → History → History → Selected → Type 0
Selects name above limit old new answer = AreAnswered new (length old.commits) (length new.commits) name above limit answer
