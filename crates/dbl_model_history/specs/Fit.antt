-- Valid histories: what a source's history must satisfy, and each of its changes given the rows just before it.
use Rattle.std.specs.Prelude.{ℕ, ◌≡◌, ◌⊎◌, IsTrue, Option, Some, None, IsSomeAnd, IfSome, IsSome, List, [], ◌∷◌, length, map, slice_get}
use Rattle.std.specs.List.{AllByRecursion}
use Rattle.dbl_value_types.specs.declared.column_type.PgType.{PgType}
use Rattle.dbl_value_types.specs.declared.value.Val.{Val}
use Rattle.dbl_value_types.specs.Values.{IsOf}
use Rattle.dbl_model_table.specs.declared.row.Key.{Key}
use Rattle.dbl_model_table.specs.declared.row.Row.{Row}
use Rattle.dbl_model_table.specs.declared.change.Cell.{Cell}
use Rattle.dbl_model_table.specs.declared.change.Change.{Change}
use Rattle.dbl_model_table.specs.declared.change.Change.TheVariants.{Insert, Update, Delete, Clear}
use Rattle.dbl_model_table.specs.declared.table.TableInfo.{TableInfo}
use Rattle.dbl_model_table.specs.Tables.{same_name, are_distinct}
use Rattle.dbl_model_table.specs.Infos.{IsInfoOf, key_types, width}
use Rattle.dbl_model_table.specs.Keys.{key_of, new_key_of}
use Rattle.dbl_model_table.specs.Rows.{Rows, no_rows, rows_after, all_given, all_changes}
use Rattle.dbl_model_history.specs.History.{RawBody, History, name_of, raw_changes_of, entry_of, IsRising}
use Rattle.dbl_model_history.specs.History.RawBody.{Changes, Mark, Alter}
use Rattle.dbl_model_history.specs.Ranges.{HasRanges}
use Rattle.dbl_model_history.specs.Typed.{typed}

-- Whether there are as many values as types, each the value of some text of its type, so that none is Null.
abbrev pub AreOf : List PgType → List Val → Type 0
AreOf [] [] = Unit {0}
AreOf [] (v ∷ values) = ⊥
AreOf (ty ∷ types) [] = ⊥
AreOf (ty ∷ types) (v ∷ values) = IsOf ty v × AreOf types values

-- Whether every cell of a key is readable and not null.
abbrev pub IsKeyOf : TableInfo → Key → Type 0
IsKeyOf info key = AreOf (key_types info) key.cells

-- A valid insert: one cell per column, and a key that had no row just before.
pub record IsFitInsert (info : TableInfo) (rows : Key → Option (List Val)) (row : Row) : Type 0 where
  pub wide : length row.cells ≡ width info
  pub key : IsKeyOf info (key_of info row.cells)
  pub absent : rows (key_of info row.cells) ≡ None

-- A valid update: one cell per column, its key cells sent, and a row just before at the old key. If it moves the key, there is no row just
-- before at the new one, and every cell is sent.
pub record IsFitUpdate (info : TableInfo) (rows : Key → Option (List Val)) (from : Key) (old : Option Row)
    (cells : List Cell) : Type 0 where
  pub wide : length cells ≡ width info
  pub old_wide : IfSome old (λ row. length row.cells ≡ width info)
  pub old_key : IsKeyOf info from
  pub new_key : IsKeyOf info (new_key_of info cells)
  pub present : IsSome (rows from)
  pub stays_or_moves : (from ≡ new_key_of info cells) ⊎ ((rows (new_key_of info cells) ≡ None) × IsSome (all_given cells))

-- A valid delete: there is a row at its key just before.
pub record IsFitDelete (info : TableInfo) (rows : Key → Option (List Val)) (from : Key) (old : Row) : Type 0 where
  pub old_wide : length old.cells ≡ width info
  pub old_key : IsKeyOf info from
  pub present : IsSome (rows from)

-- Whether the change is of a captured table, and valid after the rows just before it.
abbrev pub IsFit : List TableInfo → Rows → Change → Type 0
IsFit infos rows (Insert table row) = IsSomeAnd (slice_get infos table) (λ info. IsFitInsert info (rows table) row)
IsFit infos rows (Update table from old cells) = IsSomeAnd (slice_get infos table) (λ info. IsFitUpdate info (rows table) from old cells)
IsFit infos rows (Delete table from old) = IsSomeAnd (slice_get infos table) (λ info. IsFitDelete info (rows table) from old)
IsFit infos rows (Clear table) = IsSome (slice_get infos table)

-- Whether each change of a list is valid after the rows just before it.
abbrev pub AreFit : List TableInfo → Rows → List Change → Type 0
AreFit infos rows [] = Unit {0}
AreFit infos rows (change ∷ changes) = IsFit infos rows change × AreFit infos (rows_after infos change rows) changes

-- Whether these are the cells of a row of the table with this index, at its own key.
pub record IsRowOf (infos : List TableInfo) (table : ℕ) (key : Key) (row : List Val) : Type 0 where
  pub info : TableInfo
  pub captured : slice_get infos table ≡ Some info
  pub wide : length row ≡ width info
  pub is_key : IsKeyOf info key
  pub key_is : key_of info row ≡ key

-- Whether the captured tables are distinct tables of the catalogue, each as its entry describes it.
pub record AreInfosOf (history : History) (infos : List TableInfo) : Type 0 where
  pub distinct : IsTrue (are_distinct same_name (map (λ info. info.name) infos))
  pub each : AllByRecursion (λ info. IsSomeAnd (entry_of history info.name) (λ raw. IsInfoOf raw info)) infos

-- Whether a commit's contents alter no table.
abbrev pub AltersNone : RawBody → Type 0
AltersNone (Changes changes) = Unit {0}
AltersNone (Mark value) = Unit {0}
AltersNone (Alter name columns rows) = ⊥

-- A valid history: the changes of a source that could have made them, whichever tables are captured.
pub record IsFitHistory (history : History) : Type 0 where
  -- Numbers and texts are in PostgreSQL's ranges.
  pub ranges : HasRanges history
  -- LSNs are above 0 and rise from commit to commit.
  pub rising : IsRising history
  -- The catalogue has at most one entry for a table.
  pub distinct : IsTrue (are_distinct same_name (map (λ raw. raw.name) history.tables))
  -- No table's definition changes, so that each has version 1.
  pub opening : AllByRecursion (λ raw. raw.version ≡ 1) history.tables
  -- No commit alters a table.
  pub unaltered : AllByRecursion (λ commit. AltersNone commit.body) history.commits
  -- Each change is of a table of the catalogue.
  pub known : AllByRecursion (λ commit. AllByRecursion (λ change. IsSome (entry_of history (name_of change))) (raw_changes_of commit.body))
      history.commits
  -- For any captured tables, the changes are valid one after the other.
  pub fit : (infos : List TableInfo) → AreInfosOf history infos → AreFit infos no_rows (all_changes (typed infos history))
