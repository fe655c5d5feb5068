-- Alterations keep the key of their table: what a valid history asks of them, and what follows for the captured tables in force.
use Rattle.std.specs.Prelude.{◌≡◌, ℕ, ◌+◌, IsTrue, IsSome, IsSomeAnd, Option, Some, None, option_map, unwrap_or, List, [], ◌∷◌, map, find, fold, take, slice_get}
use Rattle.std.specs.List.{AllByRecursion}
use Rattle.dbl_value_types.specs.declared.column_type.PgType.{PgType}
use Rattle.dbl_value_types.specs.declared.column_type.PgType.TheVariants as type
use Rattle.dbl_model_table.specs.declared.table.RawColumn.{RawColumn}
use Rattle.dbl_model_table.specs.declared.table.RawTable.{RawTable}
use Rattle.dbl_model_table.specs.declared.table.TableInfo.{TableInfo}
use Rattle.dbl_model_table.specs.declared.table.TableName.{TableName}
use Rattle.dbl_model_table.specs.Tables.{same_name, are_distinct}
use Rattle.dbl_model_table.specs.Infos.{key_names, key_types, IsInfoOf}
use Rattle.dbl_model_table.specs.Made.{column_named, table_fault}
use Rattle.dbl_model_history.specs.History.{RawBody, RawCommit, History, entry_of}
use Rattle.dbl_model_history.specs.History as raw
use Rattle.dbl_model_history.specs.Fit.{AreInfosOf}
use Rattle.dbl_model_history.specs.InForce.{entry_after, entry_at, captured_column, reshaped, Versioned, AreVersionsFrom, opening_infos, versioned}

-- The columns with these names, in the order of the names; None for a name of no column.
abbrev pub key_columns : List RawColumn → List (List ℕ) → List (Option RawColumn)
key_columns columns key = map (column_named columns) key

-- Whether new columns of a table have its key columns, with their names and types.
abbrev pub KeepsKey : RawTable → List RawColumn → Type 0
KeepsKey table columns = key_columns columns table.key ≡ key_columns table.columns table.key

-- The entry of a table in a catalogue, the first of its name.
abbrev pub entry_in : List RawTable → TableName → Option RawTable
entry_in tables name = find (λ table. same_name table.name name) tables

-- Whether a commit's alteration is of a table of this catalogue, and keeps its key. Other contents have no alteration.
abbrev pub KeepsKeyOf : List RawTable → RawBody → Type 0
KeepsKeyOf tables (raw.Changes changes) = Unit {0}
KeepsKeyOf tables (raw.Mark value) = Unit {0}
KeepsKeyOf tables (raw.Alter name columns rows) = IsSomeAnd (entry_in tables name) (λ table. KeepsKey table columns)

-- Whether each alteration of some commits is of a table of the catalogue and keeps its key, where this is the catalogue before them.
abbrev pub KeepKeys : List RawTable → List RawCommit → Type 0
KeepKeys tables [] = Unit {0}
KeepKeys tables (commit ∷ commits) = KeepsKeyOf tables commit.body × KeepKeys (map (entry_after commit.body) tables) commits

-- The catalogue after this many commits.
abbrev pub catalogue_at : History → ℕ → List RawTable
catalogue_at history place = fold (λ tables commit. map (entry_after commit.body) tables) history.tables (take place history.commits)

-- ---- captured tables of a catalogue

-- The type of a column as it is captured; text if there is no column.
abbrev pub captured_type : Option RawColumn → PgType
captured_type column = unwrap_or (option_map (λ c. (captured_column c).ty) column) type.Text

-- Whether a captured table is the one with this entry and has its key, in whatever columns besides.
pub record HasKeyOf (table : RawTable) (info : TableInfo) : Type 0 where
  pub name : table.name ≡ info.name
  pub key : table.key ≡ key_names info
  pub types : map captured_type (key_columns table.columns table.key) ≡ key_types info
  pub there : AllByRecursion (λ column. IsSome column) (key_columns table.columns table.key)

-- Whether a captured table is the one with this entry, in its columns if they make a table.
pub record IsShapeOf (table : RawTable) (info : TableInfo) : Type 0 where
  pub key : HasKeyOf table info
  pub shape : reshaped table.columns info ≡ info

-- Whether the captured tables are distinct tables of the catalogue, each with its entry's key.
pub record HaveKeysOf (history : History) (infos : List TableInfo) : Type 0 where
  pub distinct : IsTrue (are_distinct same_name (map (λ info. info.name) infos))
  pub each : AllByRecursion (λ info. IsSomeAnd (entry_of history info.name) (λ table. HasKeyOf table info)) infos

-- Whether each captured table is in the columns of its entry in this catalogue.
abbrev pub AreShapesOf : List RawTable → List TableInfo → Type 0
AreShapesOf tables infos = AllByRecursion (λ info. IsSomeAnd (entry_in tables info.name) (λ table. IsShapeOf table info)) infos

-- ---- theorems

-- Captured tables that are as the catalogue describes them have its keys.
abbrev pub InfosHaveKeys : Type 0
InfosHaveKeys = (history : History) (infos : List TableInfo) → AreInfosOf history infos → HaveKeysOf history infos

-- The catalogue after some commits has the entries in force there.
abbrev pub EntriesAreInForce : Type 0
EntriesAreInForce = (history : History) (place : ℕ) (name : TableName) → entry_in (catalogue_at history place) name ≡ entry_at history place name

-- If alterations keep the keys, the commits follow one another: each has the captured tables of the one before it, but for the table that it
-- alters, which has its new columns.
abbrev pub VersionsFollow : Type 0
VersionsFollow = (history : History) (infos : List TableInfo) → HaveKeysOf history infos → KeepKeys history.tables history.commits
    → AreVersionsFrom (opening_infos history infos) (versioned infos history)

-- If alterations keep the keys, each commit has the captured tables in the columns in force after it.
abbrev pub ShapesAreInForce : Type 0
ShapesAreInForce = (history : History) (infos : List TableInfo) (place : ℕ) (v : Versioned) → HaveKeysOf history infos
    → KeepKeys history.tables history.commits → slice_get (versioned infos history) place ≡ Some v
    → AreShapesOf (catalogue_at history (place + 1)) v.infos

-- A captured table in the columns of its entry is as the entry describes it, if the entry can be captured.
abbrev pub ShapesAreDescriptions : Type 0
ShapesAreDescriptions = (table : RawTable) (info : TableInfo) → IsShapeOf table info → table_fault table ≡ None → IsInfoOf table info
