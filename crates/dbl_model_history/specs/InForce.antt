-- The columns of tables that are altered: the catalogue's entry in force at a place of a history, and the commits with the captured tables
-- as they are from each on.
use Rattle.std.specs.Prelude.{◌≡◌, ◌≢◌, ℕ, ℤ, ◌+◌, Bool, true, false, if◌then◌else◌, Option, Some, None, option_map, unwrap_or}
use Rattle.std.specs.Prelude.{List, [], ◌∷◌, map, filter_map, take, fold, slice_get}
use Rattle.std.specs.List.{AllByRecursion}
use Rattle.dbl_base.specs.declared.lsn.Lsn.{Lsn}
use Rattle.dbl_value_types.specs.declared.column_type.PgType.TheVariants as type
use Rattle.dbl_value_types.specs.Values.{type_of}
use Rattle.dbl_model_table.specs.declared.table.TableName.{TableName}
use Rattle.dbl_model_table.specs.declared.table.Column.{Column}
use Rattle.dbl_model_table.specs.declared.table.RawColumn.{RawColumn}
use Rattle.dbl_model_table.specs.declared.table.RawTable.{RawTable}
use Rattle.dbl_model_table.specs.declared.table.RawRow.{RawRow}
use Rattle.dbl_model_table.specs.declared.table.TableInfo.{TableInfo}
use Rattle.dbl_model_table.specs.declared.change.Body.{Body}
use Rattle.dbl_model_table.specs.declared.change.Body.TheVariants.{Changes}
use Rattle.dbl_model_table.specs.declared.change.Commit.{Commit}
use Rattle.dbl_model_table.specs.Tables.{same_name, column_names, is_table}
use Rattle.dbl_model_table.specs.Made.{place_of}
use Rattle.dbl_model_table.specs.Infos.{key_names, key_types, number_of}
use Rattle.dbl_model_history.specs.History.{RawBody, RawCommit, History, entry_of}
use Rattle.dbl_model_history.specs.History as raw
use Rattle.dbl_model_history.specs.Typed.{typed_body, typed}
use Rattle.dbl_model_history.specs.Fit.{AltersNone, AreInfosOf}

-- ---- the catalogue

-- A table's entry after a commit with these contents: an alteration of it gives it other columns, and the next version.
abbrev pub entry_after : RawBody → RawTable → RawTable
entry_after (raw.Changes changes) table = table
entry_after (raw.Mark value) table = table
entry_after (raw.Alter name columns rows) table =
    if same_name table.name name then record table { columns = columns; version = table.version + 1 } else table

-- The catalogue's entry of a table after this many commits.
abbrev pub entry_at : History → ℕ → TableName → Option RawTable
entry_at history place name =
    option_map (λ table. fold (λ entry commit. entry_after commit.body entry) table (take place history.commits)) (entry_of history name)

-- The version of a table after this many commits: 1 and one more for each alteration of it; 1 if there is no such table.
abbrev pub version_at : History → ℕ → TableName → ℕ
version_at history place name = unwrap_or (option_map (λ table. table.version) (entry_at history place name)) 1

-- ---- one table in other columns

-- Whether two descriptions are of one table, before and after alterations: its name, and the names and types of its key columns are equal.
pub record IsAlike (a b : TableInfo) : Type 0 where
  pub name : a.name ≡ b.name
  pub keys : key_names a ≡ key_names b
  pub types : key_types a ≡ key_types b

-- A column as it is captured; one of a type that isn't captured is read as text.
abbrev pub captured_column : RawColumn → Column
captured_column column = record { name = column.name; ty = unwrap_or (type_of column.oid) type.Text }

-- The indices of the columns with these names; a name of no column has none.
abbrev pub places_of : List Column → List (List ℕ) → List ℕ
places_of columns names = filter_map (place_of (column_names columns)) names

-- A table of these parts, or the given one if no table has them.
abbrev pub table_or : TableInfo → (columns : List Column) (key : List ℕ) (name : TableName) (b : Bool) → is_table name columns key ≡ b → TableInfo
table_or info columns key name true sound = record { name = name; columns = columns; key = key; sound = sound }
table_or info columns key name false sound = info

-- The table in other columns, its key by name, or as it was if these columns make no table with its key.
abbrev pub reshaped : List RawColumn → TableInfo → TableInfo
reshaped columns info =
    table_or info (map captured_column columns) (places_of (map captured_column columns) (key_names info)) info.name
    (is_table info.name (map captured_column columns) (places_of (map captured_column columns) (key_names info)))
    (λ i. is_table info.name (map captured_column columns) (places_of (map captured_column columns) (key_names info)))

-- ---- commits

-- A table that is altered, by its index among the captured ones, and the table's rows from there on, in its new columns.
pub record Alteration : Type 0 where
  pub table : ℕ
  pub rows : List RawRow

-- A commit with the captured tables from it on: the table that it alters already has its new columns. A commit alters at most one table,
-- and then changes no row.
pub record Versioned : Type 0 where
  pub lsn : Lsn
  pub end_lsn : Lsn
  pub time : ℤ
  pub xid : ℕ
  pub body : Body
  pub infos : List TableInfo
  pub altered : Option Alteration

-- A commit without the captured tables.
abbrev pub plain_commit : Versioned → Commit
plain_commit v = record { lsn = v.lsn; end_lsn = v.end_lsn; time = v.time; xid = v.xid; body = v.body }

-- The captured tables after a commit with these contents.
abbrev pub infos_by : RawBody → List TableInfo → List TableInfo
infos_by (raw.Changes changes) infos = infos
infos_by (raw.Mark value) infos = infos
infos_by (raw.Alter name columns rows) infos = map (λ info. if same_name info.name name then reshaped columns info else info) infos

-- The captured table that a commit alters, if it alters one.
abbrev pub alteration_in : List TableInfo → RawBody → Option Alteration
alteration_in infos (raw.Changes changes) = None
alteration_in infos (raw.Mark value) = None
alteration_in infos (raw.Alter name columns rows) = option_map (λ table. record { table = table; rows = rows }) (number_of infos name)

-- A commit of a history where these tables are captured from it on.
abbrev pub versioned_commit : List TableInfo → RawCommit → Versioned
versioned_commit infos commit = record {
  lsn = commit.lsn;
  end_lsn = commit.end_lsn;
  time = commit.time;
  xid = commit.xid;
  body = typed_body infos commit.body;
  infos = infos;
  altered = alteration_in infos commit.body;
}

-- Commits, each with the captured tables from it on, where these are captured before all of them.
abbrev pub versioned_from : List TableInfo → List RawCommit → List Versioned
versioned_from infos [] = []
versioned_from infos (commit ∷ commits) =
    versioned_commit (infos_by commit.body infos) commit ∷ versioned_from (infos_by commit.body infos) commits

-- The captured tables in the columns that they have before all commits: `infos` gives their names and keys only.
abbrev pub opening_infos : History → List TableInfo → List TableInfo
opening_infos history infos =
    map (λ info. unwrap_or (option_map (λ table. reshaped table.columns info) (entry_of history info.name)) info) infos

-- The commits of a history with only the changes of captured tables, each typed by the columns in force.
abbrev pub versioned : List TableInfo → History → List Versioned
versioned infos history = versioned_from (opening_infos history infos) history.commits

-- Whether a commit alters the captured table with this index: the table stays itself, every other one keeps its columns, and no row is
-- changed besides.
pub record Alters (old : List TableInfo) (v : Versioned) (table : ℕ) : Type 0 where
  pub before : TableInfo
  pub was : slice_get old table ≡ Some before
  pub info : TableInfo
  pub is : slice_get v.infos table ≡ Some info
  pub alike : IsAlike before info
  pub others : (other : ℕ) → other ≢ table → slice_get v.infos other ≡ slice_get old other
  pub silent : v.body ≡ Changes []

-- Whether the captured tables of a commit are those before it, but for the table that it alters.
abbrev pub FollowsInfos : List TableInfo → Versioned → Option Alteration → Type 0
FollowsInfos old v None = v.infos ≡ old
FollowsInfos old v (Some alteration) = Alters old v alteration.table

-- Whether commits follow one another, the first after a point at which these tables are captured.
abbrev pub AreVersionsFrom : List TableInfo → List Versioned → Type 0
AreVersionsFrom infos [] = Unit {0}
AreVersionsFrom infos (v ∷ versions) = FollowsInfos infos v v.altered × AreVersionsFrom v.infos versions

-- ---- theorems

-- Without alterations the catalogue's entry of a table stays its first one.
abbrev pub UnalteredEntriesStay : Type 0
UnalteredEntriesStay = (history : History) (place : ℕ) (name : TableName) → AllByRecursion (λ commit. AltersNone commit.body) history.commits
    → entry_at history place name ≡ entry_of history name

-- Without alterations the commits are those of the typed history, each with the captured tables.
abbrev pub PlainVersionsAreTyped : Type 0
PlainVersionsAreTyped = (infos : List TableInfo) (history : History) → AreInfosOf history infos
    → AllByRecursion (λ commit. AltersNone commit.body) history.commits
    → (map plain_commit (versioned infos history) ≡ typed infos history)
    × AllByRecursion (λ v. (v.infos ≡ infos) × (v.altered ≡ None)) (versioned infos history)
