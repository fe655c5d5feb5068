-- A writer's requirements: rows as wide as their table, keys as long as its key, but no cell types.
use Rattle.std.specs.Prelude.{◌≡◌, ◌⊎◌, Option, IfSome, IsSome, IsSomeAnd, List, length, slice_get}
use Rattle.std.specs.List.{AllByRecursion}
use Rattle.dbl_model_table.specs.declared.row.Key.{Key}
use Rattle.dbl_model_table.specs.declared.row.Row.{Row}
use Rattle.dbl_model_table.specs.declared.change.Cell.{Cell}
use Rattle.dbl_model_table.specs.declared.change.Change.{Change}
use Rattle.dbl_model_table.specs.declared.change.Change.TheVariants.{Insert, Update, Delete, Clear}
use Rattle.dbl_model_event.specs.declared.closed.Closed.{Closed}
use Rattle.dbl_model_table.specs.declared.table.TableInfo.{TableInfo}
use Rattle.dbl_model_table.specs.Infos.{width}
use Rattle.dbl_model_table.specs.Keys.{new_key_of}
use Rattle.dbl_model_table.specs.Rows.{all_given, table_of}
use Rattle.dbl_model_event.specs.ModelHistory.FitsInfos.{FitsInfos}
use Rattle.dbl_model_event.specs.Snapshots.{FitsSnapshot}

-- an update with one cell per column, also in the old row if it was sent, in which a key update sends all cells
pub record SuitsUpdate (info : TableInfo) (from : Key) (old : Option Row) (cells : List Cell) : Type 0 where
  pub old_wide : IfSome old (λ row. length row.cells ≡ width info)
  pub wide : length cells ≡ width info
  pub long : length from.cells ≡ length info.key
  pub stays_or_moves : (from ≡ new_key_of info cells) ⊎ IsSome (all_given cells)

-- a delete whose old row has one cell per column, and whose key has the length of the table's key
pub record SuitsDelete (info : TableInfo) (from : Key) (old : Row) : Type 0 where
  pub old_wide : length old.cells ≡ width info
  pub long : length from.cells ≡ length info.key

-- the change meets the requirements for this table
abbrev pub SuitsTable : TableInfo → Change → Type 0
SuitsTable info (Insert table row) = length row.cells ≡ width info
SuitsTable info (Update table from old cells) = SuitsUpdate info from old cells
SuitsTable info (Delete table from old) = SuitsDelete info from old
SuitsTable info (Clear table) = Unit {0}

-- the change is of a captured table and meets its requirements
abbrev pub Suits : List TableInfo → Change → Type 0
Suits infos c = IsSomeAnd (slice_get infos (table_of c)) (λ info. SuitsTable info c)

-- the keys and rows meet the requirements for this table
abbrev pub SuitsRows : TableInfo → List (Key × Row) → Type 0
SuitsRows info rows = AllByRecursion (λ e. (length e.0.cells ≡ length info.key) × (length e.1.cells ≡ width info)) rows

-- the closed window meets the requirements for this table
pub record SuitsChunk (info : TableInfo) (closed : Closed) : Type 0 where
  pub rows : SuitsRows info closed.rows
  pub through : IfSome closed.through (λ key. length key.cells ≡ length info.key)

-- the closed window is of a captured table and meets its requirements
abbrev pub SuitsSnapshot : List TableInfo → Closed → Type 0
SuitsSnapshot infos closed = IsSomeAnd (slice_get infos closed.table) (λ info. SuitsChunk info closed)

-- changes and windows valid for the captured tables are accepted by a writer of these tables
abbrev pub FittingSuits : Type 0
FittingSuits = (infos : List TableInfo) → ((c : Change) → FitsInfos infos c → Suits infos c)
    × ((closed : Closed) → FitsSnapshot infos closed → SuitsSnapshot infos closed)
