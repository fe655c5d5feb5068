-- The part of a window's rows that a change of its table keeps.
use Rattle.std.specs.Prelude.{◌≡◌, ℕ, true, Option, Some, List, [], ◌∷◌, slice_get, slice_set}
use Rattle.dbl_value_types.specs.declared.value.Val.{Val}
use Rattle.dbl_model_table.specs.declared.row.Key.{Key}
use Rattle.dbl_model_table.specs.declared.row.Row.{Row}
use Rattle.dbl_model_table.specs.declared.change.Cell.{Cell}
use Rattle.dbl_model_table.specs.declared.change.Cell.TheVariants.{Given, Unchanged}
use Rattle.dbl_model_table.specs.declared.change.Change.{Change}
use Rattle.dbl_model_table.specs.declared.change.Change.TheVariants.{Insert, Update, Delete, Clear}
use Rattle.dbl_model_table.specs.declared.table.TableInfo.{TableInfo}
use Rattle.dbl_model_table.specs.Infos.{column_types}
use Rattle.dbl_model_table.specs.Keys.{same_key, key_of, new_key_of}
use Rattle.dbl_model_table.specs.Rows.{Effect, all_given, updated, at_key, at_keys, effect_of}
use Rattle.dbl_model_table.specs.Rows.Effect.{Whole, Ends}
use Rattle.dbl_model_history.specs.Fit.{IsKeyOf}
use Rattle.dbl_model_history.specs.FitsInfos.{AreCellsOf, FitsInsert, FitsUpdate, FitsDelete}
use Rattle.dbl_model_history.specs.KeyedRows.{row_in, row_left}

-- Whether the row's cells are of the columns' types, the row is at its own key, and that key is of the key's types.
pub record FitsRow (info : TableInfo) (entry : Key × Row) : Type 0 where
  pub cells : AreCellsOf (column_types info) entry.1.cells
  pub own : key_of info entry.1.cells ≡ entry.0
  pub key : IsKeyOf info entry.0

-- Whether a change of this table matches it.
abbrev pub FitsTableChange : TableInfo → Change → Type 0
FitsTableChange info (Insert table row) = FitsInsert info row
FitsTableChange info (Update table from old cells) = FitsUpdate info from old cells
FitsTableChange info (Delete table from old) = FitsDelete info from old
FitsTableChange info (Clear table) = Unit {0}

-- For private clauses: the effect of a change of this table on the table's row at a key.
abbrev pub effect_at : TableInfo → Change → Key → Effect
effect_at info (Insert table row) key = at_key true (same_key (key_of info row.cells) key) (Whole row.cells)
effect_at info (Update table from old cells) key =
    at_keys true (same_key (new_key_of info cells) key) (same_key from key) (updated (all_given cells) cells)
effect_at info (Delete table from old) key = at_key true (same_key from key) Ends
effect_at info (Clear table) key = at_key true true Ends

-- The part of a row read earlier that changes keep, one after the other.
abbrev pub left_from : List TableInfo → ℕ → Key → Option (List Val) → List Change → Option (List Val)
left_from infos table key row [] = row
left_from infos table key row (change ∷ changes) =
    left_from infos table key (row_left (effect_of infos change table key) row) changes

-- Whether the new rows are the parts of the old ones that changes keep, key by key. Changes of other tables keep them all. The rows in key
-- order are unique (theorem LeftRowsAreOne).
abbrev pub AreLeft : List TableInfo → ℕ → List (Key × Row) → List Change → List (Key × Row) → Type 0
AreLeft infos table selected changes rows =
    (key : Key) → row_in rows key ≡ left_from infos table key (row_in selected key) changes

-- Whether the new rows of a window are the old ones after one change, for any captured tables besides its own.
abbrev pub IsLeftBy : ℕ → TableInfo → Change → List (Key × Row) → List (Key × Row) → Type 0
IsLeftBy table info change old new =
    (infos : List TableInfo) → slice_get infos table ≡ Some info
    → (key : Key) → row_in new key ≡ row_left (effect_of infos change table key) (row_in old key)

-- For private clauses: a row with a cell of an update applied at an index.
abbrev pub laid : ℕ → Cell → List Val → List Val
laid place (Given v) row = slice_set row place v
laid place Unchanged row = row
