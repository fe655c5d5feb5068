-- Lists of rows by their keys, and the first rows of a table above a key.
use Rattle.std.specs.Prelude.{◌≡◌, ◌⊎◌, ℕ, ◌<◌, ◌≤◌, if◌then◌else◌, Option, Some, None, IfSome, List, [], ◌∷◌, length}
use Rattle.std.specs.List.{AllByRecursion}
use Rattle.dbl_value_types.specs.declared.value.Val.{Val}
use Rattle.dbl_model_table.specs.declared.row.Key.{Key}
use Rattle.dbl_model_table.specs.declared.row.Row.{Row}
use Rattle.dbl_model_table.specs.declared.table.TableInfo.{TableInfo}
use Rattle.dbl_model_table.specs.Keys.{same_key}
use Rattle.dbl_model_history.specs.KeyBounds.{IsAbove, IsUpTo}
use Rattle.dbl_model_table.specs.Rows.{Effect, IsWholeEffect, row_after}
use Rattle.dbl_model_table.specs.Rows.Effect.{Stays, Whole, Part, Ends}
use Rattle.dbl_model_history.specs.Fit.{IsKeyOf}

-- The cells of the row that the list has at a key.
abbrev pub row_in : List (Key × Row) → Key → Option (List Val)
row_in [] key = None
row_in (entry ∷ rows) key = if same_key entry.0 key then Some entry.1.cells else row_in rows key

-- The part of a row read earlier that a change keeps: nothing if the change sets every cell or ends the row, since its own record has more,
-- and otherwise the row with the new cells.
abbrev pub row_left : Effect → Option (List Val) → Option (List Val)
row_left Stays row = row
row_left (Whole new) row = None
row_left (Part cells) row = row_after (Part cells) row
row_left Ends row = None

-- If the row that was read is the table's before a change, the part that the change keeps is the table's after it.
abbrev pub LeftRowsAreRows : Type 0
LeftRowsAreRows = (effect : Effect) (held row : Option (List Val)) → IfSome held (λ cells. row ≡ Some cells)
    → IfSome (row_left effect held) (λ cells. row_after effect row ≡ Some cells)

-- If a change keeps nothing of a row, it set every cell or ended the row.
abbrev pub LostRowsWereTouched : Type 0
LostRowsWereTouched = (effect : Effect) (cells : List Val) → row_left effect (Some cells) ≡ None → IsWholeEffect effect

-- Whether each key is above the one before it, and the first above the bound.
abbrev pub AreAbove : Option Key → List (Key × Row) → Type 0
AreAbove bound [] = Unit {0}
AreAbove bound (entry ∷ rows) = IsAbove bound entry.0 × AreAbove (Some entry.0) rows

-- The last key of the list, or the bound if the list is empty.
abbrev pub last_key : Option Key → List (Key × Row) → Option Key
last_key bound [] = bound
last_key bound (entry ∷ rows) = last_key (Some entry.0) rows

-- The first rows of a table above a bound, in key order: at most `limit`, and all of them if they are fewer. Only keys of the table's key
-- types are considered: another key could have the JSON text of one of them.
pub record AreFirst (info : TableInfo) (at : Key → Option (List Val)) (above : Option Key) (limit : ℕ)
    (rows : List (Key × Row)) : Type 0 where
  pub keys : AllByRecursion (λ entry. IsKeyOf info entry.0) rows
  pub ordered : AreAbove above rows
  pub few : length rows ≤ limit
  -- Up to the last key, or everywhere above the bound if there are fewer rows, the list has the table's rows and no others.
  pub right : (key : Key) → IsKeyOf info key → IsAbove above key → (length rows < limit) ⊎ IsUpTo (last_key above rows) key
      → row_in rows key ≡ at key

-- The first rows above a bound are unique.
abbrev pub FirstRowsAreOne : Type 0
FirstRowsAreOne = (info : TableInfo) (at : Key → Option (List Val)) (above : Option Key) (limit : ℕ) (a b : List (Key × Row))
    → AreFirst info at above limit a → AreFirst info at above limit b → a ≡ b
