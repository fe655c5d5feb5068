-- The changes that are whole for a key, case by case, and the keys touched between two points in the history.
use Rattle.std.specs.Prelude.{◌≡◌, ◌≢◌, ◌⊎◌, ◌↔◌, ℕ, ◌<◌, ◌≤◌, Some, IsSome, List, map, slice_get}
use Rattle.dbl_model_table.specs.declared.row.Key.{Key}
use Rattle.dbl_model_table.specs.declared.change.Change.{Change}
use Rattle.dbl_model_table.specs.declared.change.Change.TheVariants.{Insert, Update, Delete, Clear}
use Rattle.dbl_model_table.specs.declared.table.TableInfo.{TableInfo}
use Rattle.dbl_model_table.specs.Infos.{key_places}
use Rattle.dbl_model_table.specs.Keys.{key_at, given_or_null}
use Rattle.dbl_model_table.specs.Rows.{all_given, IsWholeFor}

-- Whether a change is whole for a key: an insert or a delete for its key, a truncation for every key of its table, an update for a key that
-- it moves away from, and for its new key if it sends all cells.
abbrev pub IsWholeByCase : List TableInfo → Change → ℕ → Key → Type 0
IsWholeByCase infos (Insert t row) table key = (t ≡ table) × (key_at (key_places infos t) row.cells ≡ key)
IsWholeByCase infos (Update t from old cells) table key =
    (t ≡ table) × (((key_at (key_places infos t) (map given_or_null cells) ≡ key) × IsSome (all_given cells))
    ⊎ ((key_at (key_places infos t) (map given_or_null cells) ≢ key) × (from ≡ key)))
IsWholeByCase infos (Delete t from old) table key = (t ≡ table) × (from ≡ key)
IsWholeByCase infos (Clear t) table key = t ≡ table

-- The changes that are whole for a key are exactly those of the cases.
abbrev pub WholeChangesAreCases : Type 0
WholeChangesAreCases = (infos : List TableInfo) (change : Change) (table : ℕ) (key : Key)
    → IsWholeFor infos change table key ↔ IsWholeByCase infos change table key

-- Whether some change from one point in the history on and before another is whole for the key.
pub record IsTouched (infos : List TableInfo) (changes : List Change) (from to : ℕ) (table : ℕ) (key : Key) : Type 0 where
  pub place : ℕ
  pub change : Change
  pub not_before : from ≤ place
  pub before : place < to
  pub is : slice_get changes place ≡ Some change
  pub whole : IsWholeFor infos change table key

-- A key touched between two points in the history is touched before a point between them or from there on.
abbrev pub TouchedKeysAreParted : Type 0
TouchedKeysAreParted = (infos : List TableInfo) (changes : List Change) (from between to table : ℕ) (key : Key) → from ≤ between
    → between ≤ to
    → IsTouched infos changes from to table key ↔
    (IsTouched infos changes from between table key ⊎ IsTouched infos changes between to table key)
