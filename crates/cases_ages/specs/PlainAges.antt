-- Definitions for the plain functions that compute, for cases, which keys are known and how stale a cell is.
use Rattle.std.specs.Prelude.{◌≡◌, ◌≢◌, ◌⊎◌, ℕ, unwrap_or, Option, None, IsSome, List, map, slice_get}
use Rattle.dbl_model_table.specs.declared.row.Key.{Key}
use Rattle.dbl_model_table.specs.declared.change.Cell.{Cell}
use Rattle.dbl_model_table.specs.declared.change.Change.{Change}
use Rattle.dbl_model_table.specs.declared.change.Change.TheVariants.{Insert, Update, Delete, Clear}
use Rattle.dbl_model_table.specs.declared.table.TableInfo.{TableInfo}
use Rattle.dbl_model_table.specs.Infos.{key_places}
use Rattle.dbl_model_table.specs.Keys.{key_at, given_or_null}
use Rattle.dbl_model_table.specs.Rows.{all_given}

-- The life of a cell that had these texts at the points 0, 1, 2, ..
abbrev pub life_of : List (Option (List ℕ)) → ℕ → Option (List ℕ)
life_of texts moment = unwrap_or (slice_get texts moment) None

-- Whether an update of this old key is whole for the key: it sends all cells there, or moves the row away from it.
abbrev pub IsWholeUpdate : List TableInfo → ℕ → Key → List Cell → Key → Type 0
IsWholeUpdate infos table from cells key =
    ((key_at (key_places infos table) (map given_or_null cells) ≡ key) × IsSome (all_given cells))
    ⊎ ((key_at (key_places infos table) (map given_or_null cells) ≢ key) × (from ≡ key))

-- Whether the change is whole for this key of its own table.
abbrev pub IsWholeHere : List TableInfo → Change → Key → Type 0
IsWholeHere infos (Insert t row) key = key_at (key_places infos t) row.cells ≡ key
IsWholeHere infos (Update t from old cells) key = IsWholeUpdate infos t from cells key
IsWholeHere infos (Delete t from old) key = from ≡ key
IsWholeHere infos (Clear t) key = Unit {0}
