-- Keys, their order, and the key of a row.
use Rattle.std.specs.Prelude.{ℕ, Bool, unwrap_or, List, map, slice_get}
use Rattle.std.specs.Ordering.{is_eq}
use Rattle.std.specs.declared.cmp.Ordering.{Ordering}
use Rattle.std.specs.Cmp.Lexicographic.{slice_cmp}
use Rattle.dbl_value_types.specs.declared.value.Val.{Val}
use Rattle.dbl_value_types.specs.declared.value.Val.TheVariants as val
use Rattle.dbl_value_types.specs.Order.{val_cmp}
use Rattle.dbl_model_table.specs.declared.row.Key.{Key}
use Rattle.dbl_model_table.specs.declared.change.Cell.{Cell}
use Rattle.dbl_model_table.specs.declared.change.Cell.TheVariants.{Given, Unchanged}
use Rattle.dbl_model_table.specs.declared.table.TableInfo.{TableInfo}

-- The order of keys: by their cells from the first on, numbers by value and texts by bytes.
abbrev pub key_cmp : Key → Key → Ordering
key_cmp a b = slice_cmp val_cmp a.cells b.cells

-- Whether two keys compare as equal, which is whether they are equal (theorem KeysAreOrdered).
abbrev pub same_key : Key → Key → Bool
same_key a b = is_eq (key_cmp a b)

-- The cell at an index, Null if there is none.
abbrev pub cell_or_null : List Val → ℕ → Val
cell_or_null cells place = unwrap_or (slice_get cells place) val.Null

-- The key whose cells are at these indices of a row.
abbrev pub key_at : List ℕ → List Val → Key
key_at places cells = record { cells = map (cell_or_null cells) places }

-- The key of a row's cells.
abbrev pub key_of : TableInfo → List Val → Key
key_of info cells = key_at info.key cells

-- The value of an update's cell, Null if it is unsent.
abbrev pub given_or_null : Cell → Val
given_or_null (Given v) = v
given_or_null Unchanged = val.Null

-- The key of an update's cells.
abbrev pub new_key_of : TableInfo → List Cell → Key
new_key_of info cells = key_of info (map given_or_null cells)
