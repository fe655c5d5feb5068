-- The row of one table and key while changes follow one another.
use Rattle.std.specs.Prelude.{ℕ, Bool, true, false, Option, option_map, List, [], ◌∷◌}
use Rattle.dbl_value_types.specs.declared.value.Val.{Val}
use Rattle.dbl_model_table.specs.declared.row.Key.{Key}
use Rattle.dbl_model_table.specs.declared.row.Row.{Row}
use Rattle.dbl_model_table.specs.declared.change.Cell.{Cell}
use Rattle.dbl_model_table.specs.declared.change.Cell.TheVariants.{Given, Unchanged}
use Rattle.dbl_model_table.specs.declared.change.Change.{Change}
use Rattle.dbl_model_table.specs.declared.table.TableInfo.{TableInfo}
use Rattle.dbl_model_table.specs.Rows.{effect_of, row_after}

-- The cells of a row, if there is one.
abbrev pub plain_row_cells : Option Row → Option (List Val)
plain_row_cells row = option_map (λ r. r.cells) row

-- Whether a cell of an update was sent.
abbrev pub is_sent : Cell → Bool
is_sent (Given v) = true
is_sent Unchanged = false

-- The row of one table and key after changes.
abbrev pub row_from : List TableInfo → ℕ → Key → Option (List Val) → List Change → Option (List Val)
row_from infos table key row [] = row
row_from infos table key row (change ∷ changes) = row_from infos table key (row_after (effect_of infos change table key) row) changes
