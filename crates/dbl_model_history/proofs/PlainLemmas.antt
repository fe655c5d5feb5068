-- Lemmas on the cells that updates send, and on the row of one table and key.
use Rattle.std.proofs.Common.{◌≡◌, ℕ, true, false, Some, None, List, [], ◌∷◌, map, refl, ap}
use Rattle.std.specs.Prelude.{option_map}
use Rattle.std.specs.List.{list_all}
use Rattle.dbl_value_types.specs.declared.value.Val.{Val}
use Rattle.dbl_model_table.specs.declared.row.Key.{Key}
use Rattle.dbl_model_table.specs.declared.change.Cell.{Cell}
use Rattle.dbl_model_table.specs.declared.change.Cell.TheVariants.{Given, Unchanged}
use Rattle.dbl_model_table.specs.declared.change.Change.{Change}
use Rattle.dbl_model_table.specs.declared.table.TableInfo.{TableInfo}
use Rattle.dbl_model_table.specs.Keys.{given_or_null}
use Rattle.dbl_model_table.specs.Rows.{all_given, Rows, rows_after, rows_from}
use Rattle.dbl_model_history.specs.PlainRows.{is_sent, row_from}

pub given_all : (cells : List Cell) → list_all is_sent cells ≡ true → all_given cells ≡ Some (map given_or_null cells)
given_all [] h = refl
given_all (Given v ∷ cells) h = ap (option_map (λ (row : List Val). v ∷ row)) (given_all cells h)
given_all (Unchanged ∷ cells) h = cc

pub given_not : (cells : List Cell) → list_all is_sent cells ≡ false → all_given cells ≡ None
given_not [] h = cc
given_not (Given v ∷ cells) h = ap (option_map (λ (row : List Val). v ∷ row)) (given_not cells h)
given_not (Unchanged ∷ cells) h = refl

-- ---- one table and key

pub rows_from-row_from : (infos : List TableInfo) (at : Rows) (changes : List Change) (table : ℕ) (key : Key) → rows_from infos at changes table key ≡ row_from infos table key (at table key) changes
rows_from-row_from infos at [] table key = refl
rows_from-row_from infos at (c ∷ cs) table key = rows_from-row_from infos (rows_after infos c at) cs table key
