-- What is left of columns and of cells, one further.
use Rattle.std.proofs.Common.{◌≡◌, ◌∙◌, ◌+◌, ◌<◌, ◌≤◌, ℕ, true, false, Option, List, [], ◌∷◌, ◌++◌, length, map, drop, get_or, refl, sym, ap, arith}
use Rattle.std.specs.Prelude.{nat_lt}
use Rattle.std.specs.List.{AllByRecursion}
use Rattle.std.proofs.lemmas.Bool.Decides.{nat_tests}
use Rattle.std.proofs.lemmas.List.{drop-map, drop_more}
use Rattle.std.proofs.Math.ListN.{drop_of_length-le}
use Rattle.dbl_model_table.specs.declared.named_cell.NamedCell.{NamedCell}
use Rattle.dbl_model_table.specs.declared.table.Column.{Column}
use Rattle.dbl_model_table.specs.declared.table.RawColumn.{RawColumn}
use Rattle.dbl_model_table.specs.declared.table.RawTable.{RawTable}
use Rattle.dbl_model_table.specs.Infos.{raw_column}
use Rattle.dbl_source_log.specs.Texts.{Texts}
use Rattle.dbl_tables_rows.specs.Cells.{row_set}
use Rattle.dbl_tables_rows.specs.declared.demo_table.DemoTable.{DemoTable}
use Rattle.dbl_tables_rows.specs.Sending.{key_cells, new_cells}

pub columns_rest : (columns : List Column) (i : ℕ) (c : Column) → i < length columns → c ≡ get_or columns i c → drop i (map raw_column columns) ≡ raw_column c ∷ drop (i + 1) (map raw_column columns)
columns_rest columns i c lt is =
    drop-map raw_column i columns
    ∙ (ap (map raw_column) (drop_more columns i c lt ∙ ap (λ (y : Column). y ∷ drop (i + 1) columns) (sym is))
    ∙ ap (λ (l : List RawColumn). raw_column c ∷ l) (sym (drop-map raw_column (i + 1) columns)))

pub columns_past : (columns : List Column) (i : ℕ) → length columns ≤ i → drop i (map raw_column columns) ≡ []
columns_past columns i past = drop-map raw_column i columns ∙ ap (map raw_column) (drop_of_length-le columns past)

pub cells_rest : (row : Texts) (i : ℕ) (x : Option (List ℕ)) → true ≡ nat_lt i (length row) → x ≡ get_or row i x → drop i row ≡ x ∷ drop (i + 1) row
cells_rest row i x test is =
    let lt : i < length row = grind (arith, nat_tests) in
    drop_more row i x lt ∙ ap (λ (y : Option (List ℕ)). y ∷ drop (i + 1) row) (sym is)

pub cells_past : (row : Texts) (i : ℕ) → false ≡ nat_lt i (length row) → drop i row ≡ []
cells_past row i test = let past : length row ≤ i = grind (arith, nat_tests) in drop_of_length-le row past

pub none_set : (columns : List RawColumn) (set : List NamedCell) → row_set columns set [] ≡ []
none_set [] set = refl
none_set (column ∷ columns) set = refl

pub none_sent : (raw : RawTable) (columns : List RawColumn) → key_cells raw columns [] ≡ []
none_sent raw [] = refl
none_sent raw (column ∷ columns) = refl

-- what holds of each of some things and of one more
pub all_push : {A : Type 0} (P : A → Type 0) (xs : List A) (y : A) → AllByRecursion P xs → P y → AllByRecursion P (xs ++ y ∷ [])
all_push P [] y each one = (one, tt)
all_push P (x ∷ xs) y each one = (each.0, all_push P xs y each.1 one)

pub none_before : (table : DemoTable) (columns : List RawColumn) (row : Texts) → new_cells table columns [] row ≡ []
none_before table [] row = refl
none_before table (column ∷ columns) row = refl

pub none_new : (table : DemoTable) (columns : List RawColumn) (before : Texts) → new_cells table columns before [] ≡ []
none_new table [] before = refl
none_new table (column ∷ columns) [] = refl
none_new table (column ∷ columns) (x ∷ before) = refl
