-- Cells of updates that are laid over a row, one after the other.
use Rattle.std.proofs.Common.{◌≡◌, ◌≢◌, ◌∙◌, ◌+◌, ◌<◌, ℕ, zero, suc, true, Option, Some, None, List, [], ◌∷◌, ◌++◌, length, map, take, get_or, set, refl, sym, ap, subst, arith}
use Rattle.std.proofs.lemmas.List.{take_more, length-take-le}
use Rattle.std.specs.Prelude.{nat_lt, option_map}
use Rattle.std.specs.List.{list_all}
use Rattle.std.proofs.lemmas.Bool.Decides.{Decides-ltb}
use Rattle.dbl_value_types.specs.declared.column_type.PgType.{PgType}
use Rattle.dbl_value_types.specs.declared.value.Val.{Val}
use Rattle.dbl_value_types.specs.declared.value.Val.TheVariants as val
use Rattle.dbl_value_types.specs.Values.{IsOf}
use Rattle.dbl_value_types.proofs.KindLemmas.{null_spelled}
use Rattle.dbl_model_table.specs.declared.change.Cell.{Cell}
use Rattle.dbl_model_table.specs.declared.change.Cell.TheVariants.{Given, Unchanged}
use Rattle.dbl_model_table.specs.Keys.{cell_or_null, given_or_null}
use Rattle.dbl_model_table.specs.Rows.{overlay}
use Rattle.dbl_model_table.proofs.Lists.{and_left, and_right}
use Rattle.dbl_model_history.specs.Fit.{AreOf}
use Rattle.dbl_window.specs.Changing.{laid}

-- a later cell takes the place of an earlier one where it is given
abbrev pub merged : List Cell → List Cell → List Cell
merged [] later = later
merged (a ∷ earlier) [] = a ∷ earlier
merged (a ∷ earlier) (Given v ∷ later) = Given v ∷ merged earlier later
merged (a ∷ earlier) (Unchanged ∷ later) = a ∷ merged earlier later

-- two updates are one
pub overlay-merged : (earlier later : List Cell) (row : List Val) → overlay later (overlay earlier row) ≡ overlay (merged earlier later) row
overlay-merged [] later row = refl
overlay-merged (a ∷ earlier) [] row = refl
overlay-merged (a ∷ earlier) (Given v ∷ later) [] = refl
overlay-merged (a ∷ earlier) (Unchanged ∷ later) [] = refl
overlay-merged (Given u ∷ earlier) (Given v ∷ later) (x ∷ row) = ap (λ (l : List Val). v ∷ l) (overlay-merged earlier later row)
overlay-merged (Unchanged ∷ earlier) (Given v ∷ later) (x ∷ row) = ap (λ (l : List Val). v ∷ l) (overlay-merged earlier later row)
overlay-merged (Given u ∷ earlier) (Unchanged ∷ later) (x ∷ row) = ap (λ (l : List Val). u ∷ l) (overlay-merged earlier later row)
overlay-merged (Unchanged ∷ earlier) (Unchanged ∷ later) (x ∷ row) = ap (λ (l : List Val). x ∷ l) (overlay-merged earlier later row)

-- an update that comes twice is as one that comes once
pub overlay-again : (cells : List Cell) (row : List Val) → overlay cells (overlay cells row) ≡ overlay cells row
overlay-again [] row = refl
overlay-again (cell ∷ cells) [] = refl
overlay-again (Given v ∷ cells) (x ∷ row) = ap (λ (l : List Val). v ∷ l) (overlay-again cells row)
overlay-again (Unchanged ∷ cells) (x ∷ row) = ap (λ (l : List Val). x ∷ l) (overlay-again cells row)

-- ---- over a row that may be there

pub no_cells : (row : Option (List Val)) → row ≡ option_map (overlay []) row
no_cells None = refl
no_cells (Some row) = refl

pub one_after_another : (earlier later : List Cell) (row : Option (List Val)) → option_map (overlay later) (option_map (overlay earlier) row) ≡ option_map (overlay (merged earlier later)) row
one_after_another earlier later None = refl
one_after_another earlier later (Some row) = ap (λ (r : List Val). Some r) (overlay-merged earlier later row)

pub again : (cells : List Cell) (row : Option (List Val)) → option_map (overlay cells) (option_map (overlay cells) row) ≡ option_map (overlay cells) row
again cells None = refl
again cells (Some row) = ap (λ (r : List Val). Some r) (overlay-again cells row)

-- ---- over a row's key

overlaid_cell : (cells : List Cell) (row : List Val) (place : ℕ) → place < length row → cell_or_null (map given_or_null cells) place ≢ val.Null
    → cell_or_null (overlay cells row) place ≡ cell_or_null (map given_or_null cells) place
overlaid_cell [] row place lt given = absurd (given refl)
overlaid_cell (cell ∷ cells) [] place lt given = absurd (omega arith)
overlaid_cell (Given v ∷ cells) (x ∷ row) zero lt given = refl
overlaid_cell (Unchanged ∷ cells) (x ∷ row) zero lt given = absurd (given refl)
overlaid_cell (Given v ∷ cells) (x ∷ row) (suc place) lt given = overlaid_cell cells row place (omega arith) given
overlaid_cell (Unchanged ∷ cells) (x ∷ row) (suc place) lt given = overlaid_cell cells row place (omega arith) given

-- where no cell of an update's key is null, the key of the row under it is the update's
pub overlaid_key : (types : List PgType) (places : List ℕ) (cells : List Cell) (row : List Val) (long : ℕ) → length row ≡ long → list_all (λ place. nat_lt place long) places ≡ true
    → AreOf types (map (cell_or_null (map given_or_null cells)) places) → map (cell_or_null (overlay cells row)) places ≡ map (cell_or_null (map given_or_null cells)) places
overlaid_key types [] cells row long same within are = refl
overlaid_key [] (place ∷ places) cells row long same within are = elim are [ ]
overlaid_key (ty ∷ types) (place ∷ places) cells row long same within are =
    let lt : place < long = (Decides-ltb place long).0 (and_left _ _ within) in
    let null : cell_or_null (map given_or_null cells) place ≡ val.Null → ⊥ = λ is. (let of : IsOf ty val.Null = subst (IsOf ty) is are.0 in null_spelled ty of.text of.spells) in
    let first : cell_or_null (overlay cells row) place ≡ cell_or_null (map given_or_null cells) place = overlaid_cell cells row place (omega (arith, same, lt)) null in
    ap (λ (v : Val). v ∷ map (cell_or_null (overlay cells row)) places) first
    ∙ ap (λ (l : List Val). cell_or_null (map given_or_null cells) place ∷ l) (overlaid_key types places cells row long same (and_right (nat_lt place long) _ within) are.1)

-- ---- cell by cell

end_unsent : (cells : List Cell) (row : List Val) → overlay (cells ++ Unchanged ∷ []) row ≡ overlay cells row
end_unsent [] [] = refl
end_unsent [] (x ∷ row) = refl
end_unsent (cell ∷ cells) [] = refl
end_unsent (Given v ∷ cells) (x ∷ row) = ap (λ (l : List Val). v ∷ l) (end_unsent cells row)
end_unsent (Unchanged ∷ cells) (x ∷ row) = ap (λ (l : List Val). x ∷ l) (end_unsent cells row)

end_given : (cells : List Cell) (row : List Val) (v : Val) → overlay (cells ++ Given v ∷ []) row ≡ set (overlay cells row) (length cells) v
end_given [] [] v = refl
end_given [] (x ∷ row) v = refl
end_given (cell ∷ cells) [] v = refl
end_given (Given u ∷ cells) (x ∷ row) v = ap (λ (l : List Val). u ∷ l) (end_given cells row v)
end_given (Unchanged ∷ cells) (x ∷ row) v = ap (λ (l : List Val). x ∷ l) (end_given cells row v)

-- an unsent cell more leaves the row
pub overlay-unsent : (cells : List Cell) (row : List Val) (i : ℕ) (cell : Cell) → i < length cells → cell ≡ get_or cells i cell → cell ≡ Unchanged → overlay (take (i + 1) cells) row ≡ overlay (take i cells) row
overlay-unsent cells row i cell lt at unsent =
    ap (λ (l : List Cell). overlay l row) (take_more cells i cell lt ∙ ap (λ (c : Cell). take i cells ++ c ∷ []) (sym at ∙ unsent))
    ∙ end_unsent (take i cells) row

-- a given one takes its place
pub overlay-given : (cells : List Cell) (row : List Val) (i : ℕ) (cell : Cell) (v : Val) → i < length cells → cell ≡ get_or cells i cell → cell ≡ Given v → overlay (take (i + 1) cells) row ≡ set (overlay (take i cells) row) i v
overlay-given cells row i cell v lt at given =
    ap (λ (l : List Cell). overlay l row) (take_more cells i cell lt ∙ ap (λ (c : Cell). take i cells ++ c ∷ []) (sym at ∙ given))
    ∙ (end_given (take i cells) row v ∙ ap (λ (n : ℕ). set (overlay (take i cells) row) n v) (length-take-le i cells (omega (arith, lt))))

-- so each cell is laid over in turn
pub overlay-more : (cells : List Cell) (row : List Val) (i : ℕ) (cell : Cell) → i < length cells → cell ≡ get_or cells i cell → overlay (take (i + 1) cells) row ≡ laid i cell (overlay (take i cells) row)
overlay-more cells row i (Given v) lt at = overlay-given cells row i (Given v) v lt at refl
overlay-more cells row i Unchanged lt at = overlay-unsent cells row i Unchanged lt at refl
