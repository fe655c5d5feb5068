-- The test of a key against an update's cells, cell by cell.
use Rattle.std.proofs.Common.{◌≡◌, ◌∙◌, ℕ, zero, suc, Bool, true, false, List, [], ◌∷◌, Some, length, map, drop, slice_get, refl, ap, ap₂, arith, Ordering, Less, Equal, Greater}
use Rattle.std.specs.Prelude.{unwrap_or}
use Rattle.std.specs.Ordering.{is_eq, ordering_then}
use Rattle.std.specs.Cmp.Lexicographic.{slice_cmp}
use Rattle.dbl_value_types.specs.declared.value.Val.{Val}
use Rattle.dbl_value_types.specs.declared.value.Val.TheVariants as val
use Rattle.dbl_value_types.specs.Order.{val_cmp}
use Rattle.dbl_model_table.specs.declared.row.Key.{Key}
use Rattle.dbl_model_table.specs.declared.change.Cell.{Cell}
use Rattle.dbl_model_table.specs.declared.table.TableInfo.{TableInfo}
use Rattle.dbl_model_table.specs.Keys.{new_key_of, given_or_null, cell_or_null}
use Rattle.dbl_envelope_json.proofs.LayoutLemmas.{drop_here}
use Rattle.dbl_envelope_json.proofs.TokenLemmas.{map_get}

pub new_cell : (info : TableInfo) (cells : List Cell) (i k : ℕ) (cell : Cell) → slice_get info.key i ≡ Some k → slice_get cells k ≡ Some cell → slice_get (new_key_of info cells).cells i ≡ Some (given_or_null cell)
new_cell info cells i k cell is at =
    map_get (cell_or_null (map given_or_null cells)) info.key i k is ∙ ap (λ o. Some (unwrap_or o val.Null)) (map_get given_or_null cells k cell at)

then_same : (o p : Ordering) → is_eq o ≡ true → is_eq (ordering_then o p) ≡ is_eq p
then_same Less p h = cc
then_same Equal p h = refl
then_same Greater p h = cc

then_other : (o p : Ordering) → is_eq o ≡ false → is_eq (ordering_then o p) ≡ false
then_other Less p h = refl
then_other Equal p h = cc
then_other Greater p h = refl

-- what is left of two keys is the same from some place on
abbrev pub same_from : ℕ → Key → Key → Bool
same_from i a b = is_eq (slice_cmp val_cmp (drop i a.cells) (drop i b.cells))

pub same_more : (a b : Key) (i : ℕ) (v w : Val) → slice_get a.cells i ≡ Some v → slice_get b.cells i ≡ Some w → is_eq (val_cmp v w) ≡ true → same_from i a b ≡ same_from (suc i) a b
same_more a b i v w va wb same =
    ap₂ (λ x y. is_eq (slice_cmp val_cmp x y)) (drop_here a.cells i v va) (drop_here b.cells i w wb) ∙ then_same (val_cmp v w) _ same

pub same_not : (a b : Key) (i : ℕ) (v w : Val) → slice_get a.cells i ≡ Some v → slice_get b.cells i ≡ Some w → is_eq (val_cmp v w) ≡ false → same_from i a b ≡ false
same_not a b i v w va wb other =
    ap₂ (λ x y. is_eq (slice_cmp val_cmp x y)) (drop_here a.cells i v va) (drop_here b.cells i w wb) ∙ then_other (val_cmp v w) _ other

drop_past : {A : Type 0} (xs : List A) (i : ℕ) → i ≡ length xs → drop i xs ≡ []
drop_past [] zero e = refl
drop_past [] (suc i) e = refl
drop_past (x ∷ xs) zero e = absurd (omega arith)
drop_past (x ∷ xs) (suc i) e = drop_past xs i (omega arith)

pub same_end : (a b : Key) (i : ℕ) → i ≡ length a.cells → i ≡ length b.cells → same_from i a b ≡ true
same_end a b i ea eb = ap₂ (λ x y. is_eq (slice_cmp val_cmp x y)) (drop_past a.cells i ea) (drop_past b.cells i eb)
