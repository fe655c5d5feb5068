-- The rows of a snapshot rise by their keys.
use Rattle.std.proofs.Common.{◌≡◌, inl, inr, ℕ, zero, suc, Some, List, [], ◌∷◌, sym, subst, arith}
use Rattle.std.specs.Prelude.{slice_get}
use Rattle.std.specs.List.{AllByRecursion}
use Rattle.std.specs.List.Sorted.{IsStrictlySortedBy}
use Rattle.std.specs.Map.{keys_of}
use Rattle.std.specs.declared.cmp.Ordering.TheVariants.{Less}
use Rattle.std.proofs.lemmas.Bool.{cases_order}
use Rattle.dbl_model_table.specs.declared.row.Key.{Key}
use Rattle.dbl_model_table.specs.declared.row.Row.{Row}
use Rattle.dbl_model_table.specs.Keys.{key_cmp}
use Rattle.dbl_model_event.specs.SnapshotLists.{KeysOfRowsRise, SnapshotsHaveOneRowAKey}
use Rattle.dbl_model_history.proofs.BoundLemmas.{not_below_itself}

below_all : (k : Key) (rows : List (Key × Row)) (j : ℕ) (b : Key × Row) → AllByRecursion (λ y. key_cmp k y ≡ Less) (keys_of rows) → slice_get rows j ≡ Some b → key_cmp k b.0 ≡ Less
below_all k [] j b all at = cc
below_all k (entry ∷ rows) zero b all at = let e : entry ≡ b = cc in subst (λ (x : Key × Row). key_cmp k x.0 ≡ Less) e all.0
below_all k (entry ∷ rows) (suc j) b all at = below_all k rows j b all.1 at

pub keys_rise : KeysOfRowsRise
unfolding IsStrictlySortedBy
keys_rise [] i j a b ordered lt at_a at_b = cc
keys_rise (entry ∷ rows) i zero a b ordered lt at_a at_b = absurd (omega (arith, lt))
keys_rise (entry ∷ rows) zero (suc j) a b ordered lt at_a at_b = let e : entry ≡ a = cc in below_all a.0 rows j b (subst (λ (x : Key × Row). AllByRecursion (λ y. key_cmp x.0 y ≡ Less) (keys_of rows)) e ordered.0) at_b
keys_rise (entry ∷ rows) (suc i) (suc j) a b ordered lt at_a at_b = keys_rise rows i j a b ordered.1 (omega (arith, lt)) at_a at_b

pub one_row_a_key : SnapshotsHaveOneRowAKey
one_row_a_key identity infos closed commit now records i j a b is at_a at_b same = elim (cases_order i j) [
  | inl e ↦ e
  | inr apart ↦ elim apart [
    | inl lt ↦ absurd (not_below_itself b.0 (subst (λ (k : Key). key_cmp k b.0 ≡ Less) same (keys_rise closed.rows i j a b is.ordered lt at_a at_b)))
    | inr gt ↦ absurd (not_below_itself a.0 (subst (λ (k : Key). key_cmp k a.0 ≡ Less) (sym same) (keys_rise closed.rows j i b a is.ordered gt at_b at_a)))
  ]
]
