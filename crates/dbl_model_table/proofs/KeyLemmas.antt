-- The order of keys, and that equal keys are the same.
use Rattle.std.proofs.Common.{◌≡◌, ◌≢◌, ◌∙◌, Bool, true, false, List, refl, sym, ap}
use Rattle.std.specs.Bool.{Decides}
use Rattle.std.specs.Ordering.{is_eq}
use Rattle.std.specs.Cmp.{IsTotalOrder, on_total, Equal-is}
use Rattle.std.specs.Cmp.Lexicographic.{pointwise, lists_ties, lists_total, pointwise_decides}
use Rattle.dbl_value_types.specs.declared.value.Val.{Val}
use Rattle.dbl_value_types.specs.Order.{val_cmp}
use Rattle.dbl_value_types.proofs.Ordered.{values_are_ordered}
use Rattle.dbl_model_table.specs.declared.row.Key.{Key}
use Rattle.dbl_model_table.specs.Keys.{key_cmp, same_key}

pub key_total : IsTotalOrder key_cmp
key_total = on_total (λ (key : Key). key.cells) (lists_total values_are_ordered.0)

abbrev val_eq : Val → Val → Bool
val_eq a b = is_eq (val_cmp a b)

val_decides : (a b : Val) → Decides (val_eq a b) (a ≡ b)
val_decides a b = let same = values_are_ordered.1 a b in let test = Equal-is (val_cmp a b) in (λ h. same.0 (test.0 h), λ e. test.1 (same.1 e))

cells_decide : (a b : List Val) → Decides (pointwise val_eq a b) (a ≡ b)
cells_decide = pointwise_decides {E = val_eq} val_decides

-- the test of two keys says whether they are equal
pub same_key-Decides : (a b : Key) → Decides (same_key a b) (a ≡ b)
same_key-Decides a b =
    let ties : pointwise val_eq a.cells b.cells ≡ same_key a b = lists_ties val_cmp (λ x y. refl) a.cells b.cells in (
      λ h. let cells : a.cells ≡ b.cells = (cells_decide a.cells b.cells).0 (ties ∙ h) in λ i. record { cells = cells i },
      λ e. sym ties ∙ (cells_decide a.cells b.cells).1 (ap (λ (key : Key). key.cells) e),
    )

pub same_key-is : (a b : Key) → same_key a b ≡ true → a ≡ b
same_key-is a b = (same_key-Decides a b).0

pub same_key-itself : (a : Key) → same_key a a ≡ true
same_key-itself a = (same_key-Decides a a).1 refl

pub same_key-not : (a b : Key) → same_key a b ≡ false → a ≢ b
same_key-not a b h e = let same : same_key a b ≡ true = (same_key-Decides a b).1 e in let contra : true ≡ false = sym same ∙ h in cc

pub same_key-other : (a b : Key) → a ≢ b → same_key a b ≡ false
same_key-other a b other = step (same_key a b) (λ h. other (same_key-is a b h))
  where
    step : (t : Bool) → (t ≡ true → ⊥) → t ≡ false
    step true no_case = absurd (no_case refl)
    step false no_case = refl
