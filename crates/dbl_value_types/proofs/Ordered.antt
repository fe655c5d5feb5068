-- The order of values.
use Rattle.std.proofs.Common.{◌≡◌, ◌∙◌, ℕ, ℤ, pos, Bool, true, false, List, [], refl, sym, ap}
use Rattle.std.specs.Ordering.{nat_cmp, int_cmp, bool_cmp, on, then_cmp, ordering_then, ordering_reverse, is_eq}
use Rattle.std.specs.Cmp.{IsTotalOrder, bool_cmp_total}
use Rattle.std.specs.declared.cmp.Ordering.{Ordering}
use Rattle.std.specs.declared.cmp.Ordering.TheVariants.{Less, Equal, Greater}
use Rattle.std.proofs.lemmas.Cmp.{on_total, then_total, nat_cmp_total, int_cmp_total, nat_list_cmp_total, tied_itself, int_ranked}
use Rattle.std.proofs.lemmas.Map.Text.{is_eq-slice_cmp}
use Rattle.std.proofs.lemmas.Slice.Eq.{bytes_eq-Decides}
use Rattle.dbl_value_types.specs.declared.value.Val.{Val}
use Rattle.dbl_value_types.specs.declared.value.Val.TheVariants as val
use Rattle.dbl_base.specs.Texts.{text_cmp}
use Rattle.dbl_value_types.specs.Order.{rank, val_cmp}
use Rattle.dbl_value_types.specs.Laws.{ValuesAreOrdered}

abbrev truth_part : Val → Bool
truth_part (val.Bool truth) = truth
truth_part v = false

abbrev int_part : Val → ℤ
int_part (val.Int z) = z
int_part (val.Date z) = z
int_part (val.Time z) = z
int_part (val.Stamp z) = z
int_part (val.StampTz z) = z
int_part v = pos 0

abbrev text_part : Val → List ℕ
text_part (val.Text t) = t
text_part (val.Bytes t) = t
text_part v = []

abbrev by_parts : Val → Val → Ordering
by_parts = then_cmp (on rank nat_cmp) (then_cmp (on truth_part bool_cmp) (then_cmp (on int_part int_cmp) (on text_part text_cmp)))

by_parts_total : IsTotalOrder by_parts
by_parts_total = then_total (on_total rank nat_cmp_total) (then_total (on_total truth_part bool_cmp_total) (then_total (on_total int_part int_cmp_total) (on_total text_part nat_list_cmp_total)))

then_equal : (o : Ordering) → o ≡ ordering_then o Equal
then_equal Less = refl
then_equal Equal = refl
then_equal Greater = refl

same : (v w : Val) → val_cmp v w ≡ by_parts v w
same val.Null val.Null = refl
same (val.Text s) (val.Text t) = refl
same (val.Bytes s) (val.Bytes t) = refl
same (val.Bool a) (val.Bool b) = then_equal (bool_cmp a b)
same (val.Int y) (val.Int z) = then_equal (int_cmp y z)
same (val.Date y) (val.Date z) = then_equal (int_cmp y z)
same (val.Time y) (val.Time z) = then_equal (int_cmp y z)
same (val.Stamp y) (val.Stamp z) = then_equal (int_cmp y z)
same (val.StampTz y) (val.StampTz z) = then_equal (int_cmp y z)
same v w = refl

val_cmp_total : IsTotalOrder val_cmp
val_cmp_total = record {
  antisymm = λ v w. same v w ∙ by_parts_total.antisymm v w ∙ ap ordering_reverse (sym (same w v));
  trans = λ u v w first second. same u w ∙ by_parts_total.trans u v w (sym (same u v) ∙ first) (sym (same v w) ∙ second);
  congr = λ u v w equal. same u w ∙ by_parts_total.congr u v w (sym (same u v) ∙ equal) ∙ sym (same v w);
}

same_truth : (a b : Bool) → bool_cmp a b ≡ Equal → a ≡ b
same_truth false false e = refl
same_truth false true e = cc
same_truth true false e = cc
same_truth true true e = refl

same_integer : (y z : ℤ) → int_cmp y z ≡ Equal → y ≡ z
same_integer y z e = rw e at (int_ranked y z (int_cmp y z) refl)

same_text : (s t : List ℕ) → text_cmp s t ≡ Equal → s ≡ t
same_text s t e = (bytes_eq-Decides s t).0 (sym (is_eq-slice_cmp s t) ∙ ap is_eq e)

same_value : (v w : Val) → val_cmp v w ≡ Equal → v ≡ w
same_value val.Null val.Null e = refl
same_value (val.Bool a) (val.Bool b) e = ap val.Bool (same_truth a b e)
same_value (val.Int y) (val.Int z) e = ap val.Int (same_integer y z e)
same_value (val.Text s) (val.Text t) e = ap val.Text (same_text s t e)
same_value (val.Bytes s) (val.Bytes t) e = ap val.Bytes (same_text s t e)
same_value (val.Date y) (val.Date z) e = ap val.Date (same_integer y z e)
same_value (val.Time y) (val.Time z) e = ap val.Time (same_integer y z e)
same_value (val.Stamp y) (val.Stamp z) e = ap val.Stamp (same_integer y z e)
same_value (val.StampTz y) (val.StampTz z) e = ap val.StampTz (same_integer y z e)
same_value v w e = cc

pub values_are_ordered : ValuesAreOrdered
values_are_ordered = (val_cmp_total, λ v w. (same_value v w, λ e. ap (λ x. val_cmp v x) (sym e) ∙ tied_itself val_cmp_total v))
