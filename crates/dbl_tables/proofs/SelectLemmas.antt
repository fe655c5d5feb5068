-- A select: the committed rows of slots in their order are the first rows above a bound.
use Rattle.std.proofs.Common.{◌≡◌, ◌∙◌, ◌⊎◌, ◌<◌, inl, inr, ℕ, zero, suc, Bool, true, false, Option, Some, None, List, [], ◌∷◌, cond, length, take, refl, sym, ap, subst, arith}
use Rattle.std.specs.Prelude.{if◌then◌else◌, option_and_then, filter_map}
use Rattle.std.specs.List.{AllByRecursion, cons_option}
use Rattle.std.specs.Ordering.{is_eq, ordering_reverse}
use Rattle.std.specs.declared.cmp.Ordering.{Ordering}
use Rattle.std.specs.declared.cmp.Ordering.TheVariants.{Less, Equal, Greater}
use Rattle.std.specs.BTreeMap.{is_at}
use Rattle.std.specs.Map.{lookup}
use Rattle.dbl_model_table.specs.declared.row.Key.{Key}
use Rattle.dbl_model_table.specs.declared.table.RawRow.{RawRow}
use Rattle.dbl_model_table.specs.declared.table.RawTable.{RawTable}
use Rattle.dbl_model_table.specs.Keys.{key_cmp, same_key}
use Rattle.dbl_model_table.proofs.KeyLemmas.{key_total, same_key-is, same_key-itself}
use Rattle.dbl_model_history.specs.KeyBounds.{IsAbove, IsUpTo}
use Rattle.dbl_model_history.proofs.BoundLemmas.{not_below_itself, bounds_part, above_goes_on}
use Rattle.dbl_tables_rows.specs.SourceLog.Texts.{Texts, key_in}
use Rattle.dbl_tables_rows.specs.Selects.{row_shown, AreRisingKeys, last_shown, AreFirstRows}
use Rattle.dbl_tables_rows.specs.declared.slots.Slot.{Slot}
use Rattle.dbl_tables_rows.specs.Views.{texts_of}

abbrev pub Entry : Type 0
Entry = Key × Slot

-- the committed row at a key
abbrev pub row_of : Option Slot → Option Texts
row_of slot = option_and_then (λ (s : Slot). texts_of s.committed) slot

abbrev pub row_at : List Entry → Key → Option Texts
row_at es key = row_of (lookup (is_at (key_cmp key)) es)

abbrev pub rows_of : List Entry → List RawRow
rows_of es = filter_map (λ (e : Entry). e.1.committed) es

-- each key after the one before, the first after a bound
abbrev pub AreBehind : Option Key → List Entry → Type 0
AreBehind bound [] = Unit {0}
AreBehind bound (e ∷ es) = IsAbove bound e.0 × AreBehind (Some e.0) es

-- each committed row is of its slot's key
abbrev pub AreOwn : RawTable → List Entry → Type 0
AreOwn raw es = AllByRecursion (λ (e : Entry). (row : RawRow) → e.1.committed ≡ Some row → key_in raw row.cells ≡ e.0) es

-- ---- what isn't there

-- nothing is at a key before the bound
pub not_there : (bound key : Key) (es : List Entry) → AreBehind (Some bound) es → (key_cmp key bound ≡ Less) ⊎ (key ≡ bound) → row_at es key ≡ None
not_there bound key [] subsequent before = refl
not_there bound key (e ∷ es) subsequent before = by (key_cmp key e.0) refl (not_there e.0 key es subsequent.1)
  where
    below : key_cmp key e.0 ≡ Less
    below = at before
      where
        at : (key_cmp key bound ≡ Less) ⊎ (key ≡ bound) → key_cmp key e.0 ≡ Less
        at (inl less) = key_total.trans key bound e.0 less subsequent.0
        at (inr same) = subst (λ (k : Key). key_cmp k e.0 ≡ Less) (sym same) subsequent.0

    by : (o : Ordering) → key_cmp key e.0 ≡ o → ((key_cmp key e.0 ≡ Less) ⊎ (key ≡ e.0) → row_at es key ≡ None) → row_of (cond (is_eq (key_cmp key e.0)) (Some e.1) (lookup (is_at (key_cmp key)) es)) ≡ None
    by Less is later = ap (λ (o : Ordering). row_of (cond (is_eq o) (Some e.1) (lookup (is_at (key_cmp key)) es))) is ∙ later (inl is)
    by Equal is later = let contra : Equal ≡ Less = sym is ∙ below in cc
    by Greater is later = let contra : Greater ≡ Less = sym is ∙ below in cc

none_shown : (raw : RawTable) (bound key : Key) (rows : List RawRow) → AreRisingKeys raw (Some bound) rows → key_cmp key bound ≡ Less → row_shown raw rows key ≡ None
none_shown raw bound key [] rising below = refl
none_shown raw bound key (row ∷ rows) rising below =
    let under : key_cmp key (key_in raw row.cells) ≡ Less = key_total.trans key bound (key_in raw row.cells) below rising.0 in
    by (same_key (key_in raw row.cells) key) refl under (none_shown raw (key_in raw row.cells) key rows rising.1 under)
  where
    by : (b : Bool) → same_key (key_in raw row.cells) key ≡ b → key_cmp key (key_in raw row.cells) ≡ Less → row_shown raw rows key ≡ None → (if b then Some row.cells else row_shown raw rows key) ≡ None
    by true same under later = absurd (not_below_itself key (subst (λ (k : Key). key_cmp key k ≡ Less) (same_key-is (key_in raw row.cells) key same) under))
    by false other under later = later

-- a wider bound
since_less : (above : Option Key) (key : Key) (es : List Entry) → IsAbove above key → AreBehind (Some key) es → AreBehind above es
since_less above key [] is subsequent = tt
since_less above key (e ∷ es) is subsequent = (above_goes_on above key e.0 is subsequent.0, subsequent.1)

-- ---- the first rows

module _ (raw : RawTable) (at : Key → Option Texts) where
  pub first_of_slots : (es : List Entry) (above : Option Key) (limit : ℕ) → AreBehind above es → AreOwn raw es → ((key : Key) → IsAbove above key → row_at es key ≡ at key) → AreFirstRows raw at above limit (take limit (rows_of es))
  first_of_slots [] above zero subsequent own same = record { ordered = tt; few = omega arith; right = λ key is_above range. same key is_above }
  first_of_slots [] above (suc limit) subsequent own same = record { ordered = tt; few = omega arith; right = λ key is_above range. same key is_above }
  first_of_slots (e ∷ es) above limit subsequent own same =
      by e.1.committed refl limit (λ later_same. first_of_slots es above limit (since_less above e.0 es subsequent.0 subsequent.1) own.1 later_same) (λ less later_same. first_of_slots es (Some e.0) less subsequent.1 own.1 later_same)
    where
      -- after the first slot
      later : (key : Key) → key_cmp e.0 key ≡ Less → row_at es key ≡ row_at (e ∷ es) key
      later key less =
          let turned : key_cmp key e.0 ≡ Greater = key_total.antisymm key e.0 ∙ ap ordering_reverse less in
          sym (ap (λ (o : Ordering). row_of (cond (is_eq o) (Some e.1) (lookup (is_at (key_cmp key)) es))) turned)

      here : row_at (e ∷ es) e.0 ≡ texts_of e.1.committed
      here = ap (λ (b : Bool). row_of (cond b (Some e.1) (lookup (is_at (key_cmp e.0)) es))) (same_key-itself e.0)

      -- where the first slot has no row
      passed : e.1.committed ≡ None → (key : Key) → IsAbove above key → row_at es key ≡ at key
      passed none key is_above = at_order (key_cmp key e.0) refl
        where
          at_order : (o : Ordering) → key_cmp key e.0 ≡ o → row_at es key ≡ at key
          at_order Equal is =
              let k : key ≡ e.0 = same_key-is key e.0 (ap is_eq is) in
              not_there e.0 key es subsequent.1 (inr k)
              ∙ (sym (ap texts_of none) ∙ (sym here ∙ (ap (row_at (e ∷ es)) (sym k) ∙ same key is_above)))
          at_order Less is = sym (ap (λ (o : Ordering). row_of (cond (is_eq o) (Some e.1) (lookup (is_at (key_cmp key)) es))) is) ∙ same key is_above
          at_order Greater is = sym (ap (λ (o : Ordering). row_of (cond (is_eq o) (Some e.1) (lookup (is_at (key_cmp key)) es))) is) ∙ same key is_above

      with_row : (row : RawRow) → e.1.committed ≡ Some row → (n : ℕ) → AreFirstRows raw at (Some e.0) n (take n (rows_of es)) → AreFirstRows raw at above (suc n) (row ∷ take n (rows_of es))
      with_row row is n rest =
          let k : key_in raw row.cells ≡ e.0 = own.0 row is in
          record {
            ordered = (subst (IsAbove above) (sym k) subsequent.0, subst (λ (x : Key). AreRisingKeys raw (Some x) (take n (rows_of es))) (sym k) rest.ordered);
            few = (let few = rest.few in omega arith);
            right = λ key is_above range. at_order key is_above (key_cmp key e.0) refl range;
          }
        where
          own_key : key_in raw row.cells ≡ e.0
          own_key = own.0 row is

          narrowed : (key : Key) → (suc (length (take n (rows_of es))) < suc n) ⊎ IsUpTo (last_shown raw (Some (key_in raw row.cells)) (take n (rows_of es))) key → (length (take n (rows_of es)) < n) ⊎ IsUpTo (last_shown raw (Some e.0) (take n (rows_of es))) key
          narrowed key (inl less) = inl (omega arith)
          narrowed key (inr up) = inr (subst (λ (x : Key). IsUpTo (last_shown raw (Some x) (take n (rows_of es))) key) own_key up)

          shown_here : (key : Key) (b : Bool) → same_key (key_in raw row.cells) key ≡ b → row_shown raw (row ∷ take n (rows_of es)) key ≡ (if b then Some row.cells else row_shown raw (take n (rows_of es)) key)
          shown_here key b same_it = ap (λ (x : Bool). if x then Some row.cells else row_shown raw (take n (rows_of es)) key) same_it

          at_order : (key : Key) → IsAbove above key → (o : Ordering) → key_cmp key e.0 ≡ o → (suc (length (take n (rows_of es))) < suc n) ⊎ IsUpTo (last_shown raw (Some (key_in raw row.cells)) (take n (rows_of es))) key → row_shown raw (row ∷ take n (rows_of es)) key ≡ at key
          at_order key is_above Equal order range =
              let x : key ≡ e.0 = same_key-is key e.0 (ap is_eq order) in
              shown_here key true (ap (λ (y : Key). same_key y key) (own_key ∙ sym x) ∙ same_key-itself key)
              ∙ (sym (ap texts_of is) ∙ (sym here ∙ (ap (row_at (e ∷ es)) (sym x) ∙ same key is_above)))
          at_order key is_above Greater order range =
              let after_it : key_cmp e.0 key ≡ Less = key_total.antisymm e.0 key ∙ ap ordering_reverse order in
              shown_here key false (ap (λ (y : Key). same_key y key) own_key ∙ ap is_eq after_it) ∙ rest.right key after_it (narrowed key range)
          at_order key is_above Less order range =
              let turned : key_cmp e.0 key ≡ Greater = key_total.antisymm e.0 key ∙ ap ordering_reverse order in
              shown_here key false (ap (λ (y : Key). same_key y key) own_key ∙ ap is_eq turned)
              ∙ (none_shown raw e.0 key (take n (rows_of es)) rest.ordered order
              ∙ (sym (not_there e.0 key es subsequent.1 (inl order)) ∙ (sym (ap (λ (o : Ordering). row_of (cond (is_eq o) (Some e.1) (lookup (is_at (key_cmp key)) es))) order) ∙ same key is_above)))

      by : (r : Option RawRow) → e.1.committed ≡ r → (n : ℕ) → (((key : Key) → IsAbove above key → row_at es key ≡ at key) → AreFirstRows raw at above n (take n (rows_of es)))
          → ((less : ℕ) → ((key : Key) → IsAbove (Some e.0) key → row_at es key ≡ at key) → AreFirstRows raw at (Some e.0) less (take less (rows_of es))) → AreFirstRows raw at above n (take n (cons_option r (rows_of es)))
      by None none n pass next = pass (passed none)
      by (Some row) is zero pass next = record {
        ordered = tt;
        few = omega arith;
        right = λ key is_above range. never key is_above range;
      }
        where
          never : (key : Key) → IsAbove above key → (0 < 0) ⊎ IsUpTo above key → None ≡ at key
          never key is_above (inl less) = absurd (omega arith)
          never key is_above (inr up) = absurd ((bounds_part above key).not_both is_above up)
      by (Some row) is (suc n) pass next = with_row row is n (next n (λ key less. later key less ∙ same key (above_goes_on above e.0 key subsequent.0 less)))
