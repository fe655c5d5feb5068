-- Keys above a bound and up to it, and the first rows above a bound.
use Rattle.std.proofs.Common.{◌≡◌, ◌≢◌, ◌∙◌, ◌⊎◌, inl, inr, ℕ, ◌<◌, ◌≤◌, ◌-◌, suc, Bool, true, false, Option, Some, None, List, [], ◌∷◌, length, refl, sym, ap, subst, arith}
use Rattle.std.specs.Prelude.{if◌then◌else◌, option_map}
use Rattle.std.specs.Ordering.{is_eq, ordering_reverse}
use Rattle.std.specs.declared.cmp.Ordering.{Ordering}
use Rattle.std.specs.declared.cmp.Ordering.TheVariants.{Less, Equal, Greater}
use Rattle.dbl_value_types.specs.declared.value.Val.{Val}
use Rattle.dbl_model_table.specs.declared.row.Key.{Key}
use Rattle.dbl_model_table.specs.declared.row.Row.{Row}
use Rattle.dbl_model_table.specs.declared.table.TableInfo.{TableInfo}
use Rattle.dbl_model_table.specs.Keys.{key_cmp, same_key}
use Rattle.dbl_model_table.specs.Rows.{overlay}
use Rattle.dbl_model_table.specs.Rows.Effect.{Stays, Whole, Part, Ends}
use Rattle.dbl_model_history.specs.KeyBounds.{IsAbove, IsUpTo, BoundsPartKeys, KeysAboveGoOn, KeysUpToGoBack}
use Rattle.dbl_model_history.specs.KeyedRows.{row_in, AreAbove, last_key, AreFirst, FirstRowsAreOne, LeftRowsAreRows, LostRowsWereTouched}
use Rattle.dbl_model_table.proofs.KeyLemmas.{key_total, same_key-is, same_key-itself, same_key-other}

-- ---- bounds

pub not_below_itself : (a : Key) → key_cmp a a ≡ Less → ⊥
not_below_itself a below = let e : false ≡ true = sym (ap is_eq below) ∙ same_key-itself a in cc

turned : (a b : Key) (o : Ordering) → key_cmp a b ≡ o → key_cmp b a ≡ ordering_reverse o
turned a b o is = key_total.antisymm b a ∙ ap ordering_reverse is

pub bounds_part : BoundsPartKeys
bounds_part None key = record { either = inl tt; not_both = λ above up. up }
bounds_part (Some bound) key = record {
  either = by (key_cmp bound key) refl;
  not_both = λ above up. elim up [
    | inl same ↦ not_below_itself bound (subst (λ (k : Key). key_cmp bound k ≡ Less) same above)
    | inr below ↦ (let e : Less ≡ Greater = sym above ∙ turned key bound Less below in cc)
  ];
}
  where
    by : (o : Ordering) → key_cmp bound key ≡ o → IsAbove (Some bound) key ⊎ IsUpTo (Some bound) key
    by Less is = inl is
    by Equal is = inr (inl (sym (same_key-is bound key (ap is_eq is))))
    by Greater is = inr (inr (turned bound key Greater is))

pub above_goes_on : KeysAboveGoOn
above_goes_on None a b above below = tt
above_goes_on (Some bound) a b above below = key_total.trans bound a b above below

pub up_to_goes_back : KeysUpToGoBack
up_to_goes_back None a b up below = up
up_to_goes_back (Some bound) a b (inl same) below = inr (subst (λ (k : Key). key_cmp a k ≡ Less) same below)
up_to_goes_back (Some bound) a b (inr up) below = inr (key_total.trans a b bound below up)

-- ---- rows above a bound

up_to_more : (bound : Option Key) (more key : Key) → IsUpTo bound key → IsAbove bound more → IsUpTo (Some more) key
up_to_more None more key up above = elim up [ ]
up_to_more (Some bound) more key (inl same) above = inr (subst (λ (k : Key). key_cmp k more ≡ Less) (sym same) above)
up_to_more (Some bound) more key (inr below) above = inr (key_total.trans key bound more below above)

pub up_to_last : (bound : Key) (rows : List (Key × Row)) (key : Key) → AreAbove (Some bound) rows → IsUpTo (Some bound) key → IsUpTo (last_key (Some bound) rows) key
up_to_last bound [] key above up = up
up_to_last bound (entry ∷ rows) key above up = up_to_last entry.0 rows key above.1 (up_to_more (Some bound) entry.0 key up above.0)

row_apart : (entry : Key × Row) (rows : List (Key × Row)) (key : Key) → same_key entry.0 key ≡ false → row_in (entry ∷ rows) key ≡ row_in rows key
row_apart entry rows key apart = ap (λ (b : Bool). if b then Some entry.1.cells else row_in rows key) apart

-- rows above a bound have none up to it
pub row_in-up_to : (bound : Option Key) (rows : List (Key × Row)) (key : Key) → AreAbove bound rows → IsUpTo bound key → row_in rows key ≡ None
row_in-up_to bound [] key above up = refl
row_in-up_to bound (entry ∷ rows) key above up =
    let other : entry.0 ≢ key = λ same. (bounds_part bound key).not_both (subst (IsAbove bound) same above.0) up in
    row_apart entry rows key (same_key-other entry.0 key other) ∙ row_in-up_to (Some entry.0) rows key above.1 (up_to_more bound entry.0 key up above.0)

pub row_in-first : (entry : Key × Row) (rows : List (Key × Row)) → row_in (entry ∷ rows) entry.0 ≡ Some entry.1.cells
row_in-first entry rows = ap (λ (b : Bool). if b then Some entry.1.cells else row_in rows entry.0) (same_key-itself entry.0)

-- ---- the first rows above a bound

pub first_is_there : (info : TableInfo) (at : Key → Option (List Val)) (above : Option Key) (limit : ℕ) (entry : Key × Row) (rows : List (Key × Row)) → AreFirst info at above limit (entry ∷ rows) → at entry.0 ≡ Some entry.1.cells
first_is_there info at above limit entry rows are =
    sym (are.right entry.0 are.keys.0 are.ordered.0 (inr (up_to_last entry.0 rows entry.0 are.ordered.1 (inl refl)))) ∙ row_in-first entry rows

first_after : (info : TableInfo) (at : Key → Option (List Val)) (above : Option Key) (limit : ℕ) (entry : Key × Row) (rows : List (Key × Row)) → AreFirst info at above limit (entry ∷ rows) → AreFirst info at (Some entry.0) (limit - 1) rows
first_after info at above limit entry rows are = record {
  keys = are.keys.1;
  ordered = are.ordered.1;
  few = (let few : suc (length rows) ≤ limit = are.few in omega (arith, few));
  right = λ key is subsequent range.
      let whole : row_in (entry ∷ rows) key ≡ at key = are.right key is (above_goes_on above entry.0 key are.ordered.0 subsequent) (elim range [
        | inl fewer ↦ inl (let few : suc (length rows) ≤ limit = are.few in let less : length rows < limit - 1 = fewer in omega (arith, few, less))
        | inr up ↦ inr up
      ]) in
      let other : entry.0 ≢ key = λ same. not_below_itself key (subst (λ (k : Key). key_cmp k key ≡ Less) same subsequent) in
      sym (row_apart entry rows key (same_key-other entry.0 key other)) ∙ whole;
}

none_before : (info : TableInfo) (at : Key → Option (List Val)) (above : Option Key) (limit : ℕ) (d e : Key × Row) (a b : List (Key × Row)) → AreFirst info at above limit (d ∷ a) → AreFirst info at above limit (e ∷ b) → key_cmp d.0 e.0 ≡ Less → ⊥
none_before info at above limit d e a b fa fb less =
    let there : row_in (e ∷ b) d.0 ≡ at d.0 = fb.right d.0 fa.keys.0 fa.ordered.0 (inr (up_to_last e.0 b d.0 fb.ordered.1 (inr less))) in
    let none : row_in (e ∷ b) d.0 ≡ None = row_in-up_to (Some d.0) (e ∷ b) d.0 (less, fb.ordered.1) (inl refl) in
    let contra : None ≡ Some d.1.cells = sym none ∙ (there ∙ first_is_there info at above limit d a fa) in
    cc

not_empty : (info : TableInfo) (at : Key → Option (List Val)) (above : Option Key) (limit : ℕ) (e : Key × Row) (b : List (Key × Row)) → AreFirst info at above limit [] → AreFirst info at above limit (e ∷ b) → ⊥
not_empty info at above limit e b fa fb =
    let few : suc (length b) ≤ limit = fb.few in
    let none : None ≡ at e.0 = fa.right e.0 fb.keys.0 fb.ordered.0 (inl (omega (arith, few))) in
    let contra : None ≡ Some e.1.cells = none ∙ first_is_there info at above limit e b fb in
    cc

pub first_rows_one : FirstRowsAreOne
first_rows_one info at above limit [] [] fa fb = refl
first_rows_one info at above limit [] (e ∷ b) fa fb = absurd (not_empty info at above limit e b fa fb)
first_rows_one info at above limit (d ∷ a) [] fa fb = absurd (not_empty info at above limit d a fb fa)
first_rows_one info at above limit (d ∷ a) (e ∷ b) fa fb = by (key_cmp d.0 e.0) refl (first_rows_one info at (Some d.0) (limit - 1) a b (first_after info at above limit d a fa))
  where
    by : (o : Ordering) → key_cmp d.0 e.0 ≡ o → (AreFirst info at (Some d.0) (limit - 1) b → a ≡ b) → d ∷ a ≡ e ∷ b
    by Less is same = absurd (none_before info at above limit d e a b fa fb is)
    by Greater is same = absurd (none_before info at above limit e d b a fb fa (turned d.0 e.0 Greater is))
    by Equal is same =
        let key : d.0 ≡ e.0 = same_key-is d.0 e.0 (ap is_eq is) in
        let found : Some d.1.cells ≡ Some e.1.cells = sym (first_is_there info at above limit d a fa) ∙ (ap at key ∙ first_is_there info at above limit e b fb) in
        let cells : d.1.cells ≡ e.1.cells = cc in
        let rest : a ≡ b = same (subst (λ (k : Key). AreFirst info at (Some k) (limit - 1) b) (sym key) (first_after info at above limit e b fb)) in
        λ i. (key i, record { cells = cells i }) ∷ rest i

-- ---- what a change leaves

pub left_rows : LeftRowsAreRows
left_rows Stays held row is = is
left_rows (Whole new) held row is = tt
left_rows (Part cells) None row is = tt
left_rows (Part cells) (Some old) row is = ap (option_map (overlay cells)) is
left_rows Ends held row is = tt

pub lost_rows : LostRowsWereTouched
lost_rows Stays cells none = cc
lost_rows (Whole new) cells none = tt
lost_rows (Part given) cells none = cc
lost_rows Ends cells none = tt
