-- Rows in key order, and where their keys stand.
use Rattle.std.proofs.Common.{◌≡◌, ◌≢◌, ◌∙◌, ◌<◌, ◌≤◌, ◌-◌, ℕ, suc, inl, inr, Bool, false, Option, Some, None, List, [], ◌∷◌, length, refl, sym, ap, subst, arith}
use Rattle.std.specs.Prelude.{if◌then◌else◌}
use Rattle.std.specs.List.{AllByRecursion}
use Rattle.std.specs.List.Sorted.{IsStrictlySortedBy}
use Rattle.std.specs.Map.{keys_of}
use Rattle.std.specs.declared.cmp.Ordering.TheVariants.{Less}
use Rattle.dbl_value_types.specs.declared.value.Val.{Val}
use Rattle.dbl_model_table.specs.declared.row.Key.{Key}
use Rattle.dbl_model_table.specs.declared.row.Row.{Row}
use Rattle.dbl_model_table.specs.declared.table.TableInfo.{TableInfo}
use Rattle.dbl_model_table.specs.Keys.{key_cmp, same_key}
use Rattle.dbl_model_history.specs.Fit.{IsKeyOf}
use Rattle.dbl_model_history.specs.KeyBounds.{IsAbove, IsUpTo}
use Rattle.dbl_model_history.specs.KeyedRows.{row_in, AreAbove, last_key, AreFirst}
use Rattle.dbl_model_event.specs.Snapshots.{AreInKeyOrder}
use Rattle.dbl_model_table.proofs.Lists.{bool_case}
use Rattle.dbl_model_table.proofs.KeyLemmas.{same_key-is, same_key-other}
use Rattle.dbl_model_history.proofs.BoundLemmas.{not_below_itself, above_goes_on, up_to_last, row_in-first}

pub row_past : (entry : Key × Row) (rows : List (Key × Row)) (key : Key) → same_key entry.0 key ≡ false → row_in (entry ∷ rows) key ≡ row_in rows key
row_past entry rows key apart = ap (λ (b : Bool). if b then Some entry.1.cells else row_in rows key) apart

-- ---- rows above a bound

-- A key that has a row among them is of the table's key types, above the bound, and not after the last key.
pub record IsWithin (info : TableInfo) (bound : Option Key) (rows : List (Key × Row)) (key : Key) : Type 0 where
  pub is_key : IsKeyOf info key
  pub above : IsAbove bound key
  pub up_to : IsUpTo (last_key bound rows) key

pub within : (info : TableInfo) (bound : Option Key) (rows : List (Key × Row)) (key : Key) (cells : List Val) → AreAbove bound rows
    → AllByRecursion (λ entry. IsKeyOf info entry.0) rows → row_in rows key ≡ Some cells → IsWithin info bound rows key
within info bound [] key cells above keys is = absurd (cc)
within info bound (entry ∷ rows) key cells above keys is = elim (bool_case (same_key entry.0 key)) [
  | inl same ↦ (
      let key_is : entry.0 ≡ key = same_key-is entry.0 key same in
      record {
        is_key = subst (IsKeyOf info) key_is keys.0;
        above = subst (IsAbove bound) key_is above.0;
        up_to = subst (λ (k : Key). IsUpTo (last_key (Some entry.0) rows) k) key_is (up_to_last entry.0 rows entry.0 above.1 (inl refl));
      }
      )
  | inr apart ↦ (
      let rest = within info (Some entry.0) rows key cells above.1 keys.1 (sym (row_past entry rows key apart) ∙ is) in
      record {
        is_key = rest.is_key;
        above = above_goes_on bound entry.0 key above.0 rest.above;
        up_to = rest.up_to;
      }
      )
]

-- without its first one, a table's first rows are those after it
pub first_after : (info : TableInfo) (at : Key → Option (List Val)) (above : Option Key) (limit : ℕ) (entry : Key × Row) (rows : List (Key × Row)) → AreFirst info at above limit (entry ∷ rows)
    → AreFirst info at (Some entry.0) (limit - 1) rows
first_after info at above limit entry rows are = record {
  keys = are.keys.1;
  ordered = are.ordered.1;
  few = (let few : suc (length rows) ≤ limit = are.few in omega (arith, few));
  right = λ key is subsequent range.
      let whole : row_in (entry ∷ rows) key ≡ at key = are.right key is (above_goes_on above entry.0 key are.ordered.0 subsequent) (elim range [
        | inl fewer ↦ inl (let few : suc (length rows) ≤ limit = are.few in let less : length rows < limit - 1 = fewer in omega (arith, few, less))
        | inr up ↦ inr up
      ]) in
      let other : entry.0 ≢ key = λ same. not_below_itself key (subst (λ (k : Key). key_cmp k key ≡ Less) same subsequent) in
      sym (row_past entry rows key (same_key-other entry.0 key other)) ∙ whole;
}

-- ---- rows in key order

pub lacks : (k : Key) (rows : List (Key × Row)) → AllByRecursion (λ y. key_cmp k y ≡ Less) (keys_of rows) → row_in rows k ≡ None
lacks k [] all = refl
lacks k (entry ∷ rows) all =
    row_past entry rows k (same_key-other entry.0 k (λ same. not_below_itself k (subst (λ (y : Key). key_cmp k y ≡ Less) same all.0)))
    ∙ lacks k rows all.1

pub still_there : (entry : Key × Row) (rows : List (Key × Row)) (key : Key) (cells : List Val) → AllByRecursion (λ y. key_cmp entry.0 y ≡ Less) (keys_of rows)
    → row_in rows key ≡ Some cells → row_in (entry ∷ rows) key ≡ Some cells
still_there entry rows key cells below is = row_past entry rows key (same_key-other entry.0 key never) ∙ is
  where
    never : entry.0 ≡ key → ⊥
    never same =
        let none : row_in rows key ≡ None = ap (row_in rows) (sym same) ∙ lacks entry.0 rows below in
        let contra : None ≡ Some cells = sym none ∙ is in
        cc

-- what holds of each key's row holds of each row
pub each_row : (P : Key → List Val → Type 0) (rows : List (Key × Row)) → AreInKeyOrder rows → ((key : Key) (cells : List Val) → row_in rows key ≡ Some cells → P key cells)
    → AllByRecursion (λ entry. P entry.0 entry.1.cells) rows
unfolding IsStrictlySortedBy
each_row P [] ordered all = tt
each_row P (entry ∷ rows) ordered all = (
  all entry.0 entry.1.cells (row_in-first entry rows),
  each_row P rows ordered.1 (λ key cells is. all key cells (still_there entry rows key cells ordered.0 is)),
)
