-- The map of a window's rows, as the list of its entries.
use Rattle.std.proofs.Common.{◌≡◌, ◌∙◌, Bool, true, false, cond, Option, Some, None, List, [], ◌∷◌, ◌++◌, refl, sym, ap, subst}
use Rattle.std.specs.Prelude.{if◌then◌else◌, option_map, IfSome}
use Rattle.std.specs.List.{AllByRecursion}
use Rattle.std.specs.Map.{lookup, remove_entry}
use Rattle.std.specs.BTreeMap.{insert_entry}
use Rattle.std.specs.Cmp.Lexicographic.{slice_cmp}
use Rattle.std.specs.Ordering.{is_eq, match_ordering, ordering_reverse}
use Rattle.std.specs.declared.cmp.Ordering.{Ordering}
use Rattle.std.specs.declared.cmp.Ordering.TheVariants.{Less, Equal, Greater}
use Rattle.dbl_value_types.specs.declared.value.Val.{Val}
use Rattle.dbl_value_types.specs.contracts.value.ValOrd.TheImpl.{cmp-value}
use Rattle.dbl_model_table.specs.declared.row.Key.{Key}
use Rattle.dbl_model_table.specs.declared.row.Row.{Row}
use Rattle.dbl_model_table.specs.Keys.{key_cmp, same_key}
use Rattle.dbl_model_history.specs.KeyBounds.{IsAbove}
use Rattle.dbl_model_history.specs.KeyedRows.{row_in, AreAbove, last_key}
use Rattle.dbl_model_table.proofs.DerivedOrder.{derived_order}
use Rattle.dbl_model_table.proofs.KeyLemmas.{key_total, same_key-is, same_key-itself, same_key-other, same_key-not}

abbrev pub cells_in : Option Row → Option (List Val)
cells_in row = option_map (λ r. r.cells) row

pub same_key-turned : (a b : Key) → same_key a b ≡ same_key b a
same_key-turned a b = by (same_key a b) refl
  where
    by : (t : Bool) → same_key a b ≡ t → same_key a b ≡ same_key b a
    by true is = is ∙ sym (subst (λ (k : Key). same_key k a ≡ true) (same_key-is a b is) (same_key-itself a))
    by false is = is ∙ sym (same_key-other b a (λ same. same_key-not a b is (sym same)))

either : (t : Bool) (a b : Option Row) → cells_in (cond t a b) ≡ (if t then cells_in a else cells_in b)
either true a b = refl
either false a b = refl

-- the row that a map has at a key is the list's
pub row_in-lookup : (rows : List (Key × Row)) (key : Key) → row_in rows key ≡ cells_in (lookup (λ k. same_key key k) rows)
row_in-lookup [] key = refl
row_in-lookup (entry ∷ rows) key =
    ap (λ (t : Bool). if t then Some entry.1.cells else row_in rows key) (same_key-turned entry.0 key)
    ∙ (ap (λ (o : Option (List Val)). if same_key key entry.0 then Some entry.1.cells else o) (row_in-lookup rows key)
    ∙ sym (either (same_key key entry.0) (Some entry.1) (lookup (λ k. same_key key k) rows)))

-- what a change of the map at one key makes of the list
pub row_changed : (old new : List (Key × Row)) (key : Key) (row : Option Row)
    → ((q : Key) → lookup (λ k. same_key q k) new ≡ cond (same_key key q) row (lookup (λ k. same_key q k) old))
    → (q : Key) → row_in new q ≡ (if same_key key q then cells_in row else row_in old q)
row_changed old new key row updates q =
    row_in-lookup new q
    ∙ (ap cells_in (updates q)
    ∙ (either (same_key key q) row (lookup (λ k. same_key q k) old)
    ∙ ap (λ (o : Option (List Val)). if same_key key q then cells_in row else o) (sym (row_in-lookup old q))))

-- ---- what holds of all entries

removed_by : (P : Key × Row → Type 0) (entry : Key × Row) (rows rest : List (Key × Row)) (t : Bool) → P entry → AllByRecursion P rows → AllByRecursion P rest → AllByRecursion P (cond t rows (entry ∷ rest))
removed_by P entry rows rest true here all others = all
removed_by P entry rows rest false here all others = (here, others)

pub all_removed : (P : Key × Row → Type 0) (test : Key → Bool) (rows : List (Key × Row)) → AllByRecursion P rows → AllByRecursion P (remove_entry test rows)
all_removed P test [] all = tt
all_removed P test (entry ∷ rows) all = removed_by P entry rows (remove_entry test rows) (test entry.0) all.0 all.1 (all_removed P test rows all.1)

found_by : (P : Key × Row → Type 0) (key : Key) (entry : Key × Row) (rest : Option Row) (row : Row) (t : Bool) → P entry → same_key key entry.0 ≡ t
    → (rest ≡ Some row → P (key, row)) → cond t (Some entry.1) rest ≡ Some row → P (key, row)
found_by P key entry rest row true here is later found =
    let row_is : entry.1 ≡ row = cc in
    let key_is : entry.0 ≡ key = sym (same_key-is key entry.0 is) in
    subst (λ (r : Row). P (key, r)) row_is (subst (λ (k : Key). P (k, entry.1)) key_is here)
found_by P key entry rest row false here is later found = later found

pub all_found : (P : Key × Row → Type 0) (key : Key) (rows : List (Key × Row)) (row : Row) → AllByRecursion P rows → lookup (λ k. same_key key k) rows ≡ Some row → P (key, row)
all_found P key [] row all found = absurd (cc)
all_found P key (entry ∷ rows) row all found =
    found_by P key entry (lookup (λ k. same_key key k) rows) row (same_key key entry.0) all.0 refl (all_found P key rows row all.1) found

inserted_by : (P : Key × Row → Type 0) (key : Key) (row : Row) (entry : Key × Row) (rows rest : List (Key × Row)) (o : Ordering) → key_cmp key entry.0 ≡ o
    → P (key, row) → P entry → AllByRecursion P rows → AllByRecursion P rest
    → AllByRecursion P (match_ordering o ((key, row) ∷ entry ∷ rows) ((entry.0, row) ∷ rows) (entry ∷ rest))
inserted_by P key row entry rows rest Less is new here all others = (new, (here, all))
inserted_by P key row entry rows rest Equal is new here all others = (subst (λ (k : Key). P (k, row)) (same_key-is key entry.0 (ap is_eq is)) new, all)
inserted_by P key row entry rows rest Greater is new here all others = (here, others)

pub all_inserted : (P : Key × Row → Type 0) (key : Key) (row : Row) (rows : List (Key × Row)) → AllByRecursion P rows → P (key, row) → AllByRecursion P (insert_entry key_cmp rows key row)
all_inserted P key row [] all new = (new, tt)
all_inserted P key row (entry ∷ rows) all new =
    inserted_by P key row entry rows (insert_entry key_cmp rows key row) (key_cmp key entry.0) refl new all.0 all.1 (all_inserted P key row rows all.1 new)

-- ---- rows that come in key order

above_all : (bound key : Key) (rows : List (Key × Row)) → AreAbove (Some bound) rows → IsAbove (last_key (Some bound) rows) key → key_cmp bound key ≡ Less
above_all bound key [] ordered above = above
above_all bound key (entry ∷ rows) ordered above = key_total.trans bound entry.0 key ordered.0 (above_all entry.0 key rows ordered.1 above)

greater : (a b : Key) → key_cmp a b ≡ Less → key_cmp b a ≡ Greater
greater a b less = key_total.antisymm b a ∙ ap ordering_reverse less

-- a row after all others goes to the end of the map
pub insert_last : (bound : Option Key) (rows : List (Key × Row)) (key : Key) (row : Row) → AreAbove bound rows → IsAbove (last_key bound rows) key
    → insert_entry key_cmp rows key row ≡ rows ++ (key, row) ∷ []
insert_last bound [] key row ordered above = refl
insert_last bound (entry ∷ rows) key row ordered above =
    ap (λ (o : Ordering). match_ordering o ((key, row) ∷ entry ∷ rows) ((entry.0, row) ∷ rows) (entry ∷ insert_entry key_cmp rows key row))
    (greater entry.0 key (above_all entry.0 key rows ordered.1 above))
    ∙ ap (λ (l : List (Key × Row)). entry ∷ l) (insert_last (Some entry.0) rows key row ordered.1 above)

pub above_more : (bound : Option Key) (rows : List (Key × Row)) (key : Key) (row : Row) → AreAbove bound rows → IsAbove (last_key bound rows) key → AreAbove bound (rows ++ (key, row) ∷ [])
above_more bound [] key row ordered above = (above, tt)
above_more bound (entry ∷ rows) key row ordered above = (ordered.0, above_more (Some entry.0) rows key row ordered.1 above)

pub last_more : (bound : Option Key) (rows : List (Key × Row)) (key : Key) (row : Row) → last_key bound (rows ++ (key, row) ∷ []) ≡ Some key
last_more bound [] key row = refl
last_more bound (entry ∷ rows) key row = last_more (Some entry.0) rows key row

pub all_more : (P : Key × Row → Type 0) (rows : List (Key × Row)) (entry : Key × Row) → AllByRecursion P rows → P entry → AllByRecursion P (rows ++ entry ∷ [])
all_more P [] entry all new = (new, tt)
all_more P (x ∷ rows) entry all new = (all.0, all_more P rows entry all.1 new)

-- ---- the map's own words

-- the order that is derived for keys
pub order_is : (λ (a b : Key). slice_cmp (λ v w. cmp-value.it v w) a.cells b.cells) ≡ key_cmp
order_is = λ i a b. derived_order a b i

pub found_fits : (P : Key × Row → Type 0) (key : Key) (rows : List (Key × Row)) (o : Option Row) → o ≡ lookup (λ k. same_key key k) rows → AllByRecursion P rows → IfSome o (λ row. P (key, row))
found_fits P key rows None is all = tt
found_fits P key rows (Some row) is all = all_found P key rows row all (sym is)
