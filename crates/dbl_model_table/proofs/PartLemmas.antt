-- Lists of columns and of places, as loops go over them.
use Rattle.std.proofs.Common.{◌≡◌, ◌∙◌, ◌+◌, ◌<◌, ℕ, Bool, true, false, not, ◌&&◌, ◌==◌, Option, Some, None, List, [], ◌∷◌, ◌++◌, length, take, drop, get_or, refl, sym, ap, rules, arith}
use Rattle.std.specs.Prelude.{is_some, nat_eq, nat_lt, if◌then◌else◌}
use Rattle.std.specs.List.{find, list_all}
use Rattle.std.specs.Ordering.{is_eq, nat_cmp}
use Rattle.std.proofs.lemmas.Bool.{eqb-true, lt-ltb}
use Rattle.std.proofs.lemmas.List.{map-append, take_more, drop_more, take-append-drop}
use Rattle.dbl_model_table.specs.declared.table.Column.{Column}
use Rattle.dbl_model_table.specs.Tables.{column_names, type_at, is_key_type, is_unfit, are_distinct, is_key}
use Rattle.dbl_model_table.proofs.Lists.{and_false}

pub is_eq-nat_cmp : (m n : ℕ) → is_eq (nat_cmp m n) ≡ nat_eq m n
is_eq-nat_cmp m n = search rules

module _ {X : Type 0} (xs : List X) (i : ℕ) (x default : X) (lt : i < length xs) (is : x ≡ get_or xs i default) where
  pub one_more : take (i + 1) xs ≡ take i xs ++ x ∷ []
  one_more = take_more xs i default lt ∙ ap (λ (y : X). take i xs ++ y ∷ []) (sym is)

  pub split_at_one : xs ≡ take i xs ++ x ∷ drop (i + 1) xs
  split_at_one = sym (take-append-drop i xs) ∙ ap (λ (l : List X). take i xs ++ l) (drop_more xs i default lt ∙ ap (λ (y : X). y ∷ drop (i + 1) xs) (sym is))

pub names_more : (columns : List Column) (i : ℕ) (column : Column) → i < length columns → column ≡ get_or columns i column → column_names (take (i + 1) columns) ≡ column_names (take i columns) ++ column.name ∷ []
names_more columns i column lt is = ap column_names (one_more columns i column column lt is) ∙ map-append (λ (c : Column). c.name) (take i columns) (column ∷ [])

pub names_split : (columns : List Column) (i : ℕ) (column : Column) → i < length columns → column ≡ get_or columns i column → column_names columns ≡ column_names (take i columns) ++ column.name ∷ column_names (drop (i + 1) columns)
names_split columns i column lt is = ap column_names (split_at_one columns i column column lt is) ∙ map-append (λ (c : Column). c.name) (take i columns) (column ∷ drop (i + 1) columns)

pub places_more : (key : List ℕ) (i : ℕ) → i < length key → take (i + 1) key ≡ take i key ++ get_or key i 0 ∷ []
places_more key i lt = one_more key i (get_or key i 0) 0 lt refl

pub places_split : (key : List ℕ) (i : ℕ) → i < length key → key ≡ take i key ++ get_or key i 0 ∷ drop (i + 1) key
places_split key i lt = split_at_one key i (get_or key i 0) 0 lt refl

-- ---- keys

abbrev all_within : List Column → List ℕ → Bool
all_within columns key = list_all (λ place. nat_lt place (length columns)) key

abbrev all_fit : List Column → List ℕ → Bool
all_fit columns key = list_all (λ place. is_key_type (type_at columns place)) key

pub is_key_none : (columns : List Column) (key : List ℕ) → (length key == 0) ≡ true → is_key columns key ≡ false
is_key_none columns [] h = refl
is_key_none columns (place ∷ key) h = let none : length (place ∷ key) ≡ 0 = eqb-true _ _ h in absurd (omega arith)

pub is_key_far : (columns : List Column) (key : List ℕ) → all_within columns key ≡ false → is_key columns key ≡ false
is_key_far columns key h =
    ap (λ (b : Bool). nat_lt 0 (length key) && b && are_distinct nat_eq key && all_fit columns key) h
    ∙ ap (λ (b : Bool). b && are_distinct nat_eq key && all_fit columns key) (and_false (nat_lt 0 (length key)))

fit_all : (columns : List Column) (key : List ℕ) → find (is_unfit columns) key ≡ None → all_fit columns key ≡ true
fit_all columns [] h = refl
fit_all columns (place ∷ key) h = step (is_key_type (type_at columns place)) (fit_all columns key) h
  where
    step : (b : Bool) → (find (is_unfit columns) key ≡ None → all_fit columns key ≡ true) → (if not b then Some place else find (is_unfit columns) key) ≡ None → (b && all_fit columns key) ≡ true
    step true rest e = rest e
    step false rest e = cc

unfit_some : (columns : List Column) (key : List ℕ) → is_some (find (is_unfit columns) key) ≡ true → all_fit columns key ≡ false
unfit_some columns [] h = cc
unfit_some columns (place ∷ key) h = step (is_key_type (type_at columns place)) (unfit_some columns key) h
  where
    step : (b : Bool) → (is_some (find (is_unfit columns) key) ≡ true → all_fit columns key ≡ false) → is_some (if not b then Some place else find (is_unfit columns) key) ≡ true → (b && all_fit columns key) ≡ false
    step true rest e = rest e
    step false rest e = refl

pub is_key_unfit : (columns : List Column) (key : List ℕ) → is_some (find (is_unfit columns) key) ≡ true → is_key columns key ≡ false
is_key_unfit columns key h =
    ap (λ (b : Bool). nat_lt 0 (length key) && all_within columns key && are_distinct nat_eq key && b) (unfit_some columns key h)
    ∙ and_false (nat_lt 0 (length key) && all_within columns key && are_distinct nat_eq key)

none_of : (o : Option ℕ) → is_some o ≡ false → o ≡ None
none_of None h = refl
none_of (Some n) h = cc

pub is_key_apart : (columns : List Column) (key : List ℕ) → (length key == 0) ≡ false → all_within columns key ≡ true → is_some (find (is_unfit columns) key) ≡ false → are_distinct nat_eq key ≡ is_key columns key
is_key_apart columns [] some within fit = cc
is_key_apart columns (place ∷ key) some within fit =
    let long : nat_lt 0 (length (place ∷ key)) ≡ true = lt-ltb 0 (length (place ∷ key)) (omega arith) in
    sym (ap (λ (b : Bool). b && all_within columns (place ∷ key) && are_distinct nat_eq (place ∷ key) && all_fit columns (place ∷ key)) long
    ∙ ap (λ (b : Bool). b && are_distinct nat_eq (place ∷ key) && all_fit columns (place ∷ key)) within
    ∙ (ap (λ (b : Bool). are_distinct nat_eq (place ∷ key) && b) (fit_all columns (place ∷ key) (none_of _ fit)) ∙ and_true (are_distinct nat_eq (place ∷ key))))
  where
    and_true : (b : Bool) → (b && true) ≡ b
    and_true true = refl
    and_true false = refl
