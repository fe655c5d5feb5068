-- Lists by their places, side by side, and without some of their items.
use Rattle.std.proofs.Common.{◌≡◌, ◌∙◌, ◌⊎◌, inl, inr, ◌+◌, ◌-◌, ◌≤◌, ◌<◌, ℕ, zero, suc, Bool, true, false, cond, List, [], ◌∷◌, ◌++◌, Some, length, take, drop, map, filter, refl, sym, ap, subst, arith}
use Rattle.std.specs.Prelude.{slice_get}
use Rattle.std.specs.List.{AllByRecursion, AllZip}
use Rattle.std.proofs.lemmas.Bool.{cases_lt}
use Rattle.dbl_model_table.proofs.Lists.{slice_get-lt}
use Rattle.dbl_consume_laws.proofs.Lists.{slice_get-front, slice_get-subsequent}

pub first_some : {X : Type 0} (x y : X) → Some x ≡ Some y → x ≡ y
first_some x y e = cc

-- ---- places

pub at_left : {X : Type 0} (xs ys : List X) (k : ℕ) (x : X) → slice_get xs k ≡ Some x → slice_get (xs ++ ys) k ≡ Some x
at_left xs ys k x at = slice_get-front xs ys k (slice_get-lt xs k x at) ∙ at

pub at_right : {X : Type 0} (xs ys : List X) (k : ℕ) (x : X) → slice_get ys k ≡ Some x → slice_get (xs ++ ys) (length xs + k) ≡ Some x
at_right [] ys k x at = let e : 0 + k ≡ k = omega arith in ap (slice_get ys) e ∙ at
at_right (y ∷ xs) ys k x at = let e : suc (length xs) + k ≡ suc (length xs + k) = omega arith in ap (slice_get (y ∷ (xs ++ ys))) e ∙ at_right xs ys k x at

back_again : (n k : ℕ) → n ≤ k → k ≡ n + (k - n)
back_again n k le = omega (arith, le)

-- an item of two lists is one of the first or one of the second
pub at_cases : {X : Type 0} (xs ys : List X) (k : ℕ) (x : X) → slice_get (xs ++ ys) k ≡ Some x
    → (slice_get xs k ≡ Some x) ⊎ ((j : ℕ) × (slice_get ys j ≡ Some x) × (k ≡ length xs + j))
at_cases xs ys k x at = elim (cases_lt k (length xs)) [
  | inl lt ↦ inl (sym (slice_get-front xs ys k lt) ∙ at)
  | inr le ↦ inr (k - length xs, sym (slice_get-subsequent xs ys k le) ∙ at, back_again (length xs) k le)
]

pub only_item : {X : Type 0} (x y : X) (k : ℕ) → slice_get (x ∷ []) k ≡ Some y → x ≡ y
only_item x y zero at = first_some x y at
only_item x y (suc k) at = cc

pub at_take : {X : Type 0} (n : ℕ) (xs : List X) (k : ℕ) (x : X) → slice_get xs k ≡ Some x → k < n → slice_get (take n xs) k ≡ Some x
at_take zero xs k x at lt = absurd (omega (arith, lt))
at_take (suc n) [] k x at lt = cc
at_take (suc n) (y ∷ xs) zero x at lt = at
at_take (suc n) (y ∷ xs) (suc k) x at lt = at_take n xs k x at (omega (arith, lt))

pub taken_at : {X : Type 0} (n : ℕ) (xs : List X) (k : ℕ) (x : X) → slice_get (take n xs) k ≡ Some x → (k < n) × (slice_get xs k ≡ Some x)
taken_at zero xs k x at = cc
taken_at (suc n) [] k x at = cc
taken_at (suc n) (y ∷ xs) zero x at = (omega arith, at)
taken_at (suc n) (y ∷ xs) (suc k) x at = let rest = taken_at n xs k x at in let lt : k < n = rest.0 in (omega (arith, lt), rest.1)

-- what is left after a front, by places
pub drop_get : {X : Type 0} (n : ℕ) (xs : List X) (k : ℕ) → slice_get (drop n xs) k ≡ slice_get xs (n + k)
drop_get zero xs k = let e : k ≡ 0 + k = omega arith in ap (slice_get xs) e
drop_get (suc n) [] k = refl
drop_get (suc n) (x ∷ xs) k = let e : suc (n + k) ≡ suc n + k = omega arith in drop_get n xs k ∙ ap (slice_get (x ∷ xs)) e

pub mapped : {X Y : Type 0} (f : X → Y) (xs : List X) (k : ℕ) (y : Y) → slice_get (map f xs) k ≡ Some y → (x : X) × (slice_get xs k ≡ Some x) × (y ≡ f x)
mapped f [] k y at = cc
mapped f (x ∷ xs) zero y at = (x, refl, sym (first_some (f x) y at))
mapped f (x ∷ xs) (suc k) y at = mapped f xs k y at

pub map_get : {X Y : Type 0} (f : X → Y) (xs : List X) (k : ℕ) (x : X) → slice_get xs k ≡ Some x → slice_get (map f xs) k ≡ Some (f x)
map_get f [] k x at = cc
map_get f (y ∷ xs) zero x at = ap (λ (z : _). Some (f z)) (first_some y x at)
map_get f (y ∷ xs) (suc k) x at = map_get f xs k x at

-- ---- fronts

pub take_push : {X : Type 0} (xs : List X) (n : ℕ) (x : X) → slice_get xs n ≡ Some x → take (suc n) xs ≡ take n xs ++ x ∷ []
take_push [] n x at = cc
take_push (y ∷ xs) zero x at = ap (λ (z : _). z ∷ []) (first_some y x at)
take_push (y ∷ xs) (suc n) x at = ap (λ (l : List _). y ∷ l) (take_push xs n x at)

pub taken_length : {X : Type 0} (n : ℕ) (xs : List X) → n ≤ length xs → length (take n xs) ≡ n
taken_length zero xs le = refl
taken_length (suc n) [] le = absurd (omega (arith, le))
taken_length (suc n) (x ∷ xs) le = ap suc (taken_length n xs (omega (arith, le)))

-- a front as long as its list goes to the list's end
pub take_long : {X : Type 0} (n : ℕ) (xs : List X) → length (take n xs) ≡ length xs → length xs ≤ n
take_long zero [] e = omega arith
take_long zero (x ∷ xs) e = absurd (omega (arith, e))
take_long (suc n) [] e = omega arith
take_long (suc n) (x ∷ xs) e = let rest : length xs ≤ n = take_long n xs (omega (arith, e)) in omega (arith, rest)

-- a prefix of a longer list is one of the list, where that is as long
pub take_within : {X : Type 0} (n : ℕ) (xs ys : List X) → n ≤ length xs → take n (xs ++ ys) ≡ take n xs
take_within zero xs ys le = refl
take_within (suc n) [] ys le = absurd (omega (arith, le))
take_within (suc n) (x ∷ xs) ys le = ap (λ (l : List _). x ∷ l) (take_within n xs ys (omega (arith, le)))

-- ---- what is so of each item

pub all_by_place : {X : Type 0} (P : X → Type 0) (xs : List X) → ((j : ℕ) (x : X) → slice_get xs j ≡ Some x → P x) → AllByRecursion P xs
all_by_place P [] each = tt
all_by_place P (x ∷ xs) each = (each 0 x refl, all_by_place P xs (λ j y at. each (suc j) y at))

pub at_all : {X : Type 0} (P : X → Type 0) (xs : List X) (k : ℕ) (x : X) → AllByRecursion P xs → slice_get xs k ≡ Some x → P x
at_all P [] k x all at = cc
at_all P (y ∷ xs) zero x all at = subst P (first_some y x at) all.0
at_all P (y ∷ xs) (suc k) x all at = at_all P xs k x all.1 at

pub all_weaker : {X : Type 0} (P Q : X → Type 0) (xs : List X) → ((x : X) → P x → Q x) → AllByRecursion P xs → AllByRecursion Q xs
all_weaker P Q [] f all = tt
all_weaker P Q (x ∷ xs) f all = (f x all.0, all_weaker P Q xs f all.1)

-- ---- side by side

module _ {A B : Type 0} (R : A → B → Type 0) where
  -- what stands beside an item of the second list
  pub zip_at : (xs : List A) (ys : List B) (k : ℕ) (y : B) → AllZip R xs ys → slice_get ys k ≡ Some y → (x : A) × (slice_get xs k ≡ Some x) × R x y
  zip_at [] [] k y zipped at = cc
  zip_at [] (w ∷ ys) k y zipped at = absurd zipped
  zip_at (x ∷ xs) [] k y zipped at = absurd zipped
  zip_at (x ∷ xs) (w ∷ ys) zero y zipped at = (x, refl, subst (R x) (first_some w y at) zipped.0)
  zip_at (x ∷ xs) (w ∷ ys) (suc k) y zipped at = zip_at xs ys k y zipped.1 at

  -- and beside one of the first
  pub zip_beside : (xs : List A) (ys : List B) (k : ℕ) (x : A) → AllZip R xs ys → slice_get xs k ≡ Some x → (y : B) × (slice_get ys k ≡ Some y) × R x y
  zip_beside [] [] k x zipped at = cc
  zip_beside [] (y ∷ ys) k x zipped at = absurd zipped
  zip_beside (z ∷ xs) [] k x zipped at = absurd zipped
  zip_beside (z ∷ xs) (y ∷ ys) zero x zipped at = (y, refl, subst (λ (w : A). R w y) (first_some z x at) zipped.0)
  zip_beside (z ∷ xs) (y ∷ ys) (suc k) x zipped at = zip_beside xs ys k x zipped.1 at

  pub zip_length : (xs : List A) (ys : List B) → AllZip R xs ys → length xs ≡ length ys
  zip_length [] [] zipped = refl
  zip_length [] (y ∷ ys) zipped = absurd zipped
  zip_length (x ∷ xs) [] zipped = absurd zipped
  zip_length (x ∷ xs) (y ∷ ys) zipped = ap suc (zip_length xs ys zipped.1)

  pub zip_append : (xs us : List A) (ys vs : List B) → AllZip R xs ys → AllZip R us vs → AllZip R (xs ++ us) (ys ++ vs)
  zip_append [] us [] vs one two = two
  zip_append [] us (y ∷ ys) vs one two = absurd one
  zip_append (x ∷ xs) us [] vs one two = absurd one
  zip_append (x ∷ xs) us (y ∷ ys) vs one two = (one.0, zip_append xs us ys vs one.1 two)

  pub zip_weaker : (S : A → B → Type 0) (xs : List A) (ys : List B) → ((x : A) (y : B) → R x y → S x y) → AllZip R xs ys → AllZip S xs ys
  zip_weaker S [] [] f zipped = tt
  zip_weaker S [] (y ∷ ys) f zipped = absurd zipped
  zip_weaker S (x ∷ xs) [] f zipped = absurd zipped
  zip_weaker S (x ∷ xs) (y ∷ ys) f zipped = (f x y zipped.0, zip_weaker S xs ys f zipped.1)

-- ---- without some

module _ {X : Type 0} (p : X → Bool) where
  pub filter_none : (xs : List X) → AllByRecursion (λ x. p x ≡ false) xs → filter p xs ≡ []
  filter_none [] all = refl
  filter_none (x ∷ xs) all = ap (λ (b : Bool). cond b (x ∷ filter p xs) (filter p xs)) all.0 ∙ filter_none xs all.1

  pub filter_whole : (xs : List X) → AllByRecursion (λ x. p x ≡ true) xs → filter p xs ≡ xs
  filter_whole [] all = refl
  filter_whole (x ∷ xs) all = ap (λ (b : Bool). cond b (x ∷ filter p xs) (filter p xs)) all.0 ∙ ap (λ (l : List X). x ∷ l) (filter_whole xs all.1)
