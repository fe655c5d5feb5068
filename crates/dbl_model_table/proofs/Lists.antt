-- Lemmas on tests of lists.
use Rattle.std.proofs.Common.{◌≡◌, ◌∙◌, ◌+◌, ◌<◌, ℕ, zero, suc, Bool, true, false, cond, not, ◌&&◌, ◌||◌, ◌⊎◌, inl, inr, Option, Some, None, List, [], ◌∷◌, ◌++◌, length, refl, sym, ap, arith}
use Rattle.std.specs.Prelude.{is_some, slice_get}
use Rattle.std.specs.List.{list_any, list_all, position_from}
use Rattle.std.specs.Bool.{Decides}
use Rattle.std.specs.Str.{bytes_eq}
use Rattle.std.proofs.lemmas.Slice.Eq.{bytes_eq-Decides}
use Rattle.dbl_model_table.specs.Tables.{are_distinct}

pub bool_case : (b : Bool) → (b ≡ true) ⊎ (b ≡ false)
bool_case true = inl refl
bool_case false = inr refl

pub and_left : (a b : Bool) → (a && b) ≡ true → a ≡ true
and_left true b h = refl
and_left false b h = h

pub and_right : (a b : Bool) → (a && b) ≡ true → b ≡ true
and_right true b h = h
and_right false b h = cc

pub and_both : (a b : Bool) → a ≡ true → b ≡ true → (a && b) ≡ true
and_both a b x y = rw x y

pub and_false : (a : Bool) → (a && false) ≡ false
and_false true = refl
and_false false = refl

pub or_false : (a b : Bool) → (a || b) ≡ false → (a ≡ false) × (b ≡ false)
or_false true b h = cc
or_false false b h = (refl, h)

pub or_right : (a : Bool) → (a || true) ≡ true
or_right true = refl
or_right false = refl

pub or_none : (a : Bool) → (a || false) ≡ a
or_none true = refl
or_none false = refl

-- ---- texts

pub same_text : (x y : List ℕ) → bytes_eq x y ≡ true → x ≡ y
same_text x y h = (bytes_eq-Decides x y).0 h

pub text_itself : (x : List ℕ) → bytes_eq x x ≡ true
text_itself x = (bytes_eq-Decides x x).1 refl

pub text_flip : (x y : List ℕ) → bytes_eq x y ≡ false → bytes_eq y x ≡ false
text_flip x y h = elim (bool_case (bytes_eq y x)) [
  | inl same ↦ (let e : x ≡ y = sym (same_text y x same) in let t : bytes_eq x y ≡ true = (bytes_eq-Decides x y).1 e in cc)
  | inr other ↦ other
]

-- ---- tests of lists

pub any-append : {X : Type 0} (p : X → Bool) (xs ys : List X) → list_any p (xs ++ ys) ≡ (list_any p xs || list_any p ys)
any-append p [] ys = refl
any-append p (x ∷ xs) ys = step (p x) _ _ _ (any-append p xs ys)
  where
    step : (a b c d : Bool) → b ≡ (c || d) → (a || b) ≡ ((a || c) || d)
    step true b c d h = refl
    step false b c d h = h

pub any-push : {X : Type 0} (p : X → Bool) (xs : List X) (x : X) → list_any p (xs ++ x ∷ []) ≡ (list_any p xs || p x)
any-push p xs x = any-append p xs (x ∷ []) ∙ ap (λ (b : Bool). list_any p xs || b) (or_none (p x))

pub any_here : {X : Type 0} (p : X → Bool) (xs : List X) (x : X) (ys : List X) → p x ≡ true → list_any p (xs ++ x ∷ ys) ≡ true
any_here p xs x ys h = any-append p xs (x ∷ ys) ∙ (ap (λ (b : Bool). list_any p xs || (b || list_any p ys)) h ∙ or_right (list_any p xs))

pub all_not : {X : Type 0} (p : X → Bool) (xs : List X) (x : X) (ys : List X) → p x ≡ false → list_all p (xs ++ x ∷ ys) ≡ false
all_not p [] x ys h = ap (λ (b : Bool). b && list_all p ys) h
all_not p (y ∷ xs) x ys h = ap (λ (b : Bool). p y && b) (all_not p xs x ys h) ∙ and_false (p y)

-- ---- distinct items

module _ {X : Type 0} {same : X → X → Bool} (decides : (x y : X) → Decides (same x y) (x ≡ y)) where
  pub same_flip : (x y : X) → same x y ≡ false → same y x ≡ false
  same_flip x y h = elim (bool_case (same y x)) [
    | inl there ↦ (let t : same x y ≡ true = (decides x y).1 (sym ((decides y x).0 there)) in cc)
    | inr other ↦ other
  ]

  pub apart-push : (xs : List X) (x : X) → are_distinct same xs ≡ true → list_any (same x) xs ≡ false → are_distinct same (xs ++ x ∷ []) ≡ true
  apart-push [] x h new = refl
  apart-push (y ∷ xs) x h new =
      let apart = or_false (same x y) (list_any (same x) xs) new in
      let first : list_any (same y) (xs ++ x ∷ []) ≡ list_any (same y) xs = any-push (same y) xs x ∙ (ap (λ (b : Bool). list_any (same y) xs || b) (same_flip x y apart.0) ∙ or_none (list_any (same y) xs)) in
      and_both _ _
      (ap not first ∙ and_left _ _ h)
      (apart-push xs x (and_right (not (list_any (same y) xs)) _ h) apart.1)

  pub apart_not : (xs : List X) (x : X) (ys : List X) → list_any (same x) xs ≡ true → are_distinct same (xs ++ x ∷ ys) ≡ false
  apart_not [] x ys h = cc
  apart_not (y ∷ xs) x ys h = elim (bool_case (same x y)) [
    | inl here ↦ (
        let there : list_any (same y) (xs ++ x ∷ ys) ≡ true = any_here (same y) xs x ys ((decides y x).1 (sym ((decides x y).0 here))) in
        ap (λ (b : Bool). not b && are_distinct same (xs ++ x ∷ ys)) there)
    | inr other ↦ (
        let later : list_any (same x) xs ≡ true = sym (ap (λ (b : Bool). b || list_any (same x) xs) other) ∙ h in
        ap (λ (b : Bool). not (list_any (same y) (xs ++ x ∷ ys)) && b) (apart_not xs x ys later) ∙ and_false (not (list_any (same y) (xs ++ x ∷ ys))))
  ]

  -- one more item
  pub entered_one : (xs : List X) (x : X) (before after : X → Bool) → ((q : X) → before q ≡ list_any (same q) xs) → ((q : X) → after q ≡ cond (same x q) true (before q)) → (q : X) → after q ≡ list_any (same q) (xs ++ x ∷ [])
  entered_one xs x before after was is q = elim (bool_case (same x q)) [
    | inl here ↦ (
        let there : same q x ≡ true = (decides q x).1 (sym ((decides x q).0 here)) in
        is q ∙ (ap (λ (b : Bool). cond b true (before q)) here ∙ sym (any_here (same q) xs x [] there)))
    | inr other ↦ (
        is q ∙ (ap (λ (b : Bool). cond b true (before q)) other ∙ (was q
        ∙ sym (any-push (same q) xs x ∙ (ap (λ (b : Bool). list_any (same q) xs || b) (same_flip x q other) ∙ or_none (list_any (same q) xs))))))
  ]

pub distinct-push : (xs : List (List ℕ)) (x : List ℕ) → are_distinct bytes_eq xs ≡ true → list_any (bytes_eq x) xs ≡ false → are_distinct bytes_eq (xs ++ x ∷ []) ≡ true
distinct-push = apart-push bytes_eq-Decides

pub distinct_not : (xs : List (List ℕ)) (x : List ℕ) (ys : List (List ℕ)) → list_any (bytes_eq x) xs ≡ true → are_distinct bytes_eq (xs ++ x ∷ ys) ≡ false
distinct_not = apart_not bytes_eq-Decides

-- ---- places

abbrev pub or_else : Option ℕ → Option ℕ → Option ℕ
or_else None other = other
or_else (Some n) other = Some n

pub or_else-none : (o : Option ℕ) → or_else o None ≡ o
or_else-none None = refl
or_else-none (Some n) = refl

pub position_from-push : {X : Type 0} (p : X → Bool) (i : ℕ) (xs : List X) (x : X) → position_from p i (xs ++ x ∷ []) ≡ or_else (position_from p i xs) (cond (p x) (Some (i + length xs)) None)
position_from-push p i [] x = let e : i ≡ i + 0 = omega arith in ap (λ (n : ℕ). cond (p x) (Some n) None) e
position_from-push p i (y ∷ xs) x =
    let e : (i + 1) + length xs ≡ i + suc (length xs) = omega arith in
    step (p y) _ _ _ (position_from-push p (i + 1) xs x ∙ ap (λ (n : ℕ). or_else (position_from p (i + 1) xs) (cond (p x) (Some n) None)) e)
  where
    step : (b : Bool) (o o' last : Option ℕ) → o ≡ or_else o' last → cond b (Some i) o ≡ or_else (cond b (Some i) o') last
    step true o o' last h = refl
    step false o o' last h = h

pub is_some-position_from : {X : Type 0} (p : X → Bool) (i : ℕ) (xs : List X) → is_some (position_from p i xs) ≡ list_any p xs
is_some-position_from p i [] = refl
is_some-position_from p i (x ∷ xs) = step (p x) _ _ (is_some-position_from p (i + 1) xs)
  where
    step : (b : Bool) (o : Option ℕ) (c : Bool) → is_some o ≡ c → is_some (cond b (Some i) o) ≡ (b || c)
    step true o c h = refl
    step false o c h = h

-- what stands at the place that was found
pub position_from-at : {X : Type 0} (p : X → Bool) (i : ℕ) (xs : List X) (n : ℕ) → position_from p i xs ≡ Some n → (j : ℕ) × (n ≡ i + j) × ((x : X) × (slice_get xs j ≡ Some x) × (p x ≡ true))
position_from-at p i [] n h = cc
position_from-at p i (x ∷ xs) n h = elim (bool_case (p x)) [
  | inl here ↦ (let e : Some i ≡ Some n = sym (ap (λ (b : Bool). cond b (Some i) (position_from p (i + 1) xs)) here) ∙ h in let same : i ≡ n = cc in (0, omega arith, (x, refl, here)))
  | inr other ↦ (
      let e : position_from p (i + 1) xs ≡ Some n = sym (ap (λ (b : Bool). cond b (Some i) (position_from p (i + 1) xs)) other) ∙ h in
      let rest = position_from-at p (i + 1) xs n e in
      (suc rest.0, omega (arith, rest.1), rest.2))
]

pub slice_get-lt : {X : Type 0} (xs : List X) (i : ℕ) (x : X) → slice_get xs i ≡ Some x → i < length xs
slice_get-lt [] i x h = cc
slice_get-lt (y ∷ xs) zero x h = omega arith
slice_get-lt (y ∷ xs) (suc i) x h = omega (arith, slice_get-lt xs i x h)
