-- Lists by their places.
use Rattle.std.proofs.Common.{◌≡◌, ◌∙◌, ◌⊎◌, inl, inr, ◌+◌, ◌-◌, ◌≤◌, ◌<◌, ℕ, zero, suc, List, [], ◌∷◌, ◌++◌, Some, length, take, refl, sym, ap, arith, add-one}
use Rattle.std.specs.Prelude.{slice_get}
use Rattle.std.specs.List.{AllByRecursion}

-- the item after a list's front
pub slice_get-seam : {X : Type 0} (xs : List X) (y : X) (ys : List X) → slice_get (xs ++ y ∷ ys) (length xs) ≡ Some y
slice_get-seam [] y ys = refl
slice_get-seam (x ∷ xs) y ys = slice_get-seam xs y ys

pub slice_get-front : {X : Type 0} (xs ys : List X) (i : ℕ) → i < length xs → slice_get (xs ++ ys) i ≡ slice_get xs i
slice_get-front [] ys i lt = absurd (omega (arith, lt))
slice_get-front (x ∷ xs) ys zero lt = refl
slice_get-front (x ∷ xs) ys (suc i) lt = slice_get-front xs ys i (omega (arith, lt))

pub slice_get-subsequent : {X : Type 0} (xs ys : List X) (i : ℕ) → length xs ≤ i → slice_get (xs ++ ys) i ≡ slice_get ys (i - length xs)
slice_get-subsequent [] ys i le = let e : i - 0 ≡ i = omega arith in ap (slice_get ys) (sym e)
slice_get-subsequent (x ∷ xs) ys zero le = absurd (omega (arith, le))
slice_get-subsequent (x ∷ xs) ys (suc i) le =
    let e : suc i - suc (length xs) ≡ i - length xs = omega arith in
    slice_get-subsequent xs ys i (omega (arith, le)) ∙ ap (slice_get ys) (sym e)

pub all_take : {X : Type 0} (P : X → Type 0) (n : ℕ) (xs : List X) → AllByRecursion P xs → AllByRecursion P (take n xs)
all_take P zero xs h = tt
all_take P (suc n) [] h = tt
all_take P (suc n) (x ∷ xs) h = (h.0, all_take P n xs h.1)

take_front_suc : {X : Type 0} (xs : List X) (y : X) (ys : List X) → take (suc (length xs)) (xs ++ y ∷ ys) ≡ xs ++ y ∷ []
take_front_suc [] y ys = refl
take_front_suc (x ∷ xs) y ys = ap (λ (l : List _). x ∷ l) (take_front_suc xs y ys)

-- a list's front and the item after it
pub take_front_one : {X : Type 0} (xs : List X) (y : X) (ys : List X) → take (length xs + 1) (xs ++ y ∷ ys) ≡ xs ++ y ∷ []
take_front_one xs y ys = rw add-one (take_front_suc xs y ys)

-- one of two
pub le_or_more : (n m : ℕ) → (n ≤ m) ⊎ ((d : ℕ) × (n ≡ m + d))
le_or_more zero m = inl (omega arith)
le_or_more (suc n) zero = inr (suc n, omega arith)
le_or_more (suc n) (suc m) = elim (le_or_more n m) [ inl le ↦ inl (omega (arith, le)) | inr more ↦ inr (more.0, omega (arith, more.1)) ]
