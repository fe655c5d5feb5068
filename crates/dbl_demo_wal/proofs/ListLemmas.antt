-- First ones of lists, and what stands at a place of them.
use Rattle.std.proofs.Common.{◌≡◌, ◌⊎◌, ℕ, zero, suc, ◌<◌, Some, List, [], ◌∷◌, ◌++◌, map, take, refl, ap, arith, inl, inr}
use Rattle.std.specs.Prelude.{slice_get}
use Rattle.std.specs.List.{AllByRecursion}

pub fits_take : {A : Type 0} (P : A → Type 0) (k : ℕ) (xs : List A) → AllByRecursion P xs → AllByRecursion P (take k xs)
fits_take P zero xs h = tt
fits_take P (suc k) [] h = tt
fits_take P (suc k) (x ∷ xs) h = (h.0, fits_take P k xs h.1)

pub fits_push : {A : Type 0} (P : A → Type 0) (xs : List A) (x : A) → AllByRecursion P xs → P x → AllByRecursion P (xs ++ x ∷ [])
fits_push P [] x h p = (p, tt)
fits_push P (y ∷ xs) x h p = (h.0, fits_push P xs x h.1 p)

-- what stands at a place of a list that was mapped
pub there_in_map : {A B : Type 0} (f : A → B) (P : A → Type 0) (xs : List A) (k : ℕ) (y : B) → AllByRecursion P xs → slice_get (map f xs) k ≡ Some y → (x : A) × (slice_get xs k ≡ Some x) × P x × (f x ≡ y)
there_in_map f P [] k y h there = absurd (let t = there in cc)
there_in_map f P (x ∷ xs) zero y h there = (x, refl, h.0, let t = there in cc)
there_in_map f P (x ∷ xs) (suc k) y h there = there_in_map f P xs k y h.1 there

pub there_in_take : {A : Type 0} (xs : List A) (m n : ℕ) (x : A) → m < n → slice_get xs m ≡ Some x → slice_get (take n xs) m ≡ Some x
there_in_take [] m n x lt there = absurd (let t = there in cc)
there_in_take (y ∷ xs) m zero x lt there = absurd (omega (arith, lt))
there_in_take (y ∷ xs) zero (suc n) x lt there = there
there_in_take (y ∷ xs) (suc m) (suc n) x lt there = there_in_take xs m n x (omega (arith, lt)) there

-- the first ones of a list with one more item: of the list itself, or all of them
pub take_push : {A : Type 0} (n : ℕ) (xs : List A) (x : A) → (take n (xs ++ x ∷ []) ≡ take n xs) ⊎ (take n (xs ++ x ∷ []) ≡ xs ++ x ∷ [])
take_push zero xs x = inl refl
take_push (suc zero) [] x = inr refl
take_push (suc (suc n)) [] x = inr refl
take_push {A = A} (suc n) (y ∷ xs) x = elim (take_push n xs x) [ inl h ↦ inl (ap (λ (l : List A). y ∷ l) h) | inr h ↦ inr (ap (λ (l : List A). y ∷ l) h) ]
