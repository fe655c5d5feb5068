-- Whether records are left.
use Rattle.std.proofs.Common.{◌≡◌, ℕ, List, [], ◌∷◌, length, arith, ◌==◌, true, refl}
use Rattle.std.proofs.lemmas.Bool.Decides.{Decides-eqb}

pub no_items : {A : Type 0} (xs : List A) (n : ℕ) → n ≡ length xs → (n == 0) ≡ true → xs ≡ []
no_items [] n is test = refl
no_items (x ∷ xs) n is test = absurd (omega (arith, (Decides-eqb n 0).0 test, is))
