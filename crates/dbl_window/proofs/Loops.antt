-- Loops that read item by item, and stop at the first fault.
use Rattle.std.proofs.Common.{◌≡◌, List, [], ◌∷◌, ◌++◌, refl, sym, ap, append_assoc}
use Rattle.std.specs.Prelude.{Result, Ok, Err}
use Rattle.dbl_window.specs.declared.error.WindowError.{WindowError}
use Rattle.dbl_window.specs.Reading.{◌>>=◌}

-- what is read, after a front
abbrev pub with_front : {A : Type 0} → List A → Result (List A) WindowError → Result (List A) WindowError
with_front front r = r >>= λ xs. Ok (front ++ xs)

pub push_front : {A : Type 0} (front : List A) (x : A) (r : Result (List A) WindowError) → with_front front (r >>= λ xs. Ok (x ∷ xs)) ≡ with_front (front ++ x ∷ []) r
push_front front x (Ok xs) = ap (λ l. Ok l) (sym (append_assoc front (x ∷ []) xs))
push_front front x (Err e) = refl
