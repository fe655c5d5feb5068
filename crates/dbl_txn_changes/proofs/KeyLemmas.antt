-- One more cell of a key.
use Rattle.std.proofs.Common.{◌≡◌, ◌∙◌, ◌+◌, ◌<◌, ℕ, List, [], ◌∷◌, ◌++◌, length, get_or, take, map, sym, ap, ap₂}
use Rattle.std.proofs.lemmas.List.{take_more, map_push}

pub cell_pushed : {A : Type 0} (cell : ℕ → A) (places : List ℕ) (i : ℕ) (front more : List A) (x : A) → front ≡ map cell (take i places) → i < length places → more ≡ front ++ x ∷ []
    → x ≡ cell (get_or places i 0) → more ≡ map cell (take (i + 1) places)
cell_pushed {A = A} cell places i front more x so_far lt pushed is =
    pushed ∙ (ap₂ (λ (l : List A) (y : A). l ++ y ∷ []) so_far is
    ∙ sym (ap (map cell) (take_more places i 0 lt) ∙ map_push cell (take i places) (get_or places i 0)))
