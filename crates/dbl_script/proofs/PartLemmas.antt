-- The first separator of some bytes, and the parts that it ends.
use Rattle.std.proofs.Common.{◌≡◌, ℕ, zero, suc, ◌<◌, ◌==◌, if◌then◌else◌, Bool, true, false, List, [], ◌∷◌, Option, Some, None, option_map, length, get_or, take, drop, refl, ap, arith}
use Rattle.std.specs.List.{onto_first}
use Rattle.dbl_script.specs.Words.{cut_at, parts_at}

-- no byte is the separator
pub cut_missing : (c : ℕ) (xs : List ℕ) → ((k : ℕ) → k < length xs → (get_or xs k 0 == c) ≡ false) → cut_at c xs ≡ None
cut_missing c [] none = refl
cut_missing c (x ∷ xs) none = rw (none 0 (omega arith), cut_missing c xs (λ k below. none (suc k) (omega arith))) refl

-- the byte at n is the first separator
pub cut_found : (c : ℕ) (xs : List ℕ) (n : ℕ) → n < length xs → (get_or xs n 0 == c) ≡ true → ((k : ℕ) → k < n → (get_or xs k 0 == c) ≡ false) → cut_at c xs ≡ Some (take n xs, drop (suc n) xs)
cut_found c [] n within is none = absurd (omega arith)
cut_found c (x ∷ xs) zero within is none = rw is refl
cut_found c (x ∷ xs) (suc n) within is none =
    let here : (x == c) ≡ false = none 0 (omega arith) in
    rw (here, cut_found c xs n (omega arith) is (λ k below. none (suc k) (omega arith))) refl

-- the parts, by the cut at the first separator
abbrev pub parts_from : ℕ → List ℕ → Option (List ℕ × List ℕ) → List (List ℕ)
parts_from c whole None = whole ∷ []
parts_from c whole (Some p) = p.0 ∷ parts_at c p.1

part_step : (c x : ℕ) (xs : List ℕ) (b : Bool) (o : Option (List ℕ × List ℕ)) → parts_at c xs ≡ parts_from c xs o
    → (if b then [] ∷ parts_at c xs else onto_first x (parts_at c xs)) ≡ parts_from c (x ∷ xs) (if b then Some ([], xs) else option_map (λ (p : List ℕ × List ℕ). (x ∷ p.0, p.1)) o)
part_step c x xs true o same = refl
part_step c x xs false None same = ap (onto_first x) same
part_step c x xs false (Some p) same = ap (onto_first x) same

pub parts_of_cut : (c : ℕ) (xs : List ℕ) → parts_at c xs ≡ parts_from c xs (cut_at c xs)
parts_of_cut c [] = refl
parts_of_cut c (x ∷ xs) = part_step c x xs (x == c) (cut_at c xs) (parts_of_cut c xs)
