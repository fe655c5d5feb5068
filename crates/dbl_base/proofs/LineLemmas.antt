-- Where the first line of a text ends, and the text of lines.
use Rattle.std.proofs.Common.{◌≡◌, ◌∙◌, ℕ, zero, suc, ◌+◌, ◌-◌, ◌<◌, ◌==◌, true, false, List, [], ◌∷◌, ◌++◌, append_assoc, length, get_or, take, drop, length-drop, add-one, sym, ap, refl, arith, take_all}
use Rattle.std.specs.List.{onto_first}
use Rattle.dbl_base.specs.Lines.{lines_of, lines_text}

-- before a newline at n stands no other
line_at : (xs : List ℕ) (n : ℕ) → n < length xs → (get_or xs n 0 == 10) ≡ true → ((k : ℕ) → k < n → (get_or xs k 0 == 10) ≡ false) → lines_of xs ≡ take n xs ∷ lines_of (drop (suc n) xs)
line_at [] n within is none = absurd (omega arith)
line_at (c ∷ cs) zero within is none = rw is refl
line_at (c ∷ cs) (suc n) within is none =
    let here : (c == 10) ≡ false = none 0 (omega arith) in
    let rest : lines_of cs ≡ take n cs ∷ lines_of (drop (suc n) cs) = line_at cs n (omega arith) is (λ k below. none (suc k) (omega arith)) in
    rw (here, rest) refl

-- a text without a newline is one line
line_alone : (c : ℕ) (cs : List ℕ) → ((k : ℕ) → k < length (c ∷ cs) → (get_or (c ∷ cs) k 0 == 10) ≡ false) → lines_of (c ∷ cs) ≡ (c ∷ cs) ∷ []
line_alone c [] none = rw (none 0 (omega arith)) refl
line_alone c (d ∷ ds) none =
    let rest : lines_of (d ∷ ds) ≡ (d ∷ ds) ∷ [] = line_alone d ds (λ k below. none (suc k) (omega arith)) in
    let here : (c == 10) ≡ false = none 0 (omega arith) in
    let joined : lines_of (c ∷ d ∷ ds) ≡ onto_first c (lines_of (d ∷ ds)) = rw here refl in
    joined ∙ ap (onto_first c) rest

pub line_first : (xs : List ℕ) (n m : ℕ) → n < length xs → (get_or xs n 0 == 10) ≡ true → ((k : ℕ) → k < n → (get_or xs k 0 == 10) ≡ false) → m ≡ length xs - (n + 1)
    → lines_of xs ≡ take n xs ∷ lines_of (take m (drop (n + 1) xs))
line_first xs n m within is none size =
    let all : take m (drop (n + 1) xs) ≡ drop (n + 1) xs = take_all m (drop (n + 1) xs) (omega (arith, length-drop (n + 1) xs)) in
    let first : lines_of xs ≡ take n xs ∷ lines_of (drop (n + 1) xs) = rw add-one (line_at xs n within is none) in
    first ∙ ap (λ rest. take n xs ∷ lines_of rest) (sym all)

pub line_last : (xs : List ℕ) (m : ℕ) → 0 < length xs → ((k : ℕ) → k < length xs → (get_or xs k 0 == 10) ≡ false) → m ≡ 0 → lines_of xs ≡ xs ∷ lines_of (take m (drop (length xs) xs))
line_last [] m some none size = absurd (omega arith)
line_last (c ∷ cs) m some none size = line_alone c cs none ∙ ap (λ k. (c ∷ cs) ∷ lines_of (take k (drop (length (c ∷ cs)) (c ∷ cs)))) (sym size)

pub lines_text-append : (xs ys : List (List ℕ)) → lines_text (xs ++ ys) ≡ lines_text xs ++ lines_text ys
lines_text-append [] ys = refl
lines_text-append (x ∷ xs) ys = ap (λ t. x ++ 10 ∷ t) (lines_text-append xs ys) ∙ sym (append_assoc x (10 ∷ lines_text xs) (lines_text ys))
