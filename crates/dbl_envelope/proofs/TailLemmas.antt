-- The tails that were made, table by table.
use Rattle.std.proofs.Common.{◌≡◌, ◌∙◌, ◌<◌, ℕ, ℤ, zero, suc, List, [], ◌∷◌, length, replicate, slice_get, slice_set, Option, Some, None, refl, sym, ap, subst, arith}
use Rattle.dbl_model_table.specs.declared.change.Commit.{Commit}
use Rattle.dbl_envelope.specs.Writers.{Captured, tail_at, AreTails}

-- what stands at a place after one item was set
set_cases : {A : Type 0} (P : ℕ → A → Type 0) (xs : List A) (t : ℕ) (x : A) → ((i : ℕ) (y : A) → slice_get xs i ≡ Some y → P i y) → P t x → (i : ℕ) (y : A) → slice_get (slice_set xs t x) i ≡ Some y → P i y
set_cases P [] t x old new i y is = old i y is
set_cases P (z ∷ xs) zero x old new zero y is = let same : x ≡ y = cc in subst (P 0) same new
set_cases P (z ∷ xs) zero x old new (suc i) y is = old (suc i) y is
set_cases P (z ∷ xs) (suc t) x old new zero y is = old 0 y is
set_cases P (z ∷ xs) (suc t) x old new (suc i) y is = set_cases (λ i. P (suc i)) xs t x (λ i. old (suc i)) new i y is

pub tails_set : (captured : Captured) (commit : Commit) (now : ℤ) (tails : List (Option (List ℕ))) (t : ℕ) (text : List ℕ) → AreTails captured commit now tails → text ≡ tail_at captured commit now t
    → AreTails captured commit now (slice_set tails t (Some text))
tails_set captured commit now tails t text are is table other at =
    set_cases (λ i o. (other : List ℕ) → o ≡ Some other → other ≡ tail_at captured commit now i) tails t (Some text)
    (λ i o found other same. are i other (found ∙ ap Some same)) (λ other same. let e : text ≡ other = cc in sym e ∙ is) table (Some other) at other refl

pub tails_get : {A : Type 0} (xs : List A) (t : ℕ) (x : A) → t < length xs → slice_get (slice_set xs t x) t ≡ Some x
tails_get [] t x h = absurd (omega arith)
tails_get (y ∷ xs) zero x h = refl
tails_get (y ∷ xs) (suc t) x h = tails_get xs t x (omega arith)

-- a tail that is there is that of its table
pub tail_there : (captured : Captured) (commit : Commit) (now : ℤ) (tails : List (Option (List ℕ))) (t : ℕ) (text : List ℕ) → AreTails captured commit now tails → slice_get tails t ≡ Some (Some text)
    → slice_get tails t ≡ Some (Some (tail_at captured commit now t))
tail_there captured commit now tails t text are is = is ∙ ap (λ x. Some (Some x)) (are t text is)

none_at : (n t : ℕ) (text : List ℕ) → slice_get (replicate n None) t ≡ Some (Some text) → ⊥
none_at zero t text is = cc
none_at (suc n) zero text is = cc
none_at (suc n) (suc t) text is = none_at n t text is

pub no_tails : (captured : Captured) (commit : Commit) (now : ℤ) (tails : List (Option (List ℕ))) (n : ℕ) → tails ≡ replicate n None → AreTails captured commit now tails
no_tails captured commit now tails n none t text is = absurd (none_at n t text (ap (λ l. slice_get l t) (sym none) ∙ is))
