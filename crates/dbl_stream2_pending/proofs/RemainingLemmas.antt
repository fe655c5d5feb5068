-- The messages that aren't lost, one by one.
use Rattle.std.proofs.Common.{◌≡◌, ℕ, ◌+◌, Bool, List, [], ◌∷◌, ◌++◌, length, sym, ◌∙◌, ap, arith, append_assoc, add-one}
use Rattle.std.proofs.lemmas.List.{append-nil}
use Rattle.dbl_stream2_pending.specs.Buffers.{Item, item_left, remaining}

-- the next item is appended, unless it is lost
pub more_left : {M : Type 0} (is_lost : ℕ → ℕ → Bool) (out next : List M) (n k m : ℕ) (items rest : List (Item M)) (item : Item M) (whole : List M)
    → items ≡ item ∷ rest → k ≡ n → m ≡ n + 1 → next ≡ out ++ item_left (is_lost item.0 k) item
    → out ++ remaining is_lost n items ≡ whole → next ++ remaining is_lost m rest ≡ whole
more_left {M} is_lost out next n k m items rest item whole is at one appended before =
    ap (λ (l : List M). l ++ remaining is_lost m rest) (appended ∙ ap (λ (i : ℕ). out ++ item_left (is_lost item.0 i) item) at)
    ∙ append_assoc out (item_left (is_lost item.0 n) item) (remaining is_lost m rest)
    ∙ ap (λ (i : ℕ). out ++ (item_left (is_lost item.0 n) item ++ remaining is_lost i rest)) (one ∙ add-one n)
    ∙ ap (λ (l : List (Item M)). out ++ remaining is_lost n l) (sym is) ∙ before

-- nothing is appended yet
pub none_appended : {M : Type 0} (is_lost : ℕ → ℕ → Bool) (out : List M) (n : ℕ) (items all : List (Item M)) → n ≡ 0 → items ≡ all
    → out ++ remaining is_lost n items ≡ out ++ remaining is_lost 0 all
none_appended {M} is_lost out n items all at is =
    ap (λ (i : ℕ). out ++ remaining is_lost i items) at ∙ ap (λ (l : List (Item M)). out ++ remaining is_lost 0 l) is

-- all is appended
pub all_appended : {M : Type 0} (is_lost : ℕ → ℕ → Bool) (out : List M) (n : ℕ) (items : List (Item M)) (whole : List M) → length items ≡ 0
    → out ++ remaining is_lost n items ≡ whole → out ≡ whole
all_appended is_lost out n [] whole none before = sym (append-nil out) ∙ before
all_appended is_lost out n (item ∷ items) whole none before = absurd (omega arith)
