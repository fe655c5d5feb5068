-- The loops over words.
use Rattle.std.proofs.Common.{◌≡◌, ◌∙◌, ℕ, ◌+◌, ◌<◌, ◌≤◌, ◌-◌, ◌==◌, ◌&&◌, ◌||◌, Bool, true, false, cond, List, [], ◌∷◌, length, get_or, take, drop, Some, None, refl, sym, ap, arith, length-drop, add-one, ltb}
use Rattle.std.specs.Prelude.{not}
use Rattle.std.specs.Borrow.{Bor}
use Rattle.std.specs.List.{list_any, position, position_or_len}
use Rattle.std.proofs.Math.Seq.{drop-cons}
use Rattle.std.proofs.lemmas.List.{take_all, drop_all, drop-map, length-map}
use Rattle.std.proofs.lemmas.Bool.Decides.{nat_tests}
use Rattle.dbl_cli.specs.declared.items.Next.{Next}
use Rattle.dbl_cli.specs.Items.{Named}
use Rattle.dbl_cli.specs.Names.{texts}
use Rattle.dbl_cli.specs.Checks.{words_after, by_next, next_of}

pub split_at : {X : Type 0} (ws : List X) (i : ℕ) (d : X) → i < length ws → drop i ws ≡ get_or ws i d ∷ drop (i + 1) ws
split_at ws i d lt = rw (add-one, drop-cons ws i d)

pub after_step : (names : List Named) (waits : Bool) (ws : List (Bor (List ℕ))) (i : ℕ) (d : Bor (List ℕ)) (n : Next) → i < length ws → n ≡ next_of names waits (get_or ws i d).now
    → words_after names waits (texts (drop i ws)) ≡ by_next n (words_after names false (texts (drop (i + 1) ws))) (words_after names true (texts (drop (i + 1) ws))) (Some (texts (drop i ws)))
unfolding words_after
after_step names waits ws i d n lt is =
    let split = split_at ws i d lt in
    ap (λ l. words_after names waits (texts l)) split
    ∙ (λ k. by_next (is_back k) (words_after names false (texts (drop (i + 1) ws))) (words_after names true (texts (drop (i + 1) ws))) (Some (texts (split_back k))))
  where
    is_back : next_of names waits (get_or ws i d).now ≡ n
    is_back = sym is

    split_back : get_or ws i d ∷ drop (i + 1) ws ≡ drop i ws
    split_back = sym (split_at ws i d lt)

pub after_end : (names : List Named) (waits : Bool) (ws : List (Bor (List ℕ))) (i : ℕ) → length ws ≤ i → words_after names waits (texts (drop i ws)) ≡ cond waits None (Some [])
unfolding words_after
after_end names waits ws i past = ap (λ l. words_after names waits (texts l)) (drop_all i ws past)

pub end_is : (ws : List (Bor (List ℕ))) (end : ℕ) → end ≤ length ws → (end == length ws) ≡ (length (texts (drop end ws)) == 0)
end_is ws end within = rw (length-map, length-drop) (grind (arith, nat_tests))

pub list_any-position : (p : ℕ → Bool) (xs : List ℕ) → list_any p xs ≡ ltb (position_or_len p xs) (length xs)
list_any-position p [] = refl
list_any-position p (x ∷ xs) = go (p x) (list_any-position p xs)
  where
    go : (b : Bool) → list_any p xs ≡ ltb (position_or_len p xs) (length xs) → (b || list_any p xs) ≡ ltb (cond (not b) (1 + position_or_len p xs) 0) (length (x ∷ xs))
    go true e = grind (arith, nat_tests)
    go false e = e ∙ grind (arith, nat_tests)

pub some_position : (p : ℕ → Bool) (xs : List ℕ) (i : ℕ) → Some i ≡ position p xs → true ≡ list_any p xs
some_position p xs i found = go (ltb (position_or_len p xs) (length xs)) refl found ∙ sym (list_any-position p xs)
  where
    go : (b : Bool) → ltb (position_or_len p xs) (length xs) ≡ b → Some i ≡ cond b (Some (position_or_len p xs)) None → true ≡ ltb (position_or_len p xs) (length xs)
    go true e h = sym e
    go false e h = cc

pub no_position : (p : ℕ → Bool) (xs : List ℕ) → None ≡ position p xs → false ≡ list_any p xs
no_position p xs found = go (ltb (position_or_len p xs) (length xs)) refl found ∙ sym (list_any-position p xs)
  where
    go : (b : Bool) → ltb (position_or_len p xs) (length xs) ≡ b → None ≡ cond b (Some (position_or_len p xs)) None → false ≡ ltb (position_or_len p xs) (length xs)
    go true e h = cc
    go false e h = sym e

pub rest_is : (ws : List (Bor (List ℕ))) (i : ℕ) → i ≤ length ws → take (length ws - i) (drop i ws) ≡ drop i ws
rest_is ws i within = take_all (length ws - i) (drop i ws) (omega (arith, length-drop {A = Bor (List ℕ)}))

pub rest_texts : (ws : List (Bor (List ℕ))) (i j : ℕ) → i ≤ length ws → i ≡ j → texts (take (length ws - i) (drop i ws)) ≡ drop j (texts ws)
rest_texts ws i j within same = ap texts (rest_is ws i within) ∙ sym (drop-map (λ (w : Bor (List ℕ)). w.now) i ws) ∙ ap (λ n. drop n (texts ws)) same

pub fails_first : (a b c : Bool) → a ≡ false → false ≡ ((a && b) && c)
fails_first a b c fails = rw fails refl

pub third_left : (a b c d : Bool) → a ≡ true → b ≡ true → d ≡ c → d ≡ ((a && b) && c)
third_left a b c d first second same = rw (first, second) same
