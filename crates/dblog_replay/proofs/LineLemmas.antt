-- Lines whose messages are taken one by one.
use Rattle.std.proofs.Common.{◌≡◌, ◌∙◌, ℕ, suc, ◌+◌, ◌<◌, ◌≤◌, ◌==◌, true, false, List, [], ◌∷◌, ◌++◌, Option, Some, None, append_assoc, length, get_or, sym, ap, refl, arith}
use Rattle.std.proofs.lemmas.List.{append-nil}
use Rattle.std.specs.List.{position_from, cons_option}
use Rattle.std.specs.Option.{option_to_list}
use Rattle.dbl_base.specs.Lines.{lines_of}
use Rattle.dblog_replay.specs.Lines.{without_spaces, message_in, message_bytes_in, is_bad, first_bad_line}

pub no_spaces : (xs : List ℕ) → ((k : ℕ) → k < length xs → (get_or xs k 0 == 32) ≡ false) → without_spaces xs ≡ xs
no_spaces [] none = refl
no_spaces (c ∷ cs) none =
    let here : (c == 32) ≡ false = none 0 (omega arith) in
    rw (here, no_spaces cs (λ k below. none (suc k) (omega arith))) refl

-- the lines up to this number are taken
pub record IsTaking (text rest : List ℕ) (found : List (List ℕ)) (number : ℕ) : Type 0 where
  pub bad : first_bad_line (lines_of text) ≡ position_from is_bad (number + 1) (lines_of rest)
  pub taken : message_bytes_in (lines_of text) ≡ found ++ message_bytes_in (lines_of rest)
  pub count : number + length rest ≤ length text

pub cons_option-append : (o : Option (List ℕ)) (xs : List (List ℕ)) → cons_option o xs ≡ option_to_list o ++ xs
cons_option-append None xs = refl
cons_option-append (Some x) xs = refl

-- one more line is taken
pub one_more : (text rest line subsequent : List ℕ) (found more : List (List ℕ)) (number next : ℕ) → IsTaking text rest found number
    → lines_of rest ≡ line ∷ lines_of subsequent → length subsequent < length rest → next ≡ number + 1
    → is_bad line ≡ false → more ≡ found ++ option_to_list (message_in line)
    → IsTaking text subsequent more next
one_more text rest line subsequent found more number next so_far first shorter next_is good taken = record {
  bad = so_far.bad ∙ ap (position_from is_bad (number + 1)) first ∙ rw good (ap (λ n. position_from is_bad (n + 1) (lines_of subsequent)) (sym next_is));
  taken = so_far.taken ∙ ap (λ ls. found ++ message_bytes_in ls) first ∙ ap (λ m. found ++ m) (cons_option-append (message_in line) (message_bytes_in (lines_of subsequent))) ∙ sym (append_assoc found (option_to_list (message_in line)) (message_bytes_in (lines_of subsequent))) ∙ ap (λ f. f ++ message_bytes_in (lines_of subsequent)) (sym taken);
  count = omega arith;
}

pub taking_begins : (text : List ℕ) (found : List (List ℕ)) → found ≡ [] → IsTaking text text found 0
taking_begins text found none = record { bad = refl; taken = ap (λ f. f ++ message_bytes_in (lines_of text)) (sym none); count = omega arith }

-- at the end of the text all lines are taken
pub taking_ends : (text rest : List ℕ) (found : List (List ℕ)) (number : ℕ) → IsTaking text rest found number → length rest ≡ 0
    → (found ≡ message_bytes_in (lines_of text)) × (first_bad_line (lines_of text) ≡ None)
taking_ends text [] found number so_far end = (sym (so_far.taken ∙ append-nil found), so_far.bad)
taking_ends text (c ∷ cs) found number so_far end = absurd (omega arith)

-- the next line is the first bad one
pub bad_next : (text rest line subsequent : List ℕ) (found : List (List ℕ)) (number next n : ℕ) → IsTaking text rest found number
    → lines_of rest ≡ line ∷ lines_of subsequent → next ≡ number + 1 → n ≡ next → is_bad line ≡ true → first_bad_line (lines_of text) ≡ Some n
bad_next text rest line subsequent found number next n so_far first next_is n_is bad = so_far.bad ∙ ap (position_from is_bad (number + 1)) first ∙ rw bad (ap Some (sym (n_is ∙ next_is)))
