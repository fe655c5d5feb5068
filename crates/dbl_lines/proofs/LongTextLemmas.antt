-- Lines in a text of blocks.
use Rattle.std.proofs.Common.{◌≡◌, ◌∙◌, ℕ, zero, suc, ◌+◌, ◌-◌, ◌<◌, ◌≤◌, ◌==◌, Bool, true, false, not, Some, None, List, [], ◌∷◌, ◌++◌, length, take, drop, get_or, append_assoc, append-nil, length-append, refl, sym, ap, ap₂, subst, arith}
use Rattle.std.proofs.lemmas.Bool.Decides.{nat_tests}
use Rattle.std.proofs.lemmas.List.{take_all, length-drop}
use Rattle.dbl_base.specs.Lines.{lines_of}
use Rattle.dbl_lines.specs.LongTexts.{text_in, TakesLine, IsUnbroken, TakesPart}

-- ---- a newline found in bytes

newline : (c : ℕ) → (c == 10) ≡ true → c ≡ 10
newline c e = grind (arith, nat_tests)

-- the bytes before a newline, and those after it
pub split_newline : (bytes : List ℕ) (n : ℕ) → n < length bytes → (get_or bytes n 0 == 10) ≡ true → bytes ≡ take n bytes ++ 10 ∷ drop (n + 1) bytes
split_newline [] n within is = absurd (omega arith)
split_newline (c ∷ cs) zero within is = ap (λ d. d ∷ cs) (newline c is)
split_newline (c ∷ cs) (suc n) within is =
    let later : suc (n + 1) ≡ suc n + 1 = omega arith in
    ap (λ rest. c ∷ rest) (split_newline cs n (omega arith) is) ∙ ap (λ m. c ∷ (take n cs ++ 10 ∷ drop m (c ∷ cs))) later

pub unbroken_before : (bytes : List ℕ) (n : ℕ) → n ≤ length bytes → ((k : ℕ) → k < n → (get_or bytes k 0 == 10) ≡ false) → IsUnbroken (take n bytes)
unbroken_before bytes zero within none = tt
unbroken_before [] (suc n) within none = absurd (omega arith)
unbroken_before (c ∷ cs) (suc n) within none = (none 0 (omega arith), unbroken_before cs n (omega arith) (λ k below. none (suc k) (omega arith)))

pub unbroken : (bytes : List ℕ) → ((k : ℕ) → k < length bytes → (get_or bytes k 0 == 10) ≡ false) → IsUnbroken bytes
unbroken [] none = tt
unbroken (c ∷ cs) none = (none 0 (omega arith), unbroken cs (λ k below. none (suc k) (omega arith)))

pub unbroken-append : (a b : List ℕ) → IsUnbroken a → IsUnbroken b → IsUnbroken (a ++ b)
unbroken-append [] b p q = q
unbroken-append (c ∷ cs) b p q = (p.0, unbroken-append cs b p.1 q)

-- ---- lines

-- bytes without a newline before one are the first line
pub line_then : (line rest : List ℕ) → IsUnbroken line → lines_of (line ++ 10 ∷ rest) ≡ line ∷ lines_of rest
line_then [] rest p = refl
line_then (c ∷ cs) rest p = rw (p.0, line_then cs rest p.1) refl

-- bytes without a newline are one line
pub last_line : (line : List ℕ) → 0 < length line → IsUnbroken line → lines_of line ≡ line ∷ []
last_line [] some p = absurd (omega arith)
last_line (c ∷ []) some p = rw p.0 refl
last_line (c ∷ d ∷ ds) some p = rw (p.0, last_line (d ∷ ds) (omega arith) p.1) refl

-- ---- taking a line

-- the text was the bytes of the line so far and what is left
pub record IsTaking (text line left : List ℕ) : Type 0 where
  pub text_is : text ≡ line ++ left
  pub whole : IsUnbroken line

-- at first the line has no byte
pub nothing_taken : (text : List ℕ) → IsTaking text [] text
nothing_taken text = record { text_is = refl; whole = tt }

regroup : (line part rest later : List ℕ) → line ++ ((part ++ 10 ∷ rest) ++ later) ≡ (line ++ part) ++ 10 ∷ (rest ++ later)
regroup line part rest later = simp append_assoc

-- the line ends at a newline of the current block
pub line_taken : (text line more current later : List ℕ) (end : ℕ) → IsTaking text line (current ++ later) → TakesPart (Some end) line more current
    → TakesLine true more text (drop (end + 1) current ++ later)
line_taken text line more current later end taking part =
    let rest = drop (end + 1) current in
    let text_is : text ≡ more ++ 10 ∷ (rest ++ later)
    = taking.text_is ∙ ap (λ c. line ++ (c ++ later)) part.1 ∙ regroup line part.0 rest later ∙ ap (λ m. m ++ 10 ∷ (rest ++ later)) (sym part.2) in
    let whole : IsUnbroken more = subst IsUnbroken (sym part.2) (unbroken-append line part.0 taking.whole part.3) in
    (ap lines_of text_is ∙ line_then more (rest ++ later) whole, omega (arith, ap length text_is, length-append more (10 ∷ (rest ++ later))))

-- the line goes on after the current block
pub line_goes_on : (text line more current later now : List ℕ) → IsTaking text line (current ++ later) → TakesPart None line more current → later ≡ now → IsTaking text more now
line_goes_on text line more current later now taking part same = record {
  text_is = taking.text_is ∙ sym (append_assoc line current later) ∙ ap₂ (λ m l. m ++ l) (sym part.0) same;
  whole = subst IsUnbroken (sym part.0) (unbroken-append line current taking.whole part.1);
}

-- nothing is after the current block
pub line_ends : (text line more current later new : List ℕ) (empty : Bool) → IsTaking text line (current ++ later) → TakesPart None line more current → later ≡ [] → empty ≡ (length more == 0) → new ≡ []
    → TakesLine (not empty) more text new
line_ends text line more current later new empty taking part none empty_is end =
    let goes_on = line_goes_on text line more current later [] taking part none in
    let text_is : text ≡ more = goes_on.text_is ∙ append-nil more in
    subst (λ e. TakesLine (not e) more text new) (sym empty_is) (go more text_is goes_on.whole)
  where
    go : (all : List ℕ) → text ≡ all → IsUnbroken all → TakesLine (not (length all == 0)) all text new
    go [] is whole = is
    go (c ∷ cs) is whole =
        let some : not (length (c ∷ cs) == 0) ≡ true = grind (arith, nat_tests) in
        let one : lines_of text ≡ (c ∷ cs) ∷ lines_of new = ap lines_of is ∙ last_line (c ∷ cs) (omega arith) whole ∙ ap (λ left. (c ∷ cs) ∷ lines_of left) (sym end) in
        subst (λ b. TakesLine b (c ∷ cs) text new) (sym some) (one, omega (arith, ap length is, ap length end))

pub no_blocks : (blocks : List (List ℕ)) → length blocks ≡ 0 → text_in blocks ≡ []
no_blocks [] none = refl
no_blocks (block ∷ blocks) none = absurd (omega arith)

-- a slice up to the end
pub rest_of : (xs : List ℕ) (n : ℕ) → take (length xs - n) (drop n xs) ≡ drop n xs
rest_of xs n = take_all (length xs - n) (drop n xs) (omega (arith, length-drop n xs))
