-- Words without a space, a newline and an escape, and the lines and texts made of them.
use Rattle.std.proofs.Common.{◌≡◌, ◌∙◌, ℕ, ◌+◌, ◌<◌, ◌^◌, ◌==◌, ◌&&◌, not, nat_lt, Bool, true, false, List, [], ◌∷◌, ◌++◌, refl, ap, arith, rules, eq-eqb}
use Rattle.std.specs.Char.{is_ascii_digit}
use Rattle.std.specs.Fmt.{decimal}
use Rattle.std.specs.List.{list_all}
use Rattle.std.specs.Str.Parse.{digits_value}
use Rattle.std.proofs.lemmas.Bool.{false≢true}
use Rattle.std.proofs.lemmas.Bool.Decides.{nat_tests}
use Rattle.std.proofs.lemmas.Fmt.{digits_decimal}
use Rattle.std.proofs.lemmas.List.Folds.{list_all-append}
use Rattle.std.proofs.lemmas.Str.Parse.{IsNumeralModel, numerals_by_value}
use Rattle.dbl_base.specs.Lines.{lines_of, lines_text}
use Rattle.dbl_script.specs.Words.{parts_at}
use Rattle.dbl_gen.specs.Workload.{line_of}

pub and_first : (a b : Bool) → (a && b) ≡ true → a ≡ true
and_first true b h = refl
and_first false b h = h

pub and_second : (a b : Bool) → (a && b) ≡ true → b ≡ true
and_second true b h = h
and_second false b h = absurd (false≢true h)

pub and_both : (a b : Bool) → a ≡ true → b ≡ true → (a && b) ≡ true
and_both a b first second = rw (first, second) refl

not_true : (b : Bool) → not b ≡ true → b ≡ false
not_true true h = absurd (false≢true h)
not_true false h = refl

-- no byte is the separator
abbrev pub free : ℕ → List ℕ → Bool
free separator bytes = list_all (λ b. not (b == separator)) bytes

-- the separator ends a part
pub parts_front : (separator : ℕ) (word rest : List ℕ) → free separator word ≡ true → parts_at separator (word ++ separator ∷ rest) ≡ word ∷ parts_at separator rest
parts_front separator [] rest is = rw (eq-eqb separator separator refl) refl
parts_front separator (c ∷ cs) rest is =
    let other : (c == separator) ≡ false = not_true (c == separator) (and_first _ _ is) in
    let others : free separator cs ≡ true = and_second (not (c == separator)) (free separator cs) is in
    rw (other, parts_front separator cs rest others) refl

pub parts_last : (separator : ℕ) (word : List ℕ) → free separator word ≡ true → parts_at separator word ≡ word ∷ []
parts_last separator [] is = refl
parts_last separator (c ∷ cs) is =
    let other : (c == separator) ≡ false = not_true (c == separator) (and_first _ _ is) in
    let others : free separator cs ≡ true = and_second (not (c == separator)) (free separator cs) is in
    rw (other, parts_last separator cs others) refl

-- the words of a line are those that it was made of
pub words_back : (first : List ℕ) (words : List (List ℕ)) → list_all (free 32) (first ∷ words) ≡ true → parts_at 32 (line_of (first ∷ words)) ≡ first ∷ words
words_back first [] is = parts_last 32 first (and_first _ _ is)
words_back first (second ∷ words) is = parts_front 32 first (line_of (second ∷ words)) (and_first _ _ is) ∙ ap (λ parts. first ∷ parts) (words_back second words (and_second _ _ is))

line_front : (line rest : List ℕ) → free 10 line ≡ true → lines_of (line ++ 10 ∷ rest) ≡ line ∷ lines_of rest
line_front [] rest is = refl
line_front (c ∷ cs) rest is =
    let other : (c == 10) ≡ false = not_true (c == 10) (and_first _ _ is) in
    let others : free 10 cs ≡ true = and_second (not (c == 10)) (free 10 cs) is in
    rw (other, line_front cs rest others) refl

-- the lines of a text are those that it was made of
pub lines_back : (lines : List (List ℕ)) → list_all (free 10) lines ≡ true → lines_of (lines_text lines) ≡ lines
lines_back [] is = refl
lines_back (line ∷ lines) is = line_front line (lines_text lines) (and_first _ _ is) ∙ ap (λ rest. line ∷ rest) (lines_back lines (and_second _ _ is))

-- ---- plain words

-- an ASCII character but a newline, a space and `%`
abbrev pub is_plain_byte : ℕ → Bool
is_plain_byte c = nat_lt c 128 && (not (c == 10) && (not (c == 32) && not (c == 37)))

abbrev pub is_plain : List ℕ → Bool
is_plain bytes = list_all is_plain_byte bytes

all_pass : {A : Type 0} (p q : A → Bool) → ((x : A) → p x ≡ true → q x ≡ true) → (xs : List A) → list_all p xs ≡ true → list_all q xs ≡ true
all_pass p q passes [] is = refl
all_pass p q passes (x ∷ xs) is = and_both _ _ (passes x (and_first _ _ is)) (all_pass p q passes xs (and_second _ _ is))

free_newline : (bytes : List ℕ) → is_plain bytes ≡ true → free 10 bytes ≡ true
free_newline bytes is = all_pass is_plain_byte (λ b. not (b == 10)) (λ c h. and_first _ _ (and_second (nat_lt c 128) _ h)) bytes is

free_space : (bytes : List ℕ) → is_plain bytes ≡ true → free 32 bytes ≡ true
free_space bytes is = all_pass is_plain_byte (λ b. not (b == 32)) (λ c h. and_first _ _ (and_second (not (c == 10)) _ (and_second (nat_lt c 128) _ h))) bytes is

pub free_percent : (bytes : List ℕ) → is_plain bytes ≡ true → free 37 bytes ≡ true
free_percent bytes is = all_pass is_plain_byte (λ b. not (b == 37)) (λ c h. and_second (not (c == 32)) _ (and_second (not (c == 10)) _ (and_second (nat_lt c 128) _ h))) bytes is

pub plain_ascii : (bytes : List ℕ) → is_plain bytes ≡ true → list_all (λ b. nat_lt b 128) bytes ≡ true
plain_ascii bytes is = all_pass is_plain_byte (λ b. nat_lt b 128) (λ c h. and_first _ _ h) bytes is

-- words that are plain are those of their line
pub plain_words : (first : List ℕ) (words : List (List ℕ)) → list_all is_plain (first ∷ words) ≡ true → parts_at 32 (line_of (first ∷ words)) ≡ first ∷ words
plain_words first words is = words_back first words (all_pass is_plain (free 32) free_space (first ∷ words) is)

-- a line of plain words has no newline
pub plain_line : (words : List (List ℕ)) → list_all is_plain words ≡ true → free 10 (line_of words) ≡ true
plain_line [] is = refl
plain_line (first ∷ []) is = free_newline first (and_first _ _ is)
plain_line (first ∷ second ∷ words) is =
    list_all-append (λ b. not (b == 10)) first (32 ∷ line_of (second ∷ words)) ∙ and_both _ _ (free_newline first (and_first _ _ is)) (plain_line (second ∷ words) (and_second _ _ is))

-- ---- decimals

plain_digit : (c : ℕ) → is_ascii_digit c ≡ true → is_plain_byte c ≡ true
plain_digit c is = grind (arith, nat_tests)

own : IsNumeralModel (λ ds. list_all is_ascii_digit ds ≡ true) (digits_value 10)
own = numerals_by_value _ (search rules)

-- a number's digits are plain
pub plain_decimal : (n : ℕ) → n < 2 ^ 64 → is_plain (decimal n) ≡ true
plain_decimal n small = all_pass is_ascii_digit is_plain_byte plain_digit (decimal n) (digits_decimal own n small)
