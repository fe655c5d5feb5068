-- Texts of bytes that are known.
use Rattle.std.proofs.Common.{◌≡◌, ◌≢◌, ◌∙◌, ℕ, zero, suc, ◌<◌, ◌≤◌, ◌&&◌, ◌||◌, Bool, true, false, List, [], ◌∷◌, ◌++◌, ◌^◌, append_assoc, length, get_or, Result, Ok, Option, Some, None, option_and_then, refl, sym, ap, arith, rules}
use Rattle.std.specs.Char.{is_ascii_digit, is_ascii_lowercase}
use Rattle.std.specs.Int.{is_in_range}
use Rattle.std.specs.Str.Parse.{ParsesUnsigned, digits_value}
use Rattle.std.proofs.lemmas.Str.Parse.{IsNumeralModel, numerals_by_value, parse_gives, digits_value_short}
use Rattle.std.proofs.Common.{inl, inr}
use Rattle.std.proofs.lemmas.Bool.{false_from_ne_true, false≢true, cases_Bool, eqb-true, lt-ltb, le-leb}
use Rattle.std.proofs.lemmas.Bool.Decides.{nat_tests}
use Rattle.std.specs.List.{list_all, AllByRecursion}
use Rattle.std.specs.Str.{IsUtf8, is_utf8}
use Rattle.std.proofs.lemmas.Str.{IsUtf8-from_is_utf8, is_utf8-from_IsUtf8, IsUtf8-from_ascii}
use Rattle.dbl_script.specs.Texts.{utf8_text, is_session_byte, is_column_byte, session_of, column_name_of, escape_of, escapes_of}
use Rattle.std.proofs.lemmas.List.{append-nil}
use Rattle.dbl_script.proofs.Many.{with_front}

or_second : (a b : Bool) → a ≡ false → (a || b) ≡ true → b ≡ true
or_second true b first h = absurd (false≢true (sym first))
or_second false b first h = h

pub utf8_taken : (bytes : List ℕ) → IsUtf8 bytes → utf8_text bytes ≡ Some bytes
unfolding utf8_text
utf8_taken bytes h = rw (is_utf8-from_IsUtf8 bytes h) refl

pub utf8_refused : (bytes : List ℕ) → (IsUtf8 bytes → ⊥) → utf8_text bytes ≡ None
unfolding utf8_text
utf8_refused bytes h = rw (false_from_ne_true (is_utf8 bytes) (λ e. h (IsUtf8-from_is_utf8 bytes e))) refl

and_first : (a b : Bool) → (a && b) ≡ true → a ≡ true
and_first true b h = refl
and_first false b h = h

and_second : (a b : Bool) → (a && b) ≡ true → b ≡ true
and_second true b h = h
and_second false b h = absurd (false≢true h)

small_range : (low high c : ℕ) → high < 128 → is_in_range low high c ≡ true → c < 128
small_range low high c limit is = grind (arith, nat_tests)

small_digit : (c : ℕ) → is_ascii_digit c ≡ true → c < 128
small_digit c is = small_range 48 57 c (omega arith) is

small_session : (c : ℕ) → is_session_byte c ≡ true → c < 128
small_session c is = elim (cases_Bool (is_ascii_lowercase c)) [ inl holds ↦ small_range 97 122 c (omega arith) holds | inr fails ↦ small_digit c (or_second _ _ fails is) ]

small_column : (c : ℕ) → is_column_byte c ≡ true → c < 128
small_column c is =
    elim (cases_Bool (is_session_byte c)) [ inl holds ↦ small_session c holds | inr fails ↦ let e : c ≡ 95 = eqb-true c 95 (or_second _ _ fails is) in omega arith ]

ascii_at : (p : ℕ → Bool) → ((c : ℕ) → p c ≡ true → c < 128) → (bytes : List ℕ) → list_all p bytes ≡ true → (i : ℕ) → get_or bytes i 0 < 128
ascii_at p small [] all i = omega arith
ascii_at p small (c ∷ cs) all zero = small c (and_first _ _ all)
ascii_at p small (c ∷ cs) all (suc i) = ascii_at p small cs (and_second _ _ all) i

-- bytes of a kind that is ASCII are UTF-8
ascii_utf8 : (p : ℕ → Bool) → ((c : ℕ) → p c ≡ true → c < 128) → (bytes : List ℕ) → list_all p bytes ≡ true → IsUtf8 bytes
ascii_utf8 p small bytes all = IsUtf8-from_ascii bytes (λ i. ascii_at p small bytes all i)

pub digits_utf8 : (bytes : List ℕ) → list_all is_ascii_digit bytes ≡ true → IsUtf8 bytes
digits_utf8 bytes all = ascii_utf8 is_ascii_digit (λ c is. small_digit c is) bytes all

pub column_utf8 : (bytes : List ℕ) → list_all is_column_byte bytes ≡ true → IsUtf8 bytes
column_utf8 bytes all = ascii_utf8 is_column_byte (λ c is. small_column c is) bytes all

pub column_no_zero : (bytes : List ℕ) → list_all is_column_byte bytes ≡ true → AllByRecursion (λ b. b ≢ 0) bytes
column_no_zero [] all = tt
column_no_zero (c ∷ cs) all =
    let here : is_column_byte c ≡ true = and_first _ _ all in
    (λ (zero_is : c ≡ 0). false≢true (sym (ap is_column_byte zero_is) ∙ here), column_no_zero cs (and_second _ _ all))

-- a column's name is a text
pub column_text : (bytes : List ℕ) → 0 < length bytes → length bytes ≤ 63 → list_all is_column_byte bytes ≡ true → utf8_text bytes ≡ column_name_of bytes
unfolding column_name_of
column_text bytes some short all = utf8_taken bytes (ascii_utf8 is_column_byte (λ c is. small_column c is) bytes all) ∙ rw (lt-ltb 0 (length bytes) some, le-leb (length bytes) 63 short, all) refl

-- a session's name is a text
pub session_text : (bytes : List ℕ) → 0 < length bytes → length bytes ≤ 16 → list_all is_session_byte bytes ≡ true → utf8_text bytes ≡ session_of bytes
unfolding session_of
session_text bytes some short all = utf8_taken bytes (ascii_utf8 is_session_byte (λ c is. small_session c is) bytes all) ∙ rw (lt-ltb 0 (length bytes) some, le-leb (length bytes) 16 short, all) refl

own : IsNumeralModel (λ ds. list_all is_ascii_digit ds ≡ true) (digits_value 10)
own = numerals_by_value _ (search rules)

pub digits_small : (bytes : List ℕ) → length bytes ≤ 9 → list_all is_ascii_digit bytes ≡ true → 0 < length bytes → digits_value 10 bytes < 2 ^ 32
digits_small bytes short all some = let small : digits_value 10 bytes < 10 ^ 9 = digits_value_short own bytes 9 all short in omega arith

-- what parse gives of 1 to 9 digits
pub digits_parse : {E : Type 0} (bytes : List ℕ) (r : Result ℕ E) → ParsesUnsigned 32 10 bytes r → list_all is_ascii_digit bytes ≡ true → 0 < length bytes → length bytes ≤ 9 → r ≡ Ok (digits_value 10 bytes)
digits_parse bytes r parsed all some short =
    let small : digits_value 10 bytes < 10 ^ 9 = digits_value_short own bytes 9 all short in
    parse_gives own 32 bytes r parsed all some (omega arith)

-- ---- escapes

joined : (done : List ℕ) (byte : ℕ) (rest others : List ℕ) → ((done ++ byte ∷ []) ++ rest) ++ others ≡ done ++ ((byte ∷ rest) ++ others)
joined done byte rest others = simp append_assoc

escapes_step : (done : List ℕ) (byte : ℕ) (rest : List ℕ) (o : Option (List ℕ)) → with_front ((done ++ byte ∷ []) ++ rest) o ≡ with_front done (option_and_then (λ others. Some ((byte ∷ rest) ++ others)) o)
escapes_step done byte rest None = refl
escapes_step done byte rest (Some others) = ap Some (joined done byte rest others)

-- one more escape
pub escapes_more : (done more : List ℕ) (part : List ℕ) (parts : List (List ℕ)) (byte : ℕ) (rest : List ℕ) → escape_of part ≡ Some (byte ∷ rest) → more ≡ (done ++ byte ∷ []) ++ rest
    → with_front more (escapes_of parts) ≡ with_front done (escapes_of (part ∷ parts))
unfolding escapes_of
escapes_more done more part parts byte rest is more_is = rw (more_is, is) (escapes_step done byte rest (escapes_of parts))

-- the next part is no escape
pub escapes_fail : (done : List ℕ) (part : List ℕ) (parts : List (List ℕ)) → escape_of part ≡ None → with_front done (escapes_of (part ∷ parts)) ≡ None
unfolding escapes_of
escapes_fail done part parts is = rw is refl

-- no part is left
pub escapes_end : (done : List ℕ) → with_front done (escapes_of []) ≡ Some done
unfolding escapes_of
escapes_end done = ap Some (append-nil done)
