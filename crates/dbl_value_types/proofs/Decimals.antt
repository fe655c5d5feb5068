-- Plain decimals, and the texts of integers.
use Rattle.std.proofs.Common.{◌≡◌, ℕ, ◌<◌, ◌≤◌, ◌^◌, Option, pos, negsuc, ℤ, List, [], ◌∷◌, length, get_or, Bool, true, false, refl, sym, ap, ◌∙◌, arith, subst, codes, ◌&&◌, None, Some, lit<, rules, inl, inr, zero, suc, neg_ℤ, option_map, if◌then◌else◌}
use Rattle.std.specs.Prelude.{◌↔◌}
use Rattle.std.specs.List.{list_all}
use Rattle.std.specs.Char.{is_ascii_digit}
use Rattle.std.specs.Fmt.{decimal, signed_decimal}
use mir.Syntax.{Width}
use mir.Val.{hbits}
use Rattle.std.specs.Int.RustNames.{FitsSigned}
use Rattle.std.specs.Str.Parse.{IsNumeral, digits_value, starts_with_minus, without_leading_sign, without_leading_plus, signed_digits_value}
use Rattle.std.proofs.lemmas.Bool.{or_cases, or_right, and_parts, and_from, ltb-true, lt-ltb, eqb-true, ne_eqb, cases_Bool}
use Rattle.std.proofs.lemmas.Slice.Eq.{bytes_eq-Decides}
use Rattle.std.proofs.lemmas.Fmt.{decimal-digits_value, decimal_digit, decimal_is_IsNumeral, first_decimal}
use Rattle.std.proofs.lemmas.Str.Parse.{IsNumeralModel, numerals_by_value, without_leading_plus_none}
use Rattle.dbl_value_types.specs.declared.value.Val.TheVariants as val
use Rattle.dbl_value_types.specs.Decimals.{digits_of, is_plain, is_within, integer_of}
use Rattle.dbl_value_types.specs.Laws.{DecimalsSpellIntegers}

-- a test of digits, and their value
own : IsNumeralModel (λ ds. list_all is_ascii_digit ds ≡ true) (digits_value 10)
own = numerals_by_value _ (search rules)

-- what a plain decimal's digits are
pub record IsPlain (text : List ℕ) : Type 0 where
  pub digits : list_all is_ascii_digit (digits_of text) ≡ true
  pub some : 0 < length (digits_of text)
  pub short : get_or (digits_of text) 0 0 ≡ 48 → length (digits_of text) ≡ 1
  pub unsigned : without_leading_sign text ≡ digits_of text
  pub negative : starts_with_minus text ≡ true → 48 < get_or (digits_of text) 0 0

some_above : (ds : List ℕ) → 48 < get_or ds 0 0 → 0 < length ds
some_above [] h = absurd (omega arith)
some_above (d ∷ ds) h = omega arith

unsigned_above : (text : List ℕ) → 48 < get_or (digits_of text) 0 0 → without_leading_sign text ≡ digits_of text
unsigned_above text h =
    elim (cases_Bool (starts_with_minus text)) [
      | inl minus ↦ rw minus refl
      | inr none ↦ rw none (without_leading_plus_none text (let above : 48 < get_or text 0 0 = rw none at h in λ e. omega arith))
    ]

plain_above : (text : List ℕ) → list_all is_ascii_digit (digits_of text) ≡ true → 48 < get_or (digits_of text) 0 0 → IsPlain text
plain_above text digits above = record {
  digits = digits;
  some = some_above (digits_of text) above;
  short = λ e. absurd (omega arith);
  unsigned = unsigned_above text above;
  negative = λ _. above;
}

plain_zero : IsPlain (codes "0")
plain_zero = record { digits = refl; some = lit< tt; short = λ _. refl; unsigned = refl; negative = λ e. cc }

pub is_plain-IsPlain : (text : List ℕ) → is_plain text ≡ true → IsPlain text
is_plain-IsPlain text h =
    elim (or_cases _ _ h) [
      | inl alone ↦ subst IsPlain (sym ((bytes_eq-Decides text (codes "0")).0 alone)) plain_zero
      | inr parts ↦ let both = and_parts _ _ parts in plain_above text both.0 (ltb-true _ _ both.1)
    ]

numeral : (text : List ℕ) → IsPlain text → IsNumeral 10 (without_leading_sign text)
numeral text p = rw p.unsigned (p.some, own.to (digits_of text) p.digits)

within_fits_by : (bits : ℕ) (w : Width) → hbits w ≡ bits → (z : ℤ) → is_within (2 ^ bits) z ≡ true → FitsSigned w z
within_fits_by bits w e (pos n) h = record { sfits = rw e (ltb-true n (2 ^ bits) h) }
within_fits_by bits w e (negsuc n) h = record { sfits = rw e (ltb-true n (2 ^ bits) h) }

-- a plain decimal that doesn't parse is out of range
pub out_of_range : (bits : ℕ) (w : Width) → hbits w ≡ bits → (text : List ℕ) → is_plain text ≡ true → ¬ (IsNumeral 10 (without_leading_sign text) × FitsSigned w (signed_digits_value 10 text)) → None ≡ integer_of (2 ^ bits) text
out_of_range bits w e text plain refused =
    elim (cases_Bool (is_within (2 ^ bits) (signed_digits_value 10 text))) [
      | inl within ↦ absurd (refused (numeral text (is_plain-IsPlain text plain), within_fits_by bits w e (signed_digits_value 10 text) within))
      | inr outside ↦ rw (plain, outside) refl
    ]

-- ---- a plain decimal is the text of its number

text_of_digits : (text : List ℕ) → IsPlain text → digits_value 10 (digits_of text) < 2 ^ 64 → decimal (digits_value 10 (digits_of text)) ≡ digits_of text
text_of_digits text p small = decimal-digits_value own (digits_of text) p.digits p.some p.short small

above_zero : (m : ℕ) (ds : List ℕ) → decimal m ≡ ds → 48 < get_or ds 0 0 → 0 < m
above_zero zero ds e above = absurd (let first : get_or ds 0 0 ≡ 48 = ap (λ t. get_or t 0 0) (sym e ∙ decimal_digit 0 (lit< tt)) in omega arith)
above_zero (suc k) ds e above = omega arith

minus_text : (m : ℕ) (ds : List ℕ) → 0 < m → decimal m ≡ ds → signed_decimal (neg_ℤ (pos m)) ≡ 45 ∷ ds
minus_text zero ds above e = absurd (omega arith)
minus_text (suc k) ds above e = ap (λ t. 45 ∷ t) e

within_minus : (limit m : ℕ) → limit ≤ 2 ^ 63 → is_within limit (neg_ℤ (pos m)) ≡ true → m < 2 ^ 64
within_minus limit zero top h = lit< tt
within_minus limit (suc k) top h = let below : k < limit = ltb-true k limit h in omega arith

behind_minus : (text : List ℕ) → starts_with_minus text ≡ true → 45 ∷ digits_of text ≡ text
behind_minus [] h = cc
behind_minus (x ∷ xs) h = let minus : x ≡ 45 = eqb-true x 45 h in rw minus refl

number_behind_minus : (text : List ℕ) → IsPlain text → starts_with_minus text ≡ true → signed_digits_value 10 text ≡ neg_ℤ (pos (digits_value 10 (digits_of text)))
number_behind_minus text p minus = rw minus refl

text_behind_minus : (limit : ℕ) (text : List ℕ) → limit ≤ 2 ^ 63 → IsPlain text → starts_with_minus text ≡ true → is_within limit (signed_digits_value 10 text) ≡ true → signed_decimal (signed_digits_value 10 text) ≡ text
text_behind_minus limit text top p minus within =
    let number = number_behind_minus text p minus in
    let small = within_minus limit (digits_value 10 (digits_of text)) top (rw number at within) in
    let digits = text_of_digits text p small in
    ap signed_decimal number ∙ minus_text (digits_value 10 (digits_of text)) (digits_of text) (above_zero _ _ digits (p.negative minus)) digits ∙ behind_minus text minus

text_without_minus : (limit : ℕ) (text : List ℕ) → limit ≤ 2 ^ 63 → IsPlain text → starts_with_minus text ≡ false → is_within limit (signed_digits_value 10 text) ≡ true → signed_decimal (signed_digits_value 10 text) ≡ text
text_without_minus limit text top p none within =
    let same : digits_of text ≡ text = rw none refl in
    let number : signed_digits_value 10 text ≡ pos (digits_value 10 text) = rw none (ap (λ ds. pos (digits_value 10 ds)) (sym without_plus ∙ p.unsigned ∙ same)) in
    let small : digits_value 10 text < limit = ltb-true (digits_value 10 text) limit (rw number at within) in
    ap signed_decimal number ∙ sym (ap (λ ds. decimal (digits_value 10 ds)) same) ∙ text_of_digits text p (rw same (omega arith)) ∙ same
  where
    without_plus : without_leading_sign text ≡ without_leading_plus text
    without_plus = rw none refl

pub text_of_plain : (limit : ℕ) (text : List ℕ) → limit ≤ 2 ^ 63 → is_plain text ≡ true → is_within limit (signed_digits_value 10 text) ≡ true → signed_decimal (signed_digits_value 10 text) ≡ text
text_of_plain limit text top plain within =
    let p = is_plain-IsPlain text plain in
    elim (cases_Bool (starts_with_minus text)) [
      | inl minus ↦ text_behind_minus limit text top p minus within
      | inr none ↦ text_without_minus limit text top p none within
    ]

-- ---- the text of a number is plain

plain_from : (text : List ℕ) → list_all is_ascii_digit (digits_of text) ≡ true → 48 < get_or (digits_of text) 0 0 → is_plain text ≡ true
plain_from text digits above = or_right _ _ (and_from _ _ digits (lt-ltb 48 (get_or (digits_of text) 0 0) above))

digits_decimal : (n : ℕ) → n < 2 ^ 64 → list_all is_ascii_digit (decimal n) ≡ true
digits_decimal n small = own.from (decimal n) (decimal_is_IsNumeral n small).0.1

no_minus : (text : List ℕ) → 48 < get_or text 0 0 → starts_with_minus text ≡ false
no_minus text above = ne_eqb (get_or text 0 0) 45 (λ e. omega arith)

plain_pos : (n : ℕ) → n < 2 ^ 64 → 0 < n → is_plain (decimal n) ≡ true
plain_pos n small above =
    let first = first_decimal n above small in
    let same : digits_of (decimal n) ≡ decimal n = rw (no_minus (decimal n) first) refl in
    plain_from (decimal n) (rw same (digits_decimal n small)) (rw same first)

number_pos : (n : ℕ) → n < 2 ^ 64 → 0 < n → signed_digits_value 10 (decimal n) ≡ pos n
number_pos n small above =
    let first = first_decimal n above small in
    rw (no_minus (decimal n) first, without_leading_plus_none (decimal n) (λ e. omega arith)) (ap pos (decimal_is_IsNumeral n small).1)

plain_negsuc : (n : ℕ) → n < 2 ^ 63 → is_plain (45 ∷ decimal (suc n)) ≡ true
plain_negsuc n small = plain_from (45 ∷ decimal (suc n)) (digits_decimal (suc n) (omega arith)) (first_decimal (suc n) (omega arith) (omega arith))

number_negsuc : (n : ℕ) → n < 2 ^ 63 → signed_digits_value 10 (45 ∷ decimal (suc n)) ≡ negsuc n
number_negsuc n small = ap (λ m. neg_ℤ (pos m)) (decimal_is_IsNumeral (suc n) (omega arith)).1

pub plain_text : (limit : ℕ) (z : ℤ) → limit ≤ 2 ^ 63 → is_within limit z ≡ true → (is_plain (signed_decimal z) ≡ true) × (signed_digits_value 10 (signed_decimal z) ≡ z)
plain_text limit (pos zero) top h = rw (decimal_digit 0 (lit< tt)) (refl, refl)
plain_text limit (pos (suc n)) top h = let small : suc n < limit = ltb-true (suc n) limit h in (plain_pos (suc n) (omega arith) (omega arith), number_pos (suc n) (omega arith) (omega arith))
plain_text limit (negsuc n) top h = let small : n < limit = ltb-true n limit h in (plain_negsuc n (omega arith), number_negsuc n (omega arith))

-- ---- what spells an integer

pub record IsRead (limit : ℕ) (text : List ℕ) (z : ℤ) : Type 0 where
  pub plain : is_plain text ≡ true
  pub within : is_within limit z ≡ true
  pub number : signed_digits_value 10 text ≡ z

read_by : (b c : Bool) (y z : ℤ) → (if b && c then Some y else None) ≡ Some z → (b ≡ true) × (c ≡ true) × (y ≡ z)
read_by true true y z e = (refl, refl, cc)
read_by true false y z e = cc
read_by false c y z e = cc

pub integer_of-IsRead : (limit : ℕ) (text : List ℕ) (z : ℤ) → integer_of limit text ≡ Some z → IsRead limit text z
integer_of-IsRead limit text z e =
    let parts = read_by (is_plain text) (is_within limit (signed_digits_value 10 text)) (signed_digits_value 10 text) z e in
    record { plain = parts.0; within = rw parts.2 at parts.1; number = parts.2 }

pub integer_text : (limit : ℕ) (text : List ℕ) (z : ℤ) → limit ≤ 2 ^ 63 → IsRead limit text z → text ≡ signed_decimal z
integer_text limit text z top r = sym (text_of_plain limit text top r.plain (rw r.number r.within)) ∙ ap signed_decimal r.number

pub integer_spelled : (limit : ℕ) (z : ℤ) → limit ≤ 2 ^ 63 → is_within limit z ≡ true → integer_of limit (signed_decimal z) ≡ Some z
integer_spelled limit z top within = let p = plain_text limit z top within in rw (p.0, p.1, within) refl

mapped_int : (o : Option ℤ) (z : ℤ) → option_map val.Int o ≡ Some (val.Int z) → o ≡ Some z
mapped_int (Some y) z e = ap Some (let same : val.Int y ≡ val.Int z = cc in cc)
mapped_int None z e = cc

are_decimals : (limit : ℕ) → limit ≤ 2 ^ 63 → (text : List ℕ) (z : ℤ) → (option_map val.Int (integer_of limit text) ≡ Some (val.Int z)) ↔ ((text ≡ signed_decimal z) × (is_within limit z ≡ true))
are_decimals limit top text z = (
  λ e. let r = integer_of-IsRead limit text z (mapped_int _ z e) in (integer_text limit text z top r, r.within),
  λ p. ap (λ t. option_map val.Int (integer_of limit t)) p.0 ∙ ap (option_map val.Int) (integer_spelled limit z top p.1),
)

pub decimals_spell_integers : DecimalsSpellIntegers
decimals_spell_integers = (are_decimals (2 ^ 15) (omega arith), are_decimals (2 ^ 31) (omega arith), are_decimals (2 ^ 63) (omega arith))
