-- The texts of watermarks tell their numbers.
use Rattle.std.proofs.Common.{◌≡◌, ◌∙◌, ℕ, ◌+◌, ◌<◌, ◌≤◌, ◌^◌, true, false, List, [], ◌∷◌, ◌++◌, length, refl, sym, ap, subst, arith, lit<, lit≤, length-append, append_assoc, codes, rules}
use Rattle.std.specs.Prelude.{decimal}
use Rattle.std.specs.List.{list_all}
use Rattle.std.specs.Char.{is_ascii_digit}
use Rattle.std.specs.Str.{IsAscii, IsUtf8}
use Rattle.std.specs.Str.Parse.{digits_value}
use Rattle.std.proofs.lemmas.Fmt.{decimal_injective, digits_decimal, IsAscii-decimal, length-decimal-le}
use Rattle.std.proofs.lemmas.Str.{IsUtf8-from_ascii, IsAscii-append}
use Rattle.std.proofs.lemmas.Str.Parse.{IsNumeralModel, numerals_by_value}
use Rattle.dbl_model_history.specs.MarkTexts.{Side, side_text, mark_text, MarksTellNumbers, MarksAreShort}
use Rattle.dbl_model_history.specs.MarkTexts.Side.{Low, High}
use Rattle.dbl_model_table.proofs.Lists.{and_left, and_right}

own : IsNumeralModel (λ ds. list_all is_ascii_digit ds ≡ true) (digits_value 10)
own = numerals_by_value _ (search rules)

first_same : (x y : ℕ) (xs ys : List ℕ) → x ∷ xs ≡ y ∷ ys → x ≡ y
first_same x y xs ys e = cc

rest_same : (x y : ℕ) (xs ys : List ℕ) → x ∷ xs ≡ y ∷ ys → xs ≡ ys
rest_same x y xs ys e = cc

no_digit : (c d : ℕ) (ds : List ℕ) → is_ascii_digit c ≡ false → c ≡ d → list_all is_ascii_digit (d ∷ ds) ≡ true → ⊥
no_digit c d ds other same all =
    let e : false ≡ true = sym other ∙ (ap is_ascii_digit same ∙ and_left (is_ascii_digit d) (list_all is_ascii_digit ds) all) in
    cc

-- digits before another byte are told by the whole
cut_one : (c : ℕ) (xs ys p q : List ℕ) → is_ascii_digit c ≡ false → list_all is_ascii_digit xs ≡ true → list_all is_ascii_digit ys ≡ true → xs ++ c ∷ p ≡ ys ++ c ∷ q → (xs ≡ ys) × (p ≡ q)
cut_one c [] [] p q other dx dy e = (refl, rest_same c c p q e)
cut_one c [] (y ∷ ys) p q other dx dy e = absurd (no_digit c y ys other (first_same c y p (ys ++ c ∷ q) e) dy)
cut_one c (x ∷ xs) [] p q other dx dy e = absurd (no_digit c x xs other (sym (first_same x c (xs ++ c ∷ p) q e)) dx)
cut_one c (x ∷ xs) (y ∷ ys) p q other dx dy e =
    let rest = cut_one c xs ys p q other (and_right (is_ascii_digit x) (list_all is_ascii_digit xs) dx) (and_right (is_ascii_digit y) (list_all is_ascii_digit ys) dy) (rest_same x y (xs ++ c ∷ p) (ys ++ c ∷ q) e) in
    let first : x ≡ y = first_same x y (xs ++ c ∷ p) (ys ++ c ∷ q) e in
    (ap (λ (k : ℕ). k ∷ xs) first ∙ ap (λ (l : List ℕ). y ∷ l) rest.0, rest.1)

digits : (n : ℕ) → n < 2 ^ 64 → list_all is_ascii_digit (decimal n) ≡ true
digits n small = digits_decimal own n small

sides : (n m : ℕ) (s t : Side) → n < 2 ^ 64 → m < 2 ^ 64 → decimal n ++ side_text s ≡ decimal m ++ side_text t → (n ≡ m) × (s ≡ t)
sides n m Low Low hn hm e = let parts = cut_one 45 (decimal n) (decimal m) (76 ∷ []) (76 ∷ []) refl (digits n hn) (digits m hm) e in (decimal_injective n m hn hm parts.0, refl)
sides n m High High hn hm e = let parts = cut_one 45 (decimal n) (decimal m) (72 ∷ []) (72 ∷ []) refl (digits n hn) (digits m hm) e in (decimal_injective n m hn hm parts.0, refl)
sides n m Low High hn hm e =
    let parts = cut_one 45 (decimal n) (decimal m) (76 ∷ []) (72 ∷ []) refl (digits n hn) (digits m hm) e in
    let letters : 76 ≡ 72 = first_same 76 72 [] [] parts.1 in
    absurd (omega (arith, letters))
sides n m High Low hn hm e =
    let parts = cut_one 45 (decimal n) (decimal m) (72 ∷ []) (76 ∷ []) refl (digits n hn) (digits m hm) e in
    let letters : 72 ≡ 76 = first_same 72 76 [] [] parts.1 in
    absurd (omega (arith, letters))

spread : (a n : ℕ) (s : Side) → mark_text a n s ≡ decimal a ++ 45 ∷ (decimal n ++ side_text s)
spread a n s = append_assoc (decimal a ++ codes "-") (decimal n) (side_text s) ∙ append_assoc (decimal a) (codes "-") (decimal n ++ side_text s)

pub marks_tell : MarksTellNumbers
marks_tell a b n m s t ha hb hn hm e =
    let parts = cut_one 45 (decimal a) (decimal b) (decimal n ++ side_text s) (decimal m ++ side_text t) refl (digits a ha) (digits b hb) (sym (spread a n s) ∙ (e ∙ spread b m t)) in
    let rest = sides n m s t hn hm parts.1 in
    (decimal_injective a b ha hb parts.0, rest.0, rest.1)

-- ---- their length

short : (n : ℕ) → n < 2 ^ 64 → length (decimal n) ≤ 20
short n small = length-decimal-le 20 n (lit< tt) (let limit : 2 ^ 64 ≤ 10 ^ 20 = lit≤ tt in omega (arith, small, limit)) small

side_ascii : (s : Side) → IsAscii (side_text s)
side_ascii Low = search rules
side_ascii High = search rules

side_short : (s : Side) → length (side_text s) ≡ 2
side_short Low = refl
side_short High = refl

pub marks_short : MarksAreShort
marks_short a n s ha hn =
    let dash : IsAscii (45 ∷ []) = search rules in
    let subsequent : IsAscii (decimal n ++ side_text s) = IsAscii-append (decimal n) (side_text s) (IsAscii-decimal n hn) (side_ascii s) in
    let whole : List ℕ = decimal a ++ 45 ∷ (decimal n ++ side_text s) in
    let ascii : IsAscii whole = IsAscii-append (decimal a) (45 ∷ (decimal n ++ side_text s)) (IsAscii-decimal a ha) (IsAscii-append (45 ∷ []) (decimal n ++ side_text s) dash subsequent) in
    let one : length whole ≡ length (decimal a) + length (45 ∷ (decimal n ++ side_text s)) = length-append (decimal a) (45 ∷ (decimal n ++ side_text s)) in
    let two : length (decimal n ++ side_text s) ≡ length (decimal n) + length (side_text s) = length-append (decimal n) (side_text s) in
    let few : length whole ≤ 43 = omega (arith, one, two, short a ha, short n hn, side_short s) in
    subst (λ (l : List ℕ). IsUtf8 l × (length l ≤ 43)) (sym (spread a n s)) (IsUtf8-from_ascii whole ascii, few)
