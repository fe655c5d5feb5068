-- The digits of a fraction, one at a time.
use Rattle.std.proofs.Common.{◌≡◌, ◌∙◌, ℕ, zero, suc, ◌+◌, ◌*◌, ◌/◌, ◌%◌, ◌<◌, List, [], ◌∷◌, ◌++◌, length, drop, refl, sym, ap, arith, get_or, subst}
use Rattle.std.proofs.lemmas.List.{append_assoc, append-nil, drop_more}
use Rattle.std.proofs.lemmas.Nat.{div_below}
use Rattle.std.proofs.lemmas.Bool.{eq-eqb, ne_eqb}
use Rattle.dbl_time.specs.Clocks.{short_digits, digit_units, fraction_text}

-- what is left before the first of these units
abbrev pub bound_of : List ℕ → ℕ
bound_of [] = 1
bound_of (unit ∷ units) = 10 * unit

-- each unit is ten times the next, and the last is 1
abbrev pub AreChained : List ℕ → Type 0
AreChained [] = Unit {0}
AreChained (unit ∷ units) = (0 < unit) × (unit ≡ bound_of units) × AreChained units

pub digit_units-AreChained : AreChained digit_units
digit_units-AreChained = (omega arith, refl, (omega arith, refl, (omega arith, refl, (omega arith, refl, (omega arith, refl, (omega arith, refl, tt))))))

pub AreChained-drop : (n : ℕ) (units : List ℕ) → AreChained units → AreChained (drop n units)
AreChained-drop zero units h = h
AreChained-drop (suc n) [] h = tt
AreChained-drop (suc n) (unit ∷ units) h = AreChained-drop n units h.2

pub short_digits-zero : (units : List ℕ) (left : ℕ) → left ≡ 0 → short_digits units left ≡ []
unfolding short_digits
short_digits-zero [] left e = refl
short_digits-zero (unit ∷ units) left e = rw (eq-eqb left 0 e) refl

pub short_digits-more : (unit left : ℕ) (units : List ℕ) → (left ≡ 0 → ⊥) → short_digits (unit ∷ units) left ≡ (48 + left / unit) ∷ short_digits units (left % unit)
unfolding short_digits
short_digits-more unit left units some = rw (ne_eqb left 0 some) refl

pub short_digits-end : (left : ℕ) → short_digits [] left ≡ []
unfolding short_digits
short_digits-end left = refl

-- one digit more is written
digit_step : (unit left : ℕ) (units : List ℕ) (text next old : List ℕ) → (left ≡ 0 → ⊥) → AreChained (unit ∷ units) → left < bound_of (unit ∷ units)
    → next ≡ text ++ (48 + left / unit) ∷ []
    → text ++ short_digits (unit ∷ units) left ≡ old
    → (next ++ short_digits units (left % unit) ≡ old) × (left % unit < bound_of units)
digit_step unit left units text next old some chained below e h =
    let over = chained.0 in
    let same = chained.1 in (
      ap (λ t. t ++ short_digits units (left % unit)) e ∙ append_assoc text ((48 + left / unit) ∷ []) (short_digits units (left % unit)) ∙ ap (λ t. text ++ t) (sym (short_digits-more unit left units some)) ∙ h,
      (let rest : left % unit < unit = omega arith in omega arith),
    )

-- the same at a place among the units
pub step_at : (units : List ℕ) (place left : ℕ) (text next old : List ℕ) → place < length units → AreChained units → (left ≡ 0 → ⊥) → left < bound_of (drop place units)
    → next ≡ text ++ (48 + left / get_or units place 0) ∷ []
    → text ++ short_digits (drop place units) left ≡ old
    → (next ++ short_digits (drop (place + 1) units) (left % get_or units place 0) ≡ old) × (left % get_or units place 0 < bound_of (drop (place + 1) units))
step_at units place left text next old within chained some below e h =
    let here : drop place units ≡ get_or units place 0 ∷ drop (place + 1) units = drop_more units place 0 within in
    digit_step (get_or units place 0) left (drop (place + 1) units) text next old some (subst AreChained here (AreChained-drop place units chained)) (subst (λ us. left < bound_of us) here below) e (subst (λ us. text ++ short_digits us left ≡ old) here h)

pub digit_at_place : (units : List ℕ) (place left : ℕ) → place < length units → AreChained units → left < bound_of (drop place units) → left / get_or units place 0 < 10
digit_at_place units place left within chained below =
    let here : drop place units ≡ get_or units place 0 ∷ drop (place + 1) units = drop_more units place 0 within in
    let over = (subst AreChained here (AreChained-drop place units chained)).0 in
    div_below left (get_or units place 0) 10 over (subst (λ us. left < bound_of us) here below)

-- the digits of 0, and of no units
pub none_left : (units : List ℕ) (left : ℕ) (text : List ℕ) → left ≡ 0 → text ++ short_digits units left ≡ text
none_left units left text e = ap (λ t. text ++ t) (short_digits-zero units left e) ∙ append-nil text

pub no_units : (left : ℕ) (text : List ℕ) → text ++ short_digits [] left ≡ text
no_units left text = ap (λ t. text ++ t) (short_digits-end left) ∙ append-nil text

pub fraction_text-none : (micros : ℕ) → micros ≡ 0 → fraction_text micros ≡ []
unfolding fraction_text
fraction_text-none micros e = rw (eq-eqb micros 0 e) refl

pub fraction_text-more : (micros : ℕ) → (micros ≡ 0 → ⊥) → fraction_text micros ≡ 46 ∷ short_digits digit_units micros
unfolding fraction_text
fraction_text-more micros some = rw (ne_eqb micros 0 some) refl

-- a point, and the digits behind it
pub fraction_text-some : (micros : ℕ) (text pointed : List ℕ) → (micros ≡ 0 → ⊥) → pointed ≡ text ++ 46 ∷ [] → pointed ++ short_digits digit_units micros ≡ text ++ fraction_text micros
fraction_text-some micros text pointed some e = ap (λ t. t ++ short_digits digit_units micros) e ∙ append_assoc text (46 ∷ []) (short_digits digit_units micros) ∙ ap (λ t. text ++ t) (sym (fraction_text-more micros some))
