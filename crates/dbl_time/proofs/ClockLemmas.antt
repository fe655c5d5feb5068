-- Texts of times read back.
use Rattle.std.proofs.Common.{mul-le-mul_left, ◌≡◌, ◌∙◌, ℕ, ◌+◌, ◌-◌, ◌*◌, ◌/◌, ◌%◌, ◌<◌, ◌≤◌, ◌==◌, ◌&&◌, nat_le, List, [], ◌∷◌, ◌++◌, length, take, drop, slice_index, Bool, true, false, if◌then◌else◌, Option, Some, None, refl, sym, ap, ap₂, arith, codes, inl, inr}
use Rattle.std.specs.List.{list_all}
use Rattle.std.specs.Char.{is_ascii_digit}
use Rattle.std.specs.Str.{bytes_eq}
use Rattle.std.proofs.lemmas.Bool.{and_parts, and_from, leb-true, le-leb, ne_eqb, cases_eq, false_from_ne_true}
use Rattle.std.proofs.lemmas.Nat.{div_below}
use Rattle.std.proofs.lemmas.Slice.Eq.{bytes_eq-Decides}
use Rattle.dbl_time.specs.Shapes.{has_shape, two_at, two_digits}
use Rattle.dbl_time.specs.Clocks.{clock_seconds, seconds_of, is_fraction, fraction_micros, fraction_of, joined_clock, clock_of, day_micros, time_of, short_digits, digit_units, fraction_text, seconds_text, clock_text}
use Rattle.dbl_time.proofs.ShapeLemmas.{more_shape, no_shape, digit_is, digit_from}
use Rattle.dbl_time.proofs.FractionSteps.{bound_of, AreChained, digit_units-AreChained, short_digits-zero, short_digits-more, fraction_text-none, fraction_text-more}

-- ---- fractions

-- the sum of digits by their units
weighed : List ℕ → List ℕ → ℕ
weighed [] ds = 0
weighed (unit ∷ units) [] = 0
weighed (unit ∷ units) (d ∷ ds) = unit * (d - 48) + weighed units ds

-- what is to be known of the digits of a number
record AreDigitsOf (units : List ℕ) (micros : ℕ) (ds : List ℕ) : Type 0 where
  value : weighed units ds ≡ micros
  digits : list_all is_ascii_digit ds ≡ true
  short : length ds ≤ length units

weighed-nil : (units : List ℕ) → weighed units [] ≡ 0
unfolding weighed
weighed-nil [] = refl
weighed-nil (unit ∷ units) = refl

none_of : (units : List ℕ) (micros : ℕ) → micros ≡ 0 → AreDigitsOf units micros (short_digits units micros)
none_of units micros e = rw (short_digits-zero units micros e) (record { value = weighed-nil units ∙ sym e; digits = refl; short = omega arith })

one_more : (unit : ℕ) (units : List ℕ) (micros : ℕ) → 0 < unit → micros < 10 * unit → (micros ≡ 0 → ⊥) → AreDigitsOf units (micros % unit) (short_digits units (micros % unit)) → AreDigitsOf (unit ∷ units) micros ((48 + micros / unit) ∷ short_digits units (micros % unit))
unfolding weighed
one_more unit units micros above below some rest =
    let value = rest.value in
    let short = rest.short in
    record {
      value = whole micros unit _ above value;
      digits = and_from _ _ (digit_is (micros / unit) (div_below micros unit 10 above below)) rest.digits;
      short = omega arith;
    }
  where
    whole : (m unit k : ℕ) → 0 < unit → k ≡ m % unit → unit * (48 + m / unit - 48) + k ≡ m
    whole m unit k above e = let digit : 48 + m / unit - 48 ≡ m / unit = omega arith in rw digit (omega arith)

more_of : (unit : ℕ) (units : List ℕ) (micros : ℕ) → 0 < unit → micros < 10 * unit → AreDigitsOf units (micros % unit) (short_digits units (micros % unit)) → AreDigitsOf (unit ∷ units) micros (short_digits (unit ∷ units) micros)
more_of unit units micros above below rest = elim (cases_eq micros 0) [
  | inl none ↦ none_of (unit ∷ units) micros none
  | inr some ↦ rw (short_digits-more unit micros units some) (one_more unit units micros above below some rest)
]

digits_of_micros : (micros : ℕ) → micros < 1000000 → AreDigitsOf digit_units micros (short_digits digit_units micros)
digits_of_micros micros h =
    more_of 100000 _ micros (omega arith) (omega arith) (
    more_of 10000 _ (micros % 100000) (omega arith) (omega arith) (
    more_of 1000 _ (micros % 100000 % 10000) (omega arith) (omega arith) (
    more_of 100 _ (micros % 100000 % 10000 % 1000) (omega arith) (omega arith) (
    more_of 10 _ (micros % 100000 % 10000 % 1000 % 100) (omega arith) (omega arith) (
    more_of 1 _ (micros % 100000 % 10000 % 1000 % 100 % 10) (omega arith) (omega arith) (
    none_of [] _ (omega arith)))))))

-- six digits behind a point
weighed_is : (x : ℕ) (ds : List ℕ) → fraction_micros (x ∷ ds) ≡ weighed digit_units ds
unfolding weighed
weighed_is x [] = refl
weighed_is x (a ∷ []) = omega arith
weighed_is x (a ∷ b ∷ []) = omega arith
weighed_is x (a ∷ b ∷ c ∷ []) = omega arith
weighed_is x (a ∷ b ∷ c ∷ d ∷ []) = omega arith
weighed_is x (a ∷ b ∷ c ∷ d ∷ e ∷ []) = omega arith
weighed_is x (a ∷ b ∷ c ∷ d ∷ e ∷ f ∷ ds) = omega arith

some_digits : (micros : ℕ) → (micros ≡ 0 → ⊥) → 0 < length (short_digits digit_units micros)
some_digits micros some = rw (short_digits-more 100000 micros _ some) (omega arith)

no_fraction : fraction_of [] ≡ Some 0
unfolding fraction_of
no_fraction = refl

some_fraction : (micros : ℕ) → micros < 1000000 → (micros ≡ 0 → ⊥) → fraction_of (46 ∷ short_digits digit_units micros) ≡ Some micros
unfolding fraction_of
some_fraction micros h some =
    let are = digits_of_micros micros h in
    let more = some_digits micros some in
    let short = are.short in
    let fits : is_fraction (46 ∷ short_digits digit_units micros) ≡ true = and_from _ _ (and_from _ _ (and_from _ _ refl (le-leb 2 (length (46 ∷ short_digits digit_units micros)) (omega arith))) (le-leb (length (46 ∷ short_digits digit_units micros)) 7 (omega arith))) are.digits in
    let not_empty : length (46 ∷ short_digits digit_units micros) == 0 ≡ false = ne_eqb _ 0 (λ e. omega arith) in
    rw (not_empty, fits) (ap Some (weighed_is 46 (short_digits digit_units micros) ∙ are.value))

pub fraction_of-text : (micros : ℕ) → micros < 1000000 → fraction_of (fraction_text micros) ≡ Some micros
fraction_of-text micros h = elim (cases_eq micros 0) [
  | inl none ↦ ap fraction_of (fraction_text-none micros none) ∙ no_fraction ∙ ap Some (sym none)
  | inr some ↦ ap fraction_of (fraction_text-more micros some) ∙ some_fraction micros h some
]

-- ---- the clock

pub clock_shape : (hours minutes seconds : ℕ) → hours < 100 → minutes < 100 → seconds < 100 → has_shape (codes "99:99:99") (two_digits hours ++ codes ":" ++ two_digits minutes ++ codes ":" ++ two_digits seconds) ≡ true
clock_shape hours minutes seconds h m s =
    more_shape 57 _ _ _ (digit_is (hours / 10) (omega arith)) (more_shape 57 _ _ _ (digit_is (hours % 10) (omega arith)) (more_shape 58 58 _ _ refl (
    more_shape 57 _ _ _ (digit_is (minutes / 10) (omega arith)) (more_shape 57 _ _ _ (digit_is (minutes % 10) (omega arith)) (more_shape 58 58 _ _ refl (
    more_shape 57 _ _ _ (digit_is (seconds / 10) (omega arith)) (more_shape 57 _ _ _ (digit_is (seconds % 10) (omega arith)) no_shape)))))))

pub clock_seconds-is : (limit hours minutes seconds : ℕ) → hours ≤ limit → minutes ≤ 59 → seconds ≤ 59 → clock_seconds limit hours minutes seconds ≡ Some (3600 * hours + 60 * minutes + seconds)
unfolding clock_seconds
clock_seconds-is limit hours minutes seconds h m s = rw (le-leb hours limit h, le-leb minutes 59 m, le-leb seconds 59 s) refl

pub seconds_of-text : (seconds : ℕ) → seconds < 86400 → seconds_of (seconds_text seconds) ≡ Some seconds
unfolding seconds_of
seconds_of-text seconds h =
    let shape = clock_shape (seconds / 3600) (seconds / 60 % 60) (seconds % 60) (omega arith) (omega arith) (omega arith) in
    let hours : two_at (seconds_text seconds) 0 ≡ seconds / 3600 = omega arith in
    let minutes : two_at (seconds_text seconds) 3 ≡ seconds / 60 % 60 = omega arith in
    let rest : two_at (seconds_text seconds) 6 ≡ seconds % 60 = omega arith in
    rw (shape, hours, minutes, rest) (clock_seconds-is 23 (seconds / 3600) (seconds / 60 % 60) (seconds % 60) (omega arith) (omega arith) (omega arith) ∙ ap Some (omega arith))

pub clock_of-text : (micros : ℕ) → micros < day_micros → clock_of (clock_text micros) ≡ Some micros
clock_of-text micros h =
    ap₂ joined_clock (seconds_of-text (micros / 1000000) (omega arith)) (fraction_of-text (micros % 1000000) (omega arith)) ∙ ap Some (omega arith)

before_end : (micros : ℕ) → micros < day_micros → bytes_eq (clock_text micros) (codes "24:00:00") ≡ false
before_end micros h = false_from_ne_true _ (λ e.
    let same = (bytes_eq-Decides (clock_text micros) (codes "24:00:00")).0 e in
    let first : 48 + micros / 1000000 / 3600 / 10 ≡ 50 = ap (λ t. slice_index t 0) same in
    let second : 48 + micros / 1000000 / 3600 % 10 ≡ 52 = ap (λ t. slice_index t 1) same in
    absurd (omega arith))

end_text : clock_text day_micros ≡ codes "24:00:00"
unfolding fraction_text
end_text = refl

pub time_of-text : (micros : ℕ) → micros ≤ day_micros → time_of (clock_text micros) ≡ Some micros
time_of-text micros h = elim (cases_eq micros day_micros) [
  | inl end ↦ ap (λ m. time_of (clock_text m)) end ∙ ap time_of end_text ∙ ap Some (sym end)
  | inr earlier ↦ (let lt : micros < day_micros = omega arith in rw (before_end micros lt) (clock_of-text micros lt))
]

-- ---- what is read is in its range

weighed_bound : (units ds : List ℕ) → AreChained units → list_all is_ascii_digit ds ≡ true → weighed units ds < bound_of units
unfolding weighed
weighed_bound [] ds chained h = omega arith
weighed_bound (unit ∷ units) [] chained h = let above = chained.0 in omega arith
weighed_bound (unit ∷ units) (d ∷ ds) chained h =
    let parts = and_parts _ _ h in
    let digit = digit_from d parts.0 in
    let high = digit.high in
    let same = chained.1 in
    let rest = weighed_bound units ds chained.2 parts.1 in
    let most : unit * (d - 48) ≤ unit * 9 = mul-le-mul_left unit (omega arith) in
    omega arith

micros_bound : (text : List ℕ) → is_fraction text ≡ true → fraction_micros text < 1000000
micros_bound [] h = omega arith
micros_bound (x ∷ ds) h =
    let digits = (and_parts ((x == 46) && nat_le 2 (length (x ∷ ds)) && nat_le (length (x ∷ ds)) 7) (list_all is_ascii_digit ds) h).1 in
    let bound = weighed_bound digit_units ds digit_units-AreChained digits in
    let same = weighed_is x ds in
    omega arith

pub fraction_of-bound : (text : List ℕ) (micros : ℕ) → fraction_of text ≡ Some micros → micros < 1000000
unfolding fraction_of
fraction_of-bound text micros e = by_length (length text == 0) e
  where
    by_fraction : (b : Bool) → is_fraction text ≡ b → (if b then Some (fraction_micros text) else None) ≡ Some micros → micros < 1000000
    by_fraction true h e = let same : fraction_micros text ≡ micros = cc in let bound = micros_bound text h in omega arith
    by_fraction false h e = cc

    by_length : (b : Bool) → (if b then Some 0 else (if is_fraction text then Some (fraction_micros text) else None)) ≡ Some micros → micros < 1000000
    by_length true e = let same : 0 ≡ micros = cc in omega arith
    by_length false e = by_fraction (is_fraction text) refl e

-- the parts of a clock's seconds
pub clock_seconds-bound : (limit hours minutes seconds n : ℕ) → clock_seconds limit hours minutes seconds ≡ Some n → n < 3600 * limit + 3600
unfolding clock_seconds
clock_seconds-bound limit hours minutes seconds n e = by_test (nat_le hours limit && nat_le minutes 59 && nat_le seconds 59) refl e
  where
    by_test : (b : Bool) → (nat_le hours limit && nat_le minutes 59 && nat_le seconds 59) ≡ b → (if b then Some (3600 * hours + 60 * minutes + seconds) else None) ≡ Some n → n < 3600 * limit + 3600
    by_test true h e =
        let last = and_parts (nat_le hours limit && nat_le minutes 59) (nat_le seconds 59) h in
        let first = and_parts (nat_le hours limit) (nat_le minutes 59) last.0 in
        let a = leb-true hours limit first.0 in
        let b = leb-true minutes 59 first.1 in
        let d = leb-true seconds 59 last.1 in
        let same : 3600 * hours + 60 * minutes + seconds ≡ n = cc in
        omega arith
    by_test false h e = cc

seconds_of-bound : (text : List ℕ) (n : ℕ) → seconds_of text ≡ Some n → n < 86400
unfolding seconds_of
seconds_of-bound text n e = by_shape (has_shape (codes "99:99:99") text) e
  where
    by_shape : (b : Bool) → (if b then clock_seconds 23 (two_at text 0) (two_at text 3) (two_at text 6) else None) ≡ Some n → n < 86400
    by_shape true e = clock_seconds-bound 23 (two_at text 0) (two_at text 3) (two_at text 6) n e
    by_shape false e = cc

some_joined : (a b : Option ℕ) (n : ℕ) → joined_clock a b ≡ Some n → (s : ℕ) × (f : ℕ) × (a ≡ Some s) × (b ≡ Some f) × (1000000 * s + f ≡ n)
some_joined None b n e = cc
some_joined (Some s) None n e = cc
some_joined (Some s) (Some f) n e = (s, f, refl, refl, cc)

pub clock_of-bound : (text : List ℕ) (micros : ℕ) → clock_of text ≡ Some micros → micros < day_micros
clock_of-bound text micros e =
    let parts = some_joined (seconds_of (take 8 text)) (fraction_of (drop 8 text)) micros e in
    let seconds = seconds_of-bound (take 8 text) parts.0 parts.2 in
    let fraction = fraction_of-bound (drop 8 text) parts.1 parts.3 in
    let same = parts.4 in
    omega arith

pub time_of-bound : (text : List ℕ) (micros : ℕ) → time_of text ≡ Some micros → micros ≤ day_micros
time_of-bound text micros e = by_end (bytes_eq text (codes "24:00:00")) e
  where
    by_end : (b : Bool) → (if b then Some day_micros else clock_of text) ≡ Some micros → micros ≤ day_micros
    by_end true e = let same : day_micros ≡ micros = cc in omega arith
    by_end false e = let below = clock_of-bound text micros e in omega arith

-- ---- no sign stands in a fraction

pub fraction_digits : (micros : ℕ) → micros < 1000000 → (micros ≡ 0 → ⊥) → list_all is_ascii_digit (short_digits digit_units micros) ≡ true
fraction_digits micros h some = (digits_of_micros micros h).digits
