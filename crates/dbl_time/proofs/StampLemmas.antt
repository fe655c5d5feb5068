-- Texts of timestamps read back.
use Rattle.std.proofs.Common.{◌≡◌, ◌∙◌, ℕ, ◌+◌, ◌/◌, ◌%◌, ◌<◌, ◌==◌, not, ℤ, pos, ◌+ℤ◌, ◌-ℤ◌, ◌*ℤ◌, int_le, List, [], ◌∷◌, ◌++◌, length, take, drop, slice_index, Bool, true, false, if◌then◌else◌, Option, Some, None, refl, sym, ap, ap₂, arith, codes, inl, inr, subst}
use Rattle.std.specs.Int.{int_rem_euclid}
use Rattle.std.specs.List.{list_all, prefix_len, position}
use Rattle.std.specs.Char.{is_ascii_digit}
use Rattle.std.proofs.lemmas.Bool.{and_parts, and_from, ne_eqb, lt-ltb, cases_eq}
use Rattle.std.proofs.lemmas.List.{length-append, take_at, drop_at}
use Rattle.jiff_core.specs.Calendar.{days_from_civil}
use Rattle.jiff_core.proofs.CalendarLemmas.{days_in_month_bounds}
use Rattle.jiff_core.proofs.SignedLemmas.{signed_arith, int_div_euclid-parts, int_rem_euclid-parts, unsigned_abs-parts}
use borrow.Author.Differences.{le-true, true_is_le}
use Rattle.dbl_time.specs.Shapes.{has_shape, four_at, two_at}
use Rattle.dbl_time.specs.Dates.{is_day, number_of_day, day_of, date_parts_text, date_text, IsInYears}
use Rattle.dbl_time.specs.Clocks.{clock_seconds, clock_of, clock_text, seconds_text, fraction_text, short_digits, digit_units, day_micros}
use Rattle.dbl_time.specs.Stamps.{joined_stamp, stamp_of, is_sign, sign_place, offset_size, offset_of, joined_instant, instant_at, instant_of, first_instant, last_instant, is_instant, day_of_stamp, clock_of_stamp, stamp_text}
use Rattle.dbl_time.proofs.ShapeLemmas.{more_shape, no_shape, digit_is, digit_from}
use Rattle.dbl_time.proofs.CalendarSteps.{IsDay, is_day-IsDay, IsDay-is_day, date_of, date_text-parts, in_years}
use Rattle.dbl_time.proofs.FractionSteps.{fraction_text-none, fraction_text-more}
use Rattle.dbl_time.proofs.ClockLemmas.{clock_of-text, clock_of-bound, fraction_digits}

-- ---- dates

pub date_shape : (year month day : ℕ) → year < 10000 → month < 100 → day < 100 → has_shape (codes "9999-99-99") (date_parts_text year month day) ≡ true
date_shape year month day y m d =
    more_shape 57 _ _ _ (digit_is (year / 1000) (omega arith)) (more_shape 57 _ _ _ (digit_is (year / 100 % 10) (omega arith)) (more_shape 57 _ _ _ (digit_is (year / 10 % 10) (omega arith)) (more_shape 57 _ _ _ (digit_is (year % 10) (omega arith)) (more_shape 45 45 _ _ refl (
    more_shape 57 _ _ _ (digit_is (month / 10) (omega arith)) (more_shape 57 _ _ _ (digit_is (month % 10) (omega arith)) (more_shape 45 45 _ _ refl (
    more_shape 57 _ _ _ (digit_is (day / 10) (omega arith)) (more_shape 57 _ _ _ (digit_is (day % 10) (omega arith)) no_shape)))))))))

pub day_of-parts : (year month day : ℕ) → IsDay year month day → day_of (date_parts_text year month day) ≡ Some (days_from_civil (pos year) month day)
unfolding day_of
day_of-parts year month day is =
    let top = is.last_year in
    let month_top = is.last_month in
    let last = is.last_day in
    let long = days_in_month_bounds (pos year) month in
    let shape = date_shape year month day (omega arith) (omega arith) (omega arith) in
    let years : four_at (date_parts_text year month day) 0 ≡ year = omega arith in
    let months : two_at (date_parts_text year month day) 5 ≡ month = omega arith in
    let days : two_at (date_parts_text year month day) 8 ≡ day = omega arith in
    rw (shape, years, months, days, IsDay-is_day year month day is) refl

-- a day that a text names
pub record IsNamed (number : ℤ) : Type 0 where
  pub year : ℕ
  pub month : ℕ
  pub day : ℕ
  pub is : IsDay year month day
  pub number_is : days_from_civil (pos year) month day ≡ number

pub day_of-named : (text : List ℕ) (number : ℤ) → day_of text ≡ Some number → IsNamed number
unfolding day_of
day_of-named text number e = by_shape (has_shape (codes "9999-99-99") text) e
  where
    by_day : (y m d : ℕ) (b : Bool) → is_day y m d ≡ b → (if b then Some (days_from_civil (pos y) m d) else None) ≡ Some number → IsNamed number
    by_day y m d true h e = record { year = y; month = m; day = d; is = is_day-IsDay y m d h; number_is = (let same : Some (days_from_civil (pos y) m d) ≡ Some number = e in cc) }
    by_day y m d false h e = cc

    by_shape : (b : Bool) → (if b then number_of_day (four_at text 0) (two_at text 5) (two_at text 8) else None) ≡ Some number → IsNamed number
    by_shape true e = by_day (four_at text 0) (two_at text 5) (two_at text 8) (is_day (four_at text 0) (two_at text 5) (two_at text 8)) refl e
    by_shape false e = cc

pub named_of : (number : ℤ) → IsInYears number → IsNamed number
named_of number within = let d = date_of number within in record { year = d.year; month = d.month; day = d.day; is = d.is; number_is = d.number_is }

-- the text of a named day names it
pub day_of-text : (number : ℤ) → IsNamed number → day_of (date_text number) ≡ Some number
day_of-text number named = ap (λ n. day_of (date_text n)) (sym named.number_is) ∙ ap day_of (date_text-parts _ _ _ named.is) ∙ day_of-parts _ _ _ named.is ∙ ap Some named.number_is

pub named_in_years : (number : ℤ) → IsNamed number → IsInYears number
named_in_years number named = subst IsInYears named.number_is (in_years named.year named.month named.day named.is)

-- ---- moments

pub day_in_years : (z : ℤ) → is_instant z ≡ true → IsInYears (day_of_stamp z)
day_in_years z h =
    let both = and_parts (int_le first_instant z) (int_le z last_instant) h in
    let low = le-true first_instant z both.0 in
    let high = le-true z last_instant both.1 in
    let parts = int_div_euclid-parts z day_micros (omega arith) in
    (omega (arith, signed_arith), omega (arith, signed_arith))

pub clock_in_day : (z : ℤ) → clock_of_stamp z < day_micros
clock_in_day z =
    let parts = int_rem_euclid-parts z day_micros (omega arith) in
    omega (arith, signed_arith, unsigned_abs-parts (int_rem_euclid z (pos day_micros)))

pub stamp_is : (z : ℤ) → day_of_stamp z *ℤ pos day_micros +ℤ pos (clock_of_stamp z) ≡ z
stamp_is z =
    let rest = int_rem_euclid-parts z day_micros (omega arith) in
    let abs = unsigned_abs-parts (int_rem_euclid z (pos day_micros)) in
    omega (arith, signed_arith)

-- a date's text is ten bytes long
record IsTen (text : List ℕ) : Type 0 where
  at_ten : (rest : List ℕ) → slice_index (text ++ codes " " ++ rest) 10 ≡ 32
  front : (rest : List ℕ) → take 10 (text ++ codes " " ++ rest) ≡ text
  back : (rest : List ℕ) → drop 11 (text ++ codes " " ++ rest) ≡ rest

parts_ten : (year month day : ℕ) → IsTen (date_parts_text year month day)
parts_ten year month day = record { at_ten = λ rest. refl; front = λ rest. refl; back = λ rest. refl }

date_ten : (number : ℤ) → IsNamed number → IsTen (date_text number)
date_ten number named = subst IsTen (sym (date_text-parts _ _ _ named.is) ∙ ap date_text named.number_is) (parts_ten named.year named.month named.day)

pub stamp_of-text : (z : ℤ) → is_instant z ≡ true → stamp_of (stamp_text z) ≡ Some z
unfolding stamp_text
stamp_of-text z h =
    let named = named_of (day_of_stamp z) (day_in_years z h) in
    let ten = date_ten (day_of_stamp z) named in
    let clock = clock_text (clock_of_stamp z) in
    rw (ten.at_ten clock, ten.front clock, ten.back clock, day_of-text (day_of_stamp z) named, clock_of-text (clock_of_stamp z) (clock_in_day z)) (ap Some (stamp_is z))

some_joined : (a : Option ℤ) (b : Option ℕ) (z : ℤ) → joined_stamp a b ≡ Some z → (d : ℤ) × (c : ℕ) × (a ≡ Some d) × (b ≡ Some c) × (d *ℤ pos day_micros +ℤ pos c ≡ z)
some_joined None b z e = cc
some_joined (Some d) None z e = cc
some_joined (Some d) (Some c) z e = (d, c, refl, refl, (let same : Some (d *ℤ pos day_micros +ℤ pos c) ≡ Some z = e in cc))

pub moment_in_years : (day z : ℤ) (clock : ℕ) → IsInYears day → clock < day_micros → day *ℤ pos day_micros +ℤ pos clock ≡ z → is_instant z ≡ true
moment_in_years day z clock within below same =
    let low = within.0 in
    let high = within.1 in
    and_from _ _ (sym (true_is_le first_instant z (omega (arith, signed_arith)))) (sym (true_is_le z last_instant (omega (arith, signed_arith))))

pub stamp_of-instant : (text : List ℕ) (z : ℤ) → stamp_of text ≡ Some z → is_instant z ≡ true
stamp_of-instant text z e = by_space (slice_index text 10 == 32) e
  where
    by_space : (b : Bool) → (if b then joined_stamp (day_of (take 10 text)) (clock_of (drop 11 text)) else None) ≡ Some z → is_instant z ≡ true
    by_space true e =
        let parts = some_joined (day_of (take 10 text)) (clock_of (drop 11 text)) z e in
        moment_in_years parts.0 z parts.1 (named_in_years parts.0 (day_of-named (take 10 text) parts.0 parts.2)) (clock_of-bound (drop 11 text) parts.1 parts.3) parts.4
    by_space false e = cc

-- ---- instants

-- a byte that is no sign
abbrev pub no_sign : ℕ → Bool
no_sign c = not (is_sign c)

digit_no_sign : (c : ℕ) → is_ascii_digit c ≡ true → no_sign c ≡ true
digit_no_sign c h =
    let digit = digit_from c h in
    let low = digit.low in
    rw (ne_eqb c 43 (λ e. omega arith), ne_eqb c 45 (λ e. omega arith)) refl

pub digits_no_sign : (ds : List ℕ) → list_all is_ascii_digit ds ≡ true → list_all no_sign ds ≡ true
digits_no_sign [] h = refl
digits_no_sign (d ∷ ds) h = let parts = and_parts _ _ h in and_from _ _ (digit_no_sign d parts.0) (digits_no_sign ds parts.1)

fraction_no_sign : (micros : ℕ) → micros < 1000000 → list_all no_sign (fraction_text micros) ≡ true
fraction_no_sign micros h = elim (cases_eq micros 0) [
  | inl none ↦ ap (list_all no_sign) (fraction_text-none micros none)
  | inr some ↦ ap (list_all no_sign) (fraction_text-more micros some) ∙ digits_no_sign (short_digits digit_units micros) (fraction_digits micros h some)
]

pub sign_behind : (front rest : List ℕ) (sign : ℕ) → is_sign sign ≡ true → list_all no_sign front ≡ true → prefix_len no_sign (front ++ sign ∷ rest) ≡ length front
sign_behind [] rest sign is h = rw is refl
sign_behind (c ∷ front) rest sign is h = let parts = and_parts (no_sign c) (list_all no_sign front) h in rw (parts.0, sign_behind front rest sign is parts.1) (omega arith)

-- the first sign stands behind bytes that are none
pub place_after : (front rest : List ℕ) (sign : ℕ) → is_sign sign ≡ true → list_all no_sign front ≡ true → position is_sign (front ++ sign ∷ rest) ≡ Some (length front)
place_after front rest sign is h =
    let longer : length front < length (front ++ sign ∷ rest) = omega (arith, length-append front (sign ∷ rest)) in
    rw (sign_behind front rest sign is h, lt-ltb (length front) (length (front ++ sign ∷ rest)) longer) refl

-- a date, a space and a clock are 19 bytes
record IsNineteen (date : List ℕ) : Type 0 where
  subsequent : (seconds : ℕ) (fraction rest : List ℕ) → drop 19 (date ++ codes " " ++ (seconds_text seconds ++ fraction) ++ rest) ≡ fraction ++ rest
  long : (seconds : ℕ) (fraction : List ℕ) → length (date ++ codes " " ++ (seconds_text seconds ++ fraction)) ≡ 19 + length fraction

parts_nineteen : (year month day : ℕ) → IsNineteen (date_parts_text year month day)
parts_nineteen year month day = record { subsequent = λ seconds fraction rest. refl; long = λ seconds fraction. omega arith }

date_nineteen : (number : ℤ) → IsNamed number → IsNineteen (date_text number)
date_nineteen number named = subst IsNineteen (sym (date_text-parts _ _ _ named.is) ∙ ap date_text named.number_is) (parts_nineteen named.year named.month named.day)

zero_offset : offset_of (codes "+00") ≡ Some (pos 0)
unfolding offset_size has_shape clock_seconds
zero_offset = refl

no_offset : (z : ℤ) → joined_instant (Some z) (Some (pos 0)) ≡ Some z
no_offset z = ap Some (let same : z -ℤ pos 0 *ℤ pos 1000000 ≡ z = omega (arith, signed_arith) in same)

sign_of-text : (z : ℤ) → is_instant z ≡ true → (sign_place (stamp_text z ++ codes "+00") ≡ Some (length (fraction_text (clock_of_stamp z % 1000000)))) × (length (stamp_text z) ≡ 19 + length (fraction_text (clock_of_stamp z % 1000000)))
unfolding stamp_text sign_place
sign_of-text z h =
    let named = named_of (day_of_stamp z) (day_in_years z h) in
    let nineteen = date_nineteen (day_of_stamp z) named in
    let fraction = fraction_text (clock_of_stamp z % 1000000) in
    let seconds = clock_of_stamp z / 1000000 in (
      ap (position is_sign) (nineteen.subsequent seconds fraction (codes "+00")) ∙ place_after fraction (codes "00") 43 refl (fraction_no_sign (clock_of_stamp z % 1000000) (omega arith)),
      nineteen.long seconds fraction,
    )

pub instant_of-text : (z : ℤ) → is_instant z ≡ true → instant_of (stamp_text z ++ codes "+00") ≡ Some z
instant_of-text z h =
    let sign = sign_of-text z h in
    let front : take (19 + length (fraction_text (clock_of_stamp z % 1000000))) (stamp_text z ++ codes "+00") ≡ stamp_text z = take_at (stamp_text z) (codes "+00") _ sign.1 in
    let back : drop (19 + length (fraction_text (clock_of_stamp z % 1000000))) (stamp_text z ++ codes "+00") ≡ codes "+00" = drop_at (stamp_text z) (codes "+00") _ sign.1 in
    ap (instant_at (stamp_text z ++ codes "+00")) sign.0
    ∙ ap₂ (λ (moment offset : Option ℤ). joined_instant moment offset) (ap stamp_of front ∙ stamp_of-text z h) (ap offset_of back ∙ zero_offset)
    ∙ no_offset z
