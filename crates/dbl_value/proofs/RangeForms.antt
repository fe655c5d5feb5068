-- No text that names a date outside the years 1 to 9999 spells a value.
use Rattle.std.proofs.Common.{◌≡◌, ◌∙◌, ℕ, ℤ, pos, ◌+ℤ◌, ◌-ℤ◌, ◌*ℤ◌, zero, suc, ◌+◌, ◌-◌, ◌/◌, ◌%◌, ◌<◌, ◌≤◌, not, nat_eq, nat_lt, List, [], ◌∷◌, ◌++◌, length, take, drop, slice_index, Bool, true, false, if◌then◌else◌, Option, Some, None, option_map, refl, sym, ap, subst, codes, arith, inl, inr, ◌⊎◌}
use Rattle.std.specs.List.{list_all, prefix_len, position, starts_with, ends_with}
use Rattle.std.specs.Char.{is_ascii_digit}
use Rattle.std.specs.Str.{bytes_eq}
use Rattle.std.proofs.lemmas.Bool.{and_parts, and_from, or_cases, or_from, lt-ltb, false_from_ne_true, not-true}
use Rattle.std.proofs.lemmas.List.{append_assoc, length-append}
use Rattle.std.proofs.lemmas.Slice.Eq.{bytes_eq-Decides}
use Rattle.dbl_value_types.specs.declared.column_type.PgType.TheVariants as type
use Rattle.dbl_value_types.specs.declared.value.Val.{Val}
use Rattle.dbl_value_types.specs.declared.value.Val.TheVariants as val
use Rattle.jiff_core.proofs.CalendarLemmas.{days_in_month_bounds}
use Rattle.dbl_time.specs.Shapes.{two_digits, four_digits}
use Rattle.dbl_time.specs.Dates.{day_of}
use Rattle.dbl_time.specs.Stamps.{stamp_of, instant_of, is_instant}
use Rattle.dbl_value_types.specs.Values.{instant_if_any}
use Rattle.dbl_value_types.specs.Faults.{is_long_year, has_long_year, is_beyond, is_out, is_moved_out}
use Rattle.dbl_value_types.specs.Forms.{IsDateText, IsFractionText, IsClockText, IsStampText, IsOffsetText, IsInstantText}
use Rattle.dbl_value_types.specs.Laws.{DateRangesSpellNoValue}
use Rattle.dbl_time.proofs.CalendarSteps.{is_day-IsDay}
use Rattle.dbl_time.proofs.ShapeLemmas.{digit_is, digit_from}
use Rattle.dbl_value.proofs.DateForms.{read_text}
use Rattle.dbl_value.proofs.ClockForms.{stamp_form}
use Rattle.dbl_value.proofs.InstantForms.{instant_form}

-- a byte before the letters
abbrev is_low : ℕ → Bool
is_low c = nat_lt c 65

low_append : (s t : List ℕ) → list_all is_low s ≡ true → list_all is_low t ≡ true → list_all is_low (s ++ t) ≡ true
low_append [] t h k = k
low_append (c ∷ s) t h k = let parts = and_parts (is_low c) (list_all is_low s) h in and_from _ _ parts.0 (low_append s t parts.1 k)

low_drop : (n : ℕ) (s : List ℕ) → list_all is_low s ≡ true → list_all is_low (drop n s) ≡ true
low_drop zero s h = h
low_drop (suc n) [] h = refl
low_drop (suc n) (c ∷ s) h = low_drop n s (and_parts (is_low c) (list_all is_low s) h).1

low_digits : (ds : List ℕ) → list_all is_ascii_digit ds ≡ true → list_all is_low ds ≡ true
low_digits [] h = refl
low_digits (d ∷ ds) h =
    let parts = and_parts (is_ascii_digit d) (list_all is_ascii_digit ds) h in
    let high = (digit_from d parts.0).high in
    and_from _ _ (lt-ltb d 65 (omega arith)) (low_digits ds parts.1)

two_are_digits : (n : ℕ) → n < 100 → list_all is_ascii_digit (two_digits n) ≡ true
two_are_digits n h = and_from _ _ (digit_is (n / 10) (omega arith)) (and_from _ _ (digit_is (n % 10) (omega arith)) refl)

four_are_digits : (n : ℕ) → n < 10000 → list_all is_ascii_digit (four_digits n) ≡ true
four_are_digits n h = and_from _ _ (digit_is (n / 1000) (omega arith)) (and_from _ _ (digit_is (n / 100 % 10) (omega arith)) (and_from _ _ (digit_is (n / 10 % 10) (omega arith)) (and_from _ _ (digit_is (n % 10) (omega arith)) refl)))

low_two : (n : ℕ) → n < 100 → list_all is_low (two_digits n) ≡ true
low_two n h = low_digits (two_digits n) (two_are_digits n h)

-- a text that begins with a year from 1 to 9999 and a `-`, and has no letters
record LooksDated (text : List ℕ) : Type 0 where
  year : ℕ
  rest : List ℕ
  above : 1 ≤ year
  below : year ≤ 9999
  text_is : text ≡ four_digits year ++ 45 ∷ rest
  low : list_all is_low text ≡ true

date_dated : (text : List ℕ) (number : ℤ) → IsDateText text number → LooksDated text
date_dated text number is =
    let day = is_day-IsDay is.year is.month is.day is.is_day in
    let top = day.last_year in
    let months = day.last_month in
    let days = day.last_day in
    let long = days_in_month_bounds (pos is.year) is.month in
    record {
      year = is.year;
      rest = two_digits is.month ++ codes "-" ++ two_digits is.day;
      above = day.first_year;
      below = day.last_year;
      text_is = is.text_is;
      low = ap (list_all is_low) is.text_is ∙ low_append (four_digits is.year ++ codes "-" ++ two_digits is.month ++ codes "-") (two_digits is.day)
          (low_append (four_digits is.year ++ codes "-" ++ two_digits is.month) (codes "-")
          (low_append (four_digits is.year ++ codes "-") (two_digits is.month) (low_append (four_digits is.year) (codes "-") (low_digits (four_digits is.year) (four_are_digits is.year (omega arith))) refl) (low_two is.month (omega arith))) refl) (low_two is.day (omega arith));
    }

dated_more : (text more : List ℕ) → LooksDated text → list_all is_low more ≡ true → LooksDated (text ++ more)
dated_more text more is h = record {
  year = is.year;
  rest = is.rest ++ more;
  above = is.above;
  below = is.below;
  text_is = ap (λ t. t ++ more) is.text_is ∙ append_assoc (four_digits is.year) (45 ∷ is.rest) more;
  low = low_append text more is.low h;
}

fraction_low : (fraction : List ℕ) (part : ℕ) → IsFractionText fraction part → list_all is_low fraction ≡ true
fraction_low fraction part (inl none) = ap (list_all is_low) none.0
fraction_low fraction part (inr has) = ap (list_all is_low) has.text_is ∙ low_digits has.digits has.are_digits

clock_low : (text : List ℕ) (micros : ℕ) → IsClockText text micros → list_all is_low text ≡ true
clock_low text micros is =
    let a = is.hours_up in let b = is.minutes_up in let c = is.seconds_up in
    ap (list_all is_low) is.text_is ∙ low_append (two_digits is.hours ++ codes ":" ++ two_digits is.minutes ++ codes ":" ++ two_digits is.seconds) is.fraction
    (low_append (two_digits is.hours ++ codes ":" ++ two_digits is.minutes ++ codes ":") (two_digits is.seconds)
    (low_append (two_digits is.hours ++ codes ":" ++ two_digits is.minutes) (codes ":")
    (low_append (two_digits is.hours ++ codes ":") (two_digits is.minutes) (low_append (two_digits is.hours) (codes ":") (low_two is.hours (omega arith)) refl) (low_two is.minutes (omega arith))) refl) (low_two is.seconds (omega arith))) (fraction_low is.fraction is.part is.fraction_is)

stamp_dated : (text : List ℕ) (moment : ℤ) → IsStampText text moment → LooksDated text
stamp_dated text moment is = subst LooksDated (sym is.text_is) (dated_more (is.date ++ codes " ") is.clock (dated_more is.date (codes " ") (date_dated is.date is.number is.date_is) refl) (clock_low is.clock is.micros is.clock_is))

offset_low : (text : List ℕ) (size : ℕ) → IsOffsetText text size → list_all is_low text ≡ true
offset_low text size is = by_form is.text_is
  where
    hours : list_all is_low (two_digits is.hours) ≡ true
    hours = let up = is.hours_up in low_two is.hours (omega arith)

    more : (n : ℕ) (front : List ℕ) → n ≤ 59 → list_all is_low front ≡ true → list_all is_low (front ++ codes ":" ++ two_digits n) ≡ true
    more n front up h = low_append (front ++ codes ":") (two_digits n) (low_append front (codes ":") h refl) (low_two n (omega arith))

    by_form : ((text ≡ two_digits is.hours) × (is.minutes ≡ 0) × (is.seconds ≡ 0)) ⊎ (((text ≡ two_digits is.hours ++ codes ":" ++ two_digits is.minutes) × (is.seconds ≡ 0)) ⊎ (text ≡ two_digits is.hours ++ codes ":" ++ two_digits is.minutes ++ codes ":" ++ two_digits is.seconds)) → list_all is_low text ≡ true
    by_form (inl short) = ap (list_all is_low) short.0 ∙ hours
    by_form (inr (inl middle)) = ap (list_all is_low) middle.0 ∙ more is.minutes (two_digits is.hours) is.minutes_up hours
    by_form (inr (inr long)) = ap (list_all is_low) long ∙ more is.seconds (two_digits is.hours ++ codes ":" ++ two_digits is.minutes) is.seconds_up (more is.minutes (two_digits is.hours) is.minutes_up hours)

instant_dated : (text : List ℕ) (z : ℤ) → IsInstantText text z → LooksDated text
instant_dated text z is = by_sign is.signed
  where
    dated : LooksDated is.stamp
    dated = stamp_dated is.stamp is.moment is.stamp_is

    by_sign : ((text ≡ is.stamp ++ codes "+" ++ is.offset) × (is.moment -ℤ pos is.size *ℤ pos 1000000 ≡ z)) ⊎ ((text ≡ is.stamp ++ codes "-" ++ is.offset) × (is.moment +ℤ pos is.size *ℤ pos 1000000 ≡ z)) → LooksDated text
    by_sign (inl plus) = subst LooksDated (sym plus.0) (dated_more (is.stamp ++ codes "+") is.offset (dated_more is.stamp (codes "+") dated refl) (offset_low is.offset is.size is.offset_is))
    by_sign (inr minus) = subst LooksDated (sym minus.0) (dated_more (is.stamp ++ codes "-") is.offset (dated_more is.stamp (codes "-") dated refl) (offset_low is.offset is.size is.offset_is))

-- ---- such a text isn't beyond

apart : (b : Bool) → b ≡ true → b ≡ false → ⊥
apart b h k = (let same : true ≡ false = sym h ∙ k in cc)

not_letters : (text letters : List ℕ) → list_all is_low text ≡ true → list_all is_low letters ≡ false → bytes_eq text letters ≡ false
not_letters text letters h k = false_from_ne_true _ (λ e. apart (list_all is_low letters) (ap (list_all is_low) (sym ((bytes_eq-Decides text letters).0 e)) ∙ h) k)

not_ended : (text : List ℕ) → list_all is_low text ≡ true → ends_with nat_eq text (codes " BC") ≡ false
not_ended text h = false_from_ne_true _ (λ e. apart (list_all is_low (codes " BC")) (ap (list_all is_low) ((bytes_eq-Decides (codes " BC") (drop (length text - 3) text)).0 e) ∙ low_drop (length text - 3) text h) refl)

-- a byte that is no digit
abbrev no_digit : ℕ → Bool
no_digit c = not (is_ascii_digit c)

digits_before : (front rest : List ℕ) → list_all is_ascii_digit front ≡ true → prefix_len (λ c. not (no_digit c)) (front ++ 45 ∷ rest) ≡ length front
digits_before [] rest h = refl
digits_before (c ∷ front) rest h = let parts = and_parts (is_ascii_digit c) (list_all is_ascii_digit front) h in rw (parts.0, digits_before front rest parts.1) (omega arith)

dash_place : (front rest : List ℕ) → list_all is_ascii_digit front ≡ true → position no_digit (front ++ 45 ∷ rest) ≡ Some (length front)
dash_place front rest h =
    let longer : length front < length (front ++ 45 ∷ rest) = omega (arith, length-append front (45 ∷ rest)) in
    rw (digits_before front rest h, lt-ltb (length front) (length (front ++ 45 ∷ rest)) longer) refl

not_long : (text : List ℕ) → LooksDated text → has_long_year text ≡ false
not_long text is =
    let below = is.below in
    ap (λ t. has_long_year t) is.text_is ∙ ap (is_long_year (four_digits is.year ++ 45 ∷ is.rest)) (dash_place (four_digits is.year) is.rest (four_are_digits is.year (omega arith)))

not_year_zero : (text : List ℕ) → LooksDated text → starts_with nat_eq text (codes "0000-") ≡ false
not_year_zero text is = false_from_ne_true _ (λ e.
    let front : codes "0000-" ≡ take 5 text = (bytes_eq-Decides (codes "0000-") (take 5 text)).0 e in
    let whole : codes "0000-" ≡ take 5 (four_digits is.year ++ 45 ∷ is.rest) = front ∙ ap (take 5) is.text_is in
    let a : 48 ≡ 48 + is.year / 1000 = ap (λ t. slice_index t 0) whole in
    let b : 48 ≡ 48 + is.year / 100 % 10 = ap (λ t. slice_index t 1) whole in
    let c : 48 ≡ 48 + is.year / 10 % 10 = ap (λ t. slice_index t 2) whole in
    let d : 48 ≡ 48 + is.year % 10 = ap (λ t. slice_index t 3) whole in
    let above = is.above in
    omega arith)

not_beyond : (text : List ℕ) → LooksDated text → is_beyond text ≡ false
not_beyond text is = or_from _ _ (or_from _ _ (or_from _ _ (or_from _ _ (not_letters text (codes "infinity") is.low refl) (not_letters text (codes "-infinity") is.low refl)) (not_ended text is.low)) (not_long text is)) (not_year_zero text is)

no_value : {A : Type 0} (f : A → Val) (o : Option A) (b : Bool) → ((x : A) → o ≡ Some x → b ≡ false) → b ≡ true → option_map f o ≡ None
no_value f None b later h = refl
no_value f (Some x) b later h = absurd (apart b h (later x refl))

pub date_ranges_spell_no_value : DateRangesSpellNoValue
date_ranges_spell_no_value type.Date text h = no_value val.Date (day_of text) (is_beyond text) (λ day e. not_beyond text (date_dated text day (read_text text day e))) h
date_ranges_spell_no_value type.Timestamp text h = no_value val.Stamp (stamp_of text) (is_beyond text) (λ z e. not_beyond text (stamp_dated text z (stamp_form text z e))) h
date_ranges_spell_no_value type.Timestamptz text h = by_instant (instant_of text) refl
  where
    by_instant : (o : Option ℤ) → instant_of text ≡ o → option_map val.StampTz (instant_if_any o) ≡ None
    by_instant None e = refl
    by_instant (Some z) e = elim (or_cases (is_beyond text) (is_moved_out text) h) [
      | inl beyond ↦ absurd (apart (is_beyond text) beyond (not_beyond text (instant_dated text z (instant_form text z e))))
      | inr out ↦ (let outside : not (is_instant z) ≡ true = ap is_out (sym e) ∙ out in ap (λ b. option_map val.StampTz (if b then Some z else None)) (not-true (is_instant z) outside))
    ]
date_ranges_spell_no_value ty text h = cc
