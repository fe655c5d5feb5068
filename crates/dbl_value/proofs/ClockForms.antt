-- Texts of times and timestamps in print.
use Rattle.std.proofs.Common.{◌≡◌, ◌∙◌, ℕ, ℤ, pos, ◌+◌, ◌-◌, ◌*◌, ◌/◌, ◌%◌, ◌^◌, ◌≤◌, ◌==◌, ◌&&◌, nat_le, ◌+ℤ◌, ◌*ℤ◌, List, [], ◌∷◌, ◌++◌, length, take, drop, slice_index, Bool, true, false, if◌then◌else◌, Option, Some, None, option_map, refl, sym, ap, ap₂, subst, codes, arith, inl, inr, ◌⊎◌}
use Rattle.std.specs.List.{list_all}
use Rattle.std.specs.Char.{is_ascii_digit, digit_value}
use Rattle.std.specs.Str.{bytes_eq}
use Rattle.std.specs.Str.Parse.{digits_value}
use Rattle.std.proofs.lemmas.Bool.{and_parts, and_from, eqb-true, ne_eqb, le-leb, leb-true, cases_lt, false_from_ne_true}
use Rattle.std.proofs.lemmas.List.{append_assoc, take-append-drop, drop_more, get_or_past}
use Rattle.std.proofs.lemmas.Str.{digit_value_digit}
use Rattle.std.proofs.lemmas.Slice.Eq.{bytes_eq-Decides}
use Rattle.dbl_value_types.specs.declared.column_type.PgType.TheVariants as type
use Rattle.dbl_value_types.specs.declared.value.Val.TheVariants as val
use Rattle.dbl_time.specs.Shapes.{has_shape, two_at, two_digits}
use Rattle.dbl_time.specs.Clocks.{clock_seconds, seconds_of, is_fraction, fraction_micros, fraction_of, joined_clock, clock_of, day_micros, time_of}
use Rattle.dbl_time.specs.Stamps.{joined_stamp, stamp_of}
use Rattle.dbl_time.specs.Dates.{day_of, date_parts_text}
use Rattle.dbl_value_types.specs.Values.{SpellsValue}
use Rattle.dbl_value_types.specs.Forms.{IsFractionText, IsClockText, TimeTextsAreClocks, IsStampText, StampTextsAreMoments}
use Rattle.dbl_time.proofs.ShapeLemmas.{IsDigit, digit_from, first_of, none_left}
use Rattle.dbl_time.proofs.ClockLemmas.{clock_shape, clock_seconds-is}
use Rattle.dbl_value.proofs.DateForms.{read_text, text_of_date}
use Rattle.dbl_value_types.proofs.KindLemmas.{time_spelled, stamp_spelled}

-- ---- fractions

digit_value-is : (c : ℕ) → is_ascii_digit c ≡ true → digit_value c + 48 ≡ c
digit_value-is c h = let digit = digit_from c h in digit_value_digit c (digit.low, digit.high)

-- up to six digits, by their places and as a number
places_value : (x : ℕ) (ds : List ℕ) → list_all is_ascii_digit ds ≡ true → length ds ≤ 6 → digits_value 10 ds * 10 ^ (6 - length ds) ≡ fraction_micros (x ∷ ds)
places_value x [] h few = refl
places_value x (a ∷ []) h few =
    let ea = digit_value-is a (and_parts _ _ h).0 in
    omega arith
places_value x (a ∷ b ∷ []) h few =
    let p = and_parts (is_ascii_digit a) (list_all is_ascii_digit (b ∷ [])) h in
    let ea = digit_value-is a p.0 in let eb = digit_value-is b (and_parts _ _ p.1).0 in
    omega arith
places_value x (a ∷ b ∷ c ∷ []) h few =
    let p = and_parts (is_ascii_digit a) (list_all is_ascii_digit (b ∷ c ∷ [])) h in
    let q = and_parts (is_ascii_digit b) (list_all is_ascii_digit (c ∷ [])) p.1 in
    let ea = digit_value-is a p.0 in let eb = digit_value-is b q.0 in let ec = digit_value-is c (and_parts _ _ q.1).0 in
    omega arith
places_value x (a ∷ b ∷ c ∷ d ∷ []) h few =
    let p = and_parts (is_ascii_digit a) (list_all is_ascii_digit (b ∷ c ∷ d ∷ [])) h in
    let q = and_parts (is_ascii_digit b) (list_all is_ascii_digit (c ∷ d ∷ [])) p.1 in
    let r = and_parts (is_ascii_digit c) (list_all is_ascii_digit (d ∷ [])) q.1 in
    let ea = digit_value-is a p.0 in let eb = digit_value-is b q.0 in let ec = digit_value-is c r.0 in let ed = digit_value-is d (and_parts _ _ r.1).0 in
    omega arith
places_value x (a ∷ b ∷ c ∷ d ∷ e ∷ []) h few =
    let p = and_parts (is_ascii_digit a) (list_all is_ascii_digit (b ∷ c ∷ d ∷ e ∷ [])) h in
    let q = and_parts (is_ascii_digit b) (list_all is_ascii_digit (c ∷ d ∷ e ∷ [])) p.1 in
    let r = and_parts (is_ascii_digit c) (list_all is_ascii_digit (d ∷ e ∷ [])) q.1 in
    let s = and_parts (is_ascii_digit d) (list_all is_ascii_digit (e ∷ [])) r.1 in
    let ea = digit_value-is a p.0 in let eb = digit_value-is b q.0 in let ec = digit_value-is c r.0 in let ed = digit_value-is d s.0 in let ee = digit_value-is e (and_parts _ _ s.1).0 in
    omega arith
places_value x (a ∷ b ∷ c ∷ d ∷ e ∷ f ∷ []) h few =
    let p = and_parts (is_ascii_digit a) (list_all is_ascii_digit (b ∷ c ∷ d ∷ e ∷ f ∷ [])) h in
    let q = and_parts (is_ascii_digit b) (list_all is_ascii_digit (c ∷ d ∷ e ∷ f ∷ [])) p.1 in
    let r = and_parts (is_ascii_digit c) (list_all is_ascii_digit (d ∷ e ∷ f ∷ [])) q.1 in
    let s = and_parts (is_ascii_digit d) (list_all is_ascii_digit (e ∷ f ∷ [])) r.1 in
    let t = and_parts (is_ascii_digit e) (list_all is_ascii_digit (f ∷ [])) s.1 in
    let ea = digit_value-is a p.0 in let eb = digit_value-is b q.0 in let ec = digit_value-is c r.0 in let ed = digit_value-is d s.0 in let ee = digit_value-is e t.0 in let ef = digit_value-is f (and_parts _ _ t.1).0 in
    omega arith
places_value x (a ∷ b ∷ c ∷ d ∷ e ∷ f ∷ g ∷ ds) h few = absurd (omega arith)

no_fraction : fraction_of [] ≡ Some 0
unfolding fraction_of
no_fraction = refl

fraction_of-cons : (x : ℕ) (ds : List ℕ) → fraction_of (x ∷ ds) ≡ (if is_fraction (x ∷ ds) then Some (fraction_micros (x ∷ ds)) else None)
unfolding fraction_of
fraction_of-cons x ds = rw (ne_eqb (length (x ∷ ds)) 0 (λ e. omega arith)) refl

fraction_form : (text : List ℕ) (micros : ℕ) → fraction_of text ≡ Some micros → IsFractionText text micros
fraction_form [] micros e = inl (refl, (let same : Some 0 ≡ Some micros = sym no_fraction ∙ e in let zero_is : 0 ≡ micros = cc in sym zero_is))
fraction_form (x ∷ ds) micros e = by_test (is_fraction (x ∷ ds)) refl (sym (fraction_of-cons x ds) ∙ e)
  where
    by_test : (b : Bool) → is_fraction (x ∷ ds) ≡ b → (if b then Some (fraction_micros (x ∷ ds)) else None) ≡ Some micros → IsFractionText (x ∷ ds) micros
    by_test true h e =
        let last = and_parts ((x == 46) && nat_le 2 (length (x ∷ ds)) && nat_le (length (x ∷ ds)) 7) (list_all is_ascii_digit ds) h in
        let upper = and_parts ((x == 46) && nat_le 2 (length (x ∷ ds))) (nat_le (length (x ∷ ds)) 7) last.0 in
        let lower = and_parts (x == 46) (nat_le 2 (length (x ∷ ds))) upper.0 in
        let point : x ≡ 46 = eqb-true x 46 lower.0 in
        let most = leb-true (length (x ∷ ds)) 7 upper.1 in
        let least = leb-true 2 (length (x ∷ ds)) lower.1 in
        let same : fraction_micros (x ∷ ds) ≡ micros = cc in
        inr (record {
          digits = ds;
          are_digits = last.1;
          some = omega arith;
          few = omega arith;
          text_is = ap (λ y. y ∷ ds) point;
          micros_are = places_value x ds last.1 (omega arith) ∙ same;
        })
    by_test false h e = cc

fraction_read : (text : List ℕ) (micros : ℕ) → IsFractionText text micros → fraction_of text ≡ Some micros
fraction_read text micros (inl none) = ap fraction_of none.0 ∙ no_fraction ∙ ap Some (sym none.1)
fraction_read text micros (inr has) =
    let ds = has.digits in
    let some = has.some in
    let few = has.few in
    let fits : is_fraction (46 ∷ ds) ≡ true = and_from _ _ (and_from _ _ (and_from _ _ refl (le-leb 2 (length (46 ∷ ds)) (omega arith))) (le-leb (length (46 ∷ ds)) 7 (omega arith))) has.are_digits in
    ap fraction_of has.text_is ∙ fraction_of-cons 46 ds ∙ ap (λ b. if b then Some (fraction_micros (46 ∷ ds)) else None) fits ∙ ap Some (sym (places_value 46 ds has.are_digits has.few) ∙ has.micros_are)

-- ---- clocks

pub two_are : (a b : ℕ) → IsDigit a → IsDigit b → a ∷ b ∷ [] ≡ two_digits (10 * (a - 48) + (b - 48))
two_are a b p q =
    let al = p.low in let ah = p.high in let bl = q.low in let bh = q.high in
    let first : a ≡ 48 + (10 * (a - 48) + (b - 48)) / 10 = omega arith in
    let second : b ≡ 48 + (10 * (a - 48) + (b - 48)) % 10 = omega arith in
    pair a b _ _ first second
  where
    pair : (a b x y : ℕ) → a ≡ x → b ≡ y → a ∷ b ∷ [] ≡ x ∷ y ∷ []
    pair a b x y p q = cc

pub clock_bytes : (text : List ℕ) → has_shape (codes "99:99:99") text ≡ true → text ≡ two_digits (two_at text 0) ++ codes ":" ++ two_digits (two_at text 3) ++ codes ":" ++ two_digits (two_at text 6)
clock_bytes text h =
    let a = first_of 57 _ text h in
    let b = first_of 57 _ a.rest a.has in
    let c = first_of 58 _ b.rest b.has in
    let d = first_of 57 _ c.rest c.has in
    let e = first_of 57 _ d.rest d.has in
    let f = first_of 58 _ e.rest e.has in
    let g = first_of 57 _ f.rest f.has in
    let i = first_of 57 _ g.rest g.has in
    let end = none_left i.rest i.has in
    let colon : c.byte ≡ 58 = eqb-true c.byte 58 c.stands in
    let second : f.byte ≡ 58 = eqb-true f.byte 58 f.stands in
    let whole : text ≡ a.byte ∷ b.byte ∷ 58 ∷ d.byte ∷ e.byte ∷ 58 ∷ g.byte ∷ i.byte ∷ [] =
    chain text a.rest b.rest c.rest d.rest e.rest f.rest g.rest i.rest _ _ _ _ _ _ _ _ a.text_is b.text_is (c.text_is ∙ ap (λ x. x ∷ c.rest) colon) d.text_is e.text_is (f.text_is ∙ ap (λ x. x ∷ f.rest) second) g.text_is i.text_is end in
    subst (λ t. t ≡ two_digits (two_at t 0) ++ codes ":" ++ two_digits (two_at t 3) ++ codes ":" ++ two_digits (two_at t 6)) (sym whole)
    (three (a.byte ∷ b.byte ∷ []) (d.byte ∷ e.byte ∷ []) (g.byte ∷ i.byte ∷ []) _ _ _ (two_are _ _ (digit_from _ a.stands) (digit_from _ b.stands)) (two_are _ _ (digit_from _ d.stands) (digit_from _ e.stands)) (two_are _ _ (digit_from _ g.stands) (digit_from _ i.stands)))
  where
    chain : (t r1 r2 r3 r4 r5 r6 r7 r8 : List ℕ) (b1 b2 b3 b4 b5 b6 b7 b8 : ℕ) → t ≡ b1 ∷ r1 → r1 ≡ b2 ∷ r2 → r2 ≡ b3 ∷ r3 → r3 ≡ b4 ∷ r4 → r4 ≡ b5 ∷ r5 → r5 ≡ b6 ∷ r6 → r6 ≡ b7 ∷ r7 → r7 ≡ b8 ∷ r8 → r8 ≡ []
        → t ≡ b1 ∷ b2 ∷ b3 ∷ b4 ∷ b5 ∷ b6 ∷ b7 ∷ b8 ∷ []
    chain t r1 r2 r3 r4 r5 r6 r7 r8 b1 b2 b3 b4 b5 b6 b7 b8 e1 e2 e3 e4 e5 e6 e7 e8 e9 = cc

    three : (a b c x y z : List ℕ) → a ≡ x → b ≡ y → c ≡ z → a ++ codes ":" ++ b ++ codes ":" ++ c ≡ x ++ codes ":" ++ y ++ codes ":" ++ z
    three a b c x y z p q r = cc

-- the parts of a clock's seconds
pub record AreSeconds (limit hours minutes seconds n : ℕ) : Type 0 where
  pub hours_up : hours ≤ limit
  pub minutes_up : minutes ≤ 59
  pub seconds_up : seconds ≤ 59
  pub sum : 3600 * hours + 60 * minutes + seconds ≡ n

pub clock_seconds-are : (limit hours minutes seconds n : ℕ) → clock_seconds limit hours minutes seconds ≡ Some n → AreSeconds limit hours minutes seconds n
unfolding clock_seconds
clock_seconds-are limit hours minutes seconds n e = by_test (nat_le hours limit && nat_le minutes 59 && nat_le seconds 59) refl e
  where
    by_test : (b : Bool) → (nat_le hours limit && nat_le minutes 59 && nat_le seconds 59) ≡ b → (if b then Some (3600 * hours + 60 * minutes + seconds) else None) ≡ Some n → AreSeconds limit hours minutes seconds n
    by_test true h e =
        let last = and_parts (nat_le hours limit && nat_le minutes 59) (nat_le seconds 59) h in
        let first = and_parts (nat_le hours limit) (nat_le minutes 59) last.0 in
        record { hours_up = leb-true hours limit first.0; minutes_up = leb-true minutes 59 first.1; seconds_up = leb-true seconds 59 last.1; sum = (let same : Some (3600 * hours + 60 * minutes + seconds) ≡ Some n = e in cc) }
    by_test false h e = cc

some_joined : (a b : Option ℕ) (n : ℕ) → joined_clock a b ≡ Some n → (s : ℕ) × (f : ℕ) × (a ≡ Some s) × (b ≡ Some f) × (1000000 * s + f ≡ n)
some_joined None b n e = cc
some_joined (Some s) None n e = cc
some_joined (Some s) (Some f) n e = (s, f, refl, refl, (let same : Some (1000000 * s + f) ≡ Some n = e in cc))

-- what a text `HH:MM:SS` says
pub record IsSecondsText (text : List ℕ) (n : ℕ) : Type 0 where
  pub are : AreSeconds 23 (two_at text 0) (two_at text 3) (two_at text 6) n
  pub text_is : text ≡ two_digits (two_at text 0) ++ codes ":" ++ two_digits (two_at text 3) ++ codes ":" ++ two_digits (two_at text 6)

seconds_form : (text : List ℕ) (n : ℕ) → seconds_of text ≡ Some n → IsSecondsText text n
unfolding seconds_of
seconds_form text n e = by_shape (has_shape (codes "99:99:99") text) refl e
  where
    by_shape : (b : Bool) → has_shape (codes "99:99:99") text ≡ b → (if b then clock_seconds 23 (two_at text 0) (two_at text 3) (two_at text 6) else None) ≡ Some n → IsSecondsText text n
    by_shape true h e = record { are = clock_seconds-are 23 (two_at text 0) (two_at text 3) (two_at text 6) n e; text_is = clock_bytes text h }
    by_shape false h e = cc

pub clock_form : (text : List ℕ) (micros : ℕ) → clock_of text ≡ Some micros → IsClockText text micros
clock_form text micros e =
    let parts = some_joined (seconds_of (take 8 text)) (fraction_of (drop 8 text)) micros e in
    let front = seconds_form (take 8 text) parts.0 parts.2 in
    record {
      hours = two_at (take 8 text) 0;
      minutes = two_at (take 8 text) 3;
      seconds = two_at (take 8 text) 6;
      fraction = drop 8 text;
      part = parts.1;
      hours_up = front.are.hours_up;
      minutes_up = front.are.minutes_up;
      seconds_up = front.are.seconds_up;
      fraction_is = fraction_form (drop 8 text) parts.1 parts.3;
      text_is = sym (take-append-drop 8 text) ∙ ap (λ t. t ++ drop 8 text) front.text_is;
      micros_are = ap (λ s. 1000000 * s + parts.1) front.are.sum ∙ parts.4;
    }

seconds_read : (hours minutes seconds : ℕ) → hours ≤ 23 → minutes ≤ 59 → seconds ≤ 59 → seconds_of (two_digits hours ++ codes ":" ++ two_digits minutes ++ codes ":" ++ two_digits seconds) ≡ Some (3600 * hours + 60 * minutes + seconds)
unfolding seconds_of
seconds_read hours minutes seconds h m s =
    let text = two_digits hours ++ codes ":" ++ two_digits minutes ++ codes ":" ++ two_digits seconds in
    let shape = clock_shape hours minutes seconds (omega arith) (omega arith) (omega arith) in
    let first : two_at text 0 ≡ hours = omega arith in
    let second : two_at text 3 ≡ minutes = omega arith in
    let third : two_at text 6 ≡ seconds = omega arith in
    rw (shape, first, second, third) (clock_seconds-is 23 hours minutes seconds h m s)

pub clock_read : (text : List ℕ) (micros : ℕ) → IsClockText text micros → clock_of text ≡ Some micros
clock_read text micros is =
    ap clock_of is.text_is
    ∙ ap₂ joined_clock (seconds_read is.hours is.minutes is.seconds is.hours_up is.minutes_up is.seconds_up) (fraction_read is.fraction is.part is.fraction_is)
    ∙ ap Some is.micros_are

-- ---- times

time_form : (text : List ℕ) (micros : ℕ) → time_of text ≡ Some micros → ((text ≡ codes "24:00:00") × (micros ≡ day_micros)) ⊎ IsClockText text micros
time_form text micros e = by_end (bytes_eq text (codes "24:00:00")) refl e
  where
    by_end : (b : Bool) → bytes_eq text (codes "24:00:00") ≡ b → (if b then Some day_micros else clock_of text) ≡ Some micros → ((text ≡ codes "24:00:00") × (micros ≡ day_micros)) ⊎ IsClockText text micros
    by_end true h e = inl ((bytes_eq-Decides text (codes "24:00:00")).0 h, (let same : day_micros ≡ micros = cc in sym same))
    by_end false h e = inr (clock_form text micros e)

before_end : (text : List ℕ) (micros : ℕ) → IsClockText text micros → bytes_eq text (codes "24:00:00") ≡ false
before_end text micros is = false_from_ne_true _ (λ e.
    let same : text ≡ codes "24:00:00" = (bytes_eq-Decides text (codes "24:00:00")).0 e in
    let up = is.hours_up in
    let whole : two_digits is.hours ++ codes ":" ++ two_digits is.minutes ++ codes ":" ++ two_digits is.seconds ++ is.fraction ≡ codes "24:00:00" = sym is.text_is ∙ same in
    let first : 48 + is.hours / 10 ≡ 50 = ap (λ t. slice_index t 0) whole in
    let second : 48 + is.hours % 10 ≡ 52 = ap (λ t. slice_index t 1) whole in
    absurd (omega arith))

time_read : (text : List ℕ) (micros : ℕ) → IsClockText text micros → time_of text ≡ Some micros
time_read text micros is = rw (before_end text micros is) (clock_read text micros is)

pub time_texts_are_clocks : TimeTextsAreClocks
time_texts_are_clocks text z = (
  λ e.
      let read = time_spelled type.Time text z e in
      by_form read.1 read.3 (time_form text read.1 read.2),
  λ is. by_kind is,
)
  where
    by_form : (micros : ℕ) → z ≡ pos micros → ((text ≡ codes "24:00:00") × (micros ≡ day_micros)) ⊎ IsClockText text micros → ((text ≡ codes "24:00:00") × (z ≡ pos day_micros)) ⊎ ((m : ℕ) × IsClockText text m × (z ≡ pos m))
    by_form micros same (inl end) = inl (end.0, same ∙ ap pos end.1)
    by_form micros same (inr is) = inr (micros, is, same)

    by_kind : ((text ≡ codes "24:00:00") × (z ≡ pos day_micros)) ⊎ ((m : ℕ) × IsClockText text m × (z ≡ pos m)) → SpellsValue type.Time text (val.Time z)
    by_kind (inl end) = ap (λ t. option_map (λ m. val.Time (pos m)) (time_of t)) end.0 ∙ ap (λ y. Some (val.Time y)) (sym end.1)
    by_kind (inr clock) = ap (option_map (λ m. val.Time (pos m))) (time_read text clock.0 clock.1) ∙ ap (λ y. Some (val.Time y)) (sym clock.2)

-- ---- timestamps

some_moment : (a : Option ℤ) (b : Option ℕ) (z : ℤ) → joined_stamp a b ≡ Some z → (d : ℤ) × (c : ℕ) × (a ≡ Some d) × (b ≡ Some c) × (d *ℤ pos day_micros +ℤ pos c ≡ z)
some_moment None b z e = cc
some_moment (Some d) None z e = cc
some_moment (Some d) (Some c) z e = (d, c, refl, refl, (let same : Some (d *ℤ pos day_micros +ℤ pos c) ≡ Some z = e in cc))

space_at_ten : (text : List ℕ) → slice_index text 10 ≡ 32 → text ≡ take 10 text ++ codes " " ++ drop 11 text
space_at_ten text h = elim (cases_lt 10 (length text)) [
  | inl within ↦ (let rest : drop 10 text ≡ 32 ∷ drop 11 text = drop_more text 10 0 within ∙ ap (λ c. c ∷ drop 11 text) h in sym (take-append-drop 10 text) ∙ ap (λ t. take 10 text ++ t) rest ∙ sym (append_assoc (take 10 text) (codes " ") (drop 11 text)))
  | inr past ↦ absurd (let none : slice_index text 10 ≡ 0 = get_or_past text 10 0 past in omega arith)
]

pub stamp_form : (text : List ℕ) (z : ℤ) → stamp_of text ≡ Some z → IsStampText text z
stamp_form text z e = by_space (slice_index text 10 == 32) refl e
  where
    by_space : (b : Bool) → (slice_index text 10 == 32) ≡ b → (if b then joined_stamp (day_of (take 10 text)) (clock_of (drop 11 text)) else None) ≡ Some z → IsStampText text z
    by_space true h e =
        let parts = some_moment (day_of (take 10 text)) (clock_of (drop 11 text)) z e in
        record {
          date = take 10 text;
          clock = drop 11 text;
          number = parts.0;
          micros = parts.1;
          date_is = read_text (take 10 text) parts.0 parts.2;
          clock_is = clock_form (drop 11 text) parts.1 parts.3;
          text_is = space_at_ten text (eqb-true (slice_index text 10) 32 h);
          moment_is = parts.4;
        }
    by_space false h e = cc

pub stamp_read : (text : List ℕ) (z : ℤ) → IsStampText text z → stamp_of text ≡ Some z
stamp_read text z is =
    let date = is.date_is in
    let whole : text ≡ date_parts_text date.year date.month date.day ++ codes " " ++ is.clock = is.text_is ∙ ap (λ t. t ++ codes " " ++ is.clock) date.text_is in
    ap stamp_of whole
    ∙ ap₂ joined_stamp (ap day_of (sym date.text_is) ∙ text_of_date is.date is.number date) (clock_read is.clock is.micros is.clock_is)
    ∙ ap Some is.moment_is

pub stamp_texts_are_moments : StampTextsAreMoments
stamp_texts_are_moments text z = (
  λ e. stamp_form text z (stamp_spelled type.Timestamp text z e).1,
  λ is. ap (option_map val.Stamp) (stamp_read text z is),
)
