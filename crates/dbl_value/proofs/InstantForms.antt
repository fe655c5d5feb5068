-- Texts of timestamps with an offset in print.
use Rattle.std.proofs.Common.{◌≡◌, ◌∙◌, ℕ, ℤ, pos, neg_ℤ, ◌+◌, ◌*◌, ◌/◌, ◌%◌, ◌<◌, ◌≤◌, ◌==◌, ◌||◌, ◌+ℤ◌, ◌-ℤ◌, ◌*ℤ◌, List, [], ◌∷◌, ◌++◌, length, take, drop, slice_index, Bool, true, false, if◌then◌else◌, Option, Some, None, option_map, refl, sym, ap, ap₂, subst, codes, arith, inl, inr, ◌⊎◌}
use Rattle.std.specs.List.{list_all, position}
use Rattle.std.proofs.lemmas.Bool.{or_cases, or_left, or_right, eqb-true}
use Rattle.std.proofs.lemmas.List.{append_assoc, take-append-drop, take_at, drop_at}
use Rattle.jiff_core.proofs.SignedLemmas.{signed_arith}
use Rattle.dbl_value_types.specs.declared.value.Val.TheVariants as val
use Rattle.dbl_time.specs.Shapes.{has_shape, two_at, two_digits}
use Rattle.dbl_time.specs.Dates.{date_parts_text}
use Rattle.dbl_time.specs.Clocks.{clock_seconds}
use Rattle.dbl_time.specs.Stamps.{stamp_of, is_sign, sign_place, is_offset_size, offset_size, signed_offset, offset_of, joined_instant, instant_at, instant_of, is_instant}
use Rattle.dbl_value_types.specs.Values.{instant_if_any}
use Rattle.dbl_value_types.specs.Forms.{IsFractionText, IsStampText, IsOffsetText, IsInstantText, InstantTextsAreInstants}
use Rattle.dbl_time.proofs.ShapeLemmas.{digit_from, digit_is, first_of, none_left, more_shape, no_shape}
use Rattle.dbl_time.proofs.ClockLemmas.{clock_shape, clock_seconds-is}
use Rattle.dbl_value.proofs.ClockForms.{two_are, clock_bytes, AreSeconds, clock_seconds-are, stamp_form, stamp_read}
use Rattle.dbl_time.proofs.StampLemmas.{no_sign, digits_no_sign, place_after}
use Rattle.dbl_value_types.proofs.KindLemmas.{mapped}

-- ---- offsets

hours_bytes : (text : List ℕ) → has_shape (codes "99") text ≡ true → text ≡ two_digits (two_at text 0)
hours_bytes text h =
    let a = first_of 57 _ text h in
    let b = first_of 57 _ a.rest a.has in
    let end = none_left b.rest b.has in
    let whole : text ≡ a.byte ∷ b.byte ∷ [] = chain text a.rest b.rest _ _ a.text_is b.text_is end in
    subst (λ t. t ≡ two_digits (two_at t 0)) (sym whole) (two_are a.byte b.byte (digit_from _ a.stands) (digit_from _ b.stands))
  where
    chain : (t r s : List ℕ) (b c : ℕ) → t ≡ b ∷ r → r ≡ c ∷ s → s ≡ [] → t ≡ b ∷ c ∷ []
    chain t r s b c e f g = cc

minutes_bytes : (text : List ℕ) → has_shape (codes "99:99") text ≡ true → text ≡ two_digits (two_at text 0) ++ codes ":" ++ two_digits (two_at text 3)
minutes_bytes text h =
    let a = first_of 57 _ text h in
    let b = first_of 57 _ a.rest a.has in
    let c = first_of 58 _ b.rest b.has in
    let d = first_of 57 _ c.rest c.has in
    let e = first_of 57 _ d.rest d.has in
    let end = none_left e.rest e.has in
    let colon : c.byte ≡ 58 = eqb-true c.byte 58 c.stands in
    let whole : text ≡ a.byte ∷ b.byte ∷ 58 ∷ d.byte ∷ e.byte ∷ [] = chain text a.rest b.rest c.rest d.rest e.rest _ _ _ _ _ a.text_is b.text_is (c.text_is ∙ ap (λ x. x ∷ c.rest) colon) d.text_is e.text_is end in
    subst (λ t. t ≡ two_digits (two_at t 0) ++ codes ":" ++ two_digits (two_at t 3)) (sym whole)
    (both (a.byte ∷ b.byte ∷ []) (d.byte ∷ e.byte ∷ []) _ _ (two_are _ _ (digit_from _ a.stands) (digit_from _ b.stands)) (two_are _ _ (digit_from _ d.stands) (digit_from _ e.stands)))
  where
    chain : (t r1 r2 r3 r4 r5 : List ℕ) (b1 b2 b3 b4 b5 : ℕ) → t ≡ b1 ∷ r1 → r1 ≡ b2 ∷ r2 → r2 ≡ b3 ∷ r3 → r3 ≡ b4 ∷ r4 → r4 ≡ b5 ∷ r5 → r5 ≡ [] → t ≡ b1 ∷ b2 ∷ b3 ∷ b4 ∷ b5 ∷ []
    chain t r1 r2 r3 r4 r5 b1 b2 b3 b4 b5 e1 e2 e3 e4 e5 e6 = cc

    both : (a b x y : List ℕ) → a ≡ x → b ≡ y → a ++ codes ":" ++ b ≡ x ++ codes ":" ++ y
    both a b x y p q = cc

no_minutes : (text : List ℕ) (n : ℕ) → text ≡ two_digits n → (two_at text 3 ≡ 0) × (two_at text 6 ≡ 0)
no_minutes text n e = subst (λ t. (two_at t 3 ≡ 0) × (two_at t 6 ≡ 0)) (sym e) (omega arith, omega arith)

no_seconds : (text : List ℕ) (n m : ℕ) → text ≡ two_digits n ++ codes ":" ++ two_digits m → two_at text 6 ≡ 0
no_seconds text n m e = subst (λ t. two_at t 6 ≡ 0) (sym e) (omega arith)

offset_form : (text : List ℕ) (size : ℕ) → offset_size text ≡ Some size → IsOffsetText text size
unfolding offset_size
offset_form text size e = by_shape (is_offset_size text) refl e
  where
    formed : AreSeconds 15 (two_at text 0) (two_at text 3) (two_at text 6) size
        → ((text ≡ two_digits (two_at text 0)) × (two_at text 3 ≡ 0) × (two_at text 6 ≡ 0)) ⊎ (((text ≡ two_digits (two_at text 0) ++ codes ":" ++ two_digits (two_at text 3)) × (two_at text 6 ≡ 0)) ⊎ (text ≡ two_digits (two_at text 0) ++ codes ":" ++ two_digits (two_at text 3) ++ codes ":" ++ two_digits (two_at text 6)))
        → IsOffsetText text size
    formed are form = record { hours = two_at text 0; minutes = two_at text 3; seconds = two_at text 6; hours_up = are.hours_up; minutes_up = are.minutes_up; seconds_up = are.seconds_up; text_is = form; size_is = are.sum }

    by_last : AreSeconds 15 (two_at text 0) (two_at text 3) (two_at text 6) size → (has_shape (codes "99") text ≡ true) ⊎ (has_shape (codes "99:99") text ≡ true) → IsOffsetText text size
    by_last are (inl short) = let whole = hours_bytes text short in let none = no_minutes text _ whole in formed are (inl (whole, none.0, none.1))
    by_last are (inr middle) = let whole = minutes_bytes text middle in formed are (inr (inl (whole, no_seconds text _ _ whole)))

    by_first : AreSeconds 15 (two_at text 0) (two_at text 3) (two_at text 6) size → ((has_shape (codes "99") text || has_shape (codes "99:99") text) ≡ true) ⊎ (has_shape (codes "99:99:99") text ≡ true) → IsOffsetText text size
    by_first are (inl some) = by_last are (or_cases (has_shape (codes "99") text) (has_shape (codes "99:99") text) some)
    by_first are (inr long) = formed are (inr (inr (clock_bytes text long)))

    by_shape : (b : Bool) → is_offset_size text ≡ b → (if b then clock_seconds 15 (two_at text 0) (two_at text 3) (two_at text 6) else None) ≡ Some size → IsOffsetText text size
    by_shape true h e = by_first (clock_seconds-are 15 (two_at text 0) (two_at text 3) (two_at text 6) size e) (or_cases (has_shape (codes "99") text || has_shape (codes "99:99") text) (has_shape (codes "99:99:99") text) h)
    by_shape false h e = cc

hours_shape : (n : ℕ) → n < 100 → has_shape (codes "99") (two_digits n) ≡ true
hours_shape n h = more_shape 57 _ _ _ (digit_is (n / 10) (omega arith)) (more_shape 57 _ _ _ (digit_is (n % 10) (omega arith)) no_shape)

minutes_shape : (n m : ℕ) → n < 100 → m < 100 → has_shape (codes "99:99") (two_digits n ++ codes ":" ++ two_digits m) ≡ true
minutes_shape n m h k = more_shape 57 _ _ _ (digit_is (n / 10) (omega arith)) (more_shape 57 _ _ _ (digit_is (n % 10) (omega arith)) (more_shape 58 58 _ _ refl (more_shape 57 _ _ _ (digit_is (m / 10) (omega arith)) (more_shape 57 _ _ _ (digit_is (m % 10) (omega arith)) no_shape))))

sized : (text : List ℕ) (hours minutes seconds size : ℕ) → is_offset_size text ≡ true → two_at text 0 ≡ hours → two_at text 3 ≡ minutes → two_at text 6 ≡ seconds → hours ≤ 15 → minutes ≤ 59 → seconds ≤ 59 → 3600 * hours + 60 * minutes + seconds ≡ size → offset_size text ≡ Some size
unfolding offset_size
sized text hours minutes seconds size shape h m s hours_up minutes_up seconds_up sum = rw (shape, h, m, s) (clock_seconds-is 15 hours minutes seconds hours_up minutes_up seconds_up ∙ ap Some sum)

offset_read : (text : List ℕ) (size : ℕ) → IsOffsetText text size → offset_size text ≡ Some size
offset_read text size is = by_form is.text_is
  where
    by_form : ((text ≡ two_digits is.hours) × (is.minutes ≡ 0) × (is.seconds ≡ 0)) ⊎ (((text ≡ two_digits is.hours ++ codes ":" ++ two_digits is.minutes) × (is.seconds ≡ 0)) ⊎ (text ≡ two_digits is.hours ++ codes ":" ++ two_digits is.minutes ++ codes ":" ++ two_digits is.seconds)) → offset_size text ≡ Some size
    by_form (inl short) =
        let up = is.hours_up in
        ap offset_size short.0 ∙ sized (two_digits is.hours) is.hours is.minutes is.seconds size (or_left _ _ (or_left _ _ (hours_shape is.hours (omega arith)))) (omega arith) (let none = short.1 in omega arith) (let none = short.2 in omega arith) is.hours_up is.minutes_up is.seconds_up is.size_is
    by_form (inr (inl middle)) =
        let up = is.hours_up in
        let top = is.minutes_up in
        ap offset_size middle.0 ∙ sized (two_digits is.hours ++ codes ":" ++ two_digits is.minutes) is.hours is.minutes is.seconds size (or_left _ _ (or_right _ _ (minutes_shape is.hours is.minutes (omega arith) (omega arith)))) (omega arith) (omega arith) (let none = middle.1 in omega arith) is.hours_up is.minutes_up is.seconds_up is.size_is
    by_form (inr (inr long)) =
        let up = is.hours_up in
        let top = is.minutes_up in
        let last = is.seconds_up in
        ap offset_size long ∙ sized (two_digits is.hours ++ codes ":" ++ two_digits is.minutes ++ codes ":" ++ two_digits is.seconds) is.hours is.minutes is.seconds size (or_right _ _ (clock_shape is.hours is.minutes is.seconds (omega arith) (omega arith) (omega arith))) (omega arith) (omega arith) (omega arith) is.hours_up is.minutes_up is.seconds_up is.size_is

-- ---- instants

first_byte : (text : List ℕ) (c : ℕ) → slice_index text 0 ≡ c → 0 < c → text ≡ c ∷ drop 1 text
first_byte [] c e above = absurd (omega arith)
first_byte (x ∷ xs) c e above = ap (λ y. y ∷ xs) e

-- what is read of the text after a stamp
read_signed : (stamp back : List ℕ) (moment offset z : ℤ) → IsStampText stamp moment → offset_of back ≡ Some offset → moment -ℤ offset *ℤ pos 1000000 ≡ z → IsInstantText (stamp ++ back) z
read_signed stamp back moment offset z stamp_is e same = by_size (offset_size (drop 1 back)) refl e
  where
    by_minus : (size : ℕ) → offset_size (drop 1 back) ≡ Some size → (b : Bool) → (slice_index back 0 == 45) ≡ b → (if b then Some (neg_ℤ (pos size)) else None) ≡ Some offset → IsInstantText (stamp ++ back) z
    by_minus size sized true h e =
        let minus : neg_ℤ (pos size) ≡ offset = cc in
        let text : back ≡ 45 ∷ drop 1 back = first_byte back 45 (eqb-true (slice_index back 0) 45 h) (omega arith) in
        record {
          stamp = stamp;
          offset = drop 1 back;
          moment = moment;
          size = size;
          stamp_is = stamp_is;
          offset_is = offset_form (drop 1 back) size sized;
          signed = inr (ap (λ t. stamp ++ t) text ∙ sym (append_assoc stamp (codes "-") (drop 1 back)), (let s : moment -ℤ neg_ℤ (pos size) *ℤ pos 1000000 ≡ z = ap (λ o. moment -ℤ o *ℤ pos 1000000) minus ∙ same in omega (arith, signed_arith)));
        }
    by_minus size sized false h e = cc

    by_plus : (size : ℕ) → offset_size (drop 1 back) ≡ Some size → (b : Bool) → (slice_index back 0 == 43) ≡ b → (if b then Some (pos size) else (if slice_index back 0 == 45 then Some (neg_ℤ (pos size)) else None)) ≡ Some offset → IsInstantText (stamp ++ back) z
    by_plus size sized true h e =
        let plus : pos size ≡ offset = cc in
        let text : back ≡ 43 ∷ drop 1 back = first_byte back 43 (eqb-true (slice_index back 0) 43 h) (omega arith) in
        record {
          stamp = stamp;
          offset = drop 1 back;
          moment = moment;
          size = size;
          stamp_is = stamp_is;
          offset_is = offset_form (drop 1 back) size sized;
          signed = inl (ap (λ t. stamp ++ t) text ∙ sym (append_assoc stamp (codes "+") (drop 1 back)), ap (λ o. moment -ℤ o *ℤ pos 1000000) plus ∙ same);
        }
    by_plus size sized false h e = by_minus size sized (slice_index back 0 == 45) refl e

    by_size : (o : Option ℕ) → offset_size (drop 1 back) ≡ o → signed_offset (slice_index back 0) o ≡ Some offset → IsInstantText (stamp ++ back) z
    by_size None h e = cc
    by_size (Some size) h e = by_plus size h (slice_index back 0 == 43) refl e

some_instant : (a b : Option ℤ) (z : ℤ) → joined_instant a b ≡ Some z → (m : ℤ) × (o : ℤ) × (a ≡ Some m) × (b ≡ Some o) × (m -ℤ o *ℤ pos 1000000 ≡ z)
some_instant None b z e = cc
some_instant (Some m) None z e = cc
some_instant (Some m) (Some o) z e = (m, o, refl, refl, (let same : Some (m -ℤ o *ℤ pos 1000000) ≡ Some z = e in cc))

pub instant_form : (text : List ℕ) (z : ℤ) → instant_of text ≡ Some z → IsInstantText text z
instant_form text z e = by_place (sign_place text) e
  where
    by_place : (o : Option ℕ) → instant_at text o ≡ Some z → IsInstantText text z
    by_place None e = cc
    by_place (Some place) e =
        let parts = some_instant (stamp_of (take (19 + place) text)) (offset_of (drop (19 + place) text)) z e in
        subst (λ t. IsInstantText t z) (take-append-drop (19 + place) text)
        (read_signed (take (19 + place) text) (drop (19 + place) text) parts.0 parts.1 z (stamp_form (take (19 + place) text) parts.0 parts.2) parts.3 parts.4)

fraction_signs : (fraction : List ℕ) (part : ℕ) → IsFractionText fraction part → list_all no_sign fraction ≡ true
fraction_signs fraction part (inl none) = ap (list_all no_sign) none.0
fraction_signs fraction part (inr has) = ap (list_all no_sign) has.text_is ∙ digits_no_sign has.digits has.are_digits

-- where a stamp's text ends
record EndsAt (stamp : List ℕ) : Type 0 where
  fraction : List ℕ
  signs : list_all no_sign fraction ≡ true
  subsequent : (rest : List ℕ) → drop 19 (stamp ++ rest) ≡ fraction ++ rest
  long : length stamp ≡ 19 + length fraction

parts_end : (y m d hours minutes seconds : ℕ) (fraction : List ℕ) → list_all no_sign fraction ≡ true → EndsAt (date_parts_text y m d ++ codes " " ++ (two_digits hours ++ codes ":" ++ two_digits minutes ++ codes ":" ++ two_digits seconds ++ fraction))
parts_end y m d hours minutes seconds fraction signs = record { fraction = fraction; signs = signs; subsequent = λ rest. refl; long = omega arith }

stamp_ends : (stamp : List ℕ) (moment : ℤ) → IsStampText stamp moment → EndsAt stamp
stamp_ends stamp moment is =
    let date = is.date_is in
    let clock = is.clock_is in
    let whole : stamp ≡ date_parts_text date.year date.month date.day ++ codes " " ++ (two_digits clock.hours ++ codes ":" ++ two_digits clock.minutes ++ codes ":" ++ two_digits clock.seconds ++ clock.fraction) = is.text_is ∙ ap₂ (λ (a b : List ℕ). a ++ codes " " ++ b) date.text_is clock.text_is in
    subst EndsAt (sym whole) (parts_end date.year date.month date.day clock.hours clock.minutes clock.seconds clock.fraction (fraction_signs clock.fraction clock.part clock.fraction_is))

signed_read : (stamp offset : List ℕ) (sign : ℕ) (moment shift z : ℤ) → is_sign sign ≡ true → IsStampText stamp moment → offset_of (sign ∷ offset) ≡ Some shift → moment -ℤ shift *ℤ pos 1000000 ≡ z → instant_of (stamp ++ sign ∷ offset) ≡ Some z
unfolding sign_place
signed_read stamp offset sign moment shift z is stamp_is shifted same =
    let ends = stamp_ends stamp moment stamp_is in
    let place : position is_sign (drop 19 (stamp ++ sign ∷ offset)) ≡ Some (length ends.fraction) = ap (position is_sign) (ends.subsequent (sign ∷ offset)) ∙ place_after ends.fraction offset sign is ends.signs in
    ap (instant_at (stamp ++ sign ∷ offset)) place
    ∙ ap₂ joined_instant (ap stamp_of (take_at stamp (sign ∷ offset) _ ends.long) ∙ stamp_read stamp moment stamp_is) (ap offset_of (drop_at stamp (sign ∷ offset) _ ends.long) ∙ shifted)
    ∙ ap Some same

instant_read : (text : List ℕ) (z : ℤ) → IsInstantText text z → instant_of text ≡ Some z
instant_read text z is = by_sign is.signed
  where
    sized : offset_size is.offset ≡ Some is.size
    sized = offset_read is.offset is.size is.offset_is

    by_sign : ((text ≡ is.stamp ++ codes "+" ++ is.offset) × (is.moment -ℤ pos is.size *ℤ pos 1000000 ≡ z)) ⊎ ((text ≡ is.stamp ++ codes "-" ++ is.offset) × (is.moment +ℤ pos is.size *ℤ pos 1000000 ≡ z)) → instant_of text ≡ Some z
    by_sign (inl plus) = ap instant_of (plus.0 ∙ append_assoc is.stamp (codes "+") is.offset) ∙ signed_read is.stamp is.offset 43 is.moment (pos is.size) z refl is.stamp_is (ap (signed_offset 43) sized) plus.1
    by_sign (inr minus) = ap instant_of (minus.0 ∙ append_assoc is.stamp (codes "-") is.offset) ∙ signed_read is.stamp is.offset 45 is.moment (neg_ℤ (pos is.size)) z refl is.stamp_is (ap (signed_offset 45) sized) (let same = minus.1 in omega (arith, signed_arith))

within : (o : Option ℤ) (z : ℤ) → instant_if_any o ≡ Some z → (o ≡ Some z) × (is_instant z ≡ true)
within None z e = cc
within (Some x) z e = by_test (is_instant x) refl e
  where
    by_test : (b : Bool) → is_instant x ≡ b → (if b then Some x else None) ≡ Some z → (Some x ≡ Some z) × (is_instant z ≡ true)
    by_test true h e = let same : x ≡ z = cc in (ap Some same, subst (λ y. is_instant y ≡ true) same h)
    by_test false h e = cc

pub instant_texts_are_instants : InstantTextsAreInstants
instant_texts_are_instants text z = (
  λ e.
      let m = mapped val.StampTz (instant_if_any (instant_of text)) (val.StampTz z) e in
      let same : m.0 ≡ z = (let values : val.StampTz m.0 ≡ val.StampTz z = m.2 in cc) in
      let read = within (instant_of text) z (m.1 ∙ ap Some same) in
      (instant_form text z read.0, read.1),
  λ is. ap (λ o. option_map val.StampTz (instant_if_any o)) (instant_read text z is.0) ∙ ap (λ b. option_map val.StampTz (if b then Some z else None)) is.1,
)
