-- Texts of dates in print.
use Rattle.std.proofs.Common.{◌≡◌, ◌∙◌, ℕ, ℤ, pos, ◌+◌, ◌-◌, ◌*◌, ◌/◌, ◌%◌, List, [], ◌∷◌, Bool, true, false, if◌then◌else◌, Some, None, refl, sym, ap, subst, codes, arith, option_map}
use Rattle.std.proofs.lemmas.Bool.{eqb-true}
use Rattle.jiff_core.specs.Calendar.{days_from_civil}
use Rattle.dbl_value_types.specs.declared.column_type.PgType.TheVariants as type
use Rattle.dbl_value_types.specs.declared.value.Val.TheVariants as val
use Rattle.dbl_time.specs.Shapes.{has_shape, four_at, two_at}
use Rattle.dbl_time.specs.Dates.{is_day, number_of_day, day_of, date_parts_text, year_of, month_of, day_in_month}
use Rattle.dbl_value_types.specs.Forms.{IsDateText, DateTextsAreDays, DaysAreDates}
use Rattle.dbl_time.proofs.ShapeLemmas.{IsDigit, digit_from, first_of, none_left}
use Rattle.dbl_time.proofs.CalendarSteps.{IsDay, is_day-IsDay, IsDay-is_day, date_of, in_years, year_of-is, month_of-is, day_in_month-is}
use Rattle.dbl_time.proofs.StampLemmas.{day_of-parts}
use Rattle.dbl_value_types.proofs.KindLemmas.{date_spelled}

same_ten : (a b c d e f g h i j a' b' c' d' e' f' g' h' i' j' : ℕ) → a ≡ a' → b ≡ b' → c ≡ c' → d ≡ d' → e ≡ e' → f ≡ f' → g ≡ g' → h ≡ h' → i ≡ i' → j ≡ j'
    → a ∷ b ∷ c ∷ d ∷ e ∷ f ∷ g ∷ h ∷ i ∷ j ∷ [] ≡ a' ∷ b' ∷ c' ∷ d' ∷ e' ∷ f' ∷ g' ∷ h' ∷ i' ∷ j' ∷ []
same_ten a b c d e f g h i j a' b' c' d' e' f' g' h' i' j' p q r s t u v w x y = cc

two_parts : (a b : ℕ) → IsDigit a → IsDigit b → (a ≡ 48 + (10 * (a - 48) + (b - 48)) / 10) × (b ≡ 48 + (10 * (a - 48) + (b - 48)) % 10)
two_parts a b p q =
    let al = p.low in let ah = p.high in let bl = q.low in let bh = q.high in
    (omega arith, omega arith)

four_parts : (a b c d : ℕ) → IsDigit a → IsDigit b → IsDigit c → IsDigit d
    → (a ≡ 48 + (100 * (10 * (a - 48) + (b - 48)) + (10 * (c - 48) + (d - 48))) / 1000)
    × (b ≡ 48 + (100 * (10 * (a - 48) + (b - 48)) + (10 * (c - 48) + (d - 48))) / 100 % 10)
    × (c ≡ 48 + (100 * (10 * (a - 48) + (b - 48)) + (10 * (c - 48) + (d - 48))) / 10 % 10)
    × (d ≡ 48 + (100 * (10 * (a - 48) + (b - 48)) + (10 * (c - 48) + (d - 48))) % 10)
four_parts a b c d p q r s =
    let al = p.low in let ah = p.high in let bl = q.low in let bh = q.high in
    let cl = r.low in let ch = r.high in let dl = s.low in let dh = s.high in
    (omega arith, omega arith, omega arith, omega arith)

ten_are : (a b c d f g i j : ℕ) → IsDigit a → IsDigit b → IsDigit c → IsDigit d → IsDigit f → IsDigit g → IsDigit i → IsDigit j
    → (let t = a ∷ b ∷ c ∷ d ∷ 45 ∷ f ∷ g ∷ 45 ∷ i ∷ j ∷ [] in t ≡ date_parts_text (four_at t 0) (two_at t 5) (two_at t 8))
ten_are a b c d f g i j pa pb pc pd pf pg pi pj =
    let year = four_parts a b c d pa pb pc pd in
    let month = two_parts f g pf pg in
    let day = two_parts i j pi pj in
    same_ten _ _ _ _ _ _ _ _ _ _ _ _ _ _ _ _ _ _ _ _ year.0 year.1 year.2 year.3 refl month.0 month.1 refl day.0 day.1

pub date_bytes : (text : List ℕ) → has_shape (codes "9999-99-99") text ≡ true → text ≡ date_parts_text (four_at text 0) (two_at text 5) (two_at text 8)
date_bytes text h =
    let a = first_of 57 _ text h in
    let b = first_of 57 _ a.rest a.has in
    let c = first_of 57 _ b.rest b.has in
    let d = first_of 57 _ c.rest c.has in
    let e = first_of 45 _ d.rest d.has in
    let f = first_of 57 _ e.rest e.has in
    let g = first_of 57 _ f.rest f.has in
    let m = first_of 45 _ g.rest g.has in
    let i = first_of 57 _ m.rest m.has in
    let j = first_of 57 _ i.rest i.has in
    let end = none_left j.rest j.has in
    let first_dash : e.byte ≡ 45 = eqb-true e.byte 45 e.stands in
    let second_dash : m.byte ≡ 45 = eqb-true m.byte 45 m.stands in
    let whole : text ≡ a.byte ∷ b.byte ∷ c.byte ∷ d.byte ∷ 45 ∷ f.byte ∷ g.byte ∷ 45 ∷ i.byte ∷ j.byte ∷ [] =
    chain text a.rest b.rest c.rest d.rest e.rest f.rest g.rest m.rest i.rest j.rest _ _ _ _ _ _ _ _ _ _ a.text_is b.text_is c.text_is d.text_is (e.text_is ∙ ap (λ x. x ∷ e.rest) first_dash) f.text_is g.text_is (m.text_is ∙ ap (λ x. x ∷ m.rest) second_dash) i.text_is j.text_is end in
    subst (λ t. t ≡ date_parts_text (four_at t 0) (two_at t 5) (two_at t 8)) (sym whole)
    (ten_are a.byte b.byte c.byte d.byte f.byte g.byte i.byte j.byte (digit_from _ a.stands) (digit_from _ b.stands) (digit_from _ c.stands) (digit_from _ d.stands) (digit_from _ f.stands) (digit_from _ g.stands) (digit_from _ i.stands) (digit_from _ j.stands))
  where
    chain : (t r1 r2 r3 r4 r5 r6 r7 r8 r9 r10 : List ℕ) (b1 b2 b3 b4 b5 b6 b7 b8 b9 b10 : ℕ) → t ≡ b1 ∷ r1 → r1 ≡ b2 ∷ r2 → r2 ≡ b3 ∷ r3 → r3 ≡ b4 ∷ r4 → r4 ≡ b5 ∷ r5 → r5 ≡ b6 ∷ r6 → r6 ≡ b7 ∷ r7 → r7 ≡ b8 ∷ r8 → r8 ≡ b9 ∷ r9 → r9 ≡ b10 ∷ r10 → r10 ≡ []
        → t ≡ b1 ∷ b2 ∷ b3 ∷ b4 ∷ b5 ∷ b6 ∷ b7 ∷ b8 ∷ b9 ∷ b10 ∷ []
    chain t r1 r2 r3 r4 r5 r6 r7 r8 r9 r10 b1 b2 b3 b4 b5 b6 b7 b8 b9 b10 e1 e2 e3 e4 e5 e6 e7 e8 e9 e10 e11 = cc

pub read_text : (text : List ℕ) (number : ℤ) → day_of text ≡ Some number → IsDateText text number
unfolding day_of
read_text text number e = by_shape (has_shape (codes "9999-99-99") text) refl e
  where
    by_day : (y m d : ℕ) (b : Bool) → is_day y m d ≡ b → text ≡ date_parts_text y m d → (if b then Some (days_from_civil (pos y) m d) else None) ≡ Some number → IsDateText text number
    by_day y m d true h parts e = record { year = y; month = m; day = d; is_day = h; text_is = parts; number_is = (let same : Some (days_from_civil (pos y) m d) ≡ Some number = e in cc) }
    by_day y m d false h parts e = cc

    by_shape : (b : Bool) → has_shape (codes "9999-99-99") text ≡ b → (if b then number_of_day (four_at text 0) (two_at text 5) (two_at text 8) else None) ≡ Some number → IsDateText text number
    by_shape true h e = by_day (four_at text 0) (two_at text 5) (two_at text 8) (is_day (four_at text 0) (two_at text 5) (two_at text 8)) refl (date_bytes text h) e
    by_shape false h e = cc

pub text_of_date : (text : List ℕ) (number : ℤ) → IsDateText text number → day_of text ≡ Some number
text_of_date text number is = ap day_of is.text_is ∙ day_of-parts _ _ _ (is_day-IsDay _ _ _ is.is_day) ∙ ap Some is.number_is

pub date_texts_are_days : DateTextsAreDays
date_texts_are_days text number = (λ e. read_text text number (date_spelled type.Date text number e).1, λ is. ap (option_map val.Date) (text_of_date text number is))

-- ---- days and dates

one_date : (y m d y' m' d' : ℕ) → IsDay y m d → IsDay y' m' d' → days_from_civil (pos y) m d ≡ days_from_civil (pos y') m' d' → (y ≡ y') × (m ≡ m') × (d ≡ d')
one_date y m d y' m' d' is is' e = (
  sym (year_of-is y m d is) ∙ ap year_of e ∙ year_of-is y' m' d' is',
  sym (month_of-is y m d is) ∙ ap month_of e ∙ month_of-is y' m' d' is',
  sym (day_in_month-is y m d is) ∙ ap day_in_month e ∙ day_in_month-is y' m' d' is',
)

pub days_are_dates : DaysAreDates
days_are_dates = (
  λ number within.
      let date = date_of number within in
      record {
        year = date.year;
        month = date.month;
        day = date.day;
        is_day = IsDay-is_day _ _ _ date.is;
        number_is = date.number_is;
        one = λ y m d h e. one_date y m d date.year date.month date.day (is_day-IsDay y m d h) date.is (e ∙ sym date.number_is);
      },
  λ y m d h. in_years y m d (is_day-IsDay y m d h),
)
