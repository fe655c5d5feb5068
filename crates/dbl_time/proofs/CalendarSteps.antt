-- The date of a day number.
use Rattle.std.proofs.Common.{subst, to_z, of_z, to_z-of_z, FitsSigned, w16, w32, w64, negsuc, ◌≡◌, ◌∙◌, ℕ, zero, suc, ◌+◌, ◌-◌, ◌<◌, ◌≤◌, min, ℤ, pos, ◌-ℤ◌, int_le, unsigned_abs, Bool, true, false, if◌then◌else◌, nat_le, refl, sym, ap, ap₂, arith, inl, inr}
use Rattle.std.proofs.lemmas.Bool.{and_parts, and_from, leb-true, le-leb, lt-leb, cases_lt, cases_order}
use Rattle.std.proofs.lemmas.Int.{by_lt_z}
use Rattle.jiff_core.specs.Calendar.{days_from_civil, days_in_month, days_of_months, day_count, IsYear, IsCivilDate}
use Rattle.jiff_core.proofs.SignedLemmas.{signed_arith, fits_between}
use Rattle.jiff_core.proofs.CalendarLemmas.{days_from_civil-day_count, day_count-lt_year, day_count-lt_month, day_count-day, day_count-day_of_year, day_count-next_year, day_count-end, days_in_month_bounds, days_of_months-zero, days_of_months_more, days_of_months_all}
use Rattle.jiff_core.proofs.MarchLemmas.{day_count-early}
use borrow.Author.Differences.{up, down, true_is_le, false_is_le}
use Rattle.dbl_time.specs.Dates.{is_day, years_begun, year_of, months_begun, month_of, day_in_month, date_parts_text, date_text, IsInYears}

-- what `is_day` tests
pub record IsDay (year month day : ℕ) : Type 0 where
  pub first_year : 1 ≤ year
  pub last_year : year ≤ 9999
  pub first_month : 1 ≤ month
  pub last_month : month ≤ 12
  pub first_day : 1 ≤ day
  pub last_day : day ≤ days_in_month (pos year) month

pub is_day-IsDay : (year month day : ℕ) → is_day year month day ≡ true → IsDay year month day
is_day-IsDay year month day h =
    let a = and_parts _ (nat_le day (days_in_month (pos year) month)) h in
    let b = and_parts _ (nat_le 1 day) a.0 in
    let c = and_parts _ (nat_le month 12) b.0 in
    let d = and_parts _ (nat_le 1 month) c.0 in
    let e = and_parts (nat_le 1 year) (nat_le year 9999) d.0 in
    record {
      first_year = leb-true _ _ e.0;
      last_year = leb-true _ _ e.1;
      first_month = leb-true _ _ d.1;
      last_month = leb-true _ _ c.1;
      first_day = leb-true _ _ b.1;
      last_day = leb-true _ _ a.1;
    }

pub IsDay-is_day : (year month day : ℕ) → IsDay year month day → is_day year month day ≡ true
IsDay-is_day year month day is =
    and_from _ _ (and_from _ _ (and_from _ _ (and_from _ _ (and_from _ _ (le-leb 1 year is.first_year) (le-leb year 9999 is.last_year)) (le-leb 1 month is.first_month)) (le-leb month 12 is.last_month)) (le-leb 1 day is.first_day)) (le-leb day (days_in_month (pos year) month) is.last_day)

pub civil_from : (year month day : ℕ) → IsDay year month day → IsCivilDate (pos year) month day
civil_from year month day is =
    let a = is.first_year in let b = is.last_year in
    (omega (arith, signed_arith), (is.first_month, is.last_month), (is.first_day, is.last_day))

pub first_day_is : (year month : ℕ) → 1 ≤ year → year ≤ 9999 → 1 ≤ month → month ≤ 12 → IsDay year month 1
first_day_is year month a b c d =
    let long = days_in_month_bounds (pos year) month in
    record { first_year = a; last_year = b; first_month = c; last_month = d; first_day = omega arith; last_day = omega arith }

first_of_year : (year month day : ℕ) → IsDay year month day → day_count (pos year) 1 1 ≤ day_count (pos year) month day
first_of_year year month day is =
    let first = is.first_day in
    let place = day_count-day_of_year (pos year) month day is.first_day in
    omega arith

earlier_year : (last year month day : ℕ) → 1 ≤ last → last < year → IsDay year month day → day_count (pos last) 1 1 < day_count (pos year) month day
earlier_year last year month day low lt is =
    let top = is.last_year in
    day_count-lt_year (pos last) 1 1 (pos year) month day (civil_from last 1 1 (first_day_is last 1 low (omega arith) (omega arith) (omega arith))) is.first_day (omega (arith, signed_arith))

later_year : (last year month day : ℕ) → year < last → IsDay year month day → day_count (pos year) month day < day_count (pos last) 1 1
later_year last year month day lt is =
    day_count-lt_year (pos year) month day (pos last) 1 1 (civil_from year month day is) (omega arith) (omega (arith, signed_arith))

by_counts_le : (a b : ℤ) (m n : ℕ) → up a + 4371953 ≡ down a + m → up b + 4371953 ≡ down b + n → m ≤ n → int_le a b ≡ true
by_counts_le a b m n e f h = sym (true_is_le a b (omega arith))

by_counts_lt : (a b : ℤ) (m n : ℕ) → up a + 4371953 ≡ down a + m → up b + 4371953 ≡ down b + n → n < m → int_le a b ≡ false
by_counts_lt a b m n e f h = sym (false_is_le a b (omega arith))

-- the first of January of a year has come by a day of that year or a later one, and not by a day of an earlier one
year_has_begun : (last year month day : ℕ) → 1 ≤ last → IsDay year month day → int_le (days_from_civil (pos last) 1 1) (days_from_civil (pos year) month day) ≡ nat_le last year
year_has_begun last year month day low is =
    let e = days_from_civil-day_count (pos last) 1 1 in
    let f = days_from_civil-day_count (pos year) month day in
    elim (cases_order last year) [
      | inl same ↦ by_counts_le _ _ _ _ e f (let here = first_of_year year month day is in rw same here) ∙ sym (le-leb last year (omega arith))
      | inr (inl earlier) ↦ by_counts_le _ _ _ _ e f (let lt = earlier_year last year month day low earlier is in omega arith) ∙ sym (le-leb last year (omega arith))
      | inr (inr later) ↦ by_counts_lt _ _ _ _ e f (later_year last year month day later is) ∙ sym (lt-leb last year later)
    ]

one_more : (last n : ℕ) → min last n + (if nat_le (suc last) n then 1 else 0) ≡ min (suc last) n
one_more last n =
    elim (cases_lt last n) [
      | inl below ↦ rw (le-leb (suc last) n (omega arith)) (omega arith)
      | inr at ↦ rw (lt-leb (suc last) n (omega arith)) (omega arith)
    ]

years_begun_is : (last year month day : ℕ) → IsDay year month day → years_begun last (days_from_civil (pos year) month day) ≡ min last year
unfolding years_begun
years_begun_is zero year month day is = omega arith
years_begun_is (suc last) year month day is =
    ap₂ (λ (a : ℕ) (b : Bool). a + (if b then 1 else 0)) (years_begun_is last year month day is) (year_has_begun (suc last) year month day (omega arith) is) ∙ one_more last year

pub year_of-is : (year month day : ℕ) → IsDay year month day → year_of (days_from_civil (pos year) month day) ≡ year
unfolding year_of
year_of-is year month day is = let top = is.last_year in years_begun_is 9999 year month day is ∙ omega arith

-- the same of the months
month_has_begun : (last year month day : ℕ) → 1 ≤ last → last ≤ 12 → IsDay year month day → int_le (days_from_civil (pos year) last 1) (days_from_civil (pos year) month day) ≡ nat_le last month
month_has_begun last year month day low high is =
    let e = days_from_civil-day_count (pos year) last 1 in
    let f = days_from_civil-day_count (pos year) month day in
    let first = is.first_day in
    elim (cases_order last month) [
      | inl same ↦ by_counts_le _ _ _ _ e f (let here = day_count-day (pos year) month day 1 is.first_day (omega arith) in rw same (omega arith)) ∙ sym (le-leb last month (omega arith))
      | inr (inl earlier) ↦ by_counts_le _ _ _ _ e f (let lt = day_count-lt_month (pos year) last 1 month day (civil_from year last 1 (first_day_is year last is.first_year is.last_year low high)) is.first_day earlier in omega arith) ∙ sym (le-leb last month (omega arith))
      | inr (inr later) ↦ by_counts_lt _ _ _ _ e f (day_count-lt_month (pos year) month day last 1 (civil_from year month day is) (omega arith) later) ∙ sym (lt-leb last month later)
    ]

months_begun_is : (last year month day : ℕ) → last ≤ 12 → IsDay year month day → months_begun year last (days_from_civil (pos year) month day) ≡ min last month
unfolding months_begun
months_begun_is zero year month day high is = omega arith
months_begun_is (suc last) year month day high is =
    ap₂ (λ (a : ℕ) (b : Bool). a + (if b then 1 else 0)) (months_begun_is last year month day (omega arith) is) (month_has_begun (suc last) year month day (omega arith) high is) ∙ one_more last month

pub month_of-is : (year month day : ℕ) → IsDay year month day → month_of (days_from_civil (pos year) month day) ≡ month
unfolding month_of
month_of-is year month day is =
    let top = is.last_month in
    ap (λ y. months_begun y 12 (days_from_civil (pos year) month day)) (year_of-is year month day is) ∙ months_begun_is 12 year month day (omega arith) is ∙ omega arith

day_from_first : (year month day : ℕ) → IsDay year month day → days_from_civil (pos year) month day -ℤ days_from_civil (pos year) month 1 ≡ pos (day - 1)
day_from_first year month day is =
    let first = is.first_day in
    omega (arith, signed_arith, days_from_civil-day_count (pos year) month day, days_from_civil-day_count (pos year) month 1, day_count-day (pos year) month day 1 is.first_day (omega arith))

pub day_in_month-is : (year month day : ℕ) → IsDay year month day → day_in_month (days_from_civil (pos year) month day) ≡ day
unfolding day_in_month
day_in_month-is year month day is =
    let first = is.first_day in
    ap₂ (λ (y m : ℕ). unsigned_abs (days_from_civil (pos year) month day -ℤ days_from_civil (pos y) m 1) + 1) (year_of-is year month day is) (month_of-is year month day is)
    ∙ ap (λ z. unsigned_abs z + 1) (day_from_first year month day is) ∙ omega arith

-- the text of a day has the day's parts
pub date_text-parts : (year month day : ℕ) → IsDay year month day → date_text (days_from_civil (pos year) month day) ≡ date_parts_text year month day
unfolding date_text
date_text-parts year month day is = rw (year_of-is year month day is, month_of-is year month day is, day_in_month-is year month day is) refl

-- ---- each day in the years 1 to 9999 has a date

day_count-year_one : day_count (pos 1) 1 1 ≡ 3652791
day_count-year_one = day_count-early (pos 1) 10000 1 1 refl (omega arith) (omega arith) (omega arith)

pub in_years : (year month day : ℕ) → IsDay year month day → IsInYears (days_from_civil (pos year) month day)
in_years year month day is =
    let top = is.last_year in
    let low : day_count (pos 1) 1 1 ≤ day_count (pos year) month day = from_first is.first_year in
    let high = later_year 10000 year month day (omega arith) is in
    let one = day_count-year_one in
    let end = day_count-end in
    let count = days_from_civil-day_count (pos year) month day in
    (omega (arith, signed_arith), omega (arith, signed_arith))
  where
    from_first : 1 ≤ year → day_count (pos 1) 1 1 ≤ day_count (pos year) month day
    from_first first = elim (cases_lt 1 year) [
      | inl later ↦ (let lt = earlier_year 1 year month day (omega arith) later is in omega arith)
      | inr at ↦ (let same : year ≡ 1 = omega arith in let here = first_of_year year month day is in subst (λ (y : ℕ). day_count (pos y) 1 1 ≤ day_count (pos year) month day) same here)
    ]

-- a date whose number lies in these years is in these years
pub from_year_one : (year : ℤ) (month day : ℕ) → IsCivilDate year month day → IsInYears (days_from_civil year month day) → down year < up year
from_year_one year month day is within =
    let count = days_from_civil-day_count year month day in
    let one = day_count-year_one in
    let low = within.0 in
    by_lt_z year (pos 1)
    (λ lt. absurd (let before = day_count-lt_year year month day (pos 1) 1 1 is (omega arith) lt in omega (arith, signed_arith)))
    (λ ge. omega (arith, signed_arith))

-- so its year is a natural number
pub natural_day : (year : ℤ) (month day n : ℕ) → pos n ≡ year → IsCivilDate year month day → IsInYears (days_from_civil year month day) → IsDay n month day
natural_day year month day n same is within =
    let above = from_year_one year month day is within in
    let top = is.0 in
    record {
      first_year = omega (arith, signed_arith);
      last_year = omega (arith, signed_arith, top.1);
      first_month = is.1.0;
      last_month = is.1.1;
      first_day = is.2.0;
      last_day = subst (λ (y : ℤ). day ≤ days_in_month y month) (sym same) is.2.1;
    }

pub year_back : (year : ℤ) → IsYear year → to_z w16 (of_z w16 year) ≡ year
year_back year h =
    let low = h.0 in
    let high = h.1 in
    to_z-of_z (fits_between w16 year (omega (arith, signed_arith), omega (arith, signed_arith)))

pub days_fit : (z : ℤ) → IsInYears z → FitsSigned w32 z
days_fit z h =
    let low = h.0 in
    let high = h.1 in
    fits_between w32 z (omega (arith, signed_arith), omega (arith, signed_arith))

-- a number that went to bits twice
pub widened : (z : ℤ) → FitsSigned w32 z → to_z w64 (of_z w64 (to_z w32 (of_z w32 z))) ≡ z
widened z fits =
    let back : to_z w32 (of_z w32 z) ≡ z = to_z-of_z fits in
    let wide : FitsSigned w64 z = fits_between w64 z (omega (arith, signed_arith), omega (arith, signed_arith)) in
    rw back (to_z-of_z wide)

natural_of : (z : ℤ) → down z < up z → pos (unsigned_abs z) ≡ z
natural_of (pos n) h = refl
natural_of (negsuc n) h = absurd (omega arith)

-- what `civil` answers of a date of jiff's
pub record IsCivilOf (year : ℤ) (month day : ℕ) (number : ℤ) : Type 0 where
  pub not_negative : down year ≤ up year
  pub small : unsigned_abs year < 10000
  pub is_day : is_day (unsigned_abs year) month day ≡ true
  pub number_is : days_from_civil (pos (unsigned_abs year)) month day ≡ number

pub civil_of : (year : ℤ) (month day : ℕ) (number : ℤ) → IsCivilDate year month day → days_from_civil year month day ≡ number → IsInYears number → IsCivilOf year month day number
civil_of year month day number is same within =
    let inside = subst IsInYears (sym same) within in
    let above = from_year_one year month day is inside in
    let natural = natural_of year above in
    let named = natural_day year month day (unsigned_abs year) natural is inside in
    let top = named.last_year in
    record {
      not_negative = omega arith;
      small = omega arith;
      is_day = IsDay-is_day _ _ _ named;
      number_is = subst (λ (y : ℤ). days_from_civil y month day ≡ number) (sym natural) same;
    }

record YearAt (last count : ℕ) : Type 0 where
  year : ℕ
  low : 1 ≤ year
  high : year ≤ last
  begun : day_count (pos year) 1 1 ≤ count
  left : count < day_count (pos (suc year)) 1 1

year_at : (last count : ℕ) → day_count (pos 1) 1 1 ≤ count → count < day_count (pos (suc last)) 1 1 → YearAt last count
year_at zero count low high = absurd (omega arith)
year_at (suc last) count low high = elim (cases_lt count (day_count (pos (suc last)) 1 1)) [
  | inl earlier ↦ (let y = year_at last count low earlier in let top = y.high in record { year = y.year; low = y.low; high = omega arith; begun = y.begun; left = y.left })
  | inr at ↦ record { year = suc last; low = omega arith; high = omega arith; begun = at; left = high }
]

record MonthAt (year : ℤ) (place : ℕ) : Type 0 where
  month : ℕ
  low : 1 ≤ month
  high : month ≤ 12
  begun : days_of_months year (month - 1) ≤ place
  left : place < days_of_months year month

month_at : (year : ℤ) (last place : ℕ) → last ≤ 12 → place < days_of_months year last → MonthAt year place
month_at year zero place top h = absurd (let none = days_of_months-zero year in omega arith)
month_at year (suc last) place top h = elim (cases_lt place (days_of_months year last)) [
  | inl earlier ↦ month_at year last place (omega arith) earlier
  | inr at ↦ record { month = suc last; low = omega arith; high = top; begun = (let back : suc last - 1 ≡ last = omega arith in rw back at); left = h }
]

pub record DateOf (number : ℤ) : Type 0 where
  pub year : ℕ
  pub month : ℕ
  pub day : ℕ
  pub is : IsDay year month day
  pub number_is : days_from_civil (pos year) month day ≡ number

dated : (number : ℤ) (count : ℕ) (y : YearAt 9999 count) → up number + 4371953 ≡ down number + count → DateOf number
dated number count y same =
    let begun = y.begun in
    let left = y.left in
    let year = pos y.year in
    let next = day_count-next_year (pos y.year) (pos (suc y.year)) (omega (arith, signed_arith)) (omega (arith, signed_arith)) in
    let all = days_of_months_all (pos y.year) in
    let m = month_at (pos y.year) 12 (count - day_count (pos y.year) 1 1) (omega arith) (omega arith) in
    in_month number count y same m
  where
    in_month : (number : ℤ) (count : ℕ) (y : YearAt 9999 count) → up number + 4371953 ≡ down number + count → MonthAt (pos y.year) (count - day_count (pos y.year) 1 1) → DateOf number
    in_month number count y same m =
        let day = count - day_count (pos y.year) 1 1 - days_of_months (pos y.year) (m.month - 1) + 1 in
        let more = days_of_months_more (pos y.year) m.month m.low in
        let year_begun = y.begun in
        let month_begun = m.begun in
        let month_left = m.left in
        let place = day_count-day_of_year (pos y.year) m.month day (omega arith) in
        let number_of = days_from_civil-day_count (pos y.year) m.month day in
        record {
          year = y.year;
          month = m.month;
          day = day;
          is = record { first_year = y.low; last_year = y.high; first_month = m.low; last_month = m.high; first_day = omega arith; last_day = omega arith };
          number_is = omega (arith, signed_arith);
        }

pub date_of : (number : ℤ) → IsInYears number → DateOf number
date_of number within =
    let one = day_count-year_one in
    let end = day_count-end in
    let low = within.0 in
    let high = within.1 in
    let count = up number + 4371953 - down number in
    let bounds : (3652791 ≤ count) × (count < 7304850) × (up number + 4371953 ≡ down number + count) = omega (arith, signed_arith) in
    dated number count (year_at 9999 count (omega (arith, bounds.0)) (omega (arith, bounds.1))) bounds.2
