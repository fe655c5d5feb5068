-- The text of an instant in an event tells the instant.
use Rattle.std.proofs.Common.{◌≡◌, ◌∙◌, ℕ, ℤ, ◌+◌, ◌*◌, ◌/◌, ◌%◌, ◌<◌, ◌++◌, List, take, drop, true, Option, Some, refl, sym, ap, ap₂, subst, codes, arith}
use Rattle.dbl_time.specs.Shapes.{two_at}
use Rattle.dbl_time.specs.Dates.{day_of, date_parts_text, date_text}
use Rattle.dbl_time.specs.Clocks.{seconds_of, joined_clock, seconds_text, six_digits}
use Rattle.dbl_time.specs.Stamps.{joined_stamp, is_instant, day_of_stamp, clock_of_stamp, zulu_text}
use Rattle.dbl_time.proofs.CalendarSteps.{date_text-parts}
use Rattle.dbl_time.proofs.ClockLemmas.{seconds_of-text}
use Rattle.dbl_time.proofs.StampLemmas.{IsNamed, named_of, day_in_years, day_of-text, clock_in_day, stamp_is}

-- what such a text says
abbrev read_back : List ℕ → Option ℤ
read_back text = joined_stamp (day_of (take 10 text)) (joined_clock (seconds_of (take 8 (drop 11 text))) (Some (10000 * two_at text 20 + 100 * two_at text 22 + two_at text 24)))

record IsZulu (date : List ℕ) : Type 0 where
  date_is : (seconds micros : ℕ) → take 10 (date ++ codes "T" ++ seconds_text seconds ++ codes "." ++ six_digits micros ++ codes "Z") ≡ date
  clock_is : (seconds micros : ℕ) → take 8 (drop 11 (date ++ codes "T" ++ seconds_text seconds ++ codes "." ++ six_digits micros ++ codes "Z")) ≡ seconds_text seconds
  micros_are : (seconds micros : ℕ) → micros < 1000000 → (let text = date ++ codes "T" ++ seconds_text seconds ++ codes "." ++ six_digits micros ++ codes "Z" in 10000 * two_at text 20 + 100 * two_at text 22 + two_at text 24 ≡ micros)

parts_zulu : (year month day : ℕ) → IsZulu (date_parts_text year month day)
parts_zulu year month day = record { date_is = λ seconds micros. refl; clock_is = λ seconds micros. refl; micros_are = λ seconds micros h. six seconds micros h }
  where
    six : (seconds micros : ℕ) → micros < 1000000 → (let text = date_parts_text year month day ++ codes "T" ++ seconds_text seconds ++ codes "." ++ six_digits micros ++ codes "Z" in 10000 * two_at text 20 + 100 * two_at text 22 + two_at text 24 ≡ micros)
    six seconds micros h = omega arith

date_zulu : (number : ℤ) → IsNamed number → IsZulu (date_text number)
date_zulu number named = subst IsZulu (sym (date_text-parts _ _ _ named.is) ∙ ap date_text named.number_is) (parts_zulu named.year named.month named.day)

reads_back : (z : ℤ) → is_instant z ≡ true → read_back (zulu_text z) ≡ Some z
unfolding zulu_text
reads_back z h =
    let named = named_of (day_of_stamp z) (day_in_years z h) in
    let zulu = date_zulu (day_of_stamp z) named in
    let below = clock_in_day z in
    let seconds = clock_of_stamp z / 1000000 in
    let micros = clock_of_stamp z % 1000000 in
    let clock : joined_clock (Some seconds) (Some micros) ≡ Some (clock_of_stamp z) = ap Some (omega arith) in
    ap₂ joined_stamp (ap day_of (zulu.date_is seconds micros) ∙ day_of-text (day_of_stamp z) named)
    (ap₂ joined_clock (ap seconds_of (zulu.clock_is seconds micros) ∙ seconds_of-text seconds (omega arith)) (ap Some (zulu.micros_are seconds micros (omega arith))) ∙ clock)
    ∙ ap Some (stamp_is z)

pub zulu_text-tells : (y z : ℤ) → is_instant y ≡ true → is_instant z ≡ true → zulu_text y ≡ zulu_text z → y ≡ z
zulu_text-tells y z h k e =
    let same : Some y ≡ Some z = sym (reads_back y h) ∙ ap read_back e ∙ reads_back z k in
    cc
