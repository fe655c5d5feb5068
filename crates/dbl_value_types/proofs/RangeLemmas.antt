-- The values of a type are in its range.
use Rattle.std.proofs.Common.{◌≡◌, ℤ, pos, ◌≤ℤ◌, true, arith}
use Rattle.jiff_core.proofs.SignedLemmas.{signed_arith}
use Rattle.dbl_value_types.specs.declared.column_type.PgType.{PgType}
use Rattle.dbl_value_types.specs.declared.value.Val.TheVariants as val
use Rattle.dbl_value_types.specs.Values.{IsOf}
use Rattle.dbl_time.specs.Dates.{IsInYears}
use Rattle.dbl_time.specs.Clocks.{day_micros}
use Rattle.dbl_time.specs.Stamps.{is_instant}
use Rattle.dbl_value_types.proofs.KindLemmas.{date_spelled, time_spelled, stamp_spelled, instant_spelled}
use Rattle.dbl_time.proofs.ClockLemmas.{time_of-bound}
use Rattle.dbl_time.proofs.StampLemmas.{day_of-named, named_in_years, stamp_of-instant}

pub date_in_years : (ty : PgType) (day : ℤ) → IsOf ty (val.Date day) → IsInYears day
date_in_years ty day is = named_in_years day (day_of-named is.text day (date_spelled ty is.text day is.spells).1)

pub time_in_day : (ty : PgType) (z : ℤ) → IsOf ty (val.Time z) → (pos 0 ≤ℤ z) × (z ≤ℤ pos day_micros)
time_in_day ty z is =
    let read = time_spelled ty is.text z is.spells in
    let below = time_of-bound is.text read.1 read.2 in
    let same = read.3 in
    (omega (arith, signed_arith), omega (arith, signed_arith))

pub stamp_in_years : (ty : PgType) (z : ℤ) → IsOf ty (val.Stamp z) → is_instant z ≡ true
stamp_in_years ty z is = stamp_of-instant is.text z (stamp_spelled ty is.text z is.spells).1

pub instant_in_years : (ty : PgType) (z : ℤ) → IsOf ty (val.StampTz z) → is_instant z ≡ true
instant_in_years ty z is = (instant_spelled ty is.text z is.spells).1
