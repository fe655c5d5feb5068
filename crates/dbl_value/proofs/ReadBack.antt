-- The text of a value spells it.
use Rattle.std.proofs.Common.{◌≡◌, ◌∙◌, ℕ, ℤ, pos, true, false, Some, option_map, refl, sym, ap, ◌≤◌, ◌++◌, unsigned_abs, subst, codes}
use Rattle.dbl_value_types.specs.declared.column_type.PgType.TheVariants as type
use Rattle.dbl_value_types.specs.declared.value.Val.TheVariants as val
use Rattle.std.specs.Fmt.{signed_decimal}
use Rattle.dbl_value_types.specs.Values.{SpellsValue, instant_if_any}
use Rattle.dbl_value_types.specs.ByteTexts.{bytes_text}
use Rattle.dbl_time.specs.Dates.{date_text}
use Rattle.dbl_time.specs.Stamps.{is_instant, stamp_text}
use Rattle.dbl_time.specs.Clocks.{clock_text, day_micros}
use Rattle.dbl_value_types.specs.Laws.{TextsReadBack}
use Rattle.dbl_value_types.proofs.KindLemmas.{null_spelled, bool_spelled, int_spelled, limit_of, limit_top, bytes_spelled, date_spelled, time_spelled, stamp_spelled, instant_spelled, text_spelled}
use Rattle.dbl_value_types.proofs.Decimals.{integer_of-IsRead, integer_spelled}
use Rattle.dbl_value_types.proofs.ByteLemmas.{bytes_of-text, bytes_of-IsBytes}
use Rattle.dbl_time.proofs.ClockLemmas.{time_of-text, time_of-bound}
use Rattle.dbl_time.proofs.StampLemmas.{day_of-named, day_of-text, stamp_of-text, stamp_of-instant, instant_of-text}

pub texts_read_back : TextsReadBack
texts_read_back ty val.Null is = absurd (null_spelled ty is.text is.spells)
texts_read_back ty (val.Bool true) is = let same = bool_spelled ty is.text true is.spells in subst (λ t. SpellsValue t (codes "t") (val.Bool true)) (sym same) refl
texts_read_back ty (val.Bool false) is = let same = bool_spelled ty is.text false is.spells in subst (λ t. SpellsValue t (codes "f") (val.Bool false)) (sym same) refl
texts_read_back ty (val.Int z) is =
    let read = int_spelled ty is.text z is.spells in
    read.1 (signed_decimal z) (integer_spelled (limit_of ty) z (limit_top ty) (integer_of-IsRead (limit_of ty) is.text z read.0).within)
texts_read_back ty (val.Text text) is = text_spelled ty is.text text is.spells
texts_read_back ty (val.Bytes bytes) is =
    let read = bytes_spelled ty is.text bytes is.spells in
    subst (λ t. SpellsValue t (bytes_text bytes) (val.Bytes bytes)) (sym read.0) (ap (option_map val.Bytes) (bytes_of-text bytes (bytes_of-IsBytes is.text bytes read.1)))
texts_read_back ty (val.Date day) is =
    let read = date_spelled ty is.text day is.spells in
    subst (λ t. SpellsValue t (date_text day) (val.Date day)) (sym read.0) (ap (option_map val.Date) (day_of-text day (day_of-named is.text day read.1)))
texts_read_back ty (val.Time z) is =
    let read = time_spelled ty is.text z is.spells in
    subst (λ t. SpellsValue t (clock_text (unsigned_abs z)) (val.Time z)) (sym read.0) (time_read z read.1 read.3 (time_of-bound is.text read.1 read.2))
  where
    time_read : (z : ℤ) (micros : ℕ) → z ≡ pos micros → micros ≤ day_micros → SpellsValue type.Time (clock_text (unsigned_abs z)) (val.Time z)
    time_read z micros same below = subst (λ y. SpellsValue type.Time (clock_text (unsigned_abs y)) (val.Time y)) (sym same) (ap (option_map (λ m. val.Time (pos m))) (time_of-text micros below))
texts_read_back ty (val.Stamp z) is =
    let read = stamp_spelled ty is.text z is.spells in
    subst (λ t. SpellsValue t (stamp_text z) (val.Stamp z)) (sym read.0) (ap (option_map val.Stamp) (stamp_of-text z (stamp_of-instant is.text z read.1)))
texts_read_back ty (val.StampTz z) is =
    let read = instant_spelled ty is.text z is.spells in
    subst (λ t. SpellsValue t (stamp_text z ++ codes "+00") (val.StampTz z)) (sym read.0) (ap (λ o. option_map val.StampTz (instant_if_any o)) (instant_of-text z read.1) ∙ ap (option_map val.StampTz) (kept z read.1))
  where
    kept : (z : ℤ) → is_instant z ≡ true → instant_if_any (Some z) ≡ Some z
    kept z h = rw h refl
