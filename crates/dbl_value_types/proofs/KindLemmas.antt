-- Which kind of value a type's texts spell.
use Rattle.std.proofs.Common.{subst, ◌≡◌, ◌∙◌, ℕ, ℤ, pos, List, Bool, true, false, if◌then◌else◌, Option, Some, None, option_map, refl, sym, ap, arith, ◌^◌, ◌≤◌}
use Rattle.std.proofs.lemmas.Bool.{eqb-false}
use Rattle.dbl_value_types.specs.declared.column_type.PgType.{PgType}
use Rattle.dbl_value_types.specs.declared.column_type.PgType.TheVariants as type
use Rattle.dbl_value_types.specs.declared.value.Val.{Val}
use Rattle.dbl_value_types.specs.declared.value.Val.TheVariants as val
use Rattle.dbl_value_types.specs.Values.{SpellsValue, truth_of, is_uuid, instant_if_any}
use Rattle.dbl_value_types.specs.Decimals.{integer_of}
use Rattle.dbl_time.specs.Dates.{day_of}
use Rattle.dbl_time.specs.Clocks.{time_of}
use Rattle.dbl_time.specs.Stamps.{stamp_of, instant_of, is_instant}
use Rattle.dbl_value_types.specs.ByteTexts.{bytes_of}
use Rattle.dbl_value_types.specs.Order.{rank}

-- the kind of a type's values
abbrev pub kind_of : PgType → ℕ
kind_of type.Bool = 1
kind_of type.Int2 = 2
kind_of type.Int4 = 2
kind_of type.Int8 = 2
kind_of type.Text = 3
kind_of type.Varchar = 3
kind_of type.Bpchar = 3
kind_of type.Json = 3
kind_of type.Jsonb = 3
kind_of type.Numeric = 3
kind_of type.Uuid = 3
kind_of type.Bytea = 4
kind_of type.Date = 5
kind_of type.Time = 6
kind_of type.Timestamp = 7
kind_of type.Timestamptz = 8
kind_of (type.Other oid) = 3

-- the value after a map
pub mapped : {A : Type 0} (f : A → Val) (o : Option A) (v : Val) → option_map f o ≡ Some v → (x : A) × (o ≡ Some x) × (f x ≡ v)
mapped f None v e = cc
mapped f (Some x) v e = (x, refl, cc)

mapped_rank : {A : Type 0} (f : A → Val) (kind : ℕ) → ((x : A) → rank (f x) ≡ kind) → (o : Option A) (v : Val) → option_map f o ≡ Some v → rank v ≡ kind
mapped_rank f kind same o v e = let m = mapped f o v e in ap rank (sym m.2) ∙ same m.0

text_rank : (text : List ℕ) (v : Val) → Some (val.Text text) ≡ Some v → rank v ≡ 3
text_rank text v e = let same : val.Text text ≡ v = cc in ap rank (sym same)

uuid_rank : (b : Bool) (text : List ℕ) (v : Val) → (if b then Some (val.Text text) else None) ≡ Some v → rank v ≡ 3
uuid_rank true text v e = text_rank text v e
uuid_rank false text v e = cc

mapped_int : (o : Option ℤ) (z : ℤ) → option_map val.Int o ≡ Some (val.Int z) → o ≡ Some z
mapped_int (Some y) z e = ap Some (let same : val.Int y ≡ val.Int z = cc in cc)
mapped_int None z e = cc

pub spelled_kind : (ty : PgType) (text : List ℕ) (v : Val) → SpellsValue ty text v → rank v ≡ kind_of ty
spelled_kind type.Bool text v e = mapped_rank val.Bool 1 (λ x. refl) (truth_of text) v e
spelled_kind type.Int2 text v e = mapped_rank val.Int 2 (λ x. refl) (integer_of (2 ^ 15) text) v e
spelled_kind type.Int4 text v e = mapped_rank val.Int 2 (λ x. refl) (integer_of (2 ^ 31) text) v e
spelled_kind type.Int8 text v e = mapped_rank val.Int 2 (λ x. refl) (integer_of (2 ^ 63) text) v e
spelled_kind type.Text text v e = text_rank text v e
spelled_kind type.Varchar text v e = text_rank text v e
spelled_kind type.Bpchar text v e = text_rank text v e
spelled_kind type.Json text v e = text_rank text v e
spelled_kind type.Jsonb text v e = text_rank text v e
spelled_kind type.Numeric text v e = text_rank text v e
spelled_kind type.Uuid text v e = uuid_rank (is_uuid text) text v e
spelled_kind type.Bytea text v e = mapped_rank val.Bytes 4 (λ x. refl) (bytes_of text) v e
spelled_kind type.Date text v e = mapped_rank val.Date 5 (λ x. refl) (day_of text) v e
spelled_kind type.Time text v e = mapped_rank (λ micros. val.Time (pos micros)) 6 (λ x. refl) (time_of text) v e
spelled_kind type.Timestamp text v e = mapped_rank val.Stamp 7 (λ x. refl) (stamp_of text) v e
spelled_kind type.Timestamptz text v e = mapped_rank val.StampTz 8 (λ x. refl) (instant_if_any (instant_of text)) v e
spelled_kind (type.Other oid) text v e = text_rank text v e

-- ---- what a value of each kind was read by

pub null_spelled : (ty : PgType) (text : List ℕ) → SpellsValue ty text val.Null → ⊥
null_spelled ty text e = kind_is ty (spelled_kind ty text val.Null e)
  where
    kind_is : (ty : PgType) → 0 ≡ kind_of ty → ⊥
    kind_is type.Bool h = eqb-false 0 1 refl h
    kind_is ty h = eqb-false 0 (kind_of ty) refl h

pub bool_spelled : (ty : PgType) (text : List ℕ) (truth : Bool) → SpellsValue ty text (val.Bool truth) → ty ≡ type.Bool
bool_spelled type.Bool text truth e = refl
bool_spelled ty text truth e = absurd (eqb-false 1 (kind_of ty) refl (spelled_kind ty text (val.Bool truth) e))

-- the limit of an integer type
abbrev pub limit_of : PgType → ℕ
limit_of type.Int2 = 2 ^ 15
limit_of type.Int4 = 2 ^ 31
limit_of ty = 2 ^ 63

pub limit_top : (ty : PgType) → limit_of ty ≤ 2 ^ 63
limit_top type.Int2 = omega arith
limit_top type.Int4 = omega arith
limit_top ty = omega arith

pub int_spelled : (ty : PgType) (text : List ℕ) (z : ℤ) → SpellsValue ty text (val.Int z) → (integer_of (limit_of ty) text ≡ Some z) × ((t : List ℕ) → integer_of (limit_of ty) t ≡ Some z → SpellsValue ty t (val.Int z))
int_spelled type.Int2 text z e = (mapped_int _ z e, λ t h. ap (option_map val.Int) h)
int_spelled type.Int4 text z e = (mapped_int _ z e, λ t h. ap (option_map val.Int) h)
int_spelled type.Int8 text z e = (mapped_int _ z e, λ t h. ap (option_map val.Int) h)
int_spelled ty text z e = absurd (eqb-false 2 (kind_of ty) refl (spelled_kind ty text (val.Int z) e))

pub bytes_spelled : (ty : PgType) (text bytes : List ℕ) → SpellsValue ty text (val.Bytes bytes) → (ty ≡ type.Bytea) × (bytes_of text ≡ Some bytes)
bytes_spelled type.Bytea text bytes e = let m = mapped val.Bytes (bytes_of text) (val.Bytes bytes) e in (refl, m.1 ∙ ap Some (let same : val.Bytes m.0 ≡ val.Bytes bytes = m.2 in cc))
bytes_spelled ty text bytes e = absurd (eqb-false 4 (kind_of ty) refl (spelled_kind ty text (val.Bytes bytes) e))

pub date_spelled : (ty : PgType) (text : List ℕ) (day : ℤ) → SpellsValue ty text (val.Date day) → (ty ≡ type.Date) × (day_of text ≡ Some day)
date_spelled type.Date text day e = let m = mapped val.Date (day_of text) (val.Date day) e in (refl, m.1 ∙ ap Some (let same : val.Date m.0 ≡ val.Date day = m.2 in cc))
date_spelled ty text day e = absurd (eqb-false 5 (kind_of ty) refl (spelled_kind ty text (val.Date day) e))

pub time_spelled : (ty : PgType) (text : List ℕ) (z : ℤ) → SpellsValue ty text (val.Time z) → (ty ≡ type.Time) × (micros : ℕ) × (time_of text ≡ Some micros) × (z ≡ pos micros)
time_spelled type.Time text z e = let m = mapped (λ micros. val.Time (pos micros)) (time_of text) (val.Time z) e in (refl, m.0, m.1, (let same : val.Time (pos m.0) ≡ val.Time z = m.2 in cc))
time_spelled ty text z e = absurd (eqb-false 6 (kind_of ty) refl (spelled_kind ty text (val.Time z) e))

pub stamp_spelled : (ty : PgType) (text : List ℕ) (z : ℤ) → SpellsValue ty text (val.Stamp z) → (ty ≡ type.Timestamp) × (stamp_of text ≡ Some z)
stamp_spelled type.Timestamp text z e = let m = mapped val.Stamp (stamp_of text) (val.Stamp z) e in (refl, m.1 ∙ ap Some (let same : val.Stamp m.0 ≡ val.Stamp z = m.2 in cc))
stamp_spelled ty text z e = absurd (eqb-false 7 (kind_of ty) refl (spelled_kind ty text (val.Stamp z) e))

instant_within : (o : Option ℤ) (z : ℤ) → instant_if_any o ≡ Some z → is_instant z ≡ true
instant_within None z e = cc
instant_within (Some x) z e = by_test (is_instant x) refl e
  where
    by_test : (b : Bool) → is_instant x ≡ b → (if b then Some x else None) ≡ Some z → is_instant z ≡ true
    by_test true h e = let same : x ≡ z = cc in subst (λ y. is_instant y ≡ true) same h
    by_test false h e = cc

pub instant_spelled : (ty : PgType) (text : List ℕ) (z : ℤ) → SpellsValue ty text (val.StampTz z) → (ty ≡ type.Timestamptz) × (is_instant z ≡ true)
instant_spelled type.Timestamptz text z e = let m = mapped val.StampTz (instant_if_any (instant_of text)) (val.StampTz z) e in (refl, instant_within (instant_of text) z (m.1 ∙ ap Some (let same : val.StampTz m.0 ≡ val.StampTz z = m.2 in cc)))
instant_spelled ty text z e = absurd (eqb-false 8 (kind_of ty) refl (spelled_kind ty text (val.StampTz z) e))

-- a text spells itself at a type of texts
pub text_spelled : (ty : PgType) (text t : List ℕ) → SpellsValue ty text (val.Text t) → SpellsValue ty t (val.Text t)
text_spelled type.Text text t e = refl
text_spelled type.Varchar text t e = refl
text_spelled type.Bpchar text t e = refl
text_spelled type.Json text t e = refl
text_spelled type.Jsonb text t e = refl
text_spelled type.Numeric text t e = refl
text_spelled type.Uuid text t e = uuid_itself (is_uuid text) refl e
  where
    uuid_itself : (b : Bool) → is_uuid text ≡ b → (if b then Some (val.Text text) else None) ≡ Some (val.Text t) → SpellsValue type.Uuid t (val.Text t)
    uuid_itself true h e = let same : val.Text text ≡ val.Text t = cc in let texts : text ≡ t = cc in subst (λ s. SpellsValue type.Uuid s (val.Text s)) texts (rw h refl)
    uuid_itself false h e = cc
text_spelled (type.Other oid) text t e = refl
text_spelled ty text t e = absurd (eqb-false 3 (kind_of ty) refl (spelled_kind ty text (val.Text t) e))
