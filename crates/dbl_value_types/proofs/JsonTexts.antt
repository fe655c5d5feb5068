-- Which cell a JSON text was made of.
use Rattle.std.proofs.Common.{◌≡◌, ◌∙◌, inl, inr, ℕ, ℤ, pos, negsuc, ◌<◌, ◌≤◌, ◌^◌, List, [], ◌∷◌, true, Ok, refl, sym, ap, subst, arith}
use Rattle.std.specs.Fmt.{signed_decimal}
use Rattle.std.proofs.lemmas.Bool.{eqb-false, ltb-true}
use Rattle.std.proofs.lemmas.Fmt.{signed_decimal_injective}
use lib.Signed.{mag}
use borrow.Author.Differences.{le-true}
use Rattle.jiff_core.proofs.SignedLemmas.{signed_arith}
use Rattle.std.proofs.lemmas.Bool.{and_parts}
use Rattle.hex.specs.Hex.{IsBytes}
use Rattle.base64.specs.Engines.{standard}
use Rattle.base64.specs.GeneralPurpose.{encode_of, decode_of}
use Rattle.base64.proofs.EngineFacts.{decode_of-encode_of}
use Rattle.json.specs.Token.{number, string, boolean, null}
use Rattle.json.specs.Lex.{tokens}
use Rattle.json.specs.Tree.{json_tokens, HasNumbers}
use Rattle.json.proofs.Printed.Tokens.{tokens-print}
use Rattle.json.proofs.Printed.Trees.{ArePrintable-json_tokens}
use Rattle.json.proofs.Printed.Decimals.{IsNumber-signed_decimal}
use Rattle.serde_json.specs.Find.{of_integer}
use Rattle.serde_json.specs.Written.{outline, number_text}
use Rattle.serde_json.proofs.Texts.{print-outline}
use Rattle.dbl_value_types.specs.declared.column_type.PgType.{PgType}
use Rattle.dbl_value_types.specs.declared.value.Val.{Val}
use Rattle.dbl_value_types.specs.declared.value.Val.TheVariants as val
use Rattle.dbl_value_types.specs.Values.{json_data, json_of, IsOf}
use Rattle.dbl_value_types.specs.Order.{rank}
use Rattle.dbl_value_types.specs.Decimals.{is_within}
use Rattle.dbl_time.specs.Dates.{IsInYears}
use Rattle.dbl_time.specs.Stamps.{is_instant, first_instant, last_instant, zulu_text}
use Rattle.dbl_value_types.specs.Laws.{JsonTellsCells}
use Rattle.dbl_value_types.proofs.KindLemmas.{limit_of, limit_top, spelled_kind, int_spelled, bytes_spelled, date_spelled, time_spelled, stamp_spelled, instant_spelled}
use Rattle.dbl_value_types.proofs.Decimals.{integer_of-IsRead}
use Rattle.dbl_value_types.proofs.ByteLemmas.{bytes_of-IsBytes}
use Rattle.dbl_time.proofs.ClockLemmas.{time_of-bound}
use Rattle.dbl_time.proofs.StampLemmas.{day_of-named, named_in_years, stamp_of-instant}
use Rattle.dbl_time.proofs.ZuluLemmas.{zulu_text-tells}

-- an integer's JSON text is its decimal text
pub number_text-of_integer : (z : ℤ) → number_text (of_integer z) ≡ signed_decimal z
number_text-of_integer (pos n) = refl
number_text-of_integer (negsuc n) = refl

-- what is known of the values of a type
abbrev pub IsInRange : Val → Type 0
IsInRange (val.Int z) = mag z < 2 ^ 63
IsInRange (val.Bytes bytes) = IsBytes bytes
IsInRange (val.Date z) = mag z < 2 ^ 63
IsInRange (val.Time z) = mag z < 2 ^ 63
IsInRange (val.Stamp z) = mag z < 2 ^ 63
IsInRange (val.StampTz z) = is_instant z ≡ true
IsInRange v = Unit {0}

within_mag : (limit : ℕ) (z : ℤ) → limit ≤ 2 ^ 63 → is_within limit z ≡ true → mag z < 2 ^ 63
within_mag limit (pos n) top h = let below : n < limit = ltb-true n limit h in omega arith
within_mag limit (negsuc n) top h = let below : n < limit = ltb-true n limit h in omega arith

days_mag : (z : ℤ) → IsInYears z → mag z < 2 ^ 63
days_mag (pos n) h = let low = h.0 in let high = h.1 in omega (arith, signed_arith)
days_mag (negsuc n) h = let low = h.0 in let high = h.1 in omega (arith, signed_arith)

pub instant_mag : (z : ℤ) → is_instant z ≡ true → mag z < 2 ^ 63
instant_mag (pos n) h = let both = and_parts _ _ h in let low = le-true first_instant (pos n) both.0 in let high = le-true (pos n) last_instant both.1 in omega (arith, signed_arith)
instant_mag (negsuc n) h = let both = and_parts _ _ h in let low = le-true first_instant (negsuc n) both.0 in let high = le-true (negsuc n) last_instant both.1 in omega (arith, signed_arith)

-- values of a type are in range
pub IsOf-IsInRange : (ty : PgType) (v : Val) → IsOf ty v → IsInRange v
IsOf-IsInRange ty (val.Int z) is = let read = int_spelled ty is.text z is.spells in within_mag (limit_of ty) z (limit_top ty) (integer_of-IsRead (limit_of ty) is.text z read.0).within
IsOf-IsInRange ty (val.Bytes bytes) is = bytes_of-IsBytes is.text bytes (bytes_spelled ty is.text bytes is.spells).1
IsOf-IsInRange ty (val.Date z) is = days_mag z (named_in_years z (day_of-named is.text z (date_spelled ty is.text z is.spells).1))
IsOf-IsInRange ty (val.Time z) is =
    let read = time_spelled ty is.text z is.spells in
    let below = time_of-bound is.text read.1 read.2 in
    subst (λ y. mag y < 2 ^ 63) (sym read.3) (omega arith)
IsOf-IsInRange ty (val.Stamp z) is = instant_mag z (stamp_of-instant is.text z (stamp_spelled ty is.text z is.spells).1)
IsOf-IsInRange ty (val.StampTz z) is = (instant_spelled ty is.text z is.spells).1
IsOf-IsInRange ty val.Null is = tt
IsOf-IsInRange ty (val.Bool truth) is = tt
IsOf-IsInRange ty (val.Text text) is = tt

-- the JSON of an instant of a type is its text
pub instant_data : (z : ℤ) → is_instant z ≡ true → json_tokens (outline (json_data (val.StampTz z))) ≡ string (zulu_text z) ∷ []
instant_data z h = rw h refl

number_numbers : (z : ℤ) → mag z < 2 ^ 63 → HasNumbers (outline (json_data (val.Int z)))
number_numbers z h = rw (number_text-of_integer z) (IsNumber-signed_decimal z h)

numbers : (v : Val) → IsInRange v → HasNumbers (outline (json_data v))
numbers val.Null h = tt
numbers (val.Bool truth) h = tt
numbers (val.Int z) h = number_numbers z h
numbers (val.Text t) h = tt
numbers (val.Bytes bytes) h = tt
numbers (val.Date z) h = number_numbers z h
numbers (val.Time z) h = number_numbers z h
numbers (val.Stamp z) h = number_numbers z h
numbers (val.StampTz z) h = rw h tt

tokens-json_of : (v : Val) → IsInRange v → tokens (json_of v) ≡ json_tokens (outline (json_data v))
tokens-json_of v h = ap tokens (sym (print-outline (json_data v))) ∙ tokens-print (json_tokens (outline (json_data v))) (ArePrintable-json_tokens (outline (json_data v)) (numbers v h))

same_integer : (y z : ℤ) → mag y < 2 ^ 63 → mag z < 2 ^ 63 → number (number_text (of_integer y)) ∷ [] ≡ number (number_text (of_integer z)) ∷ [] → y ≡ z
same_integer y z small small' e =
    let texts : number_text (of_integer y) ≡ number_text (of_integer z) = cc in
    signed_decimal_injective y z small small' (sym (number_text-of_integer y) ∙ texts ∙ number_text-of_integer z)

same_bytes : (s t : List ℕ) → IsBytes s → IsBytes t → encode_of standard s ≡ encode_of standard t → s ≡ t
same_bytes s t h k e =
    let decoded : Ok s ≡ Ok t = sym (decode_of-encode_of standard s refl h) ∙ ap (decode_of standard) e ∙ decode_of-encode_of standard t refl k in
    cc

-- values of one kind
same_kind : (v w : Val) → rank v ≡ rank w → IsInRange v → IsInRange w → json_tokens (outline (json_data v)) ≡ json_tokens (outline (json_data w)) → v ≡ w
same_kind val.Null val.Null same h k e = refl
same_kind (val.Bool a) (val.Bool b) same h k e = ap val.Bool (let truths : boolean a ∷ [] ≡ boolean b ∷ [] = e in cc)
same_kind (val.Int y) (val.Int z) same h k e = ap val.Int (same_integer y z h k e)
same_kind (val.Text s) (val.Text t) same h k e = ap val.Text (let texts : string s ∷ [] ≡ string t ∷ [] = e in cc)
same_kind (val.Bytes s) (val.Bytes t) same h k e = ap val.Bytes (same_bytes s t h k (let texts : string (encode_of standard s) ∷ [] ≡ string (encode_of standard t) ∷ [] = e in cc))
same_kind (val.Date y) (val.Date z) same h k e = ap val.Date (same_integer y z h k e)
same_kind (val.Time y) (val.Time z) same h k e = ap val.Time (same_integer y z h k e)
same_kind (val.Stamp y) (val.Stamp z) same h k e = ap val.Stamp (same_integer y z h k e)
same_kind (val.StampTz y) (val.StampTz z) same h k e = ap val.StampTz (zulu_text-tells y z h k (let texts : string (zulu_text y) ∷ [] ≡ string (zulu_text z) ∷ [] = sym (instant_data y h) ∙ e ∙ instant_data z k in cc))
same_kind v w same h k e = absurd (eqb-false (rank v) (rank w) refl same)

-- nothing but Null is null
not_null : (v : Val) → IsInRange v → json_tokens (outline (json_data v)) ≡ null ∷ [] → v ≡ val.Null
not_null val.Null h e = refl
not_null (val.StampTz z) h e = (let texts : string (zulu_text z) ∷ [] ≡ null ∷ [] = sym (instant_data z h) ∙ e in cc)
not_null (val.Bool truth) h e = cc
not_null (val.Int z) h e = cc
not_null (val.Text t) h e = cc
not_null (val.Bytes bytes) h e = cc
not_null (val.Date z) h e = cc
not_null (val.Time z) h e = cc
not_null (val.Stamp z) h e = cc

pub json_tells_cells : JsonTellsCells
json_tells_cells ty v w (inl e) (inl f) same = e ∙ sym f
json_tells_cells ty v w (inl e) (inr is) same =
    let range = IsOf-IsInRange ty w is in
    e ∙ sym (not_null w range (sym (tokens-json_of w range) ∙ ap tokens (sym same) ∙ ap (λ x. tokens (json_of x)) e ∙ tokens-json_of val.Null tt))
json_tells_cells ty v w (inr is) (inl f) same =
    let range = IsOf-IsInRange ty v is in
    not_null v range (sym (tokens-json_of v range) ∙ ap tokens same ∙ ap (λ x. tokens (json_of x)) f ∙ tokens-json_of val.Null tt) ∙ sym f
json_tells_cells ty v w (inr is) (inr are) same =
    let h = IsOf-IsInRange ty v is in
    let k = IsOf-IsInRange ty w are in
    same_kind v w (spelled_kind ty is.text v is.spells ∙ sym (spelled_kind ty are.text w are.spells)) h k (sym (tokens-json_of v h) ∙ ap tokens same ∙ tokens-json_of w k)
