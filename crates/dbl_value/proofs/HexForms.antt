-- Texts of byte strings and uuids in print.
use Rattle.std.proofs.Common.{◌≡◌, ◌∙◌, ℕ, zero, suc, ◌+◌, ◌*◌, ◌/◌, ◌%◌, ◌<◌, ◌==◌, ◌&&◌, ◌||◌, not, nat_eq, nat_lt, nat_le, ◌≤◌, List, [], ◌∷◌, ◌++◌, take, drop, replicate, slice_index, Bool, true, false, if◌then◌else◌, Option, Some, None, unwrap_or, is_some, option_map, Result, Ok, Err, refl, sym, ap, ap₂, codes, arith, inl, inr}
use Rattle.std.specs.List.{list_all, starts_with}
use Rattle.std.specs.Char.{is_ascii_digit}
use Rattle.std.specs.Result.{result_ok, result_unwrap_or}
use Rattle.std.proofs.lemmas.Bool.{and_parts, and_from, or_cases, not_from_true, eqb-true, ltb-true, leb-true, cases_lt}
use Rattle.std.proofs.lemmas.List.{take-append-drop, append_assoc, append-nil}
use Rattle.std.proofs.lemmas.Slice.Eq.{bytes_eq-Decides}
use Rattle.hex.specs.Hex.{IsBytes, decode_of, decode_pairs, encode_lower, encode_with, lower_digits, hex_digit_value, pair_value}
use Rattle.hex.specs.declared.error.FromHexError.{FromHexError}
use Rattle.hex.proofs.HexLemmas.{decode_of-ok, decode_of-even}
use Rattle.hex.proofs.Pairs.{cons_byte, decode_pairs-ok_pair}
use Rattle.dbl_value_types.specs.declared.column_type.PgType.TheVariants as type
use Rattle.dbl_value_types.specs.declared.value.Val.TheVariants as val
use Rattle.dbl_time.specs.Shapes.{is_lower_hex, has_shape}
use Rattle.dbl_value_types.specs.ByteTexts.{bytes_of, bytes_text}
use Rattle.dbl_value_types.specs.Values.{is_uuid}
use Rattle.dbl_value_types.specs.Forms.{ByteTextsAreHex, AreHex, IsUuidText, UuidTextsAreGroups}
use Rattle.dbl_time.proofs.ShapeLemmas.{digit_from, first_of, none_left, more_shape, no_shape}
use Rattle.dbl_value_types.proofs.KindLemmas.{bytes_spelled}
use Rattle.dbl_value_types.proofs.ByteLemmas.{bytes_of-text, ok_of}

-- ---- a digit in lower case is that of its value

value_or_zero : ℕ → ℕ
value_or_zero c = unwrap_or (hex_digit_value c) 0

goes_back : ℕ → Bool
goes_back c = not (is_lower_hex c) || (is_some (hex_digit_value c) && nat_lt (value_or_zero c) 16 && (slice_index lower_digits (value_or_zero c) == c))

all_go_back : ℕ → Bool
all_go_back zero = true
all_go_back (suc n) = goes_back n && all_go_back n

all_go_back-at : (n c : ℕ) → all_go_back n ≡ true → c < n → goes_back c ≡ true
unfolding all_go_back
all_go_back-at zero c h lt = absurd (omega arith)
all_go_back-at (suc n) c h lt =
    let parts = and_parts (goes_back n) (all_go_back n) h in
    elim (cases_lt c n) [
      | inl below ↦ all_go_back-at n c parts.1 below
      | inr top ↦ (let e : c ≡ n = omega arith in rw e parts.0)
    ]

record HasValue (c : ℕ) : Type 0 where
  value : ℕ
  value_is : hex_digit_value c ≡ Some value
  small : value < 16
  back : slice_index lower_digits value ≡ c

lower_below : (c : ℕ) → is_lower_hex c ≡ true → c < 103
lower_below c h = elim (or_cases (is_ascii_digit c) (nat_le 97 c && nat_le c 102) h) [
  | inl digit ↦ (let top : c ≤ 57 = (digit_from c digit).high in omega arith)
  | inr letter ↦ (let top : c ≤ 102 = leb-true c 102 (and_parts (nat_le 97 c) (nat_le c 102) letter).1 in omega arith)
]

lower_value : (c : ℕ) → is_lower_hex c ≡ true → HasValue c
unfolding all_go_back goes_back value_or_zero
lower_value c h = elim (or_cases _ _ (all_go_back-at 103 c refl (lower_below c h))) [
  | inl other ↦ absurd (let no_digit = not_from_true _ h in apart (sym other ∙ no_digit))
  | inr parts ↦ (let both = and_parts _ _ parts in let first = and_parts _ _ both.0 in found (hex_digit_value c) refl first.0 (ltb-true _ _ first.1) (eqb-true _ _ both.1))
]
  where
    apart : true ≡ false → ⊥
    apart e = cc

    found : (o : Option ℕ) → hex_digit_value c ≡ o → is_some o ≡ true → unwrap_or (hex_digit_value c) 0 < 16 → slice_index lower_digits (unwrap_or (hex_digit_value c) 0) ≡ c → HasValue c
    found (Some v) e s small back = record { value = v; value_is = e; small = rw e at small; back = rw e at back }
    found None e s small back = cc

-- ---- bytes

same_front : (a b : ℕ) (rest : List ℕ) (x y : ℕ) (zs : List ℕ) → a ≡ x → b ≡ y → rest ≡ zs → a ∷ b ∷ rest ≡ x ∷ y ∷ zs
same_front a b rest x y zs p q r = cc

lower_encoded : (i : ℕ) (s bytes : List ℕ) → decode_pairs i s ≡ Ok bytes → list_all is_lower_hex s ≡ true → s ≡ encode_lower bytes
unfolding decode_pairs encode_with
lower_encoded i [] bytes e h = (let same : [] ≡ bytes = ap (λ (r : Result (List ℕ) FromHexError). result_unwrap_or r []) e in rw (← same) refl)
lower_encoded i (a ∷ []) bytes e h = cc e
lower_encoded i (a ∷ b ∷ rest) bytes e h =
    let first = and_parts (is_lower_hex a) (is_lower_hex b && list_all is_lower_hex rest) h in
    let second = and_parts (is_lower_hex b) (list_all is_lower_hex rest) first.1 in
    let high = lower_value a first.0 in
    let low = lower_value b second.0 in
    let pair : pair_value a b i ≡ Ok (high.value * 16 + low.value) = rw (high.value_is, low.value_is) refl in
    let stepped = sym (decode_pairs-ok_pair i a b (high.value * 16 + low.value) rest pair) ∙ e in
    by_rest a b rest bytes high low (decode_pairs (i + 2) rest) (λ bs k. lower_encoded (i + 2) rest bs k second.1) refl stepped
  where
    by_rest : (a b : ℕ) (rest bytes : List ℕ) (high : HasValue a) (low : HasValue b) (r : Result (List ℕ) FromHexError) → ((bs : List ℕ) → r ≡ Ok bs → rest ≡ encode_lower bs) → r ≡ r → cons_byte (high.value * 16 + low.value) r ≡ Ok bytes → a ∷ b ∷ rest ≡ encode_lower bytes
    by_rest a b rest bytes high low (Err x) later s e = cc e
    by_rest a b rest bytes high low (Ok bs) later s e =
        let small = high.small in
        let less = low.small in
        let all : (high.value * 16 + low.value) ∷ bs ≡ bytes = ap (λ (r : Result (List ℕ) FromHexError). result_unwrap_or r []) e in
        let upper : (high.value * 16 + low.value) / 16 ≡ high.value = omega arith in
        let lower : (high.value * 16 + low.value) % 16 ≡ low.value = omega arith in
        let first : a ≡ slice_index lower_digits ((high.value * 16 + low.value) / 16) = sym high.back ∙ ap (slice_index lower_digits) (sym upper) in
        let second : b ≡ slice_index lower_digits ((high.value * 16 + low.value) % 16) = sym low.back ∙ ap (slice_index lower_digits) (sym lower) in
        same_front a b rest _ _ (encode_lower bs) first second (later bs refl) ∙ ap encode_lower all

hex_read : (text bytes : List ℕ) → bytes_of text ≡ Some bytes → IsBytes bytes × (text ≡ bytes_text bytes)
unfolding bytes_of
hex_read text bytes e = by_test (starts_with nat_eq text (codes "\\x") && list_all is_lower_hex (drop 2 text)) refl e
  where
    by_test : (b : Bool) → (starts_with nat_eq text (codes "\\x") && list_all is_lower_hex (drop 2 text)) ≡ b → (if b then result_ok (decode_of (drop 2 text)) else None) ≡ Some bytes → IsBytes bytes × (text ≡ bytes_text bytes)
    by_test true h e =
        let parts = and_parts (starts_with nat_eq text (codes "\\x")) (list_all is_lower_hex (drop 2 text)) h in
        let front : codes "\\x" ≡ take 2 text = (bytes_eq-Decides (codes "\\x") (take 2 text)).0 parts.0 in
        let decoded = ok_of (decode_of (drop 2 text)) bytes e in
        let are = decode_of-ok (drop 2 text) bytes decoded in
        let back : drop 2 text ≡ encode_lower bytes = lower_encoded 0 (drop 2 text) bytes (sym (decode_of-even (drop 2 text) are.0) ∙ decoded) parts.1 in
        (are.3, sym (take-append-drop 2 text) ∙ ap₂ (λ (a b : List ℕ). a ++ b) (sym front) back)
    by_test false h e = cc

pub byte_texts_are_hex : ByteTextsAreHex
byte_texts_are_hex text bytes = (
  λ e. hex_read text bytes (bytes_spelled type.Bytea text bytes e).1,
  λ is. ap (λ t. option_map val.Bytes (bytes_of t)) is.1 ∙ ap (option_map val.Bytes) (bytes_of-text bytes is.0),
)

-- ---- groups of hexadecimal digits

record HasGroup (count : ℕ) (shape text : List ℕ) : Type 0 where
  digits : List ℕ
  rest : List ℕ
  text_is : text ≡ digits ++ rest
  are : AreHex count digits
  has : has_shape shape rest ≡ true

group_of : (count : ℕ) (shape text : List ℕ) → has_shape (replicate count 120 ++ shape) text ≡ true → HasGroup count shape text
group_of zero shape text h = record { digits = []; rest = text; text_is = refl; are = record { many = refl; lower = refl }; has = h }
group_of (suc n) shape text h =
    let first = first_of 120 (replicate n 120 ++ shape) text h in
    let more = group_of n shape first.rest first.has in
    record {
      digits = first.byte ∷ more.digits;
      rest = more.rest;
      text_is = first.text_is ∙ ap (λ t. first.byte ∷ t) more.text_is;
      are = record { many = ap suc more.are.many; lower = and_from _ _ first.stands more.are.lower };
      has = more.has;
    }

group_has : (count : ℕ) (shape digits rest : List ℕ) → AreHex count digits → has_shape shape rest ≡ true → has_shape (replicate count 120 ++ shape) (digits ++ rest) ≡ true
group_has zero shape [] rest are h = h
group_has zero shape (d ∷ ds) rest are h = absurd (let many = are.many in omega arith)
group_has (suc n) shape [] rest are h = absurd (let many = are.many in omega arith)
group_has (suc n) shape (d ∷ ds) rest are h =
    let parts = and_parts (is_lower_hex d) (list_all is_lower_hex ds) are.lower in
    let many = are.many in
    more_shape 120 d (replicate n 120 ++ shape) (ds ++ rest) parts.0 (group_has n shape ds rest (record { many = omega arith; lower = parts.1 }) h)

-- ---- uuids

uuid_groups : (text : List ℕ) → is_uuid text ≡ true → IsUuidText text
uuid_groups text h =
    let a = group_of 8 _ text h in
    let ad = first_of 45 _ a.rest a.has in
    let b = group_of 4 _ ad.rest ad.has in
    let bd = first_of 45 _ b.rest b.has in
    let c = group_of 4 _ bd.rest bd.has in
    let cd = first_of 45 _ c.rest c.has in
    let d = group_of 4 _ cd.rest cd.has in
    let dd = first_of 45 _ d.rest d.has in
    let e = group_of 12 [] dd.rest dd.has in
    let end = none_left e.rest e.has in
    let da : ad.byte ≡ 45 = eqb-true ad.byte 45 ad.stands in
    let db : bd.byte ≡ 45 = eqb-true bd.byte 45 bd.stands in
    let dc : cd.byte ≡ 45 = eqb-true cd.byte 45 cd.stands in
    let de : dd.byte ≡ 45 = eqb-true dd.byte 45 dd.stands in
    record {
      first = a.digits;
      second = b.digits;
      third = c.digits;
      fourth = d.digits;
      fifth = e.digits;
      first_is = a.are;
      second_is = b.are;
      third_is = c.are;
      fourth_is = d.are;
      fifth_is = e.are;
      text_is = chain text a.digits b.digits c.digits d.digits e.digits a.rest ad.rest b.rest bd.rest c.rest cd.rest d.rest dd.rest e.rest ad.byte bd.byte cd.byte dd.byte
          a.text_is ad.text_is b.text_is bd.text_is c.text_is cd.text_is d.text_is dd.text_is e.text_is end da db dc de;
    }
  where
    chain : (t a b c d e ra sa rb sb rc sc rd sd re : List ℕ) (wa wb wc wd : ℕ) → t ≡ a ++ ra → ra ≡ wa ∷ sa → sa ≡ b ++ rb → rb ≡ wb ∷ sb → sb ≡ c ++ rc → rc ≡ wc ∷ sc → sc ≡ d ++ rd → rd ≡ wd ∷ sd → sd ≡ e ++ re → re ≡ [] → wa ≡ 45 → wb ≡ 45 → wc ≡ 45 → wd ≡ 45
        → t ≡ a ++ codes "-" ++ b ++ codes "-" ++ c ++ codes "-" ++ d ++ codes "-" ++ e
    chain t a b c d e ra sa rb sb rc sc rd sd re wa wb wc wd e1 e2 e3 e4 e5 e6 e7 e8 e9 e10 p q r s =
        let last : sd ≡ e = e9 ∙ ap (λ x. e ++ x) e10 ∙ append-nil e in
        let whole : t ≡ a ++ 45 ∷ (b ++ 45 ∷ (c ++ 45 ∷ (d ++ 45 ∷ e))) = cc in
        whole ∙ sym (simp append_assoc)

groups_uuid : (text : List ℕ) → IsUuidText text → is_uuid text ≡ true
groups_uuid text is =
    let whole : text ≡ is.first ++ 45 ∷ (is.second ++ 45 ∷ (is.third ++ 45 ∷ (is.fourth ++ 45 ∷ (is.fifth ++ [])))) = is.text_is ∙ regroup is.first is.second is.third is.fourth is.fifth in
    ap is_uuid whole ∙ group_has 8 _ is.first _ is.first_is (more_shape 45 45 _ _ refl (group_has 4 _ is.second _ is.second_is (more_shape 45 45 _ _ refl (group_has 4 _ is.third _ is.third_is (more_shape 45 45 _ _ refl (group_has 4 _ is.fourth _ is.fourth_is (more_shape 45 45 _ _ refl (group_has 12 [] is.fifth [] is.fifth_is no_shape))))))))
  where
    regroup : (a b c d e : List ℕ) → a ++ codes "-" ++ b ++ codes "-" ++ c ++ codes "-" ++ d ++ codes "-" ++ e ≡ a ++ 45 ∷ (b ++ 45 ∷ (c ++ 45 ∷ (d ++ 45 ∷ (e ++ []))))
    regroup a b c d e = simp (append_assoc, append-nil)

pub uuid_texts_are_groups : UuidTextsAreGroups
uuid_texts_are_groups text t = (λ e. by_test (is_uuid text) refl e, λ is. rw is.0 (rw (groups_uuid text is.1) refl))
  where
    by_test : (b : Bool) → is_uuid text ≡ b → (if b then Some (val.Text text) else None) ≡ Some (val.Text t) → (t ≡ text) × IsUuidText text
    by_test true h e = let same : val.Text text ≡ val.Text t = cc in ((let texts : text ≡ t = cc in sym texts), uuid_groups text h)
    by_test false h e = cc
