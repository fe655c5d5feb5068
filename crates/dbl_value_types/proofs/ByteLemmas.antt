-- Byte strings and their texts.
use Rattle.std.proofs.Common.{◌≡◌, ℕ, zero, suc, ◌/◌, ◌%◌, ◌<◌, ◌&&◌, nat_eq, List, [], ◌∷◌, drop, slice_index, Bool, true, false, if◌then◌else◌, Some, None, Result, Ok, Err, refl, ap, arith, codes, inl, inr}
use Rattle.std.specs.List.{list_all, starts_with}
use Rattle.std.specs.Result.{result_ok}
use Rattle.std.proofs.lemmas.Bool.{and_parts, and_from, cases_lt}
use Rattle.hex.specs.Hex.{IsBytes, decode_of, encode_lower, encode_with, lower_digits}
use Rattle.hex.proofs.HexLemmas.{decode_of-encode_lower, decode_of-ok}
use Rattle.dbl_time.specs.Shapes.{is_lower_hex}
use Rattle.dbl_value_types.specs.ByteTexts.{bytes_of, bytes_text}

-- each of the sixteen digits is one in lower case
all_lower : ℕ → Bool
all_lower zero = true
all_lower (suc n) = is_lower_hex (slice_index lower_digits n) && all_lower n

all_lower-at : (n k : ℕ) → all_lower n ≡ true → k < n → is_lower_hex (slice_index lower_digits k) ≡ true
unfolding all_lower
all_lower-at zero k h lt = absurd (omega arith)
all_lower-at (suc n) k h lt =
    let parts = and_parts (is_lower_hex (slice_index lower_digits n)) (all_lower n) h in
    elim (cases_lt k n) [
      | inl below ↦ all_lower-at n k parts.1 below
      | inr top ↦ (let e : k ≡ n = omega arith in rw e parts.0)
    ]

lower_digit : (k : ℕ) → k < 16 → is_lower_hex (slice_index lower_digits k) ≡ true
unfolding all_lower
lower_digit k h = all_lower-at 16 k refl h

encoded_lower : (bytes : List ℕ) → IsBytes bytes → list_all is_lower_hex (encode_lower bytes) ≡ true
unfolding encode_with
encoded_lower [] h = refl
encoded_lower (b ∷ bytes) h =
    let small : b < 256 = h 0 in
    and_from _ _ (lower_digit (b / 16) (omega arith)) (and_from _ _ (lower_digit (b % 16) (omega arith)) (encoded_lower bytes (λ k. h (suc k))))

-- the text of bytes spells them
pub bytes_of-text : (bytes : List ℕ) → IsBytes bytes → bytes_of (bytes_text bytes) ≡ Some bytes
unfolding bytes_of
bytes_of-text bytes h = rw (encoded_lower bytes h) (ap result_ok (decode_of-encode_lower bytes h))

pub ok_of : {E : Type 0} (r : Result (List ℕ) E) (bytes : List ℕ) → result_ok r ≡ Some bytes → r ≡ Ok bytes
ok_of (Ok x) bytes e = ap Ok (let same : Some x ≡ Some bytes = e in cc)
ok_of (Err x) bytes e = cc

-- what is read of a text are bytes
pub bytes_of-IsBytes : (text bytes : List ℕ) → bytes_of text ≡ Some bytes → IsBytes bytes
unfolding bytes_of
bytes_of-IsBytes text bytes e = by_test (starts_with nat_eq text (codes "\\x") && list_all is_lower_hex (drop 2 text)) e
  where
    by_test : (b : Bool) → (if b then result_ok (decode_of (drop 2 text)) else None) ≡ Some bytes → IsBytes bytes
    by_test true e = (decode_of-ok (drop 2 text) bytes (ok_of (decode_of (drop 2 text)) bytes e)).3
    by_test false e = cc
