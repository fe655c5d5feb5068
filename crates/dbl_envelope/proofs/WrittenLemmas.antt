-- Texts that a cell isn't written as: bytes have a base64 of one length, and an instant ends in Z.
use Rattle.std.proofs.Common.{◌≡◌, ◌∙◌, ℕ, ℤ, Bool, true, false, eqb, Some, List, [], ◌∷◌, ◌++◌, ◌-◌, ◌<◌, length, replicate, slice_get, if◌then◌else◌, refl, sym, ap, subst, append_assoc, arith}
use Rattle.std.specs.Prelude.{◌/◌, ◌%◌, bytes_eq, codes}
use Rattle.std.proofs.lemmas.Slice.Eq.{bytes_eq-Decides}
use Rattle.std.proofs.lemmas.List.{length-append, length-replicate}
use Rattle.base64.specs.Engines.{standard}
use Rattle.base64.specs.Rfc4648.{encode_symbols, unpadded_len, padding_len, encoded_size}
use Rattle.base64.specs.GeneralPurpose.{encode_of}
use Rattle.std.proofs.lemmas.Bool.{eqb-false}
use Rattle.dbl_time.specs.Dates.{date_text}
use Rattle.dbl_time.specs.Clocks.{seconds_text, six_digits}
use Rattle.std.proofs.lemmas.Option.{slice_get-get_or}
use Rattle.std.proofs.Math.Seq.{get_or-append_seam}
use Rattle.serde_json.specs.Data.{string, number}
use Rattle.serde_json.specs.Find.{of_integer}
use Rattle.dbl_value_types.specs.declared.value.Val.TheVariants as val
use Rattle.dbl_time.specs.Stamps.{zulu_text, day_of_stamp, clock_of_stamp, is_instant}
use Rattle.dbl_model_table.specs.declared.change.Cell.TheVariants.{Given}
use Rattle.dbl_model_event.specs.Clashes.{is_string, is_clash}

is_false : (b : Bool) → (b ≡ true → ⊥) → b ≡ false
is_false true h = absurd (h refl)
is_false false h = refl

symbols : (t m : List ℕ) → length (encode_symbols t m) ≡ unpadded_len (length m)
unfolding encode_symbols
symbols t [] = refl
symbols t (a ∷ []) = refl
symbols t (a ∷ b ∷ []) = refl
symbols t (a ∷ b ∷ c ∷ rest) = omega (arith, symbols t rest)

pub base64_size : (m : List ℕ) → length (encode_of standard m) ≡ encoded_size (length m) true
base64_size m =
    omega (arith, length-append (encode_symbols standard.encode_table m) (replicate (padding_len (length m)) 61), symbols standard.encode_table m, length-replicate {A = ℕ} (padding_len (length m)) 61)

pub other_size : (m text : List ℕ) → eqb (length text) (encoded_size (length m) true) ≡ false → bytes_eq (encode_of standard m) text ≡ false
other_size m text other =
    is_false (bytes_eq (encode_of standard m) text) (λ e. eqb-false _ _ other (ap (λ (t : List ℕ). length t) (sym ((bytes_eq-Decides (encode_of standard m) text).0 e)) ∙ base64_size m))

last_is : (front : List ℕ) → slice_get (front ++ 90 ∷ []) (length (front ++ 90 ∷ []) - 1) ≡ Some 90
last_is front =
    let len : length (front ++ 90 ∷ []) - 1 ≡ length front = omega (arith, length-append front (90 ∷ [])) in
    let within : length front < length (front ++ 90 ∷ []) = omega (arith, length-append front (90 ∷ [])) in
    ap (slice_get (front ++ 90 ∷ [])) len ∙ slice_get-get_or (front ++ 90 ∷ []) (length front) 0 within ∙ ap Some (get_or-append_seam front 90 [] 0)

other_end : (instant : ℤ) (text : List ℕ) → (slice_get text (length text - 1) ≡ Some 90 → ⊥) → bytes_eq (zulu_text instant) text ≡ false
unfolding zulu_text date_text
other_end instant text other =
    let date = date_text (day_of_stamp instant) in
    let clock : List ℕ = codes "T" ++ seconds_text (clock_of_stamp instant / 1000000) ++ codes "." ++ six_digits (clock_of_stamp instant % 1000000) in
    let parts : zulu_text instant ≡ (date ++ clock) ++ codes "Z" = sym (append_assoc date clock (codes "Z")) in
    is_false (bytes_eq (zulu_text instant) text) (λ e.
    other (subst (λ (t : List ℕ). slice_get t (length t - 1) ≡ Some 90) (sym parts ∙ (bytes_eq-Decides (zulu_text instant) text).0 e) (last_is (date ++ clock))))

pub other_instant : (instant : ℤ) (text : List ℕ) → (slice_get text (length text - 1) ≡ Some 90 → ⊥) → is_clash text (Given (val.StampTz instant)) ≡ false
other_instant instant text other = go (is_instant instant)
  where
    go : (b : Bool) → is_string text (if b then string (zulu_text instant) else number (of_integer instant)) ≡ false
    go true = other_end instant text other
    go false = refl
