-- A mask is a text, and no longer than the text that it masks.
use Rattle.std.proofs.Common.{◌≡◌, ◌∙◌, ℕ, zero, suc, ◌≤◌, min, true, List, [], ◌∷◌, ◌++◌, length, map, take, drop, replicate}
use Rattle.std.proofs.Common.{refl, sym, ap, subst, arith}
use Rattle.std.specs.Prelude.{chars, encode_utf8_all, IsUtf8, IsAscii}
use Rattle.std.proofs.lemmas.Bool.{and_parts, and_from}
use Rattle.std.proofs.lemmas.List.{length-append, length-replicate, take-append-drop}
use Rattle.std.proofs.lemmas.Str.{chars-encodes, encodes-append, encodes-IsAscii, IsUtf8-from_ascii, length-le-encodes}
use lib.Utf8.{scalars, scalar}
use Rattle.dbl_hooks_masks.specs.declared.mask.Mask.{Mask}
use Rattle.dbl_hooks_masks.specs.declared.mask.Mask.TheVariants.{Stars, First}
use Rattle.dbl_hooks_masks.specs.Masks.{stars, masked}

-- ---- asterisks

stars_ascii : (n : ℕ) → IsAscii (replicate n 42)
stars_ascii zero i = omega arith
stars_ascii (suc n) zero = omega arith
stars_ascii (suc n) (suc i) = stars_ascii n i

-- each of the first characters as an asterisk
stars_among : (n : ℕ) (cs : List ℕ) → map {B = ℕ} (λ (c : ℕ). 42) (take n cs) ≡ replicate (min n (length cs)) 42
stars_among zero cs =
    let none : 0 ≡ min 0 (length cs) = omega arith in
    ap (λ (k : ℕ). replicate {A = ℕ} k 42) none
stars_among (suc n) [] =
    let none : 0 ≡ min (suc n) 0 = omega arith in
    ap (λ (k : ℕ). replicate {A = ℕ} k 42) none
stars_among (suc n) (c ∷ cs) =
    let more : suc (min n (length cs)) ≡ min (suc n) (suc (length cs)) = omega arith in
    ap (λ (l : List ℕ). 42 ∷ l) (stars_among n cs) ∙ ap (λ (k : ℕ). replicate {A = ℕ} k 42) more

pub stars_shown : (n : ℕ) (text : List ℕ) → encode_utf8_all (map {B = ℕ} (λ (c : ℕ). 42) (take n (chars text))) ≡ stars n text
unfolding stars
stars_shown n text =
    ap encode_utf8_all (stars_among n (chars text)) ∙ encodes-IsAscii (replicate (min n (length (chars text))) 42) (stars_ascii _)

-- ---- the first characters

scalars_take : (n : ℕ) (cs : List ℕ) → scalars cs ≡ true → scalars (take n cs) ≡ true
scalars_take zero cs all = refl
scalars_take (suc n) [] all = refl
scalars_take (suc n) (c ∷ cs) all = let both = and_parts (scalar c) (scalars cs) all in and_from _ _ both.0 (scalars_take n cs both.1)

-- ---- a mask

pub masked_utf8 : (mask : Mask) (text : List ℕ) → IsUtf8 text → IsUtf8 (masked mask text)
unfolding stars
masked_utf8 (Stars n) text is = IsUtf8-from_ascii _ (stars_ascii (min n (length (chars text))))
masked_utf8 (First n) text is =
    let known : chars text ≡ is.0 = ap chars (sym is.1.1) ∙ chars-encodes is.0 is.1.0 in
    subst (λ (cs : List ℕ). IsUtf8 (encode_utf8_all (take n cs))) (sym known) (take n is.0, (scalars_take n is.0 is.1.0, refl))

pub masked_short : (mask : Mask) (text : List ℕ) → IsUtf8 text → length (masked mask text) ≤ length text
unfolding stars
masked_short (Stars n) text is =
    let known : chars text ≡ is.0 = ap chars (sym is.1.1) ∙ chars-encodes is.0 is.1.0 in
    omega (
      arith,
      length-replicate {A = ℕ} (min n (length (chars text))) 42,
      ap (λ (l : List ℕ). length l) known,
      length-le-encodes is.0,
      ap (λ (l : List ℕ). length l) is.1.1,
    )
masked_short (First n) text is =
    let known : chars text ≡ is.0 = ap chars (sym is.1.1) ∙ chars-encodes is.0 is.1.0 in
    let parts : encode_utf8_all is.0 ≡ encode_utf8_all (take n is.0) ++ encode_utf8_all (drop n is.0) =
    ap encode_utf8_all (sym (take-append-drop n is.0)) ∙ encodes-append (take n is.0) (drop n is.0) in
    omega (
      arith,
      ap (λ (cs : List ℕ). length (encode_utf8_all (take n cs))) known,
      ap (λ (l : List ℕ). length l) parts,
      length-append (encode_utf8_all (take n is.0)) (encode_utf8_all (drop n is.0)),
      ap (λ (l : List ℕ). length l) is.1.1,
    )
