-- Marks as bits, and the records that they mark.
use Rattle.std.proofs.Common.{◌≡◌, ◌∙◌, ℕ, zero, suc, ◌+◌, ◌-◌, ◌*◌, ◌/◌, ◌%◌, ◌^◌, ◌<◌, ◌≤◌, ◌==◌, List, [], ◌∷◌, ◌++◌, Bool, true, false}
use Rattle.std.proofs.Common.{cond, length, reverse, refl, sym, ap, subst, arith, add-one}
use Rattle.std.proofs.Math.Nat.{pow-suc}
use Rattle.std.proofs.Math.Pow.{pow_mono}
use Rattle.std.proofs.lemmas.List.{reverse-append}
use Rattle.dbl_record.specs.declared.record.Record.{Record}
use Rattle.dbl_compact.specs.Kept.{is_kept, kept}
use Rattle.dbl_compact.specs.Marks.{marks, marked, bits, all_bits, marks_in}

pub twice : (count : ℕ) → 2 ^ (count + 1) ≡ 2 ^ count * 2
twice count = ap (λ n. 2 ^ n) (add-one count) ∙ pow-suc 2 count

pub few_bits : (count last : ℕ) → count < 8 → last < 2 ^ count → last < 128
few_bits count last few within = omega (arith, within, pow_mono {i = count} {j = 7} (omega arith))

pub bits_true : (count last : ℕ) → bits (count + 1) (last * 2 + 1) ≡ true ∷ bits count last
unfolding bits
bits_true count last =
    let low : (last * 2 + 1) % 2 ≡ 1 = omega arith in
    let high : (last * 2 + 1) / 2 ≡ last = omega arith in
    ap (λ n. bits n (last * 2 + 1)) (add-one count) ∙ ap (λ bit. (bit == 1) ∷ bits count ((last * 2 + 1) / 2)) low ∙ ap (λ rest. true ∷ bits count rest) high

pub bits_false : (count last : ℕ) → bits (count + 1) (last * 2) ≡ false ∷ bits count last
unfolding bits
bits_false count last =
    let low : (last * 2) % 2 ≡ 0 = omega arith in
    let high : (last * 2) / 2 ≡ last = omega arith in
    ap (λ n. bits n (last * 2)) (add-one count) ∙ ap (λ bit. (bit == 1) ∷ bits count ((last * 2) / 2)) low ∙ ap (λ rest. false ∷ bits count rest) high

pub no_bits : (last : ℕ) → bits 0 last ≡ []
unfolding bits
no_bits last = refl

pub first_bit : (count last : ℕ) → 0 < count → bits count last ≡ (last % 2 == 1) ∷ bits (count - 1) (last / 2)
unfolding bits
first_bit zero last some = absurd (omega arith)
first_bit (suc count) last some =
    let less : count ≡ suc count - 1 = omega arith in ap (λ n. (last % 2 == 1) ∷ bits n (last / 2)) less

-- what one more bit shows
pub ruleset one_bit = (twice, few_bits, bits_true, bits_false)

-- a full byte more
pub byte_more : (last : ℕ) (full : List ℕ) → all_bits (reverse (full ++ last ∷ [])) ≡ bits 8 last ++ all_bits (reverse full)
byte_more last full = ap all_bits (reverse-append full (last ∷ []))

pub halves : (count last : ℕ) → 0 < count → last < 2 ^ count → last / 2 < 2 ^ (count - 1)
halves zero last some within = absurd (omega arith)
halves (suc count) last some within =
    let less : count ≡ suc count - 1 = omega arith in
    let half : last / 2 < 2 ^ count = omega (arith, pow-suc 2 count) in
    subst (λ (n : ℕ). last / 2 < 2 ^ n) less half

-- ---- the marks after a change

pub none_marked : (full : List ℕ) → full ≡ [] → marks_in 0 0 full ≡ []
unfolding bits
none_marked full none = ap (λ (bytes : List ℕ). all_bits (reverse bytes)) none

pub push_byte : (count last bit : ℕ) (mark : Bool) (full next : List ℕ) → count ≡ 8 → next ≡ full ++ last ∷ [] → bits 1 bit ≡ mark ∷ bits 0 0
    → marks_in 1 bit next ≡ mark ∷ marks_in count last full
unfolding bits
push_byte count last bit mark full next eight is marks =
    ap (λ (bs : List Bool). bs ++ all_bits (reverse next)) marks
    ∙ ap (λ (rest : List Bool). mark ∷ rest) (ap (λ (bytes : List ℕ). all_bits (reverse bytes)) is ∙ byte_more last full)
    ∙ ap (λ (n : ℕ). mark ∷ marks_in n last full) (sym eight)

pub pop_bit : (count last : ℕ) (full : List ℕ) → 0 < count → marks_in count last full ≡ (last % 2 == 1) ∷ marks_in (count - 1) (last / 2) full
pop_bit count last full some = ap (λ (bs : List Bool). bs ++ all_bits (reverse full)) (first_bit count last some)

no_count : (count last : ℕ) → count ≤ 0 → bits count last ≡ []
unfolding bits
no_count zero last none = refl
no_count (suc count) last none = absurd (omega arith)

pub pop_byte : (count last byte : ℕ) (full rest : List ℕ) → count ≤ 0 → full ≡ rest ++ byte ∷ []
    → marks_in count last full ≡ (byte % 2 == 1) ∷ marks_in 7 (byte / 2) rest
pop_byte count last byte full rest none is =
    ap (λ (bs : List Bool). bs ++ all_bits (reverse full)) (no_count count last none)
    ∙ ap (λ (bytes : List ℕ). all_bits (reverse bytes)) is ∙ byte_more byte rest
    ∙ ap (λ (bs : List Bool). bs ++ all_bits (reverse rest)) (first_bit 8 byte (omega arith))

pub no_bytes : (full : List ℕ) → length full ≡ 0 → full ≡ []
no_bytes [] none = refl
no_bytes (byte ∷ full) none = absurd (omega arith)

pub no_marks : (count last : ℕ) (full : List ℕ) → count ≤ 0 → full ≡ [] → marks_in count last full ≡ []
no_marks count last full none is =
    ap (λ (bs : List Bool). bs ++ all_bits (reverse full)) (no_count count last none) ∙ ap (λ (bytes : List ℕ). all_bits (reverse bytes)) is

-- the marked records are those that are kept
pub marked_are_kept : (placeholder : List ℕ) (items : List Record) → marked (marks placeholder items) items ≡ kept placeholder items
marked_are_kept placeholder [] = refl
marked_are_kept placeholder (item ∷ later) =
    ap (λ (rest : List Record). cond (is_kept placeholder item later) (item ∷ rest) rest) (marked_are_kept placeholder later)
