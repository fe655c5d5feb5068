-- Bytes encode one message of protocol version 2, or have one fault.
use Rattle.std.proofs.Common.{◌≡◌, ◌⊎◌, ℕ, ℤ, zero, suc, ◌+◌, ◌^◌, ◌<◌, ◌≤◌, Bool, true, false, cond, eqb, ltb, List, [], ◌∷◌, ◌++◌, length}
use Rattle.std.proofs.Common.{get_or, take, drop, Option, Some, None, Result, Ok, Err, refl, sym, ap, subst, ◌∙◌, append_assoc, arith, inl, inr}
use Rattle.std.specs.Prelude.{FitsSigned, IfOk, IfErr}
use Rattle.std.specs.Int.{w32, w64, from_be_bytes, to_be_bytes, cast_signed, cast_unsigned}
use Rattle.std.proofs.lemmas.Bool.{cases_Bool, false_from_ne_true, eqb-true, lt-ltb, le-ltb, ltb-true, ltb-false, and_parts}
use Rattle.std.proofs.lemmas.Int.{to_z-of_z, of_z-to_z}
use Rattle.std.proofs.Math.Facts.{Fits-of_z, sfits_to_z}
use Rattle.std.proofs.lemmas.List.{take_at, drop_at, take-append-drop, length-append, append-nil, length-take, length-drop, drop-drop, drop_more, drop_all}
use Rattle.std.proofs.lemmas.Nat.{be_bytes_4, be_bytes_8, from_be_bytes-to_be_bytes_4, from_be_bytes-to_be_bytes_8}
use Rattle.dbl_base.specs.declared.lsn.Lsn.{Lsn}
use Rattle.dbl_pgmsg.specs.declared.error.MsgError.{MsgError}
use Rattle.dbl_pgmsg.specs.declared.error.MsgError.TheVariants.{Truncated, TrailingBytes, TooLong, Memory}
use Rattle.dbl_pgmsg.specs.declared.messages.Message.{Message}
use Rattle.dbl_pgmsg.specs.declared.messages.Message.TheVariants as old
use Rattle.dbl_pgmsg.specs.Grammar.{int32, int64, signed64, spelling, Spells}
use Rattle.dbl_pgmsg.specs.Reading.{Gives, Fails, whole}
use Rattle.dbl_pgmsg.specs.Faults.{IsFault, AreBytes}
use Rattle.dbl_pgmsg.proofs.FieldLaws.{IsBytes, IsBytes-rest, IsBytes-drop, IsBytes-take}
use Rattle.dbl_pgmsg.proofs.RowLaws.{chosen}
use Rattle.dbl_pgmsg.proofs.FaultLaws.{IsBytes-of, whole_takes, whole_again, whole_faulty, whole_refuses}
use Rattle.dbl_stream2.specs.declared.messages.StreamMessage.{StreamMessage}
use Rattle.dbl_stream2.specs.declared.messages.StreamMessage.TheVariants.{Start, Stop, Commit, Abort, Plain, Carried}
use Rattle.dbl_stream2.specs.Wire.{has_xid, carries_xid, width_by, width_of, IsCarried, Encodes, shift_fault}
use Rattle.dbl_stream2.specs.Wire.{IsBytesFault, too_long, cut, trailing, in_xid, carried, plain}
use Rattle.dbl_stream2.specs.Reading.{number4, number8, fixed, with_width, carrying, carried_at, plain_of, by_width, read}

-- ---- what a call to the decoder of version 1 returns

pub gives_whole : (bytes : List ℕ) (r : Result Message MsgError) → IfOk r (λ m. Spells bytes m) → IfErr r (λ e. (e ≡ Memory) ⊎ IsFault bytes e)
    → Gives (λ m. m) r (whole bytes)
gives_whole bytes (Ok m) spells refused = whole_again bytes m spells
gives_whole bytes (Err e) spells (inl memory) = inl memory
gives_whole bytes (Err e) spells (inr fault) = inr (whole_refuses bytes e fault)

-- ---- results

abbrev failed : {A : Type 0} → MsgError → Result A MsgError
failed e = Err e

abbrev done : {A : Type 0} → A → Result A MsgError
done x = Ok x

err_is : {A : Type 0} (d e : MsgError) → failed {A = A} d ≡ failed e → d ≡ e
err_is d e same = cc

ok_is : {A : Type 0} (x y : A) → done x ≡ done y → x ≡ y
ok_is x y same = cc

-- ---- numbers at an offset

len4 : (n : ℕ) → length (int32 n) ≡ 4
unfolding int32
len4 n = refl

int32_again : (n : ℕ) → n < 2 ^ 32 → from_be_bytes w32 (int32 n) ≡ n
unfolding int32
int32_again n lt = from_be_bytes-to_be_bytes_4 n lt

record Field4 (at next : ℕ) (bytes : List ℕ) : Type 0 where
  parts : drop at bytes ≡ int32 (number4 at bytes) ++ drop next bytes
  below : number4 at bytes < 2 ^ 32

field4 : (at next : ℕ) (bytes : List ℕ) → IsBytes bytes → at + 4 ≡ next → next ≤ length bytes → Field4 at next bytes
unfolding int32
field4 at next bytes fits is le =
    let own : IsBytes (take 4 (drop at bytes)) = IsBytes-take 4 (drop at bytes) (IsBytes-drop at bytes fits) in
    let len : length (take 4 (drop at bytes)) ≡ 4 = omega (arith, length-take 4 (drop at bytes), length-drop at bytes) in
    record {
      parts = sym (take-append-drop 4 (drop at bytes)) ∙ ap (λ (r : List ℕ). take 4 (drop at bytes) ++ r) (drop-drop 4 at bytes
          ∙ ap (λ (n : ℕ). drop n bytes) is)
          ∙ ap (λ (w : List ℕ). w ++ drop next bytes) (sym (be_bytes_4 (take 4 (drop at bytes)) _ len own refl));
      below = omega (arith, own 0, own 1, own 2, own 3);
    }

record Field8 (at next : ℕ) (bytes : List ℕ) : Type 0 where
  parts : drop at bytes ≡ int64 (number8 at bytes) ++ drop next bytes
  below : number8 at bytes < 2 ^ 64

field8 : (at next : ℕ) (bytes : List ℕ) → IsBytes bytes → at + 8 ≡ next → next ≤ length bytes → Field8 at next bytes
unfolding int64
field8 at next bytes fits is le =
    let own : IsBytes (take 8 (drop at bytes)) = IsBytes-take 8 (drop at bytes) (IsBytes-drop at bytes fits) in
    let len : length (take 8 (drop at bytes)) ≡ 8 = omega (arith, length-take 8 (drop at bytes), length-drop at bytes) in
    record {
      parts = sym (take-append-drop 8 (drop at bytes)) ∙ ap (λ (r : List ℕ). take 8 (drop at bytes) ++ r) (drop-drop 8 at bytes
          ∙ ap (λ (n : ℕ). drop n bytes) is)
          ∙ ap (λ (w : List ℕ). w ++ drop next bytes) (sym (be_bytes_8 (take 8 (drop at bytes)) _ len own refl));
      below = omega (arith, own 0, own 1, own 2, own 3, own 4, own 5, own 6, own 7);
    }

-- ---- the four new kinds, read

some_is : (a b : ℕ) → Some a ≡ Some b → a ≡ b
some_is a b e = cc

regroup : (tag flags : ℕ) (a b c d : List ℕ) → tag ∷ [] ++ a ++ flags ∷ [] ++ b ++ c ++ d ≡ tag ∷ (a ++ (flags ∷ (b ++ (c ++ d))))
regroup tag flags a b c d = simp append_assoc

start_encoded : (inside : Bool) (tag : ℕ) (rest : List ℕ) → IsBytes (tag ∷ rest) → tag ≡ 83 → length (tag ∷ rest) ≡ 6
    → Encodes inside (tag ∷ rest) (Start (number4 1 (tag ∷ rest)) (get_or (tag ∷ rest) 5 0))
start_encoded inside tag rest fits is len =
    let bytes : List ℕ = tag ∷ rest in
    let xid = field4 1 5 bytes fits refl (omega arith) in
    let last : drop 5 bytes ≡ get_or bytes 5 0 ∷ [] = drop_more bytes 5 0 (omega arith)
    ∙ ap (λ (r : List ℕ). get_or bytes 5 0 ∷ r) (drop_all 6 bytes (omega arith)) in
    (ap (λ (t : ℕ). t ∷ rest) is ∙ ap (λ (r : List ℕ). 83 ∷ r) (xid.parts ∙ ap (λ (r : List ℕ). int32 (number4 1 bytes) ++ r) last), xid.below, fits 5)

abort_encoded : (inside : Bool) (tag : ℕ) (rest : List ℕ) → IsBytes (tag ∷ rest) → tag ≡ 65 → length (tag ∷ rest) ≡ 9
    → Encodes inside (tag ∷ rest) (Abort (number4 1 (tag ∷ rest)) (number4 5 (tag ∷ rest)))
abort_encoded inside tag rest fits is len =
    let bytes : List ℕ = tag ∷ rest in
    let xid = field4 1 5 bytes fits refl (omega arith) in
    let subxid = field4 5 9 bytes fits refl (omega arith) in
    let last : drop 5 bytes ≡ int32 (number4 5 bytes) = subxid.parts ∙ ap (λ (r : List ℕ). int32 (number4 5 bytes) ++ r) (drop_all 9 bytes (omega arith))
    ∙ append-nil (int32 (number4 5 bytes)) in
    (ap (λ (t : ℕ). t ∷ rest) is ∙ ap (λ (r : List ℕ). 65 ∷ r) (xid.parts ∙ ap (λ (r : List ℕ). int32 (number4 1 bytes) ++ r) last), xid.below, subxid.below)

commit_encoded : (inside : Bool) (tag : ℕ) (rest : List ℕ) → IsBytes (tag ∷ rest) → tag ≡ 99 → length (tag ∷ rest) ≡ 30
    → Encodes inside (tag ∷ rest) (Commit (number4 1 (tag ∷ rest)) (get_or (tag ∷ rest) 5 0) (record { 0 = number8 6 (tag ∷ rest) })
    (record { 0 = number8 14 (tag ∷ rest) }) (cast_signed w64 (number8 22 (tag ∷ rest))))
commit_encoded inside tag rest fits is len =
    let bytes : List ℕ = tag ∷ rest in
    let xid = field4 1 5 bytes fits refl (omega arith) in
    let lsn = field8 6 14 bytes fits refl (omega arith) in
    let end_lsn = field8 14 22 bytes fits refl (omega arith) in
    let time = field8 22 30 bytes fits refl (omega arith) in
    let a : List ℕ = int32 (number4 1 bytes) in
    let b : List ℕ = int64 (number8 6 bytes) in
    let c : List ℕ = int64 (number8 14 bytes) in
    let d : List ℕ = int64 (cast_unsigned w64 (cast_signed w64 (number8 22 bytes))) in
    let flags : ℕ = get_or bytes 5 0 in
    let at22 : drop 22 bytes ≡ d = time.parts ∙ ap (λ (r : List ℕ). int64 (number8 22 bytes) ++ r) (drop_all 30 bytes (omega arith))
    ∙ append-nil (int64 (number8 22 bytes))
    ∙ ap int64 (sym (of_z-to_z w64 (number8 22 bytes) time.below)) in
    let at14 : drop 14 bytes ≡ c ++ d = end_lsn.parts ∙ ap (λ (r : List ℕ). c ++ r) at22 in
    let at6 : drop 6 bytes ≡ b ++ (c ++ d) = lsn.parts ∙ ap (λ (r : List ℕ). b ++ r) at14 in
    let at5 : drop 5 bytes ≡ flags ∷ (b ++ (c ++ d)) = drop_more bytes 5 0 (omega arith) ∙ ap (λ (r : List ℕ). flags ∷ r) at6 in
    let at1 : drop 1 bytes ≡ a ++ (flags ∷ (b ++ (c ++ d))) = xid.parts ∙ ap (λ (r : List ℕ). a ++ r) at5 in
    let grouped : 99 ∷ (a ++ (flags ∷ (b ++ (c ++ d)))) ≡ 99 ∷ [] ++ a ++ flags ∷ [] ++ b ++ c ++ d = sym (regroup 99 flags a b c d) in (
      ap (λ (t : ℕ). t ∷ rest) is ∙ ap (λ (r : List ℕ). 99 ∷ r) at1 ∙ grouped,
      xid.below,
      fits 5,
      lsn.below,
      end_lsn.below,
      sfits_to_z (record { fits = time.below }),
    )

module _ (inside : Bool) where
  fixed_encoded : (tag width : ℕ) (rest : List ℕ) → IsBytes (tag ∷ rest) → width_by tag ≡ Some width → length (tag ∷ rest) ≡ width
      → Encodes inside (tag ∷ rest) (fixed (tag ∷ rest))
  unfolding fixed
  fixed_encoded tag width rest fits wide len =
      elim (cases_Bool (eqb tag 83)) [
        | inl is ↦ rw is (start_encoded inside tag rest fits (eqb-true tag 83 is) (len ∙ some_is width 6 (sym wide ∙ rw is refl)))
        | inr un ↦ elim (cases_Bool (eqb tag 69)) [
          | inl is ↦ rw (un, is) (ap (λ (t : ℕ). t ∷ rest) (eqb-true tag 69 is)
              ∙ ap (λ (r : List ℕ). 69 ∷ r) (drop_all 1 (tag ∷ rest) (omega (arith, len, some_is width 1 (sym wide ∙ rw (un, is) refl)))))
          | inr no2 ↦ elim (cases_Bool (eqb tag 99)) [
            | inl is ↦ rw (un, no2, is) (commit_encoded inside tag rest fits (eqb-true tag 99 is) (len ∙ some_is width 30 (sym wide ∙ rw (un, no2, is) refl)))
            | inr no3 ↦ elim (cases_Bool (eqb tag 65)) [
              | inl is ↦ rw (un, no2, no3) (abort_encoded inside tag rest fits (eqb-true tag 65 is) (len
                  ∙ some_is width 9 (sym wide ∙ rw (un, no2, no3, is) refl)))
              | inr no4 ↦ let none : width_by tag ≡ None = rw (un, no2, no3, no4) refl in let both = sym none ∙ wide in absurd cc
            ]
          ]
        ]
      ]

  -- a message of one of the new kinds is read
  width_encoded : (bytes : List ℕ) (width : ℕ) (m : StreamMessage) → IsBytes bytes → width_of bytes ≡ Some width → with_width width bytes ≡ done m
      → Encodes inside bytes m
  unfolding with_width
  width_encoded [] width m fits wide e = absurd cc
  width_encoded (tag ∷ rest) width m fits wide e =
      elim (chosen (ltb (length (tag ∷ rest)) width) _ _ _ e) [
        | inl p ↦ absurd (let q = p.1 in cc)
        | inr p ↦ elim (chosen (ltb width (length (tag ∷ rest))) _ _ _ p.1) [
          | inl q ↦ absurd (let r = q.1 in cc)
          | inr q ↦
              let len : length (tag ∷ rest) ≡ width = omega (arith, ltb-false _ _ p.0, ltb-false _ _ q.0) in
              subst (λ (y : StreamMessage). Encodes inside (tag ∷ rest) y) (ok_is (fixed (tag ∷ rest)) m q.1) (fixed_encoded tag width rest fits wide len)
        ]
      ]

  width_fault : (bytes : List ℕ) (width : ℕ) (e : MsgError) → length bytes ≤ 16777216 → width_of bytes ≡ Some width → with_width width bytes ≡ failed e
      → IsBytesFault inside bytes e
  unfolding with_width
  width_fault bytes width e le wide same =
      elim (chosen (ltb (length bytes) width) _ _ _ same) [
        | inl p ↦ cut width le wide (ltb-true _ _ p.0) (sym (err_is {A = StreamMessage} _ e p.1))
        | inr p ↦ elim (chosen (ltb width (length bytes)) _ _ _ p.1) [
          | inl q ↦ trailing width le wide (ltb-true _ _ q.0) (sym (err_is {A = StreamMessage} _ e q.1))
          | inr q ↦ absurd (let r = q.1 in cc)
        ]
      ]

  -- a message with an xid is read
  carrying_ok : (xid : ℕ) (r : Result Message MsgError) (m : StreamMessage) → carrying xid r ≡ done m → (own : Message) × (r ≡ Ok own) × (Carried xid own ≡ m)
  carrying_ok xid (Ok own) m e = (own, refl, ok_is (Carried xid own) m e)
  carrying_ok xid (Err d) m e = absurd cc

  carrying_err : (xid : ℕ) (r : Result Message MsgError) (e : MsgError) → carrying xid r ≡ failed e → (own : MsgError) × (r ≡ Err own) × (shift_fault own ≡ e)
  carrying_err xid (Ok m) e same = absurd cc
  carrying_err xid (Err own) e same = (own, refl, err_is {A = StreamMessage} (shift_fault own) e same)

  IsBytes-after_tag : (tag : ℕ) (rest : List ℕ) → IsBytes (tag ∷ rest) → IsBytes (tag ∷ drop 4 rest)
  IsBytes-after_tag tag rest fits zero = fits 0
  IsBytes-after_tag tag rest fits (suc i) = IsBytes-drop 4 rest (IsBytes-rest tag rest fits) i

  carried_encoded : (tag : ℕ) (rest : List ℕ) (m : StreamMessage) → IsBytes (tag ∷ rest) → length (tag ∷ rest) ≤ 16777216
      → carries_xid inside (tag ∷ rest) ≡ true → carried_at (tag ∷ rest) ≡ done m → Encodes inside (tag ∷ rest) m
  unfolding carried_at
  carried_encoded tag rest m fits le wants e =
      elim (chosen (ltb (length rest) 4) _ _ _ e) [
        | inl p ↦ absurd (let q = p.1 in cc)
        | inr p ↦
            let c = carrying_ok (from_be_bytes w32 (take 4 rest)) (whole (tag ∷ drop 4 rest)) m p.1 in
            let xid = field4 1 5 (tag ∷ rest) fits refl (omega (arith, ltb-false _ _ p.0)) in
            let made : IsCarried (tag ∷ rest) (number4 1 (tag ∷ rest)) c.0 = record {
              tag = tag;
              fields = drop 4 rest;
              spells = whole_takes (tag ∷ drop 4 rest) c.0 (IsBytes-after_tag tag rest fits) c.1;
              fits = xid.below;
              parts = ap (λ (r : List ℕ). tag ∷ r) xid.parts;
              short = le;
            } in
            subst (λ (y : StreamMessage). Encodes inside (tag ∷ rest) y) c.2 (made, wants)
      ]

  carried_fault : (tag : ℕ) (rest : List ℕ) (e : MsgError) → IsBytes (tag ∷ rest) → length (tag ∷ rest) ≤ 16777216 → carries_xid inside (tag ∷ rest) ≡ true
      → carried_at (tag ∷ rest) ≡ failed e → IsBytesFault inside (tag ∷ rest) e
  unfolding carried_at
  carried_fault tag rest e fits le wants same =
      elim (chosen (ltb (length rest) 4) _ _ _ same) [
        | inl p ↦
            let lt : length rest < 4 = ltb-true _ _ p.0 in
            let same : length rest + 1 ≡ length (tag ∷ rest) = omega arith in
            let place : Truncated (length rest + 1) ≡ Truncated (length (tag ∷ rest)) = ap (λ (n : ℕ). Truncated n) same in
            in_xid le wants (omega arith) (sym (err_is {A = StreamMessage} (Truncated (length rest + 1)) e p.1) ∙ place)
        | inr p ↦
            let c = carrying_err (from_be_bytes w32 (take 4 rest)) (whole (tag ∷ drop 4 rest)) e p.1 in
            let long : 4 ≤ length rest = ltb-false _ _ p.0 in
            carried tag (take 4 rest) (drop 4 rest) c.0 le wants (ap (λ (r : List ℕ). tag ∷ r) (sym (take-append-drop 4 rest)))
            (omega (arith, length-take 4 rest))
            (whole_faulty (tag ∷ drop 4 rest) c.0 (IsBytes-after_tag tag rest fits) c.1) (sym c.2)
      ]

  plain_ok : (r : Result Message MsgError) (m : StreamMessage) → plain_of r ≡ done m → (own : Message) × (r ≡ Ok own) × (Plain own ≡ m)
  plain_ok (Ok own) m e = (own, refl, ok_is (Plain own) m e)
  plain_ok (Err d) m e = absurd cc

  plain_err : (r : Result Message MsgError) (e : MsgError) → plain_of r ≡ failed e → r ≡ Err e
  plain_err (Ok m) e same = absurd cc
  plain_err (Err d) e same = ap (λ (x : MsgError). Err x) (err_is {A = StreamMessage} d e same)

  wanted_encoded : (bytes : List ℕ) (m : StreamMessage) → IsBytes bytes → length bytes ≤ 16777216 → carries_xid inside bytes ≡ true → carried_at bytes ≡ done m
      → Encodes inside bytes m
  wanted_encoded [] m fits le wants e = absurd cc
  wanted_encoded (tag ∷ rest) m fits le wants e = carried_encoded tag rest m fits le wants e

  wanted_fault : (bytes : List ℕ) (e : MsgError) → IsBytes bytes → length bytes ≤ 16777216 → carries_xid inside bytes ≡ true → carried_at bytes ≡ failed e
      → IsBytesFault inside bytes e
  wanted_fault [] e fits le wants same = absurd cc
  wanted_fault (tag ∷ rest) e fits le wants same = carried_fault tag rest e fits le wants same

  short_encoded : (bytes : List ℕ) (m : StreamMessage) (o : Option ℕ) → IsBytes bytes → length bytes ≤ 16777216 → width_of bytes ≡ o
      → by_width inside bytes o ≡ done m → Encodes inside bytes m
  short_encoded bytes m (Some width) fits le wide e = width_encoded bytes width m fits wide e
  short_encoded bytes m None fits le wide e =
      elim (chosen (carries_xid inside bytes) _ _ _ e) [
        | inl p ↦ wanted_encoded bytes m fits le p.0 p.1
        | inr p ↦
            let c = plain_ok (whole bytes) m p.1 in
            subst (λ (y : StreamMessage). Encodes inside bytes y) c.2 (whole_takes bytes c.0 fits c.1, p.0)
      ]

  short_fault : (bytes : List ℕ) (e : MsgError) (o : Option ℕ) → IsBytes bytes → length bytes ≤ 16777216 → width_of bytes ≡ o
      → by_width inside bytes o ≡ failed e → IsBytesFault inside bytes e
  short_fault bytes e (Some width) fits le wide same = width_fault bytes width e le wide same
  short_fault bytes e None fits le wide same =
      elim (chosen (carries_xid inside bytes) _ _ _ same) [
        | inl p ↦ wanted_fault bytes e fits le p.0 p.1
        | inr p ↦ plain le wide p.0 (whole_faulty bytes e fits (plain_err (whole bytes) e p.1))
      ]

  pub read_encoded : (bytes : List ℕ) (m : StreamMessage) → IsBytes bytes → read inside bytes ≡ done m → Encodes inside bytes m
  unfolding read
  read_encoded bytes m fits e =
      elim (chosen (ltb 16777216 (length bytes)) _ _ _ e) [
        | inl p ↦ absurd (let q = p.1 in cc)
        | inr p ↦ short_encoded bytes m (width_of bytes) fits (ltb-false _ _ p.0) refl p.1
      ]

  pub read_fault : (bytes : List ℕ) (e : MsgError) → IsBytes bytes → read inside bytes ≡ failed e → IsBytesFault inside bytes e
  unfolding read
  read_fault bytes e fits same =
      elim (chosen (ltb 16777216 (length bytes)) _ _ _ same) [
        | inl p ↦ too_long (ltb-true _ _ p.0) (sym (err_is {A = StreamMessage} _ e p.1))
        | inr p ↦ short_fault bytes e (width_of bytes) fits (ltb-false _ _ p.0) refl p.1
      ]

-- ---- a message of one of the new kinds, by its tag

width_at : (bytes : List ℕ) (tag width : ℕ) → 1 ≤ length bytes → get_or bytes 0 0 ≡ tag → width_by tag ≡ Some width → width_of bytes ≡ Some width
width_at [] tag width le is wide = absurd (omega arith)
width_at (first ∷ rest) tag width le is wide = ap width_by is ∙ wide

pub kind_read : (inside : Bool) (bytes : List ℕ) (tag width : ℕ) (m : StreamMessage) → 1 ≤ length bytes → get_or bytes 0 0 ≡ tag → width_by tag ≡ Some width
    → with_width width bytes ≡ done (fixed bytes) → fixed bytes ≡ m
    → by_width inside bytes (width_of bytes) ≡ done m
kind_read inside bytes tag width m le is wide exact same = ap (by_width inside bytes) (width_at bytes tag width le is wide) ∙ exact
    ∙ ap (λ (y : StreamMessage). done y) same

pub kind_refused : (inside : Bool) (bytes : List ℕ) (tag width : ℕ) (e : MsgError) → 1 ≤ length bytes → get_or bytes 0 0 ≡ tag → width_by tag ≡ Some width
    → with_width width bytes ≡ failed e
    → Fails e (by_width inside bytes (width_of bytes))
kind_refused inside bytes tag width e le is wide fault = inr (ap (by_width inside bytes) (width_at bytes tag width le is wide) ∙ fault)

pub fixed_start : (bytes : List ℕ) → get_or bytes 0 0 ≡ 83 → fixed bytes ≡ Start (number4 1 bytes) (get_or bytes 5 0)
unfolding fixed
fixed_start bytes is = rw is refl

pub fixed_stop : (bytes : List ℕ) → get_or bytes 0 0 ≡ 69 → fixed bytes ≡ Stop
unfolding fixed
fixed_stop bytes is = rw is refl

pub fixed_commit : (bytes : List ℕ) → get_or bytes 0 0 ≡ 99
    → fixed bytes ≡ Commit (number4 1 bytes) (get_or bytes 5 0) (record { 0 = number8 6 bytes }) (record { 0 = number8 14 bytes })
    (cast_signed w64 (number8 22 bytes))
unfolding fixed
fixed_commit bytes is = rw is refl

pub fixed_abort : (bytes : List ℕ) → get_or bytes 0 0 ≡ 65 → fixed bytes ≡ Abort (number4 1 bytes) (number4 5 bytes)
unfolding fixed
fixed_abort bytes is = rw is refl

-- ---- what was encoded is read again

-- bytes within the limit are read by their kind
short_read : (inside : Bool) (bytes : List ℕ) → length bytes ≤ 16777216 → read inside bytes ≡ by_width inside bytes (width_of bytes)
unfolding read
short_read inside bytes le = rw (le-ltb _ _ le) refl

exact_read : (width : ℕ) (bytes : List ℕ) → length bytes ≡ width → with_width width bytes ≡ done (fixed bytes)
unfolding with_width
exact_read width bytes len =
    let low : ltb (length bytes) width ≡ false = le-ltb _ _ (omega arith) in
    let high : ltb width (length bytes) ≡ false = le-ltb _ _ (omega arith) in
    rw (low, high) refl

start_again : (xid first : ℕ) → xid < 2 ^ 32 → fixed (83 ∷ (int32 xid ++ first ∷ [])) ≡ Start xid first
unfolding fixed int32
start_again xid first lt = ap (λ (x : ℕ). Start x first) (from_be_bytes-to_be_bytes_4 xid lt)

abort_again : (xid subxid : ℕ) → xid < 2 ^ 32 → subxid < 2 ^ 32 → fixed (65 ∷ (int32 xid ++ int32 subxid)) ≡ Abort xid subxid
unfolding fixed int32
abort_again xid subxid lt below = ap (λ (x : ℕ). Abort x (from_be_bytes w32 (to_be_bytes w32 subxid))) (from_be_bytes-to_be_bytes_4 xid lt)
    ∙ ap (Abort xid) (from_be_bytes-to_be_bytes_4 subxid below)

abbrev made : ℕ → ℕ → ℕ → ℕ → ℕ → StreamMessage
made flags xid lsn end_lsn time = Commit xid flags (record { 0 = lsn }) (record { 0 = end_lsn }) (cast_signed w64 time)

commit_again : (xid flags : ℕ) (lsn end_lsn : Lsn) (time : ℤ) → xid < 2 ^ 32 → lsn.0 < 2 ^ 64 → end_lsn.0 < 2 ^ 64 → FitsSigned w64 time
    → fixed (99 ∷ ((((int32 xid ++ flags ∷ []) ++ int64 lsn.0) ++ int64 end_lsn.0) ++ signed64 time)) ≡ Commit xid flags lsn end_lsn time
unfolding fixed int32 int64
commit_again xid flags lsn end_lsn time one two three four =
    let x : ℕ = from_be_bytes w32 (to_be_bytes w32 xid) in
    let l : ℕ = from_be_bytes w64 (to_be_bytes w64 lsn.0) in
    let e : ℕ = from_be_bytes w64 (to_be_bytes w64 end_lsn.0) in
    let t : ℕ = from_be_bytes w64 (to_be_bytes w64 (cast_unsigned w64 time)) in
    ap (λ (n : ℕ). made flags n l e t) (from_be_bytes-to_be_bytes_4 xid one) ∙ ap (λ (n : ℕ). made flags xid n e t) (from_be_bytes-to_be_bytes_8 lsn.0 two)
    ∙ ap (λ (n : ℕ). made flags xid lsn.0 n t) (from_be_bytes-to_be_bytes_8 end_lsn.0 three)
    ∙ ap (λ (n : ℕ). made flags xid lsn.0 end_lsn.0 n) (from_be_bytes-to_be_bytes_8 (cast_unsigned w64 time) (Fits-of_z four).fits)
    ∙ ap (Commit xid flags lsn end_lsn) (to_z-of_z w64 time four)

stop_again : fixed (69 ∷ []) ≡ Stop
unfolding fixed
stop_again = refl

len8 : (n : ℕ) → length (int64 n) ≡ 8
unfolding int64
len8 n = refl

-- a message of version 1 has none of the new tags
spelled_width : (m : Message) → width_of (spelling m) ≡ None
unfolding spelling
spelled_width (old.Begin lsn time xid) = refl
spelled_width (old.Commit flags lsn end_lsn time) = refl
spelled_width (old.Origin lsn name) = refl
spelled_width (old.TypeName oid namespace name) = refl
spelled_width (old.Relation oid namespace name identity columns) = refl
spelled_width (old.Insert oid row) = refl
spelled_width (old.Update oid before row) = refl
spelled_width (old.Delete oid before) = refl
spelled_width (old.Truncate options oids) = refl
spelled_width (old.Logical flags lsn prefix content) = refl

not_xid : (tag other : ℕ) → has_xid tag ≡ true → has_xid other ≡ false → eqb tag other ≡ false
not_xid tag other has none = false_from_ne_true (eqb tag other) (λ is. (let both = sym (ap has_xid (eqb-true tag other is)) ∙ has in let z = sym none
    ∙ both in cc))

xid_width : (tag : ℕ) → has_xid tag ≡ true → width_by tag ≡ None
xid_width tag has = rw (not_xid tag 83 has refl, not_xid tag 69 has refl, not_xid tag 99 has refl, not_xid tag 65 has refl) refl

module _ (inside : Bool) where
  wanted_width : (bytes : List ℕ) → carries_xid inside bytes ≡ true → width_of bytes ≡ None
  wanted_width [] wants = refl
  wanted_width (tag ∷ rest) wants = xid_width tag (and_parts inside (has_xid tag) wants).1

  -- bytes with an xid after the tag are read so
  wanted_read : (bytes : List ℕ) → length bytes ≤ 16777216 → carries_xid inside bytes ≡ true → read inside bytes ≡ carried_at bytes
  wanted_read bytes le wants = short_read inside bytes le ∙ ap (by_width inside bytes) (wanted_width bytes wants)
      ∙ ap (λ (b : Bool). cond b (carried_at bytes) (plain_of (whole bytes))) wants

  plain_read : (bytes : List ℕ) → length bytes ≤ 16777216 → width_of bytes ≡ None → carries_xid inside bytes ≡ false
      → read inside bytes ≡ plain_of (whole bytes)
  plain_read bytes le none wants = short_read inside bytes le ∙ ap (by_width inside bytes) none
      ∙ ap (λ (b : Bool). cond b (carried_at bytes) (plain_of (whole bytes))) wants

  width_read : (bytes : List ℕ) (width : ℕ) → length bytes ≤ 16777216 → width_of bytes ≡ Some width → read inside bytes ≡ with_width width bytes
  width_read bytes width le wide = short_read inside bytes le ∙ ap (by_width inside bytes) wide

  fixed_read : (bytes : List ℕ) (width : ℕ) (m : StreamMessage) → length bytes ≡ width → width ≤ 16777216 → width_of bytes ≡ Some width → fixed bytes ≡ m
      → read inside bytes ≡ done m
  fixed_read bytes width m len le wide is =
      width_read bytes width (omega (arith, len, le)) wide ∙ exact_read width bytes len ∙ ap (λ (y : StreamMessage). done y) is

  carried_again : (tag xid : ℕ) (fields : List ℕ) (m : Message) → xid < 2 ^ 32 → Spells (tag ∷ fields) m
      → carried_at (tag ∷ (int32 xid ++ fields)) ≡ done (Carried xid m)
  unfolding carried_at
  carried_again tag xid fields m lt spells =
      let long : ltb (length (int32 xid ++ fields)) 4 ≡ false = le-ltb _ _ (omega (arith, length-append (int32 xid) fields, len4 xid)) in
      rw (long, take_at (int32 xid) fields 4 (len4 xid), drop_at (int32 xid) fields 4 (len4 xid), whole_again (tag ∷ fields) m spells)
      (ap (λ (x : ℕ). done (Carried x m)) (int32_again xid lt))

  pub encoded_read : (bytes : List ℕ) (m : StreamMessage) → Encodes inside bytes m → read inside bytes ≡ done m
  encoded_read bytes (Start xid first) h =
      subst (λ (b : List ℕ). read inside b ≡ done (Start xid first)) (sym h.0)
      (fixed_read (83 ∷ (int32 xid ++ first ∷ [])) 6 (Start xid first) (omega (arith, length-append (int32 xid) (first ∷ []), len4 xid)) (omega arith) refl
      (start_again xid first h.1))
  encoded_read bytes Stop h =
      subst (λ (b : List ℕ). read inside b ≡ done Stop) (sym h) (fixed_read (69 ∷ []) 1 Stop refl (omega arith) refl stop_again)
  encoded_read bytes (Commit xid flags lsn end_lsn time) h =
      let a : List ℕ = int32 xid in
      let b : List ℕ = int64 lsn.0 in
      let c : List ℕ = int64 end_lsn.0 in
      let d : List ℕ = signed64 time in
      let len : length ((((a ++ flags ∷ []) ++ b) ++ c) ++ d) ≡ 29
      = omega (
        arith,
        length-append (((a ++ flags ∷ []) ++ b) ++ c) d,
        length-append ((a ++ flags ∷ []) ++ b) c,
        length-append (a ++ flags ∷ []) b,
        length-append a (flags ∷ []),
        len4 xid,
        len8 lsn.0,
        len8 end_lsn.0,
        len8 (cast_unsigned w64 time),
      ) in
      subst (λ (b : List ℕ). read inside b ≡ done (Commit xid flags lsn end_lsn time)) (sym h.0)
      (fixed_read (99 ∷ ((((a ++ flags ∷ []) ++ b) ++ c) ++ d)) 30 (Commit xid flags lsn end_lsn time) (omega (arith, len)) (omega arith) refl
      (commit_again xid flags lsn end_lsn time h.1 h.3 h.4 h.5))
  encoded_read bytes (Abort xid subxid) h =
      subst (λ (b : List ℕ). read inside b ≡ done (Abort xid subxid)) (sym h.0)
      (fixed_read (65 ∷ (int32 xid ++ int32 subxid)) 9 (Abort xid subxid) (omega (arith, length-append (int32 xid) (int32 subxid), len4 xid, len4 subxid))
      (omega arith) refl (abort_again xid subxid h.1 h.2))
  encoded_read bytes (Plain m) h =
      let short : length bytes ≤ 16777216 = omega (arith, h.0.fits.short, ap (λ (w : List ℕ). length w) h.0.spelled) in
      plain_read bytes short (ap width_of h.0.spelled ∙ spelled_width m) h.1 ∙ ap plain_of (whole_again bytes m h.0)
  encoded_read bytes (Carried xid m) h =
      let c = h.0 in
      wanted_read bytes c.short h.1 ∙ ap carried_at c.parts ∙ carried_again c.tag xid c.fields m c.fits c.spells

  cut_read : (bytes : List ℕ) → carries_xid inside bytes ≡ true → length bytes < 5 → carried_at bytes ≡ failed (Truncated (length bytes))
  unfolding carried_at
  cut_read [] wants lt = absurd cc
  cut_read (tag ∷ rest) wants lt =
      let short : ltb (length rest) 4 ≡ true = lt-ltb _ _ (omega arith) in
      let same : length rest + 1 ≡ length (tag ∷ rest) = omega arith in
      rw short (ap (λ (n : ℕ). failed (Truncated n)) same)

  shifted_read : (tag : ℕ) (xid fields : List ℕ) (own : MsgError) → length xid ≡ 4 → IsFault (tag ∷ fields) own
      → carried_at (tag ∷ (xid ++ fields)) ≡ failed (shift_fault own)
  unfolding carried_at
  shifted_read tag xid fields own len fault =
      let long : ltb (length (xid ++ fields)) 4 ≡ false = le-ltb _ _ (omega (arith, length-append xid fields, len)) in
      rw (long, drop_at xid fields 4 len, whole_refuses (tag ∷ fields) own fault) refl

  short_width : (width : ℕ) (bytes : List ℕ) → length bytes < width → with_width width bytes ≡ failed (Truncated (length bytes))
  unfolding with_width
  short_width width bytes lt = rw (lt-ltb _ _ lt) refl

  long_width : (width : ℕ) (bytes : List ℕ) → width < length bytes → with_width width bytes ≡ failed (TrailingBytes width)
  unfolding with_width
  long_width width bytes lt =
      let low : ltb (length bytes) width ≡ false = le-ltb _ _ (omega arith) in
      rw (low, lt-ltb _ _ lt) refl

  too_long_read : (bytes : List ℕ) → 16777216 < length bytes → read inside bytes ≡ failed (TooLong (length bytes))
  unfolding read
  too_long_read bytes lt = rw (lt-ltb _ _ lt) refl

  as_err : (d e : MsgError) → e ≡ d → failed {A = StreamMessage} d ≡ failed e
  as_err d e is = ap (λ (x : MsgError). failed x) (sym is)

  pub fault_read : (bytes : List ℕ) (e : MsgError) → IsBytesFault inside bytes e → read inside bytes ≡ failed e
  fault_read bytes e (too_long lt is) = too_long_read bytes lt ∙ as_err (TooLong (length bytes)) e is
  fault_read bytes e (cut width le wide lt is) = width_read bytes width le wide ∙ short_width width bytes lt ∙ as_err (Truncated (length bytes)) e is
  fault_read bytes e (trailing width le wide lt is) = width_read bytes width le wide ∙ long_width width bytes lt ∙ as_err (TrailingBytes width) e is
  fault_read bytes e (in_xid le wants lt is) = wanted_read bytes le wants ∙ cut_read bytes wants lt ∙ as_err (Truncated (length bytes)) e is
  fault_read bytes e (carried tag xid fields own le wants parts len fault is) =
      wanted_read bytes le wants ∙ ap carried_at parts ∙ shifted_read tag xid fields own len fault ∙ as_err (shift_fault own) e is
  fault_read bytes e (plain le none wants fault) = plain_read bytes le none wants ∙ ap plain_of (whole_refuses bytes e fault)

  -- ---- exactly one of the two

  pub one_message : (bytes : List ℕ) (m n : StreamMessage) → Encodes inside bytes m → Encodes inside bytes n → m ≡ n
  one_message bytes m n one two = ok_is m n (sym (encoded_read bytes m one) ∙ encoded_read bytes n two)

  pub one_fault : (bytes : List ℕ) (d e : MsgError) → IsBytesFault inside bytes d → IsBytesFault inside bytes e → d ≡ e
  one_fault bytes d e one two = err_is {A = StreamMessage} d e (sym (fault_read bytes d one) ∙ fault_read bytes e two)

  pub not_both : (bytes : List ℕ) (m : StreamMessage) (e : MsgError) → Encodes inside bytes m → IsBytesFault inside bytes e → ⊥
  not_both bytes m e encoded fault = let both = sym (encoded_read bytes m encoded) ∙ fault_read bytes e fault in cc

  either_of : (bytes : List ℕ) → IsBytes bytes → (r : Result StreamMessage MsgError) → read inside bytes ≡ r
      → ((m : StreamMessage) × Encodes inside bytes m) ⊎ ((e : MsgError) × IsBytesFault inside bytes e)
  either_of bytes fits (Ok m) is = inl (m, read_encoded inside bytes m fits is)
  either_of bytes fits (Err e) is = inr (e, read_fault inside bytes e fits is)

  pub either : (bytes : List ℕ) → AreBytes bytes → ((m : StreamMessage) × Encodes inside bytes m) ⊎ ((e : MsgError) × IsBytesFault inside bytes e)
  either bytes all = either_of bytes (IsBytes-of bytes all) (read inside bytes) refl

  -- ---- what a call has returned whose result is that of reading

  pub is_encoded : (bytes : List ℕ) (r : Result StreamMessage MsgError) → IsBytes bytes → Gives (λ m. m) r (read inside bytes)
      → IfOk r (λ m. Encodes inside bytes m)
  is_encoded bytes (Ok m) fits given = read_encoded inside bytes m fits given
  is_encoded bytes (Err e) fits given = tt

  pub is_refused : (bytes : List ℕ) (r : Result StreamMessage MsgError) → IsBytes bytes → Gives (λ m. m) r (read inside bytes)
      → IfErr r (λ e. (e ≡ Memory) ⊎ IsBytesFault inside bytes e)
  is_refused bytes (Ok m) fits given = tt
  is_refused bytes (Err e) fits (inl memory) = inl memory
  is_refused bytes (Err e) fits (inr refused) = inr (read_fault inside bytes e fits refused)
