-- Bytes spell one message, or have one fault.
use Rattle.std.proofs.Common.{◌≡◌, ◌≢◌, ◌⊎◌, ℕ, zero, suc, ◌+◌, ◌-◌, ◌≤◌, true, false, eqb, ltb, List, [], ◌∷◌, ◌++◌, length, Result, Ok, Err, refl, sym, ap, subst, ◌∙◌, arith, inl, inr}
use Rattle.std.specs.Prelude.{IfOk, IfErr}
use Rattle.std.proofs.lemmas.Bool.{eqb-true, lt-ltb, le-ltb, ltb-true, ltb-false}
use Rattle.std.proofs.lemmas.List.{length-append, append-nil, nil_from_length}
use Rattle.dbl_pgmsg.specs.declared.error.MsgError.{MsgError}
use Rattle.dbl_pgmsg.specs.declared.error.MsgError.TheVariants.{TrailingBytes, Memory}
use Rattle.dbl_pgmsg.specs.declared.messages.Message.{Message}
use Rattle.dbl_pgmsg.specs.Grammar.{spelling, Spells}
use Rattle.dbl_pgmsg.specs.Reading.{Read, ◌>>=◌, Gives, message_at, ended, whole}
use Rattle.dbl_pgmsg.specs.Fields.{Tag}
use Rattle.dbl_pgmsg.specs.Faults.{FaultAt, Trails, IsFault, too_long, in_field, trailing, AreBytes}
use Rattle.dbl_pgmsg.proofs.FieldLaws.{IsBytes, bind_ok, guard_ok, guard_held, ok_is}
use Rattle.dbl_pgmsg.proofs.Texts.{is_false}
use Rattle.dbl_pgmsg.proofs.RowLaws.{chosen}
use Rattle.dbl_pgmsg.proofs.MessageLaws.{message_again, message_takes}
use Rattle.dbl_pgmsg.proofs.Walks.{After}
use Rattle.dbl_pgmsg.proofs.KindWalks.{message_walk}

abbrev failed : {A : Type 0} → MsgError → Result A MsgError
failed e = Err e

err_is : {A : Type 0} (d e : MsgError) → failed {A = A} d ≡ failed e → d ≡ e
err_is d e same = cc

-- ---- what reading all of the bytes gives

pub whole_takes : (bytes : List ℕ) (m : Message) → IsBytes bytes → whole bytes ≡ Ok m → Spells bytes m
unfolding whole ended
whole_takes bytes m fits e =
    let g = guard_ok (ltb 16777216 (length bytes)) _ (message_at (length bytes) bytes >>= ended (length bytes)) m e in
    let a = bind_ok (message_at (length bytes) bytes) (ended (length bytes)) m g.1 in
    let h = guard_held (eqb (length a.0.1) 0) _ (Ok a.0.0) m a.2 in
    let taken = message_takes (length bytes) bytes a.0.0 a.0.1 fits a.1 in
    let nothing : a.0.1 ≡ [] = nil_from_length a.0.1 (eqb-true _ _ h.0) in
    let spelled : bytes ≡ spelling a.0.0 = taken.takes.parts ∙ ap (λ (r : List ℕ). spelling a.0.0 ++ r) nothing ∙ append-nil (spelling a.0.0) in
    let short : length (spelling a.0.0) ≤ 16777216 = omega (arith, ap (λ (w : List ℕ). length w) spelled, ltb-false _ _ g.0) in
    subst (λ (y : Message). Spells bytes y) (ok_is a.0.0 m h.1) (record { fits = record { fields = taken.fits; short = short }; spelled = spelled })

pub whole_again : (bytes : List ℕ) (m : Message) → Spells bytes m → whole bytes ≡ Ok m
unfolding whole ended
whole_again bytes m spells =
    let short : ltb 16777216 (length (spelling m)) ≡ false = le-ltb _ _ spells.fits.short in
    let read : message_at (length (spelling m)) (spelling m) ≡ Ok (m, []) = ap (message_at (length (spelling m))) (sym (append-nil (spelling m))) ∙ message_again (length (spelling m)) m [] spells.fits.fields in
    ap whole spells.spelled ∙ rw (short, read) refl

-- no field is wanted after a message
pub none_at : (error : MsgError) (at : ℕ) (bytes : List ℕ) → FaultAt error at [] bytes → ⊥
none_at error at bytes h = elim h [ ]

some_left : (rest : List ℕ) → rest ≢ [] → eqb (length rest) 0 ≡ false
some_left rest some = is_false (eqb (length rest) 0) (λ e. some (nil_from_length rest (eqb-true _ _ e)))

module _ (bytes : List ℕ) (e : MsgError) where
  faulty_of : length bytes ≤ 16777216 → IsBytes bytes → (r : Read Message) → message_at (length bytes) bytes ≡ r → (r >>= ended (length bytes)) ≡ failed e → IsFault bytes e
  unfolding ended
  faulty_of le fits (Err d) is same =
      let walk = message_walk (length bytes) bytes (omega arith) in
      let after : After (length bytes) [] (message_at (length bytes) bytes) e = subst (λ (r : Read Message). After (length bytes) [] r e) (sym is) (err_is d e same) in
      let start : length bytes - length bytes ≡ 0 = omega arith in
      in_field le (subst (λ (at : ℕ). FaultAt e at (Tag ∷ []) bytes) start (walk.back [] e after))
  faulty_of le fits (Ok x) is same =
      elim (chosen (eqb (length x.1) 0) _ _ _ same) [
        | inl p ↦ absurd (let q = p.1 in cc)
        | inr p ↦
            let taken = message_takes (length bytes) bytes x.0 x.1 fits is in
            let sum : length bytes ≡ length (spelling x.0) + length x.1 = ap (λ (w : List ℕ). length w) taken.takes.parts ∙ length-append (spelling x.0) x.1 in
            let place : length bytes - length x.1 ≡ length (spelling x.0) = omega (arith, sum) in
            trailing le (record {
              message = x.0;
              front = spelling x.0;
              rest = x.1;
              parts = taken.takes.parts;
              spells = record { fits = record { fields = taken.fits; short = omega (arith, sum, le) }; spelled = refl };
              some = λ nothing. (let q : eqb (length x.1) 0 ≡ true = rw nothing refl in let z = sym q ∙ p.0 in cc);
              is = sym (err_is {A = Message} _ e p.1) ∙ ap (λ (n : ℕ). TrailingBytes n) place;
            })
      ]

  pub whole_faulty : IsBytes bytes → whole bytes ≡ failed e → IsFault bytes e
  unfolding whole
  whole_faulty fits same =
      elim (chosen (ltb 16777216 (length bytes)) _ _ _ same) [
        | inl p ↦ too_long (ltb-true _ _ p.0) (sym (err_is {A = Message} _ e p.1))
        | inr p ↦ faulty_of (ltb-false _ _ p.0) fits (message_at (length bytes) bytes) refl p.1
      ]

  refused_of : (r : Read Message) → After (length bytes) [] r e → (r >>= ended (length bytes)) ≡ failed e
  refused_of (Ok x) after = absurd (none_at e _ x.1 after)
  refused_of (Err d) after = ap (λ (x : MsgError). failed x) after

  trailing_of : Trails bytes e → (message_at (length bytes) bytes >>= ended (length bytes)) ≡ failed e
  unfolding ended
  trailing_of t =
      let parts : bytes ≡ spelling t.message ++ t.rest = t.parts ∙ ap (λ (f : List ℕ). f ++ t.rest) t.spells.spelled in
      let read : message_at (length bytes) bytes ≡ Ok (t.message, t.rest) = ap (message_at (length bytes)) parts ∙ message_again (length bytes) t.message t.rest t.spells.fits.fields in
      let place : length bytes - length t.rest ≡ length t.front = omega (arith, ap (λ (w : List ℕ). length w) t.parts, length-append t.front t.rest) in
      let more : eqb (length t.rest) 0 ≡ false = some_left t.rest t.some in
      rw (read, more, place) (ap (λ (x : MsgError). failed x) (sym t.is))

  pub whole_refuses : IsFault bytes e → whole bytes ≡ failed e
  unfolding whole
  whole_refuses (too_long lt is) = rw (lt-ltb _ _ lt) (ap (λ (x : MsgError). failed x) (sym is))
  whole_refuses (in_field le h) =
      let walk = message_walk (length bytes) bytes (omega arith) in
      let start : 0 ≡ length bytes - length bytes = omega arith in
      rw (le-ltb _ _ le) (refused_of (message_at (length bytes) bytes) (walk.there [] e (subst (λ (at : ℕ). FaultAt e at (Tag ∷ []) bytes) start h)))
  whole_refuses (trailing le t) = rw (le-ltb _ _ le) (trailing_of t)

-- ---- exactly one of the two

pub not_both : (bytes : List ℕ) (m : Message) (e : MsgError) → Spells bytes m → IsFault bytes e → ⊥
not_both bytes m e spells fault = let both = sym (whole_again bytes m spells) ∙ whole_refuses bytes e fault in cc

pub one_fault : (bytes : List ℕ) (d e : MsgError) → IsFault bytes d → IsFault bytes e → d ≡ e
one_fault bytes d e one two = err_is {A = Message} d e (sym (whole_refuses bytes d one) ∙ whole_refuses bytes e two)

pub IsBytes-of : (bytes : List ℕ) → AreBytes bytes → IsBytes bytes
IsBytes-of [] all i = omega arith
IsBytes-of (b ∷ bytes) all zero = all.0
IsBytes-of (b ∷ bytes) all (suc i) = IsBytes-of bytes all.1 i

either_of : (bytes : List ℕ) → IsBytes bytes → (r : Result Message MsgError) → whole bytes ≡ r → ((message : Message) × Spells bytes message) ⊎ ((error : MsgError) × IsFault bytes error)
either_of bytes fits (Ok m) is = inl (m, whole_takes bytes m fits is)
either_of bytes fits (Err e) is = inr (e, whole_faulty bytes e fits is)

pub either : (bytes : List ℕ) → AreBytes bytes → ((message : Message) × Spells bytes message) ⊎ ((error : MsgError) × IsFault bytes error)
either bytes all = either_of bytes (IsBytes-of bytes all) (whole bytes) refl

-- ---- what a call that gives what reading gives has returned

pub is_read : (bytes : List ℕ) (r : Result Message MsgError) → IsBytes bytes → Gives (λ m. m) r (whole bytes) → IfOk r (λ m. Spells bytes m)
is_read bytes (Ok m) fits given = whole_takes bytes m fits given
is_read bytes (Err e) fits given = tt

pub is_spelled : (bytes : List ℕ) (r : Result Message MsgError) → Gives (λ m. m) r (whole bytes) → (m : Message) → Spells bytes m → (r ≡ Ok m) ⊎ (r ≡ Err Memory)
is_spelled bytes (Ok x) given m spells = inl (sym given ∙ whole_again bytes m spells)
is_spelled bytes (Err e) (inl memory) m spells = inr (ap (λ (e : MsgError). Err e) memory)
is_spelled bytes (Err e) (inr refused) m spells = absurd (let both = sym (whole_again bytes m spells) ∙ refused in cc)

pub is_refused : (bytes : List ℕ) (r : Result Message MsgError) → IsBytes bytes → Gives (λ m. m) r (whole bytes) → IfErr r (λ error. (error ≡ Memory) ⊎ IsFault bytes error)
is_refused bytes (Ok m) fits given = tt
is_refused bytes (Err e) fits (inl memory) = inl memory
is_refused bytes (Err e) fits (inr refused) = inr (whole_faulty bytes e fits refused)

pub is_faulty : (bytes : List ℕ) (r : Result Message MsgError) → Gives (λ m. m) r (whole bytes) → (e : MsgError) → IsFault bytes e → (r ≡ Err e) ⊎ (r ≡ Err Memory)
is_faulty bytes (Ok m) given e fault = absurd (let both = sym given ∙ whole_refuses bytes e fault in cc)
is_faulty bytes (Err d) (inl memory) e fault = inr (ap (λ (e : MsgError). Err e) memory)
is_faulty bytes (Err d) (inr refused) e fault = inl (sym refused ∙ whole_refuses bytes e fault)
