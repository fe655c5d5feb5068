-- Bytes are the form of one group, or differ from every such form at one place.
use Rattle.std.proofs.Common.{◌≡◌, ◌≢◌, ◌⊎◌, ℕ, zero, suc, ◌-◌, ◌^◌, ◌<◌, Bool, true, false, eqb, List, [], ◌∷◌, ◌++◌, length, Option, Result, Ok, Err, refl, sym, ap, subst, ◌∙◌, append_assoc, arith, inl, inr}
use Rattle.std.specs.Prelude.{IfOk, IfErr, MatchResult}
use Rattle.std.specs.List.{flat_map, AllByRecursion}
use Rattle.std.specs.Int.{w32}
use Rattle.std.proofs.lemmas.Bool.{eqb-true}
use Rattle.std.proofs.lemmas.List.{append-nil, nil_from_length}
use Rattle.dbl_record.specs.declared.error.RecordError.{RecordError}
use Rattle.dbl_record.specs.declared.error.RecordError.TheVariants.{BadRecord, Memory}
use Rattle.dbl_record.specs.declared.record.Record.{Record}
use Rattle.dbl_record.specs.Fields.{number32, number64, truth_form, text_form, optional_form, IsStoredOrAbsent}
use Rattle.dbl_record.specs.Groups.{record_form, group_form, FitsRecord, FitsGroup, IsGroup}
use Rattle.dbl_record.specs.GroupFaults.{Count, DiffersAt, trails, IsBadAt}
use Rattle.dbl_record.specs.GroupReading.{Read, ◌>>=◌, Gives, number_at, place_at, pair_at, record_at, group_at, ended, whole}
use Rattle.dbl_record.proofs.FieldLaws.{IsBytes, bind_ok, guard_held, chosen, ok_is, Takes, Takes-then, Reads, took, number32_reads, number64_reads, truth_reads, text_reads, optional_reads, many_again, many_takes}
use Rattle.dbl_record.proofs.FieldWalks.{After, CrashState, group_walk}

abbrev place_form : ℕ × ℕ × Bool → List ℕ
place_form p = number64 p.0 ++ number64 p.1 ++ truth_form p.2

abbrev FitsPlace : ℕ × ℕ × Bool → Type 0
FitsPlace p = (p.0 < 2 ^ 64) × (p.1 < 2 ^ 64)

abbrev pair_form : Option (List ℕ) × Option (List ℕ) → List ℕ
pair_form p = optional_form p.0 ++ optional_form p.1

abbrev FitsPair : Option (List ℕ) × Option (List ℕ) → Type 0
FitsPair p = IsStoredOrAbsent p.0 × IsStoredOrAbsent p.1

place_again : (total : ℕ) (p : ℕ × ℕ × Bool) (rest : List ℕ) → FitsPlace p → place_at total (place_form p ++ rest) ≡ Ok (p, rest)
unfolding place_at
place_again total p rest fits =
    let regrouped : ((number64 p.0 ++ number64 p.1) ++ truth_form p.2) ++ rest ≡ number64 p.0 ++ (number64 p.1 ++ (truth_form p.2 ++ rest)) = simp append_assoc in
    ap (place_at total) regrouped ∙ rw ((number64_reads total).again p.0 (number64 p.1 ++ (truth_form p.2 ++ rest)) fits.0, (number64_reads total).again p.1 (truth_form p.2 ++ rest) fits.1, (truth_reads total).again p.2 rest tt) refl

place_takes : (total : ℕ) (bytes : List ℕ) (p : ℕ × ℕ × Bool) (rest : List ℕ) → IsBytes bytes → place_at total bytes ≡ Ok (p, rest) → Takes bytes (place_form p) rest × FitsPlace p
unfolding place_at
place_takes total bytes p rest fits e =
    let start : Takes bytes [] bytes = record { parts = refl; rest_fits = fits } in
    let a = took (number64_reads total) bytes [] bytes _ (p, rest) start e in
    let b = took (number64_reads total) bytes _ a.rest _ (p, rest) a.takes a.more in
    let c = took (truth_reads total) bytes _ b.rest _ (p, rest) b.takes b.more in
    subst (λ (y : (ℕ × ℕ × Bool) × List ℕ). Takes bytes (place_form y.0) y.1 × FitsPlace y.0) (ok_is ((a.value, b.value, c.value), c.rest) (p, rest) c.more) (c.takes, (a.fits, b.fits))

place_reads : (total : ℕ) → Reads (place_at total) place_form FitsPlace
place_reads total = record { again = place_again total; takes = place_takes total }

pair_again : (total : ℕ) (p : Option (List ℕ) × Option (List ℕ)) (rest : List ℕ) → FitsPair p → pair_at total (pair_form p ++ rest) ≡ Ok (p, rest)
unfolding pair_at
pair_again total p rest fits = rw (append_assoc (optional_form p.0) (optional_form p.1) rest, (optional_reads total).again p.0 (optional_form p.1 ++ rest) fits.0, (optional_reads total).again p.1 rest fits.1) refl

pair_takes : (total : ℕ) (bytes : List ℕ) (p : Option (List ℕ) × Option (List ℕ)) (rest : List ℕ) → IsBytes bytes → pair_at total bytes ≡ Ok (p, rest) → Takes bytes (pair_form p) rest × FitsPair p
unfolding pair_at
pair_takes total bytes p rest fits e =
    let start : Takes bytes [] bytes = record { parts = refl; rest_fits = fits } in
    let a = took (optional_reads total) bytes [] bytes _ (p, rest) start e in
    let b = took (optional_reads total) bytes _ a.rest _ (p, rest) a.takes a.more in
    subst (λ (y : (Option (List ℕ) × Option (List ℕ)) × List ℕ). Takes bytes (pair_form y.0) y.1 × FitsPair y.0) (ok_is ((a.value, b.value), b.rest) (p, rest) b.more) (b.takes, (a.fits, b.fits))

pair_reads : (total : ℕ) → Reads (pair_at total) pair_form FitsPair
pair_reads total = record { again = pair_again total; takes = pair_takes total }

-- the fields of a record, as they are read
abbrev parts_form : Record → List ℕ
parts_form item = place_form (item.position, item.ordinal, item.last) ++ text_form item.topic ++ pair_form (item.key, item.value) ++ pair_form (item.newkey, item.oldkey)

parts_are : (item : Record) → record_form item ≡ parts_form item
unfolding record_form
parts_are item = simp append_assoc

record_again : (total : ℕ) (item : Record) (rest : List ℕ) → FitsRecord item → record_at total (record_form item ++ rest) ≡ Ok (item, rest)
unfolding record_at
record_again total item rest fits =
    let p = place_form (item.position, item.ordinal, item.last) in
    let t = text_form item.topic in
    let e = pair_form (item.key, item.value) in
    let m = pair_form (item.newkey, item.oldkey) in
    let regrouped : record_form item ++ rest ≡ p ++ (t ++ (e ++ (m ++ rest))) = ap (λ (w : List ℕ). w ++ rest) (parts_are item) ∙ regroup p t e m rest in
    ap (record_at total) regrouped
    ∙ rw (
      (place_reads total).again (item.position, item.ordinal, item.last) (t ++ (e ++ (m ++ rest))) (fits.position, fits.ordinal),
      (text_reads total).again item.topic (e ++ (m ++ rest)) fits.topic,
      (pair_reads total).again (item.key, item.value) (m ++ rest) (fits.key, fits.value),
      (pair_reads total).again (item.newkey, item.oldkey) rest (fits.newkey, fits.oldkey),
    ) refl
  where
    regroup : (p t e m rest : List ℕ) → (((p ++ t) ++ e) ++ m) ++ rest ≡ p ++ (t ++ (e ++ (m ++ rest)))
    regroup p t e m rest = simp append_assoc

record_takes : (total : ℕ) (bytes : List ℕ) (item : Record) (rest : List ℕ) → IsBytes bytes → record_at total bytes ≡ Ok (item, rest) → Takes bytes (record_form item) rest × FitsRecord item
unfolding record_at
record_takes total bytes item rest fits e =
    let start : Takes bytes [] bytes = record { parts = refl; rest_fits = fits } in
    let p = took (place_reads total) bytes [] bytes _ (item, rest) start e in
    let t = took (text_reads total) bytes _ p.rest _ (item, rest) p.takes p.more in
    let v = took (pair_reads total) bytes _ t.rest _ (item, rest) t.takes t.more in
    let m = took (pair_reads total) bytes _ v.rest _ (item, rest) v.takes v.more in
    let made : Record = record { topic = t.value; key = v.value.0; value = v.value.1; position = p.value.0; ordinal = p.value.1; last = p.value.2; newkey = m.value.0; oldkey = m.value.1 } in
    let fit : FitsRecord made = record { position = p.fits.0; ordinal = p.fits.1; topic = t.fits; key = v.fits.0; value = v.fits.1; newkey = m.fits.0; oldkey = m.fits.1 } in
    let takes : Takes bytes (record_form made) m.rest = subst (λ (w : List ℕ). Takes bytes w m.rest) (sym (parts_are made)) m.takes in
    subst (λ (y : Record × List ℕ). Takes bytes (record_form y.0) y.1 × FitsRecord y.0) (ok_is (made, m.rest) (item, rest) m.more) (takes, fit)

record_reads : (total : ℕ) → Reads (record_at total) record_form FitsRecord
record_reads total = record { again = record_again total; takes = record_takes total }

group_again : (total : ℕ) (group : List Record) (rest : List ℕ) → FitsGroup group → group_at total (group_form group ++ rest) ≡ Ok (group, rest)
unfolding group_at group_form
group_again total group rest fits = rw (append_assoc (number32 (length group)) (flat_map record_form group) rest, (number32_reads total).again (length group) (flat_map record_form group ++ rest) fits.count) (many_again (record_reads total) group rest fits.each)

group_takes : (total : ℕ) (bytes : List ℕ) (group : List Record) (rest : List ℕ) → IsBytes bytes → group_at total bytes ≡ Ok (group, rest) → Takes bytes (group_form group) rest × FitsGroup group
unfolding group_at group_form
group_takes total bytes group rest fits e =
    let a = bind_ok (number_at w32 total bytes) _ (group, rest) e in
    let first = (number32_reads total).takes bytes a.0.0 a.0.1 fits a.1 in
    let second = many_takes (record_reads total) a.0.0 a.0.1 group rest first.0.rest_fits a.2 in
    let both = Takes-then bytes (number32 a.0.0) a.0.1 (flat_map record_form group) rest first.0 second.0 in
    (subst (λ (k : ℕ). Takes bytes (number32 k ++ flat_map record_form group) rest) (sym second.1) both, record { count = omega (arith, first.1, second.1); each = second.2 })

-- ---- what reading all of the bytes gives

abbrev failed : {A : Type 0} → ℕ → Result A RecordError
failed at = Err (BadRecord at)

failed_is : {A : Type 0} (d e : ℕ) → failed {A = A} d ≡ failed e → d ≡ e
failed_is d e same = cc

abbrev good : List Record → Result (List Record) RecordError
good group = Ok group

abbrev wrong_of : RecordError → Result (List Record) RecordError
wrong_of e = Err e

pub whole_takes : (bytes : List ℕ) (group : List Record) → IsBytes bytes → whole bytes ≡ Ok group → IsGroup bytes group
unfolding whole ended
whole_takes bytes group fits e =
    let a = bind_ok (group_at (length bytes) bytes) (ended (length bytes)) group e in
    let h = guard_held (eqb (length a.0.1) 0) _ (Ok a.0.0) group a.2 in
    let taken = group_takes (length bytes) bytes a.0.0 a.0.1 fits a.1 in
    let nothing : a.0.1 ≡ [] = nil_from_length a.0.1 (eqb-true _ _ h.0) in
    let spelled : bytes ≡ group_form a.0.0 = taken.0.parts ∙ ap (λ (r : List ℕ). group_form a.0.0 ++ r) nothing ∙ append-nil (group_form a.0.0) in
    subst (λ (y : List Record). IsGroup bytes y) (ok_is a.0.0 group h.1) (record { fits = taken.1; spelled = spelled })

pub whole_again : (bytes : List ℕ) (group : List Record) → IsGroup bytes group → whole bytes ≡ Ok group
unfolding whole ended
whole_again bytes group is =
    let read : group_at (length (group_form group)) (group_form group) ≡ Ok (group, []) = ap (group_at (length (group_form group))) (sym (append-nil (group_form group))) ∙ group_again (length (group_form group)) group [] is.fits in
    ap whole is.spelled ∙ rw read refl

is_false : (b : Bool) → (b ≡ true → ⊥) → b ≡ false
is_false true h = absurd (h refl)
is_false false h = refl

-- what is after a group
trailing : (place at : ℕ) (bytes : List ℕ) → DiffersAt place at [] bytes → (bytes ≢ []) × (place ≡ at)
trailing place at bytes (trails some is) = (some, is)

module _ (bytes : List ℕ) (place : ℕ) where
  start : length bytes - length bytes ≡ 0
  start = omega arith

  ended_there : (r : Read (List Record)) → After (length bytes) [] r place → (r >>= ended (length bytes)) ≡ failed place
  unfolding ended
  ended_there (Ok x) after =
      let t = trailing place (length bytes - length x.1) x.1 after in
      let some : eqb (length x.1) 0 ≡ false = is_false _ (λ e. t.0 (nil_from_length x.1 (eqb-true _ _ e))) in
      rw some (ap (λ (n : ℕ). failed n) (sym t.1))
  ended_there (Err e) after = ap (λ (d : RecordError). Err d) after

  err_is : (d e : RecordError) → wrong_of d ≡ wrong_of e → d ≡ e
  err_is d e same = cc

  ended_back : (r : Read (List Record)) → (r >>= ended (length bytes)) ≡ failed place → After (length bytes) [] r place
  unfolding ended
  ended_back (Ok x) same =
      elim (chosen (eqb (length x.1) 0) _ _ _ same) [
        | inl p ↦ absurd (let q = p.1 in cc)
        | inr p ↦ trails (λ nothing. let q : eqb (length x.1) 0 ≡ true = rw nothing refl in let z = sym q ∙ p.0 in cc) (sym (failed_is {A = List Record} _ place p.1))
      ]
  ended_back (Err e) same = err_is e (BadRecord place) same

  pub whole_refuses : IsBadAt bytes place → whole bytes ≡ failed place
  unfolding whole
  whole_refuses bad =
      let walk = group_walk (length bytes) bytes (omega arith) in
      ended_there (group_at (length bytes) bytes) (walk.there [] place (subst (λ (at : ℕ). DiffersAt place at (Count ∷ []) bytes) (sym start) bad))

  pub whole_bad : whole bytes ≡ failed place → IsBadAt bytes place
  unfolding whole
  whole_bad same =
      let walk = group_walk (length bytes) bytes (omega arith) in
      subst (λ (at : ℕ). DiffersAt place at (Count ∷ []) bytes) start (walk.back [] place (ended_back (group_at (length bytes) bytes) same))

-- reading answers places alone
place_left : (bytes : List ℕ) (r : Read (List Record)) (e : RecordError) → CrashState (length bytes) r → (r >>= ended (length bytes)) ≡ Err e → (at : ℕ) × (e ≡ BadRecord at)
unfolding ended
place_left bytes (Ok x) e left same =
    elim (chosen (eqb (length x.1) 0) _ _ _ same) [
      | inl p ↦ absurd (let q = p.1 in cc)
      | inr p ↦ (length bytes - length x.1, sym (err_is bytes 0 _ e p.1))
    ]
place_left bytes (Err d) e left same = (left.0, sym (err_is bytes 0 d e same) ∙ left.1)

err_place : (bytes : List ℕ) (e : RecordError) → whole bytes ≡ Err e → (at : ℕ) × (e ≡ BadRecord at)
unfolding whole
err_place bytes e same = let walk = group_walk (length bytes) bytes (omega arith) in place_left bytes (group_at (length bytes) bytes) e walk.left same

-- ---- exactly one of the two

pub one_group : (bytes : List ℕ) (first second : List Record) → IsGroup bytes first → IsGroup bytes second → first ≡ second
one_group bytes first second a b = ok_is first second (sym (whole_again bytes first a) ∙ whole_again bytes second b)

pub one_form : (first second : List ℕ) (group : List Record) → IsGroup first group → IsGroup second group → first ≡ second
one_form first second group a b = a.spelled ∙ sym b.spelled

pub not_both : (bytes : List ℕ) (group : List Record) (at : ℕ) → IsGroup bytes group → IsBadAt bytes at → ⊥
not_both bytes group at is bad = let both = sym (whole_again bytes group is) ∙ whole_refuses bytes at bad in cc

pub one_place : (bytes : List ℕ) (first second : ℕ) → IsBadAt bytes first → IsBadAt bytes second → first ≡ second
one_place bytes first second a b = failed_is {A = List Record} first second (sym (whole_refuses bytes first a) ∙ whole_refuses bytes second b)

IsBytes-of : (bytes : List ℕ) → AllByRecursion (λ b. b < 2 ^ 8) bytes → IsBytes bytes
IsBytes-of [] all i = omega arith
IsBytes-of (b ∷ bytes) all zero = all.0
IsBytes-of (b ∷ bytes) all (suc i) = IsBytes-of bytes all.1 i

either_of : (bytes : List ℕ) → IsBytes bytes → (r : Result (List Record) RecordError) → whole bytes ≡ r → ((group : List Record) × IsGroup bytes group) ⊎ ((at : ℕ) × IsBadAt bytes at)
either_of bytes fits (Ok group) is = inl (group, whole_takes bytes group fits is)
either_of bytes fits (Err e) is = let at = err_place bytes e is in inr (at.0, whole_bad bytes at.0 (is ∙ ap (λ (d : RecordError). Err d) at.1))

pub either : (bytes : List ℕ) → AllByRecursion (λ b. b < 2 ^ 8) bytes → ((group : List Record) × IsGroup bytes group) ⊎ ((at : ℕ) × IsBadAt bytes at)
either bytes all = either_of bytes (IsBytes-of bytes all) (whole bytes) refl

-- ---- what a call that gives what reading gives has returned

module _ {V : Type 0} (view : V → List Record) (bytes : List ℕ) where
  pub is_read : (r : Result V RecordError) → IsBytes bytes → Gives view r (whole bytes) → IfOk r (λ group. IsGroup bytes (view group))
  is_read (Ok x) fits given = whole_takes bytes (view x) fits given
  is_read (Err e) fits given = tt

  pub is_written : (r : Result V RecordError) → Gives view r (whole bytes) → (group : List Record) → IsGroup bytes group → MatchResult r (λ x. view x ≡ group) (λ error. error ≡ Memory)
  is_written (Ok x) given group is = ok_is (view x) group (sym given ∙ whole_again bytes group is)
  is_written (Err e) (inl memory) group is = memory
  is_written (Err e) (inr refused) group is = absurd (let both = sym (whole_again bytes group is) ∙ refused in cc)

  pub is_refused : (r : Result V RecordError) → Gives view r (whole bytes) → IfErr r (λ error. (error ≡ Memory) ⊎ ((at : ℕ) × (error ≡ BadRecord at) × IsBadAt bytes at))
  is_refused (Ok x) given = tt
  is_refused (Err e) (inl memory) = inl memory
  is_refused (Err e) (inr refused) = let at = err_place bytes e refused in inr (at.0, at.1, whole_bad bytes at.0 (refused ∙ ap (λ (d : RecordError). Err d) at.1))

  pub is_bad : (r : Result V RecordError) → Gives view r (whole bytes) → (at : ℕ) → IsBadAt bytes at → (r ≡ Err (BadRecord at)) ⊎ (r ≡ Err Memory)
  is_bad (Ok x) given at bad = absurd (let both = sym given ∙ whole_refuses bytes at bad in cc)
  is_bad (Err e) (inl memory) at bad = inr (ap (λ (d : RecordError). Err d) memory)
  is_bad (Err e) (inr refused) at bad = inl (ap (λ (d : RecordError). Err d) (err_is bytes 0 e (BadRecord at) (sym refused ∙ whole_refuses bytes at bad)))
