-- Entries: what is read was written, and what was written is read again; and what an entry says of itself.
use Rattle.std.proofs.Common.{◌≡◌, ◌∙◌, ℕ, ◌^◌, ◌<◌, Bool, true, false, cond, eqb, leb, List, [], ◌∷◌, ◌++◌, length, Option, Some, None, Result, Ok, Err, refl, sym, ap, subst, append_assoc, inl, inr}
use Rattle.std.specs.Prelude.{IfOk}
use Rattle.std.specs.Int.{w64}
use Rattle.std.proofs.lemmas.Bool.{eqb-true, le-leb, leb-true}
use Rattle.std.proofs.lemmas.List.{append-nil, nil_from_length}
use Rattle.dbl_base.specs.declared.lsn.Lsn.{Lsn}
use Rattle.dbl_pgmsg.specs.declared.messages.Message.{Message}
use Rattle.dbl_record.specs.declared.error.RecordError.{RecordError}
use Rattle.dbl_record.specs.declared.error.RecordError.TheVariants.{BadRecord, Memory}
use Rattle.dbl_record.specs.Fields.{number64, text_form}
use Rattle.dbl_record.specs.GroupReading.{Read, Gives, number_at}
use Rattle.dbl_record.proofs.FieldLaws.{IsBytes, IsBytes-rest, bind_ok, guard_held, chosen, ok_is, Takes, took, number64_reads, text_reads}
use Rattle.dbl_demo_wal.specs.declared.entry.Entry.{Entry}
use Rattle.dbl_demo_wal.specs.declared.entry.Entry.TheVariants.{Commits, Marks, Confirms}
use Rattle.dbl_demo_wal.specs.Entries.{changes_form, entry_form, workload_form, FitsCommit, FitsMark, FitsWalEntry, EncodesEntry, IsWalEntry}
use Rattle.dbl_demo_wal.specs.Reading.{no_entry, wal_commit_at, wal_mark_at, confirm_at, wal_entry_at, ended, whole_entry, workload_of, number_of, claim_of}
use Rattle.dbl_demo_wal.specs.Claims.{BeginsAsCommit, steps_of_commit}
use Rattle.dbl_demo_wal.proofs.ChangeLaws.{changes_reads}

-- ---- what was written is read again

commit_again : (steps : ℕ) (ms : List Message) (rest : List ℕ) → FitsCommit steps ms → wal_commit_at ((number64 steps ++ changes_form ms) ++ rest) ≡ Ok (Commits steps ms, rest)
unfolding wal_commit_at
commit_again steps ms rest fits =
    rw (append_assoc (number64 steps) (changes_form ms) rest, (number64_reads 0).again steps (changes_form ms ++ rest) fits.steps_fit, changes_reads.again ms rest (fits.few, fits.each)) refl

mark_again : (steps : ℕ) (value rest : List ℕ) → FitsMark steps value → wal_mark_at ((number64 steps ++ text_form value) ++ rest) ≡ Ok (Marks steps value, rest)
unfolding wal_mark_at
mark_again steps value rest fits =
    let short : leb (length value) 64 ≡ true = le-leb (length value) 64 fits.short in
    rw (append_assoc (number64 steps) (text_form value) rest, (number64_reads 0).again steps (text_form value ++ rest) fits.steps_fit, (text_reads 0).again value rest fits.stored, short) refl

confirm_again : (upto : Lsn) (rest : List ℕ) → upto.0 < 2 ^ 64 → confirm_at (number64 upto.0 ++ rest) ≡ Ok (Confirms upto, rest)
unfolding confirm_at
confirm_again upto rest fits = rw ((number64_reads 0).again upto.0 rest fits) refl

entry_again : (e : Entry) (rest : List ℕ) → FitsWalEntry e → wal_entry_at (entry_form e ++ rest) ≡ Ok (e, rest)
unfolding wal_entry_at entry_form
entry_again (Commits steps ms) rest fits = commit_again steps ms rest fits
entry_again (Marks steps value) rest fits = mark_again steps value rest fits
entry_again (Confirms upto) rest fits = confirm_again upto rest fits

-- ---- what is read was written

module _ (bytes left : List ℕ) (e : Entry) (rest : List ℕ) where
  commit_takes : Takes bytes (67 ∷ []) left → wal_commit_at left ≡ Ok (e, rest) → Takes bytes (entry_form e) rest × FitsWalEntry e
  unfolding wal_commit_at entry_form
  commit_takes so_far h =
      let steps = took (number64_reads 0) bytes (67 ∷ []) left _ (e, rest) so_far h in
      let ms = took changes_reads bytes _ steps.rest _ (e, rest) steps.takes steps.more in
      let fits : FitsCommit steps.value ms.value = record { steps_fit = steps.fits; few = ms.fits.0; each = ms.fits.1 } in
      subst (λ (y : Entry × List ℕ). Takes bytes (entry_form y.0) y.1 × FitsWalEntry y.0) (ok_is (Commits steps.value ms.value, ms.rest) (e, rest) ms.more) (ms.takes, fits)

  mark_takes : Takes bytes (77 ∷ []) left → wal_mark_at left ≡ Ok (e, rest) → Takes bytes (entry_form e) rest × FitsWalEntry e
  unfolding wal_mark_at entry_form
  mark_takes so_far h =
      let steps = took (number64_reads 0) bytes (77 ∷ []) left _ (e, rest) so_far h in
      let value = took (text_reads 0) bytes _ steps.rest _ (e, rest) steps.takes steps.more in
      let g = guard_held (leb (length value.value) 64) no_entry (Ok (Marks steps.value value.value, value.rest)) (e, rest) value.more in
      let fits : FitsMark steps.value value.value = record { steps_fit = steps.fits; stored = value.fits; short = leb-true _ _ g.0 } in
      subst (λ (y : Entry × List ℕ). Takes bytes (entry_form y.0) y.1 × FitsWalEntry y.0) (ok_is (Marks steps.value value.value, value.rest) (e, rest) g.1) (value.takes, fits)

  confirm_takes : Takes bytes (70 ∷ []) left → confirm_at left ≡ Ok (e, rest) → Takes bytes (entry_form e) rest × FitsWalEntry e
  unfolding confirm_at entry_form
  confirm_takes so_far h =
      let upto = took (number64_reads 0) bytes (70 ∷ []) left _ (e, rest) so_far h in
      let at : Lsn = record { 0 = upto.value } in
      subst (λ (y : Entry × List ℕ). Takes bytes (entry_form y.0) y.1 × FitsWalEntry y.0) (ok_is (Confirms at, upto.rest) (e, rest) upto.more) (upto.takes, upto.fits)

entry_takes : (bytes : List ℕ) (e : Entry) (rest : List ℕ) → IsBytes bytes → wal_entry_at bytes ≡ Ok (e, rest) → Takes bytes (entry_form e) rest × FitsWalEntry e
unfolding wal_entry_at
entry_takes [] e rest fits h = absurd cc
entry_takes (b ∷ bytes) e rest fits h =
    let start : Takes (b ∷ bytes) (b ∷ []) bytes = record { parts = refl; rest_fits = IsBytes-rest b bytes fits } in
    elim (chosen (eqb b 67) _ _ _ h) [
      | inl p ↦ commit_takes (b ∷ bytes) bytes e rest (subst (λ (n : ℕ). Takes (b ∷ bytes) (n ∷ []) bytes) (eqb-true b 67 p.0) start) p.1
      | inr p ↦ elim (chosen (eqb b 77) _ _ _ p.1) [
        | inl q ↦ mark_takes (b ∷ bytes) bytes e rest (subst (λ (n : ℕ). Takes (b ∷ bytes) (n ∷ []) bytes) (eqb-true b 77 q.0) start) q.1
        | inr q ↦ (
            let g = guard_held (eqb b 70) no_entry (confirm_at bytes) (e, rest) q.1 in
            confirm_takes (b ∷ bytes) bytes e rest (subst (λ (n : ℕ). Takes (b ∷ bytes) (n ∷ []) bytes) (eqb-true b 70 g.0) start) g.1)
      ]
    ]

-- ---- whole entries

pub whole_takes : (bytes : List ℕ) (e : Entry) → IsBytes bytes → whole_entry bytes ≡ Ok e → EncodesEntry bytes e
unfolding whole_entry ended
whole_takes bytes e fits h =
    let a = bind_ok (wal_entry_at bytes) ended e h in
    let g = guard_held (eqb (length a.0.1) 0) no_entry (Ok a.0.0) e a.2 in
    let read = entry_takes bytes a.0.0 a.0.1 fits a.1 in
    let nothing : a.0.1 ≡ [] = nil_from_length a.0.1 (eqb-true _ _ g.0) in
    let spelled : bytes ≡ entry_form a.0.0 = read.0.parts ∙ ap (λ (r : List ℕ). entry_form a.0.0 ++ r) nothing ∙ append-nil (entry_form a.0.0) in
    subst (λ (y : Entry). EncodesEntry bytes y) (ok_is a.0.0 e g.1) (record { fits = read.1; spelled = spelled })

pub whole_again : (bytes : List ℕ) (e : Entry) → EncodesEntry bytes e → whole_entry bytes ≡ Ok e
unfolding whole_entry ended
whole_again bytes e spells =
    let read : wal_entry_at (entry_form e) ≡ Ok (e, []) = ap wal_entry_at (sym (append-nil (entry_form e))) ∙ entry_again e [] spells.fits in
    ap whole_entry spells.spelled ∙ rw read refl

-- bytes spell one entry at most
pub one_entry : (bytes : List ℕ) (a b : Entry) → EncodesEntry bytes a → EncodesEntry bytes b → a ≡ b
one_entry bytes a b of_a of_b = ok_is a b (sym (whole_again bytes a of_a) ∙ whole_again bytes b of_b)

pub form_spells : (e : Entry) → FitsWalEntry e → EncodesEntry (entry_form e) e
form_spells e fits = record { fits = fits; spelled = refl }

none_spelled : (bytes : List ℕ) (d : RecordError) → whole_entry bytes ≡ Err d → ¬ IsWalEntry bytes
none_spelled bytes d refused entry = let contra : ◌≡◌ {A = Result Entry RecordError} (Ok entry.0) (Err d) = sym (whole_again bytes entry.0 entry.1) ∙ refused in cc

-- what a reader of whole entries answers
pub is_read : (bytes : List ℕ) (r : Result Entry RecordError) → IsBytes bytes → Gives (λ e. e) r (whole_entry bytes) → IfOk r (λ entry. EncodesEntry bytes entry)
is_read bytes (Ok e) fits h = whole_takes bytes e fits h
is_read bytes (Err d) fits h = tt

pub is_refused : (bytes : List ℕ) (r : Result Entry RecordError) → Gives (λ e. e) r (whole_entry bytes) → (at : ℕ) → r ≡ Err (BadRecord at) → ¬ IsWalEntry bytes
is_refused bytes (Ok e) h at is = cc
is_refused bytes (Err d) (inl m) at is = let same : Memory ≡ BadRecord at = cc in absurd cc
is_refused bytes (Err d) (inr refused) at is = none_spelled bytes d refused

-- ---- first entries

-- a test that chose what isn't none
some_chosen : {A : Type 0} (b : Bool) (o : Option A) (x : A) → cond b o None ≡ Some x → (b ≡ true) × (o ≡ Some x)
some_chosen true o x h = (refl, h)
some_chosen false o x h = absurd cc

abbrev the_some : {A : Type 0} → A → Option A
the_some x = Some x

some_is : {A : Type 0} (x y : A) → the_some x ≡ the_some y → x ≡ y
some_is x y h = cc

pub workload_is : (bytes workload : List ℕ) → workload_of bytes ≡ Some workload → bytes ≡ workload_form workload
unfolding workload_form
workload_is [] workload h = absurd cc
workload_is (tag ∷ bytes) workload h =
    let g = some_chosen (eqb tag 83) (Some bytes) workload h in
    ap (λ (b : ℕ). b ∷ bytes) (eqb-true tag 83 g.0) ∙ ap (λ (w : List ℕ). 83 ∷ w) (some_is bytes workload g.1)

workload_read : (workload : List ℕ) → workload_of (workload_form workload) ≡ Some workload
unfolding workload_form
workload_read workload = refl

pub workload_again : (bytes workload : List ℕ) → bytes ≡ workload_form workload → workload_of bytes ≡ Some workload
workload_again bytes workload h = ap workload_of h ∙ workload_read workload

pub one_workload : (a b : List ℕ) → workload_form a ≡ workload_form b → a ≡ b
one_workload a b h = some_is a b (sym (workload_read a) ∙ workload_again (workload_form a) b h)

entry_tag : (e : Entry) → workload_of (entry_form e) ≡ None
unfolding entry_form
entry_tag (Commits steps ms) = refl
entry_tag (Marks steps value) = refl
entry_tag (Confirms upto) = refl

pub no_workload : (workload : List ℕ) → ¬ IsWalEntry (workload_form workload)
no_workload workload entry =
    let contra : the_some workload ≡ None = sym (workload_read workload) ∙ ap workload_of entry.1.spelled ∙ entry_tag entry.0 in
    cc

-- ---- what an entry says of itself

number_read : (r : Read ℕ) (n : ℕ) → number_of r ≡ Some n → (rest : List ℕ) × (r ≡ Ok (n, rest))
number_read (Ok x) n h = (x.1, ap (λ (k : ℕ). Ok (k, x.1)) (some_is x.0 n h))
number_read (Err e) n h = absurd cc

pub begins : (bytes : List ℕ) (steps : ℕ) → IsBytes bytes → claim_of bytes ≡ Some steps → BeginsAsCommit bytes steps
begins [] steps fits h = absurd cc
begins (tag ∷ bytes) steps fits h =
    let g = some_chosen (eqb tag 67) (number_of (number_at w64 0 bytes)) steps h in
    let n = number_read (number_at w64 0 bytes) steps g.1 in
    let t = (number64_reads 0).takes bytes steps n.0 (IsBytes-rest tag bytes fits) n.1 in
    record {
      steps_fit = t.1;
      rest = n.0;
      are = ap (λ (b : ℕ). b ∷ bytes) (eqb-true tag 67 g.0) ∙ ap (λ (w : List ℕ). 67 ∷ w) t.0.parts;
    }

pub claims : (bytes : List ℕ) (steps : ℕ) → BeginsAsCommit bytes steps → claim_of bytes ≡ Some steps
claims bytes steps b = ap claim_of b.are ∙ ap number_of ((number64_reads 0).again steps b.rest b.steps_fit)

claim_form : (e : Entry) → FitsWalEntry e → claim_of (entry_form e) ≡ steps_of_commit e
unfolding entry_form
claim_form (Commits steps ms) fits = ap number_of ((number64_reads 0).again steps (changes_form ms) fits.steps_fit)
claim_form (Marks steps value) fits = refl
claim_form (Confirms upto) fits = refl

pub claim_told : (bytes : List ℕ) (e : Entry) → EncodesEntry bytes e → claim_of bytes ≡ steps_of_commit e
claim_told bytes e spells = ap claim_of spells.spelled ∙ claim_form e spells.fits
