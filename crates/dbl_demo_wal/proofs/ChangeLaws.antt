-- Changes after their length: what is read was written, and what was written is read again.
use Rattle.std.proofs.Common.{◌≡◌, ◌⊎◌, ◌∙◌, ℕ, ◌^◌, ◌<◌, ◌≤◌, true, false, ltb, List, ◌++◌, length, take, drop, Result, Ok, Err, refl, sym, ap, subst, append_assoc, arith, inl, inr}
use Rattle.std.specs.Int.{w32}
use Rattle.std.specs.List.{flat_map, AllByRecursion}
use Rattle.std.proofs.lemmas.Bool.{le-ltb, ltb-false}
use Rattle.std.proofs.lemmas.List.{take_at, drop_at, take-append-drop, length-append, length-take}
use Rattle.dbl_pgmsg.specs.declared.error.MsgError.{MsgError}
use Rattle.dbl_pgmsg.specs.declared.error.MsgError.TheVariants as faults
use Rattle.dbl_pgmsg.specs.declared.messages.Message.{Message}
use Rattle.dbl_pgmsg.specs.declared.messages.Message.TheVariants as says
use Rattle.dbl_pgmsg.specs.Grammar.{spelling, Spells}
use Rattle.dbl_pgmsg.specs.Reading as messages
use Rattle.dbl_pgmsg.proofs.FaultLaws.{whole_takes, whole_again}
use Rattle.dbl_record.specs.declared.error.RecordError.{RecordError}
use Rattle.dbl_record.specs.Fields.{number32}
use Rattle.dbl_record.specs.GroupReading.{Fails, Gives, number_at}
use Rattle.dbl_record.proofs.FieldLaws.{IsBytes, IsBytes-drop, IsBytes-take, bind_ok, guard_ok, guard_held, ok_is, Takes, Takes-then, Reads, number32_reads, many_again, many_takes}
use Rattle.dbl_tables_laws.specs.SourceLog.Fair.{IsChange}
use Rattle.dbl_demo_wal.specs.Entries.{change_form, changes_form, HoldsChange}
use Rattle.dbl_demo_wal.specs.Reading.{no_entry, is_change, change_in, refusal, spelled_change, change_at, changes_at}

-- ---- which messages are changes

change_is : (m : Message) → is_change m ≡ true → IsChange m
change_is (says.Insert oid new) h = tt
change_is (says.Update oid before new) h = tt
change_is (says.Delete oid before) h = tt
change_is (says.Truncate options oids) h = tt
change_is m h = cc

is_true : (m : Message) → IsChange m → is_change m ≡ true
is_true (says.Insert oid new) h = refl
is_true (says.Update oid before new) h = refl
is_true (says.Delete oid before) h = refl
is_true (says.Truncate options oids) h = refl
is_true m h = absurd h

-- ---- the change that some bytes spell

pub change_found : (bytes : List ℕ) (m : Message) → Spells bytes m → spelled_change bytes ≡ change_in (Ok m)
unfolding spelled_change
change_found bytes m spells = ap change_in (whole_again bytes m spells)

-- a result that is what reading gives
pub gives_same : (result read : Result Message RecordError) → result ≡ read → Gives (λ m. m) result read
gives_same (Ok m) read h = sym h
gives_same (Err e) read h = inr (sym h)

abbrev failed : MsgError → Result Message MsgError
failed e = Err e

abbrev read : Message → Result Message MsgError
read m = Ok m

not_both : (m : Message) (e : MsgError) → read m ≡ failed e → ⊥
not_both m e h = cc

same_fault : (d e : MsgError) → failed d ≡ failed e → d ≡ e
same_fault d e h = cc

none_of : (bytes : List ℕ) (r result : Result Message MsgError) (e : MsgError) → messages.whole bytes ≡ r → IsBytes bytes → ((m : Message) → Spells bytes m → (result ≡ Ok m) ⊎ (result ≡ Err faults.Memory)) → result ≡ Err e → (e ≡ faults.Memory → ⊥)
    → change_in r ≡ Err no_entry
none_of bytes (Err d) result e whole fits spelled is other = refl
none_of bytes (Ok m) result e whole fits spelled is other =
    elim (spelled m (whole_takes bytes m fits whole)) [
      | inl h ↦ absurd (not_both m e (sym h ∙ is))
      | inr h ↦ absurd (other (same_fault e faults.Memory (sym is ∙ h)))
    ]

-- bytes that aren't read, though memory was there, spell no change
change_none : (bytes : List ℕ) (result : Result Message MsgError) (e : MsgError) → IsBytes bytes → ((m : Message) → Spells bytes m → (result ≡ Ok m) ⊎ (result ≡ Err faults.Memory)) → result ≡ Err e → (e ≡ faults.Memory → ⊥) → spelled_change bytes ≡ Err no_entry
unfolding spelled_change
change_none bytes result e fits spelled is other = none_of bytes (messages.whole bytes) result e refl fits spelled is other

pub change_refused : (bytes : List ℕ) (result : Result Message MsgError) (e : MsgError) → IsBytes bytes → ((m : Message) → Spells bytes m → (result ≡ Ok m) ⊎ (result ≡ Err faults.Memory)) → result ≡ Err e → Fails (refusal e) (spelled_change bytes)
change_refused bytes result faults.Memory fits spelled is = inl refl
change_refused bytes result e fits spelled is = inr (change_none bytes result e fits spelled is (λ h. cc))

spelled_again : (bytes : List ℕ) (m : Message) → Spells bytes m → IsChange m → spelled_change bytes ≡ Ok m
spelled_again bytes m spells is = change_found bytes m spells ∙ rw (is_true m is) refl

taken_of : (bytes : List ℕ) (m : Message) (r : Result Message MsgError) → messages.whole bytes ≡ r → IsBytes bytes → change_in r ≡ Ok m → Spells bytes m × IsChange m
taken_of bytes m (Err d) whole fits e = absurd cc
taken_of bytes m (Ok x) whole fits e =
    let g = guard_held (is_change x) no_entry (Ok x) m e in
    subst (λ (y : Message). Spells bytes y × IsChange y) (ok_is x m g.1) (whole_takes bytes x fits whole, change_is x g.0)

spelled_takes : (bytes : List ℕ) (m : Message) → IsBytes bytes → spelled_change bytes ≡ Ok m → Spells bytes m × IsChange m
unfolding spelled_change
spelled_takes bytes m fits e = taken_of bytes m (messages.whole bytes) refl fits e

-- ---- a change after its length

change_again : (m : Message) (rest : List ℕ) → HoldsChange m → change_at (change_form m ++ rest) ≡ Ok (m, rest)
unfolding change_at change_form
change_again m rest holds =
    let text = spelling m in
    let small : length text < 2 ^ 32 = omega (arith, holds.0.short) in
    let long : ltb (length (text ++ rest)) (length text) ≡ false = le-ltb _ _ (omega (arith, length-append text rest)) in
    rw (append_assoc (number32 (length text)) text rest, (number32_reads 0).again (length text) (text ++ rest) small, long, take_at text rest (length text) refl, drop_at text rest (length text) refl, spelled_again text m (record { fits = holds.0; spelled = refl }) holds.1) refl

change_takes : (bytes : List ℕ) (m : Message) (rest : List ℕ) → IsBytes bytes → change_at bytes ≡ Ok (m, rest) → Takes bytes (change_form m) rest × HoldsChange m
unfolding change_at change_form
change_takes bytes m rest fits e =
    let a = bind_ok (number_at w32 0 bytes) _ (m, rest) e in
    let n = a.0 in
    let t = (number32_reads 0).takes bytes n.0 n.1 fits a.1 in
    let g = guard_ok (ltb (length n.1) n.0) no_entry _ (m, rest) a.2 in
    let b = bind_ok (spelled_change (take n.0 n.1)) (λ (message : Message). Ok (message, drop n.0 n.1)) (m, rest) g.1 in
    let u = spelled_takes (take n.0 n.1) b.0 (IsBytes-take n.0 n.1 t.0.rest_fits) b.1 in
    let same = ok_is (b.0, drop n.0 n.1) (m, rest) b.2 in
    let long : n.0 ≤ length n.1 = ltb-false _ _ g.0 in
    let m_is : b.0 ≡ m = ap (λ (p : Message × List ℕ). p.0) same in
    let rest_is : drop n.0 n.1 ≡ rest = ap (λ (p : Message × List ℕ). p.1) same in
    let front : take n.0 n.1 ≡ spelling m = u.0.spelled ∙ ap spelling m_is in
    let len : length (spelling m) ≡ n.0 = ap (λ (w : List ℕ). length w) (sym front) ∙ omega (arith, length-take n.0 n.1) in
    let second : Takes n.1 (spelling m) rest = record {
      parts = sym (take-append-drop n.0 n.1) ∙ ap (λ (w : List ℕ). w ++ drop n.0 n.1) front ∙ ap (λ (w : List ℕ). spelling m ++ w) rest_is;
      rest_fits = subst IsBytes rest_is (IsBytes-drop n.0 n.1 t.0.rest_fits);
    } in
    let both = Takes-then bytes (number32 n.0) n.1 (spelling m) rest t.0 second in
    (subst (λ (k : ℕ). Takes bytes (number32 k ++ spelling m) rest) (sym len) both, subst HoldsChange m_is (u.0.fits, u.1))

pub change_reads : Reads change_at change_form HoldsChange
change_reads = record { again = change_again; takes = change_takes }

-- ---- changes after their number

changes_again : (ms : List Message) (rest : List ℕ) → (length ms < 2 ^ 32) × AllByRecursion HoldsChange ms → changes_at (changes_form ms ++ rest) ≡ Ok (ms, rest)
unfolding changes_at changes_form
changes_again ms rest fits = rw (append_assoc (number32 (length ms)) (flat_map change_form ms) rest, (number32_reads 0).again (length ms) (flat_map change_form ms ++ rest) fits.0) (many_again change_reads ms rest fits.1)

changes_takes : (bytes : List ℕ) (ms : List Message) (rest : List ℕ) → IsBytes bytes → changes_at bytes ≡ Ok (ms, rest) → Takes bytes (changes_form ms) rest × ((length ms < 2 ^ 32) × AllByRecursion HoldsChange ms)
unfolding changes_at changes_form
changes_takes bytes ms rest fits e =
    let a = bind_ok (number_at w32 0 bytes) _ (ms, rest) e in
    let first = (number32_reads 0).takes bytes a.0.0 a.0.1 fits a.1 in
    let second = many_takes change_reads a.0.0 a.0.1 ms rest first.0.rest_fits a.2 in
    let both = Takes-then bytes (number32 a.0.0) a.0.1 (flat_map change_form ms) rest first.0 second.0 in
    (subst (λ (k : ℕ). Takes bytes (number32 k ++ flat_map change_form ms) rest) (sym second.1) both, (omega (arith, first.1, second.1), second.2))

pub changes_reads : Reads changes_at changes_form (λ ms. (length ms < 2 ^ 32) × AllByRecursion HoldsChange ms)
changes_reads = record { again = changes_again; takes = changes_takes }
