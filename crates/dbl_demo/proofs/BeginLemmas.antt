-- The first entries of a log are appended: which fault that can have, how many they are, how long the disk gets, and what is left
-- of it.
use Rattle.std.proofs.Common.{◌≡◌, ◌∙◌, ℕ, ◌+◌, ◌<◌, ◌≤◌, ◌^◌, Option, None, Some, Result, Err, List, [], ◌∷◌, ◌++◌, length, max, refl, sym, ap, subst, arith, inl, inr}
use Rattle.dbl_disk.specs.Model.{DiskModel}
use Rattle.dbl_pgmsg.specs.declared.messages.Message.{Message}
use Rattle.dbl_journal.specs.declared.error.JournalError.{JournalError}
use Rattle.dbl_journal.specs.declared.error.JournalError.TheVariants as broken
use Rattle.dbl_base.specs.Streams.{FaultCounted}
use Rattle.dbl_journal.specs.Stored.{IsSteady, Lists, OnDisk, size}
use Rattle.dbl_demo_wal.specs.declared.entry.Entry.TheVariants.{Commits}
use Rattle.dbl_demo_wal.specs.Entries.{EncodesEntry, workload_form}
use Rattle.dbl_demo_wal.proofs.SizeLemmas.{commit_size}
use Rattle.dbl_tables_rows.specs.Sending.{entry_limit, entry_size}
use Rattle.dbl_demo_workload.specs.declared.error.DemoError.{DemoError}
use Rattle.dbl_demo_workload.specs.Errors.{journal_error}
use Rattle.dbl_demo_workload.specs.Logs.{IsFailed}
use Rattle.dbl_demo_workload.specs.Steps.{FitAnEntry}
use Rattle.dbl_demo_laws.specs.Made.{first_forms}
use Rattle.dbl_demo_laws.proofs.MakeLemmas.{first_less, grew_once, grew_twice, none_small}
use Rattle.dbl_demo.specs.Begun.{IsBeginFault, first_room}
use Rattle.dbl_journal.specs.Calls.{Makes}

-- ---- the fault of an entry that isn't too long

kind_of : (e : JournalError) → ((at : ℕ) → e ≡ broken.NotAJournal at → ⊥) → ((len : ℕ) → e ≡ broken.EntryTooLong len → ⊥) → IsBeginFault (journal_error e)
kind_of broken.Failed no_journal short = inr refl
kind_of (broken.NotAJournal at) no_journal short = absurd (no_journal at refl)
kind_of (broken.EntryTooLong len) no_journal short = absurd (short len refl)
kind_of broken.Memory no_journal short = inl refl

pub append_kind : (result : Result Unit JournalError) (e : JournalError) (f : DemoError) → result ≡ Err e → f ≡ journal_error e → ((at : ℕ) → result ≡ Err (broken.NotAJournal at) → ⊥) → ((len : ℕ) → result ≡ Err (broken.EntryTooLong len) → ⊥) → IsBeginFault f
append_kind result e f is told no_journal short =
    subst IsBeginFault (sym told) (kind_of e (λ at same. no_journal at (is ∙ ap Err same)) (λ len same. short len (is ∙ ap Err same)))

workload_size : (script : List ℕ) → length (workload_form script) ≡ 1 + length script
unfolding workload_form
workload_size script = omega arith

pub workload_short : (script form : List ℕ) → length script < 2 ^ 28 → form ≡ workload_form script → 2 ^ 28 < length form → ⊥
workload_short script form short is long = omega (arith, short, long, workload_size script, ap (λ (l : List ℕ). length l) is)

pub rows_short : (messages : List Message) (form : List ℕ) → FitAnEntry messages → EncodesEntry form (Commits 0 messages) → 2 ^ 28 < length form → ⊥
rows_short messages form fits spells long =
    let few : entry_size messages ≤ entry_limit = fits.short in
    omega (arith, few, long, commit_size 0 messages, ap (λ (l : List ℕ). length l) spells.spelled)

-- ---- how many they are

pub one_first : (script : List ℕ) (rows : Option (List Message)) (old new : ℕ) → rows ≡ None → old ≡ 0 → new ≡ old + 1 → new ≡ length (first_forms script rows)
one_first script rows old new none empty one = omega (arith, empty, one, ap (λ (o : Option (List Message)). length (first_forms script o)) none)

pub two_first : (script : List ℕ) (rows : Option (List Message)) (messages : List Message) (old mid new : ℕ) → rows ≡ Some messages → old ≡ 0 → mid ≡ old + 1 → new ≡ mid + 1 → new ≡ length (first_forms script rows)
two_first script rows messages old mid new some empty one two = omega (arith, empty, one, two, ap (λ (o : Option (List Message)). length (first_forms script o)) some)

-- ---- how long the disk gets

-- after the workload
pub grown_once : (script form : List ℕ) (rows : Option (List Message)) (old new : ℕ) → form ≡ workload_form script → new ≤ max old (size ([] ++ form ∷ [])) → new ≤ max old (size (first_forms script rows))
grown_once script form rows old new is le =
    grew_once old new (size ([] ++ form ∷ [])) (size (first_forms script rows)) le (subst (λ (w : List ℕ). size (w ∷ []) ≤ size (first_forms script rows)) (sym is) (first_less script rows))

-- and after its rows
pub grown_twice : (script first second : List ℕ) (rows : Option (List Message)) (messages : List Message) (old mid new : ℕ) → rows ≡ Some messages → first ≡ workload_form script → EncodesEntry second (Commits 0 messages)
    → mid ≤ max old (size ([] ++ first ∷ [])) → new ≤ max mid (size ((first ∷ []) ++ second ∷ [])) → new ≤ max old (size (first_forms script rows))
grown_twice script first second rows messages old mid new some is spells once again =
    let whole : size ((first ∷ []) ++ second ∷ []) ≡ size (first_forms script rows) =
    ap (λ (w : List ℕ). size (w ∷ second ∷ [])) is ∙ ap (λ (w : List ℕ). size (workload_form script ∷ w ∷ [])) spells.spelled ∙ ap (λ (o : Option (List Message)). size (first_forms script o)) (sym some) in
    let less : size ([] ++ first ∷ []) ≤ size (first_forms script rows) = subst (λ (w : List ℕ). size (w ∷ []) ≤ size (first_forms script rows)) (sym is) (first_less script rows) in
    grew_twice old mid new (size ([] ++ first ∷ [])) (size (first_forms script rows)) once (subst (λ (n : ℕ). new ≤ max mid n) whole again) less

-- ---- what is left of the disk

-- the journal couldn't be made
pub unmade_disk : {D : Type 0} (model : DiskModel D) (old new : D) (e : DemoError) → ((bytes : List ℕ) → model.seen old ≡ Some [] → model.seen new ≡ Some bytes → length bytes ≤ size []) → model.faults old ≤ model.faults new → FaultCounted (model.faults old) (model.faults new) → IsFailed e
    → Makes model first_room (IsFailed e) old new
unmade_disk model old new e short later rose failed = record {
  small = λ bytes told is. omega (arith, none_small, short bytes told is);
  later = later;
  cause = λ again. rose;
  steady = λ no. absurd (no failed);
}

-- it was made, and entries were appended, or not all
module _ {D : Type 0} (model : DiskModel D) (disk : D) (first last : OnDisk D) (all : List (List ℕ)) where
  abbrev Grows : Type 0
  Grows = (old new : List ℕ) → Lists model first [] → model.seen first.disk ≡ Some old → model.seen last.disk ≡ Some new → length new ≤ max (length old) (size all)

  abbrev IsMade : Type 0
  IsMade = model.seen disk ≡ Some [] → Lists model first []

  begun_small : IsMade → ((bytes : List ℕ) → model.seen disk ≡ Some [] → model.seen first.disk ≡ Some bytes → length bytes ≤ size []) → Grows → size all ≤ 2 ^ 30 → (bytes : List ℕ) → model.seen disk ≡ Some [] → model.seen last.disk ≡ Some bytes → length bytes ≤ 2 ^ 30
  begun_small made once grows small bytes told is =
      let lists = made told in
      let short : length lists.bytes ≤ size [] = once lists.bytes told lists.told in
      omega (arith, small, none_small, short, grows lists.bytes bytes lists lists.told is)

  begun_steady : ((bytes : List ℕ) → model.seen disk ≡ Some bytes → bytes ≡ []) → IsMade → IsSteady model disk first.disk → IsSteady model first.disk last.disk → IsSteady model disk last.disk
  begun_steady empty made one two bytes told =
      let lists = made (told ∙ ap Some (empty bytes told)) in
      two lists.bytes lists.told ∙ one bytes told

  pub begun_disk : (failed : Type 0) → ((bytes : List ℕ) → model.seen disk ≡ Some bytes → bytes ≡ []) → IsMade → ((bytes : List ℕ) → model.seen disk ≡ Some [] → model.seen first.disk ≡ Some bytes → length bytes ≤ size []) → Grows → size all ≤ 2 ^ 30
      → model.faults disk ≤ model.faults first.disk → model.faults first.disk ≤ model.faults last.disk → (failed → FaultCounted (model.faults first.disk) (model.faults last.disk)) → IsSteady model disk first.disk → ((failed → ⊥) → IsSteady model first.disk last.disk) → Makes model first_room failed disk last.disk
  begun_disk failed empty made once grows small later on cause one two = record {
    small = begun_small made once grows small;
    later = omega (arith, later, on);
    cause = λ is. (let rose = cause is in omega (arith, later, rose));
    steady = λ no. begun_steady empty made one (two no);
  }
