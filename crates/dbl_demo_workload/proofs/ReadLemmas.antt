-- A log that is read from its first entry to its last: what each step of it answers.
use Rattle.std.proofs.Common.{◌≡◌, ◌∙◌, ◌⊎◌, ℕ, ◌<◌, ◌≤◌, Option, None, Some, List, [], ◌∷◌, length, refl, sym, ap, subst, arith, inl, inr}
use Rattle.std.specs.Prelude.{◌≢◌, ◌↔◌, IsTrue, Result, Ok, Err, IfSome, slice_get}
use Rattle.std.specs.List.{All}
use Rattle.std.proofs.lemmas.List.Elements.{All-nil}
use Rattle.dbl_base.specs.Streams.{FaultCounted}
use Rattle.dbl_disk.specs.Model.{DiskModel}
use Rattle.dbl_pgmsg.specs.declared.messages.Message.{Message}
use Rattle.dbl_model_table.proofs.Capturable.{capturable}
use Rattle.dbl_journal.specs.declared.error.JournalError.{JournalError}
use Rattle.dbl_journal.specs.declared.error.JournalError.TheVariants as journal
use Rattle.dbl_disk.specs.declared.extent.Extent.{Extent}
use Rattle.dbl_journal.specs.Stored.{IsSteady, Lists, OnDisk, count_of}
use Rattle.dbl_journal.proofs.Appends.{length-places}
use Rattle.dbl_demo_wal.specs.Entries.{workload_form}
use Rattle.dbl_demo_wal.specs.Workloads.{IsWorkload, Workload}
use Rattle.dbl_demo_wal.specs.Wals.{IsFirstBad, IsPrefix, Wal}
use Rattle.dbl_demo_wal.specs.Wals.IsFirstBad.{no_workload}
use Rattle.dbl_demo_workload.specs.declared.checking.Checked.{Checked}
use Rattle.dbl_demo_workload.specs.declared.error.DemoError.{DemoError}
use Rattle.dbl_demo_workload.specs.declared.error.DemoError.TheVariants as demo
use Rattle.dbl_demo_workload.specs.declared.preparing.Prepared.{Prepared}
use Rattle.dbl_demo_workload.specs.Errors.{journal_error}
use Rattle.dbl_demo_workload.specs.Logs.{ChecksAll, FailsByJournal, HasReadParts, BeginsWithWorkload, IsFailed, IsOpened, IsReadFault, IsReadOnly, NoWorkload, ReadsFirst, ReadsLog, ReadsTo, workload_error}
use Rattle.dbl_demo_workload.specs.Ready.{IsReady}
use Rattle.dbl_demo_workload.specs.Refusals.{IsRefused}
use Rattle.dbl_demo_workload.specs.Steps.{FitAnEntry, HasRunSteps}
use Rattle.dbl_demo_workload.proofs.RefusalLaws.{not_refused}
use Rattle.dbl_demo_workload.proofs.WorkloadLemmas.{ready_has_run}
use Rattle.dbl_demo_workload.proofs.LogLemmas.{all_read, opens_first, read_moved, rows_missing}

-- ---- the first entry

head_is : (forms : List (List ℕ)) (first : List ℕ) → slice_get forms 0 ≡ Some first → (others : List (List ℕ)) × (forms ≡ first ∷ others)
head_is [] first there = absurd (let t = there in cc)
head_is (form ∷ forms) first there = let same : form ≡ first = (let t = there in cc) in (forms, ap (λ (f : List ℕ). f ∷ forms) same)

pub first_read : (forms : List (List ℕ)) (first : List ℕ) (checked : Checked) → slice_get forms 0 ≡ Some first → BeginsWithWorkload first checked.prepared → IfSome checked.prepared.rows FitAnEntry → checked.done ≡ 0 → checked.commits.items ≡ [] → checked.confirmed ≡ record { 0 = 0 }
    → ReadsFirst forms (Ok checked)
first_read forms first checked there b fits none commits confirmed =
    let head = head_is forms first there in
    let wal : Wal = record { script = b.0; workload = b.1; entries = [] } in
    let front : IsPrefix (workload_form b.0 ∷ []) wal = record { are = refl; workload = b.3; fits = tt; each = tt } in
    (first, head.0, head.1, opens_first first checked b.0 b.1 b.2 b.4 fits front none commits confirmed)

pub first_parts : (first : List ℕ) (checked : Checked) → BeginsWithWorkload first checked.prepared → IfSome checked.prepared.rows FitAnEntry → checked.done ≡ 0 → checked.commits.items ≡ [] → HasReadParts 1 checked
first_parts first checked b fits none commits = record {
  goes = record {
    has_run = subst (λ (n : ℕ). HasRunSteps checked.prepared.steps.items n checked.prepared.store) (sym none) (ready_has_run b.0 b.1 checked.prepared b.3 b.4);
    rows = fits;
    named = (b.0, b.1, b.3, b.4.names);
  };
  few = omega (arith, ap (λ (l : List ℕ). length l) commits);
  there = subst (All (λ (n : ℕ). n < 1)) (sym commits) (All-nil (λ (n : ℕ). n < 1));
}

-- it is no workload that can be run
pub first_refused : (forms : List (List ℕ)) (first : List ℕ) (e : DemoError) → slice_get forms 0 ≡ Some first → (e ≡ demo.Memory) ⊎ ((e ≡ demo.BadEntry 0) × NoWorkload first) → ReadsFirst forms (Err e)
first_refused forms first e there (inl memory) = inl memory
first_refused forms first e there (inr (bad, none)) = inr (inr (bad, no_workload refl (record { none = λ script w is at. none script w is (same_first (sym there ∙ at)) })))
  where
    same_first : {a b : List ℕ} → ◌≡◌ {A = Option (List ℕ)} (Some a) (Some b) → a ≡ b
    same_first h = cc

-- there is none
pub first_missing : (forms : List (List ℕ)) → length forms ≡ 0 → IsFirstBad forms 0
first_missing [] none = no_workload refl (record { none = λ script w is at. (let t = at in cc) })
first_missing (form ∷ forms) none = absurd (omega (arith, none))

-- ---- what the reading of the first entry answers

module _ {D : Type 0} (model : DiskModel D) (journal : OnDisk D) where
  pub first_none : (e : DemoError) → e ≡ demo.BadEntry 0 → count_of journal ≡ 0 → (forms : List (List ℕ)) → Lists model journal forms → ReadsFirst forms (Err e)
  first_none e is none forms lists =
      let listed : length journal.places ≡ length forms = ap (λ (l : List Extent). length l) lists.places ∙ length-places forms 8 in
      inr (inr (is, first_missing forms (sym listed ∙ none)))

pub first_fault : (forms : List (List ℕ)) (e : DemoError) → (e ≡ demo.Memory) ⊎ IsFailed e → ReadsFirst forms (Err e)
first_fault forms e (inl memory) = inl memory
first_fault forms e (inr failed) = inr (inl failed)

-- the same of an entry after it
pub entry_stops : (forms : List (List ℕ)) (was new : Checked) (e : DemoError) → (e ≡ demo.Memory) ⊎ IsFailed e → ChecksAll forms was new (Err e)
entry_stops forms was new e (inl memory) first others are opened = inl memory
entry_stops forms was new e (inr failed) first others are opened = inr (inl failed)

-- the bytes were passed on
pub refused_there : (forms : List (List ℕ)) (first bytes : List ℕ) (e : DemoError) → bytes ≡ first → slice_get forms 0 ≡ Some first → (e ≡ demo.Memory) ⊎ ((e ≡ demo.BadEntry 0) × NoWorkload bytes) → ReadsFirst forms (Err e)
refused_there forms first bytes e same there refused = first_refused forms first e there (subst (λ (b : List ℕ). (e ≡ demo.Memory) ⊎ ((e ≡ demo.BadEntry 0) × NoWorkload b)) same refused)

-- ---- a journal whose disk alone was used

pub live_same : {D : Type 0} (old new : OnDisk D) → new ≡ record old { disk = new.disk } → IsTrue old.live → IsTrue new.live
live_same {D = D} old new same live = subst IsTrue (sym (ap (λ (j : OnDisk D). j.live) same)) live

pub count_same : {D : Type 0} (old new : OnDisk D) → new ≡ record old { disk = new.disk } → count_of new ≡ count_of old
count_same {D = D} old new same = ap (λ (j : OnDisk D). length j.places) same

-- ---- kinds of errors

pub fault_of_entry : (e : DemoError) → (e ≡ demo.Memory) ⊎ IsFailed e → IsReadFault e
fault_of_entry e (inl memory) = inl memory
fault_of_entry e (inr failed) = inr (inl failed)

pub fault_of_workload : {P : Type 0} (e : DemoError) → (e ≡ demo.Memory) ⊎ ((e ≡ demo.BadEntry 0) × P) → IsReadFault e
fault_of_workload e (inl memory) = inl memory
fault_of_workload e (inr bad) = inr (inr (0, bad.0))

pub fault_of_check : (index : ℕ) (e : DemoError) → (e ≡ demo.Memory) ⊎ (e ≡ demo.BadEntry index) → IsReadFault e
fault_of_check index e (inl memory) = inl memory
fault_of_check index e (inr bad) = inr (inr (index, bad))

-- an error that isn't the disk's
pub other_kind : {T : Type 0} (index : ℕ) (e : DemoError) → (e ≡ demo.Memory) ⊎ (e ≡ demo.BadEntry index) → FailsByJournal {T = T} (Err e) → ⊥
other_kind index e (inl memory) failed = let is : e ≡ demo.Journal journal.Failed = cc in cc
other_kind index e (inr bad) failed = let is : e ≡ demo.Journal journal.Failed = cc in cc

pub workload_kind : {P : Type 0} (e : DemoError) → (e ≡ demo.Memory) ⊎ ((e ≡ demo.BadEntry 0) × P) → (e ≡ demo.Memory) ⊎ (e ≡ demo.BadEntry 0)
workload_kind e (inl memory) = inl memory
workload_kind e (inr bad) = inr bad.0

module _ {D : Type 0} (model : DiskModel D) (old new : OnDisk D) where
  -- the call answered something else, or passed the error on
  pub read_ok : {A B : Type 0} (a : A) (b : B) → IsReadOnly model (FailsByJournal (Ok a)) old new → IsReadOnly model (FailsByJournal (Ok b)) old new
  read_ok a b read = read_moved model (FailsByJournal (Ok a)) (FailsByJournal (Ok b)) old new (λ f. absurd (let t = f in cc)) (λ f. absurd (let t = f in cc)) read

  pub read_none : {A : Type 0} (a : A) → IsReadOnly model (FailsByJournal (Ok a)) old new → IsReadOnly model ⊥ old new
  read_none a read = read_moved model (FailsByJournal (Ok a)) ⊥ old new (λ f. absurd f) (λ f. let t = f in cc) read

  pub read_done : {A : Type 0} (a : A) → IsReadOnly model ⊥ old new → IsReadOnly model (FailsByJournal (Ok a)) old new
  read_done a read = read_moved model ⊥ (FailsByJournal (Ok a)) old new (λ f. let t = f in cc) (λ f. absurd f) read

  pub read_other : {A B : Type 0} (a : A) (e : DemoError) → (FailsByJournal {T = B} (Err e) → ⊥) → IsReadOnly model (FailsByJournal (Ok a)) old new → IsReadOnly model (FailsByJournal {T = B} (Err e)) old new
  read_other {B = B} a e none read = read_moved model (FailsByJournal (Ok a)) (FailsByJournal {T = B} (Err e)) old new (λ f. absurd (none f)) (λ f. absurd (let t = f in cc)) read

  pub read_err : {A B : Type 0} (e : DemoError) → IsReadOnly model (FailsByJournal {T = A} (Err e)) old new → IsReadOnly model (FailsByJournal {T = B} (Err e)) old new
  read_err {A = A} {B = B} e read = read_moved model (FailsByJournal {T = A} (Err e)) (FailsByJournal {T = B} (Err e)) old new (λ f. same f) (λ f. same f) read
    where
      same : {X Y : Type 0} → ◌≡◌ {A = Result X DemoError} (Err e) (Err (demo.Journal journal.Failed)) → ◌≡◌ {A = Result Y DemoError} (Err e) (Err (demo.Journal journal.Failed))
      same f = let is : e ≡ demo.Journal journal.Failed = (let t = f in cc) in cc

-- ---- the others

pub log_first : (forms : List (List ℕ)) (e : DemoError) → ReadsFirst forms (Err e) → ReadsLog forms (Err e)
log_first forms e (inl memory) = inl memory
log_first forms e (inr (inl failed)) = inr (inl failed)
log_first forms e (inr (inr (is, bad))) = inr (inr (0, is, bad))

pub log_entries : (forms : List (List ℕ)) (was new : Checked) (r : Result Unit DemoError) → ReadsFirst forms (Ok was) → ChecksAll forms was new r → ReadsTo forms new r
log_entries forms was new r f checks = checks f.0 f.1 f.2 f.3

pub log_refused : (forms : List (List ℕ)) (was new : Checked) (e : DemoError) → ReadsFirst forms (Ok was) → ChecksAll forms was new (Err e) → ReadsLog forms (Err e)
log_refused forms was new e first checks = log_entries forms was new (Err e) first checks

-- the commit of the rows is missing
pub log_missing : (forms : List (List ℕ)) (was new : Checked) (rows : List Message) → ReadsFirst forms (Ok was) → ChecksAll forms was new (Ok tt) → new.prepared.rows ≡ Some rows → ReadsLog forms (Err (demo.BadEntry 1))
log_missing forms was new rows first checks some =
    let opened : IsOpened forms new = log_entries forms was new (Ok tt) first checks in
    inr (inr (1, refl, rows_missing forms new opened rows some))

pub log_read : (forms : List (List ℕ)) (was new : Checked) → ReadsFirst forms (Ok was) → ChecksAll forms was new (Ok tt) → new.prepared.rows ≡ None → ReadsLog forms (Ok new)
log_read forms was new first checks none =
    let opened : IsOpened forms new = log_entries forms was new (Ok tt) first checks in
    all_read forms new opened none

-- ---- an entry that is read

pub entry_fault : (r : Result (List ℕ) JournalError) (e : JournalError) (f : DemoError) → r ≡ Err e → ((at : ℕ) → r ≢ Err (journal.NotAJournal at)) → ((len : ℕ) → r ≢ Err (journal.EntryTooLong len)) → f ≡ journal_error e → (f ≡ demo.Memory) ⊎ IsFailed f
entry_fault r journal.Failed f was none short told = inr told
entry_fault r (journal.NotAJournal at) f was none short told = absurd (none at was)
entry_fault r (journal.EntryTooLong len) f was none short told = absurd (short len was)
entry_fault r journal.Memory f was none short told = inl told

-- the device failed
failed_of : (e : JournalError) → journal_error e ≡ demo.Journal journal.Failed → e ≡ journal.Failed
failed_of journal.Failed same = refl
failed_of (journal.NotAJournal at) same = cc
failed_of (journal.EntryTooLong len) same = cc
failed_of journal.Memory same = cc

module _ {D : Type 0} (model : DiskModel D) (old new : OnDisk D) (r : Result (List ℕ) JournalError)
    (same : new ≡ record old { disk = new.disk }) (told : model.seen new.disk ≡ model.seen old.disk) (crash : (crashed : List ℕ) → model.may_leave new.disk crashed ↔ model.may_leave old.disk crashed)
    (lists : (forms : List (List ℕ)) → Lists model old forms → Lists model new forms) (later : model.faults old.disk ≤ model.faults new.disk)
    (failed : r ≡ Err journal.Failed → FaultCounted (model.faults old.disk) (model.faults new.disk)) (steady : r ≢ Err journal.Failed → IsSteady model old.disk new.disk) where
  pub entry_read : (F : Type 0) → (F → r ≡ Err journal.Failed) → ((F → ⊥) → r ≢ Err journal.Failed) → IsReadOnly model F old new
  entry_read F to from = record {
    disk = record { same = told; crash = λ crashed may. (crash crashed).0 may; later = later; cause = λ f. failed (to f); steady = λ none. steady (from none) };
    same = same;
    lists = lists;
  }

  -- it answered the entry
  pub entry_ok : {T : Type 0} (x : T) (bytes : List ℕ) → r ≡ Ok bytes → IsReadOnly model (FailsByJournal (Ok x)) old new
  entry_ok x bytes was = entry_read (FailsByJournal (Ok x)) (λ f. cc) (λ none at. (let contra : Ok bytes ≡ Err journal.Failed = sym was ∙ at in cc))

  pub entry_err : {T : Type 0} (e : JournalError) (f : DemoError) → r ≡ Err e → f ≡ journal_error e → IsReadOnly model (FailsByJournal {T = T} (Err f)) old new
  entry_err e f was is =
      entry_read (FailsByJournal (Err f))
      (λ fails. (let here : f ≡ demo.Journal journal.Failed = cc in was ∙ ap (λ (x : JournalError). Err x) (failed_of e (sym is ∙ here))))
      (λ none at. none (let here : e ≡ journal.Failed = (let both : Err e ≡ Err journal.Failed = sym was ∙ at in cc) in ap (λ (x : DemoError). Err x) (is ∙ ap journal_error here)))

-- ---- the workload of an entry

told_workload : (e : DemoError) → (workload_error e ≡ demo.Memory) ⊎ (workload_error e ≡ demo.BadEntry 0)
told_workload demo.Memory = inl refl
told_workload (demo.Journal e) = inr refl
told_workload (demo.Script e) = inr refl
told_workload (demo.Model e) = inr refl
told_workload (demo.BadEntry index) = inr refl

module _ (entry : List ℕ) (r : Option (List ℕ)) (tells : (workload : List ℕ) → (r ≡ Some workload) ↔ (entry ≡ workload_form workload)) where
  -- the entry has none
  pub no_claim : r ≡ None → NoWorkload entry
  no_claim none script w is at = let there : r ≡ Some script = (tells script).1 at in cc

  module _ (bytes : List ℕ) (some : r ≡ Some bytes) where
    pub begun_entry : (ready : Prepared) → (w : Workload) × IsWorkload bytes w × IsReady w ready → BeginsWithWorkload entry ready
    begun_entry ready of = (bytes, of.0, (tells bytes).0 some, of.1, of.2)

    -- it has one that can't be run
    pub refused_entry : (e : DemoError) (f : DemoError) → f ≡ workload_error e → (e ≡ demo.Memory) ⊎ IsRefused bytes e → (f ≡ demo.Memory) ⊎ ((f ≡ demo.BadEntry 0) × NoWorkload entry)
    refused_entry e f told (inl memory) = inl (told ∙ ap workload_error memory)
    refused_entry e f told (inr refused) = elim (told_workload e) [
      | inl memory ↦ inl (told ∙ memory)
      | inr bad ↦ inr (
        told ∙ bad,
        λ script w is at. (
            let there : r ≡ Some script = (tells script).1 at in
            let same : script ≡ bytes = (let both : Some script ≡ Some bytes = sym there ∙ some in cc) in
            not_refused capturable bytes w e (subst (λ (b : List ℕ). IsWorkload b w) same is) refused),
      )
    ]
