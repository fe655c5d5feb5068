-- A log that is opened, entry by entry: what was checked so far, the first bad one, and the end.
use Rattle.std.proofs.Common.{◌≡◌, ◌∙◌, ℕ, ◌<◌, ◌^◌, true, false, None, Some, Ok, Err, List, length, sym, ap, subst, arith, inl, inr}
use Rattle.dbl_disk.specs.Model.{DiskModel}
use Rattle.dbl_source.specs.SourceLog.declared.logged.LogTable.{LogTable}
use Rattle.dbl_source.specs.SourceLog.declared.logged.Logged.{Logged}
use Rattle.dbl_source.specs.SourceLog.declared.reader_position.ReaderPosition.{ReaderPosition}
use Rattle.dbl_journal.specs.Stored.{Lists}
use Rattle.dbl_demo_workload.specs.Tables.Stands.{Stands}
use Rattle.dbl_demo_workload.specs.DemoWal.Workloads.{acts_at}
use Rattle.dbl_demo_workload.specs.DemoWal.Sound.{logged_in, steps_in}
use Rattle.dbl_demo_workload.specs.DemoWal.Wals.{HasBadWalEntry, IsFirstBad, IsWal, IsWalOf}
use Rattle.dbl_demo_workload.specs.declared.checking.Checked.{Checked}
use Rattle.dbl_demo_laws.specs.Demo.{Demo, IsDemo, IsReader, IsRunning}
use Rattle.dbl_demo_workload.specs.Checking.{HasFound}
use Rattle.dbl_demo_workload.specs.declared.error.DemoError.{DemoError}
use Rattle.dbl_demo_workload.specs.declared.error.DemoError.TheVariants as fault
use Rattle.dbl_journal.specs.declared.error.JournalError.TheVariants as broken
use Rattle.dbl_journal.specs.Form.{IsJournal}
use Rattle.dbl_disk.specs.Disks.{IsOnly}
use Rattle.dbl_demo_workload.specs.Logs.{FailsByJournal, HasReadParts, IsFailed, IsLogRead, IsReadOnly, ReadsLog}
use Rattle.std.specs.Prelude.{IsTrue}
use Rattle.std.proofs.lemmas.List.{length-map}
use Rattle.dbl_disk.specs.declared.extent.Extent.{Extent}
use Rattle.dbl_journal.specs.Stored.{OnDisk, count_of}
use Rattle.dbl_journal.proofs.Appends.{length-places}
use Rattle.dbl_demo_workload.specs.DemoWal.Entries.{entry_form}
use Rattle.dbl_demo_workload.specs.DemoWal.Wals.{Wal, forms_of}
use Rattle.dbl_demo_laws.specs.Demo.{HasParts}
use Rattle.dbl_journal.specs.Calls.{Keeps}

-- ---- the source over it

module _ {D : Type 0} (model : DiskModel D) (forms : List (List ℕ)) (checked : Checked) (read : IsLogRead forms checked) (found : checked.prepared.rows ≡ None) (demo : Demo D) where
  pub opened_runs : Lists model demo.journal forms → length read.opened.wal.entries < 2 ^ 40 → demo.names ≡ checked.prepared.names.items → demo.tables ≡ checked.prepared.tables.items → demo.store ≡ checked.prepared.store
      → demo.steps ≡ checked.prepared.steps.items → demo.done ≡ checked.done → demo.commits ≡ checked.commits.items → demo.confirmed ≡ checked.confirmed → demo.place ≡ None → IsRunning model read.opened.wal demo
  opened_runs lists few names tables store steps done commits confirmed place =
      let wal = read.opened.wal in
      let is = read.opened.checked in
      let stands = subst (Stands wal.workload.tables (acts_at wal.workload checked.done)) (sym store) is.stands in
      let silent = subst (HasFound wal.workload wal.entries checked.done) found is.found in
      record {
        lists = subst (Lists model demo.journal) read.are.are lists;
        is = subst (λ (fs : List (List ℕ)). IsWalOf fs wal) read.are.are read.are;
        few = few;
        names = names ∙ is.names;
        tables = tables ∙ is.tables;
        steps = steps ∙ is.steps;
        stands = subst (λ (n : ℕ). Stands wal.workload.tables (acts_at wal.workload n) demo.store) (sym done) stands;
        silent = subst (λ (n : ℕ). HasFound wal.workload wal.entries n None) (sym done) silent;
        commits = commits ∙ is.commits;
        confirmed = confirmed ∙ is.confirmed;
        reader = unread demo.tables (logged_in wal.entries);
      }
    where
      unread : (tables : List LogTable) (log : List Logged) → IsReader tables log demo.place demo.described demo.held
      unread tables log = record {
        placed = λ p is. absurd (nowhere p is);
        recalled = λ p is. absurd (nowhere p is);
        held_is = λ p logged is holds. absurd (nowhere p is);
      }
        where
          nowhere : (p : ReaderPosition) → demo.place ≡ Some p → ⊥
          nowhere p is = let both : None ≡ Some p = sym place ∙ is in cc

-- a journal of so many entries has few
pub few_entries : {D : Type 0} (model : DiskModel D) (journal : OnDisk D) (wal : Wal) → Lists model journal (forms_of wal) → count_of journal < 2 ^ 40 → length wal.entries < 2 ^ 40
few_entries model journal wal lists small =
    omega (arith, small, ap (λ (l : List Extent). length l) lists.places, length-places (forms_of wal) 8, length-map wal.entries entry_form)

-- what always holds of its parts
pub opened_parts : {D : Type 0} (journal : OnDisk D) (checked : Checked) → HasReadParts (count_of journal) checked → IsTrue journal.live → HasParts journal checked.prepared.store checked.prepared.steps.items checked.done checked.commits.items None true
opened_parts journal checked parts live = record {
  has_run = parts.goes.has_run;
  usable = λ on. live;
  few = λ on. parts.few;
  there = λ on. parts.there;
  near = λ p is. cc;
}

-- ---- what opening answers

pub opened_demo : {D : Type 0} (model : DiskModel D) (forms : List (List ℕ)) (checked : Checked) (read : IsLogRead forms checked) → checked.prepared.rows ≡ None → (demo : Demo D) → Lists model demo.journal forms
    → count_of demo.journal < 2 ^ 40 → IsTrue demo.live → demo.ended ≡ false → demo.names ≡ checked.prepared.names.items → demo.tables ≡ checked.prepared.tables.items → demo.store ≡ checked.prepared.store → demo.steps ≡ checked.prepared.steps.items
    → demo.done ≡ checked.done → demo.commits ≡ checked.commits.items → demo.confirmed ≡ checked.confirmed → demo.place ≡ None → (wal : Wal) × (forms ≡ forms_of wal) × IsDemo model wal demo × (demo.done ≡ steps_in wal.entries)
opened_demo model forms checked read found demo lists small live ended names tables store steps done commits confirmed place =
    let few : length read.opened.wal.entries < 2 ^ 40 = few_entries model demo.journal read.opened.wal (subst (Lists model demo.journal) read.are.are lists) small in (
      read.opened.wal,
      read.are.are,
      record {
        live = live;
        running = opened_runs model forms checked read found demo lists few names tables store steps done commits confirmed place;
        ended = λ on. absurd (let wrong : true ≡ false = sym on ∙ ended in cc);
      },
      done ∙ read.opened.checked.done,
    )

-- the entry that it tells is the first bad one
pub bad_opened : (forms : List (List ℕ)) (e : DemoError) (index : ℕ) → ReadsLog forms (Err e) → e ≡ fault.BadEntry index → IsFirstBad forms index
bad_opened forms e index (inl memory) is = absurd (let wrong : fault.Memory ≡ fault.BadEntry index = sym memory ∙ is in cc)
bad_opened forms e index (inr (inl failed)) is = absurd (let wrong : fault.Journal broken.Failed ≡ fault.BadEntry index = sym failed ∙ is in cc)
bad_opened forms e index (inr (inr bad)) is =
    let both : fault.BadEntry bad.0 ≡ fault.BadEntry index = sym bad.1 ∙ is in
    let same : bad.0 ≡ index = cc in
    subst (IsFirstBad forms) same bad.2

module _ {D : Type 0} (model : DiskModel D) (old new : OnDisk D) where
  pub disk_read : {A : Type 0} (a : A) → IsReadOnly model (FailsByJournal (Ok a)) old new → Keeps model ⊥ old.disk new.disk
  disk_read a read = record {
    same = read.disk.same;
    crash = read.disk.crash;
    later = read.disk.later;
    cause = λ never. absurd never;
    steady = λ no. read.disk.steady (λ fails. absurd (let wrong : Ok a ≡ Err (fault.Journal broken.Failed) = fails in cc));
  }

  pub disk_failed : {A : Type 0} (e : DemoError) → IsReadOnly model (FailsByJournal {T = A} (Err e)) old new → Keeps model (IsFailed e) old.disk new.disk
  disk_failed e read = record {
    same = read.disk.same;
    crash = read.disk.crash;
    later = read.disk.later;
    cause = λ failed. read.disk.cause (ap Err failed);
    steady = λ no. read.disk.steady (λ fails. no (let inside : Err e ≡ Err (fault.Journal broken.Failed) = fails in cc));
  }

-- ---- and the journal before

module _ {D : Type 0} (model : DiskModel D) (bytes : List ℕ) (entries : List (List ℕ)) (is : IsJournal bytes entries) where
  pub wal_of_bytes : (source : Demo D) → (wal : Wal) × (entries ≡ forms_of wal) × IsDemo model wal source × (source.done ≡ steps_in wal.entries) → (wal : Wal) × IsWal bytes wal × IsDemo model wal source × (source.done ≡ steps_in wal.entries)
  wal_of_bytes source found = (
    found.0,
    record { forms = forms_of found.0; journal = subst (IsJournal bytes) found.1 is; are = found.2.running.is; few = found.2.running.few },
    found.2,
    found.3,
  )

  pub bad_of_bytes : (index : ℕ) → IsFirstBad entries index → HasBadWalEntry bytes index
  bad_of_bytes index bad = record { forms = entries; journal = is; bad = bad }

-- what was read stays the only thing that is left
pub only_on : {D : Type 0} (model : DiskModel D) (bytes : List ℕ) (old new : D) → ((crashed : List ℕ) → model.may_leave new crashed → model.may_leave old crashed) → IsOnly bytes (model.may_leave old) → IsOnly bytes (model.may_leave new)
only_on model bytes old new crash only crashed may = only crashed (crash crashed may)
