-- How a log is read when it is opened.
use Rattle.std.specs.Prelude.{◌≡◌, ◌≢◌, ◌⊎◌, ℕ, ◌<◌, Result, Ok, Err, List, [], ◌∷◌, length}
use Rattle.std.specs.List.{All}
use Rattle.dbl_disk.specs.Model.{DiskModel}
use Rattle.dbl_journal.specs.Stored.{Lists, OnDisk}
use Rattle.dbl_journal.specs.declared.error.JournalError.TheVariants as journal
use Rattle.dbl_demo_wal.specs.Entries.{workload_form}
use Rattle.dbl_demo_wal.specs.Workloads.{Workload, IsWorkload}
use Rattle.dbl_demo_wal.specs.Wals.{Wal, IsPrefix, IsWalOf, IsFirstBad}
use Rattle.dbl_demo_workload.specs.declared.checking.Checked.{Checked}
use Rattle.dbl_demo_workload.specs.declared.error.DemoError.{DemoError}
use Rattle.dbl_demo_workload.specs.declared.error.DemoError.TheVariants as demo
use Rattle.dbl_demo_workload.specs.Checking.{CanGoOn, IsChecked}
use Rattle.dbl_demo_workload.specs.Ready.{IsReady}
use Rattle.dbl_demo_workload.specs.declared.preparing.Prepared.{Prepared}
use Rattle.dbl_journal.specs.Calls.{Keeps}

-- The first entry is of a workload that was prepared as this.
abbrev pub BeginsWithWorkload : List ℕ → Prepared → Type 0
BeginsWithWorkload entry ready = (script : List ℕ) × (w : Workload) × (entry ≡ workload_form script) × IsWorkload script w × IsReady w ready

-- The entry is of no workload that can be run.
abbrev pub NoWorkload : List ℕ → Type 0
NoWorkload entry = (script : List ℕ) (w : Workload) → IsWorkload script w → entry ≢ workload_form script

-- The error of a first entry whose workload can't be run: the entry is bad, unless memory ran out.
abbrev pub workload_error : DemoError → DemoError
workload_error demo.Memory = demo.Memory
workload_error e = demo.BadEntry 0

-- The error is that the disk failed.
abbrev pub IsFailed : DemoError → Type 0
IsFailed e = e ≡ demo.Journal journal.Failed

-- The result is that the disk failed.
abbrev pub FailsByJournal : {T : Type 0} → Result T DemoError → Type 0
FailsByJournal result = result ≡ Err (demo.Journal journal.Failed)

-- The errors of reading a log: out of memory, a failed disk, or a bad entry.
abbrev pub IsReadFault : DemoError → Type 0
IsReadFault e = (e ≡ demo.Memory) ⊎ (IsFailed e ⊎ ((index : ℕ) × (e ≡ demo.BadEntry index)))

-- The journal after a call that only read it, whether its disk failed or not.
pub record IsReadOnly {D : Type 0} (model : DiskModel D) (failed : Type 0) (old new : OnDisk D) : Type 0 where
  pub disk : Keeps model failed old.disk new.disk
  pub same : new ≡ record old { disk = new.disk }
  pub lists : (forms : List (List ℕ)) → Lists model old forms → Lists model new forms

-- The entries so far are the first ones of a source's log, and this is the state after them.
pub record IsOpened (forms : List (List ℕ)) (state : Checked) : Type 0 where
  pub wal : Wal
  pub front : IsPrefix forms wal
  pub checked : IsChecked wal.workload wal.entries state

-- The result of reading the first entry: the state after it, or that it is bad or missing.
abbrev pub ReadsFirst : List (List ℕ) → Result Checked DemoError → Type 0
ReadsFirst forms (Ok checked) = (first : List ℕ) × (others : List (List ℕ)) × (forms ≡ first ∷ others) × IsOpened (first ∷ []) checked
ReadsFirst forms (Err e) = (e ≡ demo.Memory) ⊎ IsFailed e ⊎ ((e ≡ demo.BadEntry 0) × IsFirstBad forms 0)

-- The result of checking all entries: the state after them, or the first bad one.
abbrev pub ReadsTo : List (List ℕ) → Checked → Result Unit DemoError → Type 0
ReadsTo forms new (Ok done) = IsOpened forms new
ReadsTo forms new (Err e) = (e ≡ demo.Memory) ⊎ IsFailed e ⊎ ((index : ℕ) × (e ≡ demo.BadEntry index) × IsFirstBad forms index)

-- The check of all entries after the first.
abbrev pub ChecksAll : List (List ℕ) → Checked → Checked → Result Unit DemoError → Type 0
ChecksAll forms old new result = (first : List ℕ) (others : List (List ℕ)) → forms ≡ first ∷ others → IsOpened (first ∷ []) old
    → ReadsTo forms new result

-- For every disk: the check can continue, and the commits are among the entries after the first.
pub record HasReadParts (count : ℕ) (checked : Checked) : Type 0 where
  pub goes : CanGoOn checked
  pub few : length checked.commits.items < count
  pub there : All (λ number. number < count) checked.commits.items

-- All entries are those of a source's log, and this is the state after them.
pub record IsLogRead (forms : List (List ℕ)) (checked : Checked) : Type 0 where
  pub opened : IsOpened forms checked
  pub are : IsWalOf forms opened.wal

-- The result of reading a log: the state after it, or the first bad entry.
abbrev pub ReadsLog : List (List ℕ) → Result Checked DemoError → Type 0
ReadsLog forms (Ok checked) = IsLogRead forms checked
ReadsLog forms (Err e) = (e ≡ demo.Memory) ⊎ IsFailed e ⊎ ((index : ℕ) × (e ≡ demo.BadEntry index) × IsFirstBad forms index)
