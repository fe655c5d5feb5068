-- The bytes of a source's log: a journal with the workload and a sound log of it.
use Rattle.std.specs.Prelude.{◌≡◌, ◌≢◌, ℕ, ◌<◌, Some, slice_get, List, [], ◌∷◌, length, map, take}
use Rattle.std.specs.List.{AllByRecursion}
use Rattle.dbl_disk.specs.Disks.{disk_limit}
use Rattle.dbl_journal.specs.Form.{IsJournal}
use Rattle.dbl_demo_wal.specs.declared.entry.Entry.{Entry}
use Rattle.dbl_demo_wal.specs.Entries.{workload_form, entry_form, FitsWalEntry, EncodesEntry}
use Rattle.dbl_demo_wal.specs.Workloads.{Workload, IsWorkload}
use Rattle.dbl_demo_wal.specs.Sound.{HasInitialCommit, IsNextEntry, AreNext, IsSound}

-- A source's log: the workload's bytes, the workload, and the entries after it.
pub record Wal : Type 0 where
  pub script : List ℕ
  pub workload : Workload
  pub entries : List Entry

-- The encodings of the log's entries, the first one with the workload.
abbrev pub forms_of : Wal → List (List ℕ)
forms_of wal = workload_form wal.script ∷ map entry_form wal.entries

-- The log is of a workload that can be run, and its entries are a sound log of it.
pub record IsWalOf (forms : List (List ℕ)) (wal : Wal) : Type 0 where
  pub are : forms ≡ forms_of wal
  pub workload : IsWorkload wal.script wal.workload
  pub fits : AllByRecursion FitsWalEntry wal.entries
  pub sound : IsSound wal.workload wal.entries

-- The first entries of a source's log, perhaps without the commit of the initial rows.
pub record IsPrefix (forms : List (List ℕ)) (wal : Wal) : Type 0 where
  pub are : forms ≡ forms_of wal
  pub workload : IsWorkload wal.script wal.workload
  pub fits : AllByRecursion FitsWalEntry wal.entries
  pub each : AreNext wal.workload [] wal.entries

-- The bytes are this source's log. A disk has fewer than 2^40 bytes, so the log has fewer entries.
pub record IsWal (bytes : List ℕ) (wal : Wal) : Type 0 where
  pub forms : List (List ℕ)
  pub journal : IsJournal bytes forms
  pub are : IsWalOf forms wal
  pub few : length wal.entries < disk_limit

-- ---- bad logs

-- The first entry is missing, or is no workload that can be run.
pub record HasNoWorkload (forms : List (List ℕ)) : Type 0 where
  pub none : (script : List ℕ) (w : Workload) → IsWorkload script w → slice_get forms 0 ≢ Some (workload_form script)

-- The commit of the initial rows is missing at the end.
pub record HasNoRows (forms : List (List ℕ)) (index : ℕ) : Type 0 where
  pub wal : Wal
  pub front : IsPrefix forms wal
  pub missing : ¬ HasInitialCommit wal.workload wal.entries
  pub place : index ≡ length forms

-- After valid entries the one with this number encodes none that may follow.
pub record HasNoNext (forms : List (List ℕ)) (index : ℕ) : Type 0 where
  pub wal : Wal
  pub front : IsPrefix (take index forms) wal
  pub entry : List ℕ
  pub there : slice_get forms index ≡ Some entry
  pub none : (e : Entry) → EncodesEntry entry e → ¬ IsNextEntry wal.workload wal.entries e

-- The entry with this number, counted from 0, is the first that is wrong or missing.
pub data IsFirstBad (forms : List (List ℕ)) (index : ℕ) : Type 0 where
  no_workload : index ≡ 0 → HasNoWorkload forms → IsFirstBad forms index
  no_rows : HasNoRows forms index → IsFirstBad forms index
  no_next : HasNoNext forms index → IsFirstBad forms index

-- The bytes are a journal, and its entry with this number is the first bad one.
pub record HasBadWalEntry (bytes : List ℕ) (index : ℕ) : Type 0 where
  pub forms : List (List ℕ)
  pub journal : IsJournal bytes forms
  pub bad : IsFirstBad forms index
