-- Theorems about sound logs.
use Rattle.std.specs.Prelude.{◌≡◌, ℕ, ◌+◌, ◌≤◌, List, [], ◌∷◌, ◌++◌, length, take}
use Rattle.std.specs.List.{AllByRecursion}
use Rattle.dbl_pgmsg.specs.declared.messages.Message.{Message}
use Rattle.dbl_tables_laws.specs.ModelHistory.Fit.{IsFitHistory}
use Rattle.dbl_tables_laws.specs.SourceLog.Fair.{IsFairLog}
use Rattle.dbl_tables_laws.specs.SourceLog.FitLogs.{AreFitLog}
use Rattle.dbl_demo_wal.specs.declared.entry.Entry.{Entry}
use Rattle.dbl_demo_wal.specs.Entries.{entry_form, FitsWalEntry}
use Rattle.dbl_tables_laws.specs.TablesRows.Serial.{serial}
use Rattle.dbl_tables_laws.specs.Laws.{AreDescribable, IsRowInRange, IsStepInRange}
use Rattle.dbl_demo_wal.specs.Workloads.{Workload, IsWorkload, session_steps_at, session_steps_of, workload_rows, steps_of, log_at}
use Rattle.dbl_demo_wal.specs.Sound.{IsNextEntry, IsSilent, IsSound, session_commits, logged_in, steps_in}
use Rattle.dbl_demo_wal.specs.Wals.{Wal, IsWalOf, IsWal}
use Rattle.dbl_demo_wal.specs.Groups.{released}
use Rattle.dbl_demo_wal.specs.Standings.{tables_of, history_in}
use Rattle.dbl_demo_wal.specs.CrashState.{with_entries}

-- Bytes encode one workload at most.
abbrev pub WorkloadsAreReadOnce : Type 0
WorkloadsAreReadOnce = (bytes : List ℕ) (first second : Workload) → IsWorkload bytes first → IsWorkload bytes second → first ≡ second

-- Bytes encode one source's log at most.
abbrev pub WalsAreReadOnce : Type 0
WalsAreReadOnce = (bytes : List ℕ) (first second : Wal) → IsWal bytes first → IsWal bytes second → first ≡ second

-- The commits without the watermarks are the serial run of the initial rows and of the steps that the log counts.
abbrev pub SoundWalsAreSerial : Type 0
SoundWalsAreSerial = (bytes : List ℕ) (wal : Wal) → IsWal bytes wal
    → session_commits wal.entries ≡ serial wal.workload.tables (workload_rows wal.workload)
    (session_steps_of (take (steps_in wal.entries) (steps_of wal.workload)))

-- A sound log with one more entry that may follow is sound.
abbrev pub SoundWalsGoOn : Type 0
SoundWalsGoOn = (forms : List (List ℕ)) (wal : Wal) (entry : Entry) → IsWalOf forms wal → FitsWalEntry entry
    → IsNextEntry wal.workload wal.entries entry → IsWalOf (forms ++ entry_form entry ∷ []) (with_entries wal (entry ∷ []))

-- The commits after more steps begin with those after fewer.
abbrev pub CommitsStay : Type 0
CommitsStay = (w : Workload) (few more : ℕ) → (rest : List (List Message)) × (log_at w (few + more) ≡ log_at w few ++ rest)

-- Running more steps keeps a log sound, with each commit of the steps that were run.
abbrev pub SoundLogsRelease : Type 0
SoundLogsRelease = (w : Workload) (entries : List Entry) (done upto : ℕ) → IsSound w entries → IsSilent w entries done → done ≤ upto
    → upto ≤ length (steps_of w)
    → IsSound w (entries ++ released w done upto) × IsSilent w (entries ++ released w done upto) upto

-- The initial rows and the first steps of a workload are in range for the store.
pub record IsRanged (w : Workload) (done : ℕ) : Type 0 where
  pub described : AreDescribable w.tables
  pub rows : AllByRecursion IsRowInRange (workload_rows w)
  pub steps : AllByRecursion IsStepInRange (session_steps_at w done)

-- The initial rows and all steps of a workload are in range for the store.
abbrev pub WorkloadsAreInRange : Type 0
WorkloadsAreInRange = (bytes : List ℕ) (w : Workload) → IsWorkload bytes w → (done : ℕ) → IsRanged w done

-- The log of every workload is valid.
abbrev pub WalsAreFit : Type 0
WalsAreFit = (bytes : List ℕ) (wal : Wal) → IsWal bytes wal → AreFitLog (tables_of wal) (logged_in wal.entries)

-- The history of every workload's log is valid.
abbrev pub WalsHaveFitHistories : Type 0
WalsHaveFitHistories = (bytes : List ℕ) (wal : Wal) → IsWal bytes wal → IsFitHistory (history_in wal)

-- A reader of a source's log reads it correctly.
abbrev pub WalsAreFair : Type 0
WalsAreFair = (bytes : List ℕ) (wal : Wal) → IsWal bytes wal → IsFairLog (tables_of wal) (logged_in wal.entries)
