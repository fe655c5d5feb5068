-- The log with which a source of a workload begins.
use Rattle.std.specs.Prelude.{◌≡◌, ℕ, Option, None, Some, List, [], ◌∷◌, map}
use Rattle.dbl_pgmsg.specs.declared.messages.Message.{Message}
use Rattle.dbl_demo_workload.specs.DemoWal.declared.entry.Entry.{Entry}
use Rattle.dbl_demo_workload.specs.DemoWal.declared.entry.Entry.TheVariants.{Commits}
use Rattle.dbl_demo_workload.specs.DemoWal.Entries.{workload_form, entry_form}
use Rattle.dbl_demo_workload.specs.DemoWal.Workloads.{IsWorkload, log_at}
use Rattle.dbl_demo_workload.specs.DemoWal.Wals.{Wal, IsWal}

-- The commit of the initial rows, or no entry if there are none.
abbrev pub first_entries : List (List Message) → List Entry
first_entries log = map (Commits 0) log

-- The first entries of a journal: the workload, and the commit of the initial rows, if there are any.
abbrev pub first_forms : List ℕ → Option (List Message) → List (List ℕ)
first_forms script None = workload_form script ∷ []
first_forms script (Some rows) = workload_form script ∷ entry_form (Commits 0 rows) ∷ []

-- The log is of these bytes, with no step done, no watermark and no confirmed position.
pub record IsFirstWal (bytes : List ℕ) (wal : Wal) : Type 0 where
  pub script : wal.script ≡ bytes
  pub workload : IsWorkload bytes wal.workload
  pub entries : wal.entries ≡ first_entries (log_at wal.workload 0)

-- The disk has the bytes of a log that has just begun.
abbrev pub IsFreshWal : List ℕ → List ℕ → Type 0
IsFreshWal script bytes = (wal : Wal) × IsWal bytes wal × IsFirstWal script wal
