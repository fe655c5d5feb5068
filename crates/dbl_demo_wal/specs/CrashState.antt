-- What a crash leaves of a source's log in any call.
use Rattle.std.specs.Prelude.{◌≡◌, ℕ, List, ◌++◌, take}
use Rattle.dbl_disk.specs.Model.{DiskModel}
use Rattle.dbl_demo_wal.specs.declared.entry.Entry.{Entry}
use Rattle.dbl_demo_wal.specs.Wals.{Wal, IsWal}
use Rattle.dbl_demo_wal.specs.Groups.{released}

-- The log with more entries at its end.
abbrev pub with_entries : Wal → List Entry → Wal
with_entries wal more = record wal { entries = wal.entries ++ more }

-- What a call adds to the log: the entries of its steps, and then its own.
abbrev pub added_by : Wal → ℕ → ℕ → List Entry → List Entry
added_by wal done upto own = released wal.workload done upto ++ own

-- The log with a first part of the entries that a call adds.
pub record IsLeftOf (wal : Wal) (added : List Entry) (left : Wal) : Type 0 where
  pub count : ℕ
  pub is : left ≡ with_entries wal (take count added)

-- A crash leaves the log with a first part of the entries that the call adds, none or more.
abbrev pub LeavesWal : {D : Type 0} → DiskModel D → D → (Wal → Type 0) → Type 0
LeavesWal model disk P = (crashed : List ℕ) → model.may_leave disk crashed → (wal : Wal) × IsWal crashed wal × P wal
