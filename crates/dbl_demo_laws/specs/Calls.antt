-- What a call of the source adds to its log: the entries of its steps, and its own.
use Rattle.std.specs.Prelude.{◌≡◌, ℕ, ◌≤◌, nat_lt, if◌then◌else◌, Some, List, [], ◌∷◌, length}
use Rattle.dbl_base.specs.declared.lsn.Lsn.{Lsn}
use Rattle.dbl_disk.specs.Model.{DiskModel}
use Rattle.dbl_source.specs.SourceModel.declared.started.Started.{Started}
use Rattle.dbl_source.specs.SourceModel.declared.started.Started.TheVariants.{Ready, Gone}
use Rattle.dbl_source.specs.SourceLog.declared.reader_position.ReaderPosition.{ReaderPosition}
use Rattle.dbl_source.specs.SourceLog.Sent.{index_of}
use Rattle.dbl_demo_workload.specs.DemoWal.declared.entry.Entry.{Entry}
use Rattle.dbl_demo_workload.specs.DemoWal.declared.entry.Entry.TheVariants.{Marks, Confirms}
use Rattle.dbl_demo_workload.specs.DemoWal.Sound.{logged_in}
use Rattle.dbl_demo_workload.specs.DemoWal.Wals.{Wal}
use Rattle.dbl_demo_workload.specs.DemoWal.Groups.{group_end, ReadsOn}
use Rattle.dbl_demo_workload.specs.DemoWal.CrashState.{LeavesWal, IsLeftOf, added_by, with_entries}
use Rattle.dbl_demo_laws.specs.Demo.{Demo, IsDemo}

-- How many steps are done at the end of the next group.
abbrev pub next_end : {D : Type 0} → Demo D → ℕ
next_end demo = group_end demo.steps demo.done

-- How many steps are done at the end of the group after the next one.
abbrev pub second_end : {D : Type 0} → Demo D → ℕ
second_end demo = group_end demo.steps (next_end demo)

-- The entry of a `mark` after so many steps.
abbrev pub mark_entries : List ℕ → ℕ → List Entry
mark_entries value steps = Marks steps value ∷ []

-- The entry of a `confirm`, which is written only if the position rises.
abbrev pub confirm_of : Lsn → Lsn → List Entry
confirm_of old upto = if nat_lt old.0 upto.0 then Confirms upto ∷ [] else []

-- The source represents the log with what the call added.
pub record Released {D : Type 0} (model : DiskModel D) (wal : Wal) (upto : ℕ) (own : List Entry) (old new : Demo D) : Type 0 where
  pub is : IsDemo model (with_entries wal (added_by wal old.done upto own)) new
  pub done : new.done ≡ upto

-- After a call that succeeds the log has all entries of the steps that it ran, and its own.
abbrev pub ReleasesSteps : {D : Type 0} → DiskModel D → ℕ → List Entry → Demo D → Demo D → Type 0
ReleasesSteps model upto own old new = (wal : Wal) → IsDemo model wal old → Released model wal upto own old new

-- After every answer of a call, a crash leaves a first part of what the call adds.
abbrev pub LeavesFirst : {D : Type 0} → DiskModel D → ℕ → List Entry → Demo D → Demo D → Type 0
LeavesFirst model upto own old new =
    (wal : Wal) → IsDemo model wal old → LeavesWal model new.journal.disk (IsLeftOf wal (added_by wal old.done upto own))

-- The source represents the log with what a read added.
pub record ReadOn {D : Type 0} (model : DiskModel D) (wal : Wal) (old new : Demo D) : Type 0 where
  pub place : ReaderPosition
  pub was : old.place ≡ Some place
  pub on : ReadsOn wal.workload wal.entries place old.done new.done old.done
  pub is : IsDemo model (with_entries wal (added_by wal old.done new.done [])) new

-- A read that succeeds adds the entries of the groups that it ran.
abbrev pub ReadsOnTo : {D : Type 0} → DiskModel D → Demo D → Demo D → Type 0
ReadsOnTo model old new = (wal : Wal) → IsDemo model wal old → ReadOn model wal old new

-- After every answer of a read, a crash leaves a first part of what it adds by its end.
abbrev pub LeavesRead : {D : Type 0} → DiskModel D → Demo D → Demo D → Type 0
LeavesRead model old new = (wal : Wal) (place : ReaderPosition) → IsDemo model wal old → old.place ≡ Some place
    → LeavesWal model new.journal.disk
    (λ left. (upto : ℕ) × ReadsOn wal.workload wal.entries place old.done upto old.done
    × IsLeftOf wal (added_by wal old.done upto []) left)

-- No step is left, and no commit that the reader hasn't read whole.
pub record HasReadWhole {D : Type 0} (wal : Wal) (demo : Demo D) : Type 0 where
  pub done : demo.done ≡ length demo.steps
  pub read : (place : ReaderPosition) → demo.place ≡ Some place → length (logged_in wal.entries) ≤ index_of place

-- ---- the answer of a call

-- The answer of a start: the log is gone if and only if the LSN is below the confirmed position.
abbrev pub start_answer : Lsn → Lsn → Started
start_answer after confirmed = if nat_lt after.0 confirmed.0 then Gone confirmed else Ready
