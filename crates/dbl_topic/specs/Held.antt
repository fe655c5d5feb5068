-- A topic log on a disk.
use Rattle.std.specs.Prelude.{◌≡◌, ℕ, IsTrue, Some, List}
use Rattle.dbl_disk.specs.Model.{DiskModel}
use Rattle.dbl_record.specs.declared.record.Record.{Record}
use Rattle.dbl_journal.specs.Growth as journals
use Rattle.dbl_journal.specs.Stored.{Lists, OnDisk}
use Rattle.dbl_topic.specs.Logs.{AreLogEntries, IsLog}

-- The log contains these groups: its journal is usable, its disk has known contents, which are a topic log of the groups, and a crash
-- leaves exactly those.
pub record HoldsGroups {D : Type 0} (model : DiskModel D) (log : OnDisk D) (groups : List (List Record)) : Type 0 where
  pub entries : List (List ℕ)
  pub lists : Lists model log entries
  pub are : AreLogEntries entries groups

-- a crash may leave a topic log of these groups
abbrev pub MayLeaveGroups : {D : Type 0} → DiskModel D → D → List (List Record) → Type 0
MayLeaveGroups model disk groups = (crashed : List ℕ) × model.may_leave disk crashed × IsLog crashed groups

-- a crash leaves a topic log, whose groups satisfy the predicate
abbrev pub LeavesGroups : {D : Type 0} → DiskModel D → D → (List (List Record) → Type 0) → Type 0
LeavesGroups model disk P = (crashed : List ℕ) → model.may_leave disk crashed → (groups : List (List Record))
    × IsLog crashed groups × P groups

-- a valid topic log: if it is usable it contains some groups, and a crash leaves a topic log
pub record HasGroups {D : Type 0} (model : DiskModel D) (log : OnDisk D) : Type 0 where
  pub holds : IsTrue log.live → (groups : List (List Record)) × HoldsGroups model log groups
  pub leaves : LeavesGroups model log.disk (λ groups. Unit {0})

-- If the log is usable, its disk has known contents, and has counted only these failures.
abbrev pub HasCounted : {D : Type 0} → DiskModel D → ℕ → OnDisk D → Type 0
HasCounted model faults log =
    IsTrue log.live → ((bytes : List ℕ) × (model.seen log.disk ≡ Some bytes)) × (model.faults log.disk ≡ faults)

-- The new log extends the old one by appends with any answers: its journal extends the old one's, it is valid if the old one was, and while
-- it is usable no call of its disk has failed.
pub record ExtendsTopics {D : Type 0} (model : DiskModel D) (old new : OnDisk D) : Type 0 where
  pub journal : journals.ExtendsJournal model old new
  pub groups : HasGroups model old → HasGroups model new
  pub steady : (faults : ℕ) → HasCounted model faults old → HasCounted model faults new
