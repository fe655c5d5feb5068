-- How a run of steps changes the source within a call.
use Rattle.std.specs.Prelude.{◌≡◌, ℕ, ◌≤◌, IsTrue, Some, List, []}
use Rattle.dbl_disk.specs.Model.{DiskModel}
use Rattle.dbl_journal.specs.Growth.{ExtendsJournal}
use Rattle.dbl_demo_workload.specs.DemoWal.declared.entry.Entry.{Entry}
use Rattle.dbl_demo_workload.specs.DemoWal.Groups.{group_end}
use Rattle.dbl_demo_workload.specs.DemoWal.Wals.{Wal}
use Rattle.dbl_demo_workload.specs.DemoWal.CrashState.{LeavesWal, IsLeftOf, added_by, with_entries}
use Rattle.dbl_demo_laws.specs.Demo.{Demo, IsRunning}

-- ---- steps of the source

-- The steps up to the first so many are done, and the log has their commits and the call's own entries.
pub record Ran {D : Type 0} (model : DiskModel D) (wal : Wal) (upto : ℕ) (own : List Entry) (old new : Demo D) : Type 0 where
  pub running : IsRunning model (with_entries wal (added_by wal old.done upto own)) new
  pub done : new.done ≡ upto

-- A run of steps changes only the journal, the store, the steps that are done, and the numbers of commits.
abbrev pub IsRunOf : {D : Type 0} → Demo D → Demo D → Type 0
IsRunOf old new = new ≡ record old { journal = new.journal; store = new.store; done = new.done; commits = new.commits }

-- A crash leaves a first part of what the call adds.
abbrev pub LeavesRun : {D : Type 0} → DiskModel D → Wal → ℕ → List Entry → Demo D → Demo D → Type 0
LeavesRun model wal upto own old new = LeavesWal model new.journal.disk (IsLeftOf wal (added_by wal old.done upto own))

-- The contents of the disk stay known, and none of its calls failed.
abbrev pub StaysKnown : {D : Type 0} → DiskModel D → D → D → Type 0
StaysKnown model old new = (bytes : List ℕ) → model.seen old ≡ Some bytes
    → ((now : List ℕ) × (model.seen new ≡ Some now)) × (model.faults new ≡ model.faults old)

-- Some steps of a group were run, and none of them ended it.
pub record IsReleasing {D : Type 0} (model : DiskModel D) (old now : Demo D) : Type 0 where
  pub ran : (wal : Wal) → IsRunning model wal old → Ran model wal now.done [] old now
  pub ends : group_end old.steps old.done ≡ group_end now.steps now.done
  pub later : old.done ≤ now.done
  pub live : IsTrue now.journal.live
  pub same : IsRunOf old now
  pub comes : ExtendsJournal model old.journal now.journal
  pub counted : model.faults old.journal.disk ≤ model.faults now.journal.disk
  pub known : StaysKnown model old.journal.disk now.journal.disk
