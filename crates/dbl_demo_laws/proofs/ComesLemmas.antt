-- What no call undoes: the workload, the wals that a crash leaves, and how far the journal has come.
use Rattle.std.proofs.Common.{◌≡◌, ◌∙◌, ℕ, Some, List, [], refl, ap}
use Rattle.std.specs.Prelude.{IsTrue}
use Rattle.dbl_disk.specs.Model.{DiskModel}
use Rattle.dbl_journal.specs.Growth as journals
use Rattle.dbl_source.specs.SourceLog.declared.reader_position.ReaderPosition.{ReaderPosition}
use Rattle.dbl_demo_workload.specs.DemoWal.declared.entry.Entry.{Entry}
use Rattle.dbl_demo_workload.specs.DemoWal.Groups.{ReadsOn}
use Rattle.dbl_demo_workload.specs.DemoWal.Wals.{Wal}
use Rattle.dbl_demo_workload.specs.DemoWal.CrashState.{IsLeftOf, LeavesWal, added_by, with_entries}
use Rattle.dbl_demo_laws.specs.Calls.{LeavesFirst, LeavesRead, ReadsOnTo, ReleasesSteps}
use Rattle.dbl_demo_laws.specs.Demo.{ExtendsDemo, Demo, IsDemo}
use Rattle.dbl_demo_laws.specs.Running.{StaysKnown}

leaves_as : {D : Type 0} (model : DiskModel D) (disk : D) (P Q : Wal → Type 0) → ((wal : Wal) → P wal → Q wal) → LeavesWal model disk P → LeavesWal model disk Q
leaves_as model disk P Q by leaves crashed may = let here = leaves crashed may in (here.0, here.1, by here.0 here.2)

abbrev HasScript : List ℕ → Wal → Type 0
HasScript script wal = wal.script ≡ script

-- what a crash in a read leaves
abbrev pub LeftByRead : Wal → ReaderPosition → ℕ → Wal → Type 0
LeftByRead wal place done left = (upto : ℕ) × ReadsOn wal.workload wal.entries place done upto done × IsLeftOf wal (added_by wal done upto []) left

module _ {D : Type 0} (model : DiskModel D) (old new : Demo D) (come : journals.ExtendsJournal model old.journal new.journal) (was : IsTrue old.live)
    (known : IsTrue new.live → StaysKnown model old.journal.disk new.journal.disk) where
  comes_by : ((wal : Wal) → IsDemo model wal old → LeavesWal model new.journal.disk (HasScript wal.script))
      → (IsTrue new.live → (wal : Wal) → IsDemo model wal old → (now : Wal) × IsDemo model now new × (now.script ≡ wal.script)) → ExtendsDemo model old new
  comes_by crash stands script gate most faults kept =
      let here = kept.stands was in
      let lists = here.1.running.lists in
      record {
        come = come gate most kept.come;
        stands = λ live. (let now = stands live here.0 here.1 in (now.0, now.1, now.2 ∙ here.2));
        steady = λ live. (known live lists.bytes lists.told).1 ∙ kept.steady was;
        crash = leaves_as model new.journal.disk (HasScript here.0.script) (HasScript script) (λ wal is. is ∙ here.2) (crash here.0 here.1);
      }

  left_script : (wal : Wal) (added : List Entry) (left : Wal) → IsLeftOf wal added left → left.script ≡ wal.script
  left_script wal added left is = ap (λ (w : Wal). w.script) is.is

  -- a call that runs a group, and writes entries of its own
  pub comes_released : (upto : ℕ) (own : List Entry) → LeavesFirst model upto own old new → (IsTrue new.live → ReleasesSteps model upto own old new) → ExtendsDemo model old new
  comes_released upto own first released = comes_by
      (λ wal is. leaves_as model new.journal.disk (IsLeftOf wal (added_by wal old.done upto own)) (HasScript wal.script) (left_script wal (added_by wal old.done upto own)) (first wal is))
      (λ live wal is. (let done = released live wal is in (with_entries wal (added_by wal old.done upto own), done.is, refl)))

  -- a read
  pub comes_read : (place : ReaderPosition) → old.place ≡ Some place → LeavesRead model old new → (IsTrue new.live → ReadsOnTo model old new) → ExtendsDemo model old new
  comes_read place there first on = comes_by
      (λ wal is. leaves_as model new.journal.disk (LeftByRead wal place old.done) (HasScript wal.script) (read_script wal) (first wal place is there))
      (λ live wal is. (let read = on live wal is in (with_entries wal (added_by wal old.done new.done []), read.is, refl)))
    where
      read_script : (wal left : Wal) → LeftByRead wal place old.done left → left.script ≡ wal.script
      read_script wal left h = left_script wal (added_by wal old.done h.0 []) left h.2
