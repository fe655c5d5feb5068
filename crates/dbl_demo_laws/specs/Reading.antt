-- For private clauses: the groups that a read runs, and the commit that it caches.
use Rattle.std.specs.Prelude.{◌≡◌, ◌⊎◌, ℕ, ◌≤◌, nat_lt, Bool, false, IsTrue, Option, None, Some, MatchOption, List, [], ◌∷◌, ◌++◌, length}
use Rattle.dbl_disk.specs.Model.{DiskModel}
use Rattle.dbl_pgmsg.specs.declared.messages.Message.{Message}
use Rattle.dbl_pgmsg.specs.Grammar.{Spells}
use Rattle.dbl_source.specs.SourceLog.declared.reader_position.ReaderPosition.{ReaderPosition}
use Rattle.dbl_source.specs.SourceLog.Sent.{index_of, told_at}
use Rattle.dbl_journal.specs.Growth.{ExtendsJournal}
use Rattle.dbl_journal.specs.Stored.{LeavesEntries, Lists}
use Rattle.dbl_demo_workload.specs.DemoWal.declared.entry.Entry.{Entry}
use Rattle.dbl_demo_workload.specs.DemoWal.declared.entry.Entry.TheVariants.{Commits}
use Rattle.dbl_demo_workload.specs.DemoWal.Entries.{entry_form}
use Rattle.dbl_demo_workload.specs.DemoWal.Groups.{ReadsOn, group_end}
use Rattle.dbl_demo_workload.specs.DemoWal.Workloads.{Workload, steps_of}
use Rattle.dbl_demo_workload.specs.DemoWal.Sound.{logged_in}
use Rattle.dbl_demo_workload.specs.DemoWal.Wals.{Wal}
use Rattle.dbl_demo_workload.specs.DemoWal.CrashState.{LeavesWal, IsLeftOf, added_by, with_entries}
use Rattle.dbl_demo_laws.specs.Demo.{Demo, IsRunning}
use Rattle.dbl_demo_laws.specs.Running.{IsRunOf, Ran, StaysKnown}

-- The commit of the last step that was done is in the journal, and its number is known.
pub record IsLogged {D : Type 0} (model : DiskModel D) (messages : List Message) (old new : Demo D) : Type 0 where
  pub lists : (forms : List (List ℕ)) → Lists model old.journal forms
      → Lists model new.journal (forms ++ entry_form (Commits old.done messages) ∷ [])
  pub commits : new.commits ≡ old.commits ++ length old.journal.places ∷ []

-- A crash leaves the journal without or with the commit.
abbrev pub LeavesLogged : {D : Type 0} → DiskModel D → List Message → Demo D → Demo D → Type 0
LeavesLogged model messages old new =
    (forms : List (List ℕ)) → Lists model old.journal forms
    → LeavesEntries model new.journal.disk (λ left. (left ≡ forms) ⊎ (left ≡ forms ++ entry_form (Commits old.done messages) ∷ []))

-- Whether a log of so many commits has one that the reader hasn't read whole.
abbrev pub has_unread : Option ReaderPosition → ℕ → Bool
has_unread None count = false
has_unread (Some place) count = nat_lt (index_of place) count

-- Groups were run, the last of them from step `last` on; no earlier one ended with a commit to be read.
pub record IsReadingOn (w : Workload) (entries : List Entry) (place : ReaderPosition) (done now : ℕ) : Type 0 where
  pub last : ℕ
  pub ends : now ≡ group_end (steps_of w) last
  pub back : (upto : ℕ) → ReadsOn w entries place done upto last → ReadsOn w entries place done upto done

-- The run of a read, up to a commit to be read or the last step.
pub record RanOn {D : Type 0} (model : DiskModel D) (wal : Wal) (place : ReaderPosition) (old new : Demo D) : Type 0 where
  pub on : ReadsOn wal.workload wal.entries place old.done new.done old.done
  pub running : IsRunning model (with_entries wal (added_by wal old.done new.done [])) new

-- Some groups of a read were run.
pub record HasRunOn {D : Type 0} (model : DiskModel D) (old now : Demo D) : Type 0 where
  pub ran : (wal : Wal) (place : ReaderPosition) → IsRunning model wal old → old.place ≡ Some place
      → IsReadingOn wal.workload wal.entries place old.done now.done × Ran model wal now.done [] old now
  pub later : old.done ≤ now.done
  pub live : IsTrue now.journal.live
  pub same : IsRunOf old now
  pub comes : ExtendsJournal model old.journal now.journal
  pub counted : model.faults old.journal.disk ≤ model.faults now.journal.disk
  pub known : StaysKnown model old.journal.disk now.journal.disk

-- A crash within a read leaves a first part of the entries of the groups that it runs.
abbrev pub LeavesReadRun : {D : Type 0} → DiskModel D → Wal → ReaderPosition → Demo D → Demo D → Type 0
LeavesReadRun model wal place old new =
    LeavesWal model new.journal.disk
    (λ left. (upto : ℕ) × ReadsOn wal.workload wal.entries place old.done upto old.done
    × IsLeftOf wal (added_by wal old.done upto []) left)

-- The journal was read, and the commit at the reader's position is cached.
abbrev pub CachesCommit : {D : Type 0} → Demo D → Demo D → Type 0
CachesCommit old new = new ≡ record old { journal = new.journal; held = new.held }

-- One message was read, and the reader is after it.
pub record ReadOne {D : Type 0} (model : DiskModel D) (wal : Wal) (place : ReaderPosition) (new : Demo D) (bytes : List ℕ) : Type 0 where
  pub next : ReaderPosition
  pub is : new.place ≡ Some next
  pub same : next.after ≡ place.after
  pub message : Message
  pub spelled : Spells bytes message
  pub told : told_at new.tables (logged_in wal.entries) next ≡ message ∷ told_at new.tables (logged_in wal.entries) place
  pub running : IsRunning model wal new

-- Nothing is left of the log to be read.
pub record ReadNone {D : Type 0} (model : DiskModel D) (wal : Wal) (place : ReaderPosition) (new : Demo D) : Type 0 where
  pub is : new.place ≡ Some place
  pub end : length (logged_in wal.entries) ≤ index_of place
  pub running : IsRunning model wal new

-- The result of reading the next message: the message, or none if nothing is left.
abbrev pub ReadsNext : {D : Type 0} → DiskModel D → Wal → ReaderPosition → Demo D → Option (List ℕ) → Type 0
ReadsNext model wal place new read = MatchOption read (ReadNone model wal place new) (ReadOne model wal place new)
