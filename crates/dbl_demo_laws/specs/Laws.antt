-- A source that runs a workload, as its callers see it: its calls keep the contract of every source.
use Rattle.std.specs.Prelude.{◌≡◌, ℕ, IsTrue, is_none, MatchOption, Option, Some, List, []}
use Rattle.dbl_base.specs.declared.lsn.Lsn.{Lsn}
use Rattle.dbl_disk.specs.Model.{DiskModel}
use Rattle.dbl_pgmsg.specs.declared.messages.Message.{Message}
use Rattle.dbl_pgmsg.specs.Grammar.{Spells}
use Rattle.dbl_model_table.specs.declared.row.Key.{Key}
use Rattle.dbl_source.specs.SourceModel.declared.selected.Selected.{Selected}
use Rattle.dbl_model_table.specs.declared.table.RawTable.{RawTable}
use Rattle.dbl_model_table.specs.declared.table.TableName.{TableName}
use Rattle.dbl_source.specs.ModelHistory.History.{IsRising}
use Rattle.dbl_source.specs.SourceModel.declared.started.Started.{Started}
use Rattle.dbl_source.specs.SourceModel.Answered.{IsDescribed, IsHeaded, IsSelectAnswer}
use Rattle.dbl_source.specs.SourceModel.Calls.{HasReadAll, IsConfirmed, IsMarked, Moved, Starts, HasReadOneMore}
use Rattle.dbl_source.specs.SourceModel.Leaves.{Leaves, MayFollow, MayFollowConfirm, MayFollowMark}
use Rattle.dbl_source.specs.SourceModel.Standings.{CrashState, Reading, SourceState, HasState, left_of}
use Rattle.dbl_source.specs.SourceModel.Stated.{IsReadRight}
use Rattle.dbl_journal.specs.Growth as journals
use Rattle.dbl_source.specs.SourceLog.declared.reader_position.ReaderPosition.{ReaderPosition}
use Rattle.dbl_demo_workload.specs.DemoWal.declared.entry.Entry.{Entry}
use Rattle.dbl_demo_workload.specs.DemoWal.Wals.{Wal}
use Rattle.dbl_demo_workload.specs.DemoWal.Standings.{MayLeaveWal}
use Rattle.dbl_demo_laws.specs.Answers.{AnswersEntry, AnswersHead, AnswersRows, AnswersStart, ReadAfter}
use Rattle.dbl_demo_laws.specs.Calls.{LeavesFirst, Released, ReleasesSteps, confirm_of, mark_entries, second_end}
use Rattle.dbl_demo_laws.specs.Demo.{ExtendsDemo, Demo, IsDemo, HasDemoState}
use Rattle.dbl_demo_laws.specs.Running.{StaysKnown}

-- ---- its state

-- The source has at most one state, its positions ascend, what it has read is correct, and a crash leaves only that state.
pub record StandsWell {D : Type 0} (model : DiskModel D) (demo : Demo D) (s : SourceState) : Type 0 where
  pub one : (t : SourceState) → HasDemoState model demo t → s ≡ t
  pub rising : IsRising s.history
  pub right : (r : Reading) → s.reading ≡ Some r → IsReadRight s.history r
  pub only : (l : CrashState) → MayLeaveWal model demo.journal.disk l → l ≡ left_of s

-- The state of every source is correct.
abbrev pub SourcesStandWell : {D : Type 0} → DiskModel D → Type 0
SourcesStandWell {D} model = (demo : Demo D) (s : SourceState) → HasDemoState model demo s → StandsWell model demo s

-- ---- the answer of a call

-- The contract of every source, after a call that wrote no entry of its own.
pub record IsPromised {D : Type 0} (model : DiskModel D) (old new : Demo D) (s : SourceState) : Type 0 where
  pub described : (name : TableName) (entry : Option RawTable) → AnswersEntry name old new entry
      → HasState (HasDemoState model) new (IsDescribed name entry s)
  pub headed : (lsn : Lsn) → AnswersHead old new lsn → HasState (HasDemoState model) new (IsHeaded lsn s)
  pub started : (after : Lsn) (answer : Started) → AnswersStart after old new answer
      → HasState (HasDemoState model) new (Starts after answer s)

-- What `describe`, `head` and `start` return after a group keeps the contract of every source.
abbrev pub GroupsAnswerAsPromised : {D : Type 0} → DiskModel D → Type 0
GroupsAnswerAsPromised {D} model =
    (old new : Demo D) (wal : Wal) (upto : ℕ) (s : SourceState) → IsDemo model wal old → HasDemoState model old s
    → Released model wal upto [] old new → IsPromised model old new s

-- The contract of every source, after a call that wrote a watermark or a confirmed position.
pub record IsWritten {D : Type 0} (model : DiskModel D) (old new : Demo D) (wal : Wal) (upto : ℕ) (s : SourceState) : Type 0 where
  pub marked : (value : List ℕ) → Released model wal upto (mark_entries value upto) old new
      → HasState (HasDemoState model) new (IsMarked value s)
  pub confirmed : (lsn : Lsn) → Released model wal upto (confirm_of old.confirmed lsn) old new
      → HasState (HasDemoState model) new (IsConfirmed lsn s)

-- A watermark and a confirmed position after a group keep the contract of every source.
abbrev pub EntriesAreWrittenAsPromised : {D : Type 0} → DiskModel D → Type 0
EntriesAreWrittenAsPromised {D} model =
    (old new : Demo D) (wal : Wal) (upto : ℕ) (s : SourceState) → IsDemo model wal old → HasDemoState model old s → new.place ≡ old.place
    → IsWritten model old new wal upto s

-- The rows that a select takes between two groups keep the contract of every source.
abbrev pub SelectsAnswerAsPromised : {D : Type 0} → DiskModel D → Type 0
SelectsAnswerAsPromised {D} model =
    (old new : Demo D) (wal : Wal) (table : TableName) (above : Option Key) (limit : ℕ) (answer : Selected) (s : SourceState)
    → IsDemo model wal old → HasDemoState model old s → Released model wal (second_end old) [] old new
    → AnswersRows model table above limit old new answer
    → HasState (HasDemoState model) new (IsSelectAnswer (Unit {0}) table above limit answer s)

-- The promised result of a read: nothing is left, or the next message was taken.
abbrev pub IsReadAsPromised : {D : Type 0} → DiskModel D → Demo D → SourceState → Option (List ℕ) → Type 0
IsReadAsPromised model new s read =
    MatchOption read (HasState (HasDemoState model) new (λ t. Moved s t × (Unit {0} → HasReadAll s t)))
    (λ bytes. (m : Message) × Spells bytes m × HasState (HasDemoState model) new (HasReadOneMore m s))

-- What a read returns after its groups keeps the contract of every source.
abbrev pub ReadsAnswerAsPromised : {D : Type 0} → DiskModel D → Type 0
ReadsAnswerAsPromised {D} model =
    (old new : Demo D) (wal : Wal) (place : ReaderPosition) (s : SourceState) (read : Option (List ℕ)) → IsDemo model wal old
    → old.place ≡ Some place → HasDemoState model old s → IsTrue new.live → new.ended ≡ is_none read
    → ReadAfter model wal place old new read → IsReadAsPromised model new s read

-- ---- what a crash leaves, and what no call undoes

-- A crash may leave this state of the source.
abbrev pub MayLeaveDemo : {D : Type 0} → DiskModel D → Demo D → CrashState → Type 0
MayLeaveDemo model source l = MayLeaveWal model source.journal.disk l

-- A crash in a call leaves a state that may follow the source's.
pub record StopsWell {D : Type 0} (model : DiskModel D) (old new : Demo D) (upto : ℕ) : Type 0 where
  pub released : LeavesFirst model upto [] old new → Leaves (HasDemoState model) (MayLeaveDemo model) old new MayFollow
  pub marked : (value : List ℕ) → LeavesFirst model upto (mark_entries value upto) old new
      → Leaves (HasDemoState model) (MayLeaveDemo model) old new (MayFollowMark value)
  pub confirmed : (lsn : Lsn) → LeavesFirst model upto (confirm_of old.confirmed lsn) old new
      → Leaves (HasDemoState model) (MayLeaveDemo model) old new (MayFollowConfirm lsn)

-- If a crash leaves a first part of what a call adds, it leaves a state that may follow the source's.
abbrev pub CrashesLeaveWhatFollows : {D : Type 0} → DiskModel D → Type 0
CrashesLeaveWhatFollows {D} model = (old new : Demo D) (upto : ℕ) → StopsWell model old new upto

-- A call that adds to the log, and of which no disk call failed if the source can be used after it, extends the source.
abbrev pub CallsUndoNothing : {D : Type 0} → DiskModel D → Type 0
CallsUndoNothing {D} model =
    (old new : Demo D) (upto : ℕ) (own : List Entry) → IsTrue old.live → journals.ExtendsJournal model old.journal new.journal
    → LeavesFirst model upto own old new → (IsTrue new.live → ReleasesSteps model upto own old new)
    → (IsTrue new.live → StaysKnown model old.journal.disk new.journal.disk)
    → ExtendsDemo model old new
