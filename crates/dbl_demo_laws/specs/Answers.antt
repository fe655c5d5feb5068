-- For private clauses: the result and effect of a call, for every answer.
use Rattle.std.specs.Prelude.{◌≡◌, ℕ, ◌≤◌, false, IsTrue, is_none, is_some, IfOk, OnOk}
use Rattle.std.specs.Prelude.{OnErr, Option, Some, None, Result, Err, List, [], length}
use Rattle.dbl_base.specs.declared.lsn.Lsn.{Lsn}
use Rattle.dbl_base.specs.Streams.{FaultCounted}
use Rattle.dbl_disk.specs.Model.{DiskModel}
use Rattle.dbl_model_table.specs.declared.row.Key.{Key}
use Rattle.dbl_model_table.specs.declared.table.RawTable.{RawTable}
use Rattle.dbl_model_table.specs.declared.table.TableName.{TableName}
use Rattle.dbl_source.specs.ModelHistory.History.{entry_of}
use Rattle.dbl_source.specs.SourceModel.declared.selected.Selected.{Selected}
use Rattle.dbl_source.specs.SourceModel.declared.started.Started.{Started}
use Rattle.dbl_source.specs.SourceModel.declared.started.Started.TheVariants.{Ready, Gone}
use Rattle.dbl_journal.specs.Growth as journals
use Rattle.dbl_source.specs.SourceLog.declared.reader_position.ReaderPosition.{ReaderPosition}
use Rattle.dbl_source.specs.SourceLog.Histories.{history_of}
use Rattle.dbl_source.specs.SourceLog.Numbers.{lsn_of}
use Rattle.dbl_source.specs.SourceLog.declared.error.SourceError.{SourceError}
use Rattle.dbl_source.specs.SourceLog.declared.error.SourceError.TheVariants.{Failed}
use Rattle.dbl_demo_workload.specs.DemoWal.declared.entry.Entry.{Entry}
use Rattle.dbl_demo_workload.specs.DemoWal.Workloads.{acts_at}
use Rattle.dbl_demo_workload.specs.DemoWal.Wals.{Wal}
use Rattle.dbl_demo_workload.specs.DemoWal.Groups.{ReadsOn}
use Rattle.dbl_demo_workload.specs.DemoWal.CrashState.{added_by, with_entries}
use Rattle.dbl_demo_workload.specs.DemoWal.Shown.{AreRowsShown}
use Rattle.dbl_demo_laws.specs.Calls.{LeavesFirst, LeavesRead, ReleasesSteps, next_end, start_answer}
use Rattle.dbl_demo_laws.specs.Demo.{Demo, IsDemo}
use Rattle.dbl_demo_laws.specs.Reading.{ReadsNext}
use Rattle.dbl_demo_laws.specs.Running.{StaysKnown}

-- The reader's position is the same, and so is the answer of its last read.
pub record IsReaderKept {D : Type 0} (old new : Demo D) : Type 0 where
  pub place : new.place ≡ old.place
  pub ended : new.ended ≡ old.ended

-- The effect of a call that ran the steps up to the first so many, and wrote these entries of its own.
pub record RunsStepsAndWrites {D T : Type 0} (model : DiskModel D) (upto : ℕ) (own : List Entry) (Answers : Demo D → T → Type 0)
    (old new : Demo D) (result : Result T SourceError) : Type 0 where
  pub released : OnOk result (ReleasesSteps model upto own old new)
  pub first : LeavesFirst model upto own old new
  pub group : OnOk result (new.done ≡ upto)
  pub live : OnOk result (IsTrue new.live)
  pub dead : OnErr result (new.live ≡ false)
  pub come : journals.ExtendsJournal model old.journal new.journal
  pub later : model.faults old.journal.disk ≤ model.faults new.journal.disk
  pub failed : result ≡ Err Failed → FaultCounted (model.faults old.journal.disk) (model.faults new.journal.disk)
  pub known : OnOk result (StaysKnown model old.journal.disk new.journal.disk)
  pub reader : OnErr result (IsReaderKept old new)
  pub answers : IfOk result (λ answer. Answers new answer)

-- A call returned the catalogue's entry of a table.
pub record AnswersEntry {D : Type 0} (name : TableName) (old new : Demo D) (entry : Option RawTable) : Type 0 where
  pub reader : IsReaderKept old new
  pub is : entry ≡ entry_of (history_of old.tables []) name

-- A call returned the position of the last commit.
pub record AnswersHead {D : Type 0} (old new : Demo D) (lsn : Lsn) : Type 0 where
  pub reader : IsReaderKept old new
  pub is : lsn ≡ lsn_of (length new.commits)

-- The position of a reader that starts after an LSN; none if the log there is gone.
abbrev pub place_after : Lsn → Started → Option ReaderPosition
place_after after Ready = Some (record { after = after; commits = 0; begun = false; change = 0; table = 0 })
place_after after (Gone first) = None

-- A call started a reader after an LSN.
pub record AnswersStart {D : Type 0} (after : Lsn) (old new : Demo D) (started : Started) : Type 0 where
  pub is : started ≡ start_answer after old.confirmed
  pub place : new.place ≡ place_after after started
  pub ended : new.ended ≡ false

-- A call answered version 1 and the rows after the first group.
pub record AnswersRows {D : Type 0} (model : DiskModel D) (table : TableName) (above : Option Key) (limit : ℕ) (old new : Demo D)
    (answer : Selected) : Type 0 where
  pub reader : IsReaderKept old new
  pub version : answer.version ≡ 1
  pub are : (wal : Wal) → IsDemo model wal old
      → AreRowsShown wal.workload.tables (acts_at wal.workload (next_end old)) table above limit answer.rows

-- A call returned no value.
pub record AnswersNothing {D : Type 0} (old new : Demo D) (done : Unit {0}) : Type 0 where
  pub reader : IsReaderKept old new

-- Groups were run until there was a commit to be read, or no step was left; then this was read.
pub record ReadAfter {D : Type 0} (model : DiskModel D) (wal : Wal) (place : ReaderPosition) (old new : Demo D)
    (read : Option (List ℕ)) : Type 0 where
  pub on : ReadsOn wal.workload wal.entries place old.done new.done old.done
  pub next : ReadsNext model (with_entries wal (added_by wal old.done new.done [])) place new read

-- The effect of a read: what it added to the log, and what it returned.
pub record AddsRead {D : Type 0} (model : DiskModel D) (old new : Demo D) (result : Result (Option (List ℕ)) SourceError) : Type 0 where
  pub all : IfOk result (λ read. read ≡ None → new.done ≡ length new.steps)
  pub reads : (wal : Wal) (place : ReaderPosition) → IsDemo model wal old → old.place ≡ Some place
      → IfOk result (λ read. ReadAfter model wal place old new read)
  pub first : LeavesRead model old new
  pub live : OnOk result (IsTrue new.live)
  pub dead : OnErr result (new.live ≡ false)
  pub come : journals.ExtendsJournal model old.journal new.journal
  pub later : model.faults old.journal.disk ≤ model.faults new.journal.disk
  pub failed : result ≡ Err Failed → FaultCounted (model.faults old.journal.disk) (model.faults new.journal.disk)
  pub known : OnOk result (StaysKnown model old.journal.disk new.journal.disk)
  pub reading : is_some new.place ≡ is_some old.place
  pub ended : IfOk result (λ read. new.ended ≡ is_none read)
  pub still : OnErr result (new.ended ≡ old.ended)
