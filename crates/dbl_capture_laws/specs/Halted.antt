-- The exact cause of each error of a session.
use Rattle.std.specs.Prelude.{◌≡◌, ◌≢◌, ◌⊎◌, ℕ, ℤ, ◌+◌, ◌<◌, ◌≤◌, not, position, Contains}
use Rattle.std.specs.Prelude.{Option, Some, None, Ok, Err, List, [], ◌∷◌, ◌++◌, length, slice_get}
use Rattle.std.specs.List.{AllByRecursion}
use Rattle.dbl_base.specs.declared.lsn.Lsn.{Lsn}
use Rattle.dbl_pgmsg.specs.declared.error.MsgError.{MsgError}
use Rattle.dbl_pgmsg.specs.declared.messages.Message.{Message}
use Rattle.dbl_pgmsg.specs.Faults.{IsFault}
use Rattle.dbl_model_table.specs.declared.config.Config.{Config}
use Rattle.dbl_model_table.specs.declared.table.TableName.{TableName}
use Rattle.dbl_model_table.specs.declared.table.TableInfo.{TableInfo}
use Rattle.dbl_model_table.specs.declared.change.Body.{Body}
use Rattle.dbl_model_table.specs.declared.change.Body.TheVariants.{Changes, Mark}
use Rattle.dbl_model_table.specs.declared.change.Change.{Change}
use Rattle.dbl_model_table.specs.declared.change.Commit.{Commit}
use Rattle.dbl_capture_work.specs.ModelHistory.declared.cursor.Cursor.{Cursor}
use Rattle.dbl_capture_work.specs.ModelHistory.MarkTexts.{Side, mark_text}
use Rattle.dbl_capture_work.specs.ModelHistory.MarkTexts.Side.{High, Low}
use Rattle.dbl_capture_work.specs.ModelCommit.declared.txn_error.TxnError.{TxnError}
use Rattle.dbl_capture_work.specs.ModelCommit.Blocks.{AreWithoutFault}
use Rattle.dbl_capture_work.specs.ModelCommit.Past.{last_lsn}
use Rattle.dbl_capture_work.specs.ModelCommit.Stated.{commits_of, ended_commit, stated, transaction_fault}
use Rattle.dbl_capture_work.specs.ModelEvent.declared.closed.Closed.{Closed}
use Rattle.dbl_capture_work.specs.ModelEvent.Clashes.{clash_of, snapshot_clash}
use Rattle.dbl_capture_work.specs.ModelEvent.EventJson.{envelopes}
use Rattle.dbl_capture_work.specs.ModelEvent.Snapshots.{snapshot}
use Rattle.dbl_capture_work.specs.SourceModel.Standings.{Reading, SourceState}
use Rattle.dbl_capture_work.specs.SourceModel.declared.started.Started.TheVariants.{Gone}
use Rattle.dbl_capture_work.specs.SourceModel.Trace.{Trace, Began, Read, LastAnswerIs}
use Rattle.dbl_capture_work.specs.Offset.declared.offset.Offset.{Offset}
use Rattle.dbl_capture_work.specs.Offset.Offsets.{IsOffset}
use Rattle.dbl_capture_work.specs.Window.declared.error.WindowError.{WindowError}
use Rattle.dbl_capture_work.specs.Window.Plans.{Plan}
use Rattle.dbl_capture_work.specs.Window.Selected.{IsReadOf}
use Rattle.dbl_capture_work.specs.CaptureModel.Stages.{IsOfSession}
use Rattle.dbl_capture_work.specs.declared.halt.Halt.{Halt}
use Rattle.dbl_capture_work.specs.declared.halt.Halt.TheVariants as halt
use Rattle.dbl_capture_work.specs.declared.report.Report.{Report}
use Rattle.dbl_capture_work.specs.Begins.{IsExhausted, IsModelFault, IsOffsetFor, IsTooLong}
use Rattle.dbl_capture_work.specs.Causes.{IsLongRecord}
use Rattle.dbl_capture_work.specs.Halts.{window_halt}
use Rattle.dbl_capture_work.specs.Takes.{IsClashIn}
use Rattle.dbl_capture_work.specs.Works.{open_commit}
use Rattle.dbl_capture_laws.specs.Found.{HasStored}
use Rattle.dbl_capture_laws.specs.Reported.{AreSpelled, HasReadAfter, BeginsAfter}

-- ---- what was read, as messages

-- These messages were read, and the source's trace, if known, has their bytes.
pub record WasTold (config : Config) (old new : Option Offset) (report : Report) (told : Option Trace) (reading : Reading) : Type 0 where
  pub stored : HasStored config old new
  pub begins_after : BeginsAfter old new stored.offset.infos reading.after
  pub many : length reading.messages ≡ report.messages
  pub read : List (List ℕ)
  pub spelled : AreSpelled read reading.messages
  pub tells : (t : Trace) → told ≡ Some t → t.read ≡ read

-- These messages were read, by the source's state.
pub record WasStood (config : Config) (old new : Option Offset) (report : Report) (t : SourceState) (reading : Reading) : Type 0 where
  pub stored : HasStored config old new
  pub begins_after : BeginsAfter old new stored.offset.infos reading.after
  pub many : length reading.messages ≡ report.messages
  pub is : t.reading ≡ Some reading

-- ---- the newest message

-- The newest bytes encode no message, and this error says why; their number is how many were read.
pub record IsMessageFault (read : List (List ℕ)) (number : ℕ) (error : MsgError) : Type 0 where
  pub bytes : List ℕ
  pub earlier : List (List ℕ)
  pub newest : read ≡ bytes ∷ earlier
  pub fault : IsFault bytes error
  pub number_is : number ≡ length read

-- The newest message is invalid after the others, which are valid.
pub record IsTxnFault (infos : List TableInfo) (reading : Reading) (number : ℕ) (error : TxnError) : Type 0 where
  pub message : Message
  pub earlier : List Message
  pub newest : reading.messages ≡ message ∷ earlier
  pub accepted : AreWithoutFault infos reading.after earlier
  pub fault : transaction_fault infos reading.after message earlier ≡ Some error
  pub number_is : number ≡ length reading.messages

-- The messages are valid, and the newest ends this commit.
pub record EndsCommit (infos : List TableInfo) (reading : Reading) (commit : Commit) : Type 0 where
  pub message : Message
  pub earlier : List Message
  pub newest : reading.messages ≡ message ∷ earlier
  pub accepted : AreWithoutFault infos reading.after (message ∷ earlier)
  pub ends : ended_commit infos message earlier ≡ Some commit

-- The messages are valid, and the newest states changes, with which this is the open transaction so far.
pub record StatesMore (infos : List TableInfo) (reading : Reading) (commit : Commit) : Type 0 where
  pub message : Message
  pub earlier : List Message
  pub newest : reading.messages ≡ message ∷ earlier
  pub accepted : AreWithoutFault infos reading.after (message ∷ earlier)
  pub changes : List Change
  pub states : stated infos message earlier ≡ Ok changes
  pub some : changes ≢ []
  pub commit_is : commit ≡ open_commit infos (message ∷ earlier)

-- ---- windows

-- The plan of the next window: of the first unfinished table, after its cursor, with at most `chunk` rows, the next number and version 1.
pub record IsNextPlan (config : Config) (report : Report) (offset : Offset) (plan : Plan) : Type 0 where
  pub table : position (λ cursor. not cursor.done) offset.cursors ≡ Some plan.table
  pub info : slice_get offset.infos plan.table ≡ Some plan.info
  pub cursor : Cursor
  pub cursor_is : slice_get offset.cursors plan.table ≡ Some cursor
  pub above : plan.above ≡ cursor.last
  pub limit : plan.limit ≡ config.chunk
  pub incarnation : plan.incarnation ≡ offset.incarnation
  pub number : plan.number ≡ report.chunks + 1
  pub version : plan.version ≡ 1

-- The error of the next window, by the rows that the source returned.
pub record IsWindowHalt (config : Config) (old new : Option Offset) (report : Report) (told : Option Trace) (table : TableName)
    (h : Halt) : Type 0 where
  pub stored : HasStored config old new
  pub plan : Plan
  pub next : IsNextPlan config report stored.offset plan
  pub name : plan.info.name ≡ table
  pub error : WindowError
  pub is : h ≡ window_halt table error
  pub rows : IsReadOf plan told (Err error)

-- A watermark with this text closes a window with these rows, the first that the report doesn't count.
pub record ClosesAt (config : Config) (report : Report) (offset : Offset) (value : List ℕ) (closed : Closed) : Type 0 where
  pub mark : value ≡ mark_text offset.incarnation (report.chunks + 1) High
  pub table : position (λ cursor. not cursor.done) offset.cursors ≡ Some closed.table
  pub few : length closed.rows ≤ config.chunk

-- ---- the newest commit

-- The newest message states a change with a value equal to the placeholder, the first one of the open transaction; the error names it.
pub record HasOpenClash (offset : Offset) (reading : Reading) (h : Halt) : Type 0 where
  pub commit : Commit
  pub more : StatesMore offset.infos reading commit
  pub before : clash_of offset.identity offset.infos (open_commit offset.infos more.earlier) ≡ None
  pub clash : IsClashIn (clash_of offset.identity offset.infos commit) h

-- The newest message ends the commit that closes a window, one of whose rows has a value equal to the placeholder; the error names it. The
-- definition doesn't say which rows were read.
pub record HasClosedClash (config : Config) (report : Report) (offset : Offset) (reading : Reading) (h : Halt) : Type 0 where
  pub commit : Commit
  pub ends : EndsCommit offset.infos reading commit
  pub value : List ℕ
  pub mark : commit.body ≡ Mark value
  pub closed : Closed
  pub closes : ClosesAt config report offset value closed
  pub clash : IsClashIn (snapshot_clash offset.identity offset.infos closed) h

-- A record of the open transaction is too long, and the record after it is known not to be the transaction's last one, as it wasn't before
-- the newest message. No value is equal to the placeholder.
pub record HasOpenLong (now : ℤ) (offset : Offset) (reading : Reading) (h : Halt) : Type 0 where
  pub commit : Commit
  pub more : StatesMore offset.infos reading commit
  pub clear : clash_of offset.identity offset.infos commit ≡ None
  pub long : IsLongRecord (envelopes offset.identity offset.infos commit now) h
  pub known : long.place + 2 < length (envelopes offset.identity offset.infos commit now)
  pub before : length (envelopes offset.identity offset.infos (open_commit offset.infos more.earlier) now) ≤ long.place + 2

-- One of the records is too long, and no value is equal to the placeholder; of a commit's changes one of the last two records, as the
-- others were appended before its end.
abbrev pub IsLongOf : Config → ℤ → Report → Offset → Commit → Body → Halt → Type 0
IsLongOf config now report offset commit (Changes changes) h =
    (clash_of offset.identity offset.infos commit ≡ None) × ((long : IsLongRecord (envelopes offset.identity offset.infos commit now) h)
    × (length (envelopes offset.identity offset.infos commit now) ≤ long.place + 2))
IsLongOf config now report offset commit (Mark value) h =
    (closed : Closed) × ClosesAt config report offset value closed × (snapshot_clash offset.identity offset.infos closed ≡ None)
    × IsLongRecord (snapshot offset.identity offset.infos closed commit now) h

-- A value equal to the placeholder is in the newest change, or in a row of the window that the newest message's commit closes.
abbrev pub HasClash : Config → Report → Offset → Reading → Halt → Type 0
HasClash config report offset reading h = HasOpenClash offset reading h ⊎ HasClosedClash config report offset reading h

-- The newest message ends a commit one of whose records, or of the window that it closes, is too long.
pub record HasEndLong (config : Config) (now : ℤ) (report : Report) (offset : Offset) (reading : Reading) (h : Halt) : Type 0 where
  pub commit : Commit
  pub ends : EndsCommit offset.infos reading commit
  pub long : IsLongOf config now report offset commit commit.body h

-- A record that is too long is appended once the record after it is known not to be its transaction's last one, or at the transaction's
-- end.
abbrev pub HasLong : Config → ℤ → Report → Offset → Reading → Halt → Type 0
HasLong config now report offset reading h = HasOpenLong now offset reading h ⊎ HasEndLong config now report offset reading h

-- ---- offsets and watermarks

-- No cursor but that of the first unfinished table has moved.
pub record MovesOne (old new : List Cursor) : Type 0 where
  pub others : (place : ℕ) → (position (λ cursor. not cursor.done) old ≡ Some place → ⊥) → slice_get new place ≡ slice_get old place

-- A later offset of the session, at the last commit that was read; at most one window was closed since the stored one.
pub record IsNextOffset (stored : Offset) (reading : Reading) (offset : Offset) : Type 0 where
  pub asked : IsOffset offset
  pub of : IsOfSession stored offset
  pub moves : MovesOne stored.cursors offset.cursors
  pub accepted : AreWithoutFault stored.infos reading.after reading.messages
  pub lsn : offset.lsn ≡ last_lsn reading.after reading.messages

-- The low watermark is among the commits, and no later one is the high watermark.
pub record IsOpenAmong (low high : List ℕ) (commits : List Commit) : Type 0 where
  pub before : List Commit
  pub commit : Commit
  pub subsequent : List Commit
  pub parted : commits ≡ before ++ commit ∷ subsequent
  pub is : commit.body ≡ Mark low
  pub none : AllByRecursion (λ other. other.body ≢ Mark high) subsequent

-- A table is unfinished, and the missing watermark is one of the next window's: the low one, or the high one after the low one was read.
-- The LSN is that of the last commit that was read.
pub record MissesMark (report : Report) (offset : Offset) (reading : Reading) (value : List ℕ) (at : Lsn) : Type 0 where
  pub accepted : AreWithoutFault offset.infos reading.after reading.messages
  pub table : ℕ
  pub waits : position (λ cursor. not cursor.done) offset.cursors ≡ Some table
  pub side : Side
  pub value_is : value ≡ mark_text offset.incarnation (report.chunks + 1) side
  pub opened : side ≡ High
      → IsOpenAmong (mark_text offset.incarnation (report.chunks + 1) Low) value (commits_of offset.infos reading.messages)
  pub last : at ≡ last_lsn reading.after reading.messages

-- ---- why it halts

-- The cause of an error by the messages that were read; other errors have no condition here.
abbrev pub IsHaltBy : Config → ℤ → Report → Offset → Reading → Halt → Type 0
IsHaltBy config now report offset reading (halt.Txn number error) = IsTxnFault offset.infos reading number error
IsHaltBy config now report offset reading (halt.Clash table column) = HasClash config report offset reading (halt.Clash table column)
IsHaltBy config now report offset reading (halt.RecordTooLong len) = HasLong config now report offset reading (halt.RecordTooLong len)
IsHaltBy config now report offset reading (halt.WatermarkMissing value at) = MissesMark report offset reading value at
IsHaltBy config now report offset reading h = Unit {0}

-- The cause of an error by the source's trace.
pub record IsToldHalt (config : Config) (now : ℤ) (old new : Option Offset) (report : Report) (told : Option Trace)
    (h : Halt) : Type 0 where
  pub reading : Reading
  pub was : WasTold config old new report told reading
  pub by : IsHaltBy config now report was.stored.offset reading h

-- The first offset, or the next one after the messages of the source's trace, is too long.
abbrev pub IsLongOffset : Config → Option Offset → Option Offset → Report → Option Trace → Halt → Type 0
IsLongOffset config old new report told h =
    ((new ≡ old) × ((offset : Offset) × IsOffset offset × IsOffsetFor config old offset × IsTooLong offset h))
    ⊎ ((reading : Reading) × (was : WasTold config old new report told reading) × (offset : Offset)
    × IsNextOffset was.stored.offset reading offset × IsTooLong offset h)

-- The cause of each error, by the source's trace if it is known. A failed source, sink or store, and out of memory, have no condition here.
abbrev pub IsHalt : Config → ℤ → Option Offset → Option Offset → Report → Option Trace → Halt → Type 0
IsHalt config now old new report told halt.Source = Unit {0}
IsHalt config now old new report told halt.Sink = Unit {0}
IsHalt config now old new report told halt.Offsets = Unit {0}
IsHalt config now old new report told halt.Memory = Unit {0}
IsHalt config now old new report told (halt.Message number error) =
    (r : HasReadAfter config old new report told) × IsMessageFault r.read number error
IsHalt config now old new report told (halt.Txn number error) = IsToldHalt config now old new report told (halt.Txn number error)
IsHalt config now old new report told (halt.Chunk table row) = IsWindowHalt config old new report told table (halt.Chunk table row)
IsHalt config now old new report told (halt.Altered table) = IsWindowHalt config old new report told table (halt.Altered table)
IsHalt config now old new report told (halt.Cell table column error) =
    IsWindowHalt config old new report told table (halt.Cell table column error)
IsHalt config now old new report told (halt.Clash table column) = IsToldHalt config now old new report told (halt.Clash table column)
IsHalt config now old new report told (halt.RecordTooLong len) = IsToldHalt config now old new report told (halt.RecordTooLong len)
IsHalt config now old new report told (halt.OffsetTooLong len) = IsLongOffset config old new report told (halt.OffsetTooLong len)
IsHalt config now old new report told (halt.Model error) =
    (old ≡ None) × (new ≡ None) × ((name : TableName) × Contains config.tables name × IsModelFault name told (halt.Model error))
IsHalt config now old new report told (halt.UnknownTable table) =
    (old ≡ None) × (new ≡ None) × Contains config.tables table × IsModelFault table told (halt.UnknownTable table)
IsHalt config now old new report told (halt.Gone asked first) =
    (s : HasStored config old new) × (asked ≡ s.offset.lsn) × LastAnswerIs told (Began (Gone first))
IsHalt config now old new report told (halt.WatermarkMissing value at) =
    LastAnswerIs told (Read None) × IsToldHalt config now old new report told (halt.WatermarkMissing value at)
IsHalt config now old new report told (halt.Exhausted incarnation) = (new ≡ old) × IsExhausted old (halt.Exhausted incarnation)

-- ---- by the source's state

-- The cause of an error by the source's state.
pub record IsStoodHalt (config : Config) (now : ℤ) (old new : Option Offset) (report : Report) (t : SourceState) (h : Halt) : Type 0 where
  pub reading : Reading
  pub was : WasStood config old new report t reading
  pub by : IsHaltBy config now report was.stored.offset reading h

-- The first offset, or the next one after the messages of the source's state, is too long.
abbrev pub IsLongStood : Config → Option Offset → Option Offset → Report → SourceState → Halt → Type 0
IsLongStood config old new report t h =
    ((new ≡ old) × ((offset : Offset) × IsOffset offset × IsOffsetFor config old offset × IsTooLong offset h))
    ⊎ ((reading : Reading) × (was : WasStood config old new report t reading) × (offset : Offset)
    × IsNextOffset was.stored.offset reading offset × IsTooLong offset h)

-- The cause of each error that depends on the messages, by the source's state. What was read of a source with a state are messages, so no
-- bytes are malformed.
abbrev pub IsHaltOfStood : Config → ℤ → Option Offset → Option Offset → Report → SourceState → Halt → Type 0
IsHaltOfStood config now old new report t (halt.Message number error) = ⊥
IsHaltOfStood config now old new report t (halt.Txn number error) = IsStoodHalt config now old new report t (halt.Txn number error)
IsHaltOfStood config now old new report t (halt.Clash table column) = IsStoodHalt config now old new report t (halt.Clash table column)
IsHaltOfStood config now old new report t (halt.RecordTooLong len) = IsStoodHalt config now old new report t (halt.RecordTooLong len)
IsHaltOfStood config now old new report t (halt.WatermarkMissing value at) =
    IsStoodHalt config now old new report t (halt.WatermarkMissing value at)
IsHaltOfStood config now old new report t (halt.OffsetTooLong len) = IsLongStood config old new report t (halt.OffsetTooLong len)
IsHaltOfStood config now old new report t h = Unit {0}
