-- What a session supports of a source's history, of the messages that it reads, and of the stores. The placeholder is that of the Debezium
-- connector manual, `unavailable.value.placeholder`.
use Rattle.std.specs.Prelude.{◌≡◌, ℕ, ℤ, ◌<◌, ◌^◌, Option, Some, None, List, slice_get, ◌≤◌, length}
use Rattle.std.specs.List.{AllByRecursion}
use Rattle.dbl_record.specs.declared.record.Record.{Record}
use Rattle.dbl_record.specs.Cuts.{joined}
use Rattle.dbl_model_table.specs.declared.change.Commit.{Commit}
use Rattle.dbl_model_table.specs.declared.config.Config.{Config}
use Rattle.dbl_model_table.specs.declared.identity.Identity.{Identity}
use Rattle.dbl_model_table.specs.declared.table.TableInfo.{TableInfo}
use Rattle.dbl_model_history.specs.History.{History}
use Rattle.dbl_model_history.specs.Typed.{typed}
use Rattle.dbl_model_commit.specs.Blocks.{AreWithoutFault}
use Rattle.dbl_model_event.specs.declared.closed.Closed.{Closed}
use Rattle.dbl_model_event.specs.Clashes.{clash_of, snapshot_clash}
use Rattle.dbl_model_event.specs.EventJson.{envelopes}
use Rattle.dbl_model_event.specs.Snapshots.{snapshot}
use Rattle.dbl_source_model.specs.Standings.{Reading, SourceState}
use Rattle.dbl_offset_content.specs.declared.offset.Offset.{Offset}
use Rattle.dbl_offset.specs.Entries.{offset_bytes_form}
use Rattle.dbl_offset.specs.Measures.{offset_limit}
use Rattle.dbl_faithful.specs.Lag.{IsOffsetOf}
use Rattle.dbl_demo_wal_laws.specs.Readable.{RowsAreReadable}
use Rattle.dblog_run.specs.CaptureModel.Entries.{SessionStart}
use Rattle.dblog_run.specs.CaptureWork.declared.halt.Halt.{Halt}
use Rattle.dblog_run.specs.CaptureWork.declared.halt.Halt.TheVariants as halt
use Rattle.dblog_run.specs.CaptureWork.declared.report.Report.{Report}
use Rattle.dblog_run.specs.CaptureWork.Begins.{CanBeCaptured}
use Rattle.dblog_run.specs.CaptureWork.Works.{AreShort}
use Rattle.dblog_run.specs.CaptureLaws.Sessions.{IsCapturing}
use Rattle.dblog_run.specs.CaptureLaws.Nevers.{IsNewest, IsOwnClosed}
use Rattle.dblog_run.specs.CaptureLaws.Stored.{session_identity}

-- ---- the beginning

-- A session can begin: each configured table of a first session can be captured as the catalogue has it, and a later one has an incarnation
-- left.
abbrev pub CanBegin : Config → History → Option Offset → Type 0
CanBegin config history None = AllByRecursion (CanBeCaptured history) config.tables
CanBegin config history (Some offset) = offset.incarnation < 2 ^ 63

-- ---- records

-- No value of a commit's records is equal to the placeholder, and none of the records is longer than 2^28 bytes.
pub record CanBeSent (identity : Identity) (infos : List TableInfo) (now : ℤ) (commit : Commit) : Type 0 where
  pub clear : clash_of identity infos commit ≡ None
  pub short : AreShort (envelopes identity infos commit now)

-- No value of a window's records is equal to the placeholder, and none of them is longer than 2^28 bytes, if the commit with this index
-- closes the window.
pub record CanBeClosed (identity : Identity) (infos : List TableInfo) (now : ℤ) (commits : List Commit) (place : ℕ)
    (closed : Closed) : Type 0 where
  pub clear : snapshot_clash identity infos closed ≡ None
  pub short : (commit : Commit) → slice_get commits place ≡ Some commit → AreShort (snapshot identity infos closed commit now)

-- ---- what a session meets

-- The records of the commit that the newest message ends, or of which it states changes, can be sent, if it is one of the history.
abbrev pub CanSend : SessionStart → History → List TableInfo → Reading → Type 0
CanSend entry history infos reading = (newest : IsNewest infos history reading)
    → CanBeSent (session_identity entry) infos entry.now newest.commit

-- The records of each window that a session may close can be sent: those after a cursor of an offset that agrees with the stores, without
-- those changed between the watermarks, and at most `chunk`.
abbrev pub WindowsAreSupported : SessionStart → SourceState → List Record → List TableInfo → Type 0
WindowsAreSupported entry t records infos = (offset : Offset) (report : Report) (place : ℕ) (closed : Closed)
    → IsOffsetOf t.history t.confirmed records offset → IsOwnClosed infos entry.config.chunk offset report t.history place closed
    → CanBeClosed (session_identity entry) infos entry.now (typed infos t.history) place closed

-- None of the messages that were read is invalid.
abbrev pub IsClean : List TableInfo → Option Reading → Type 0
IsClean infos read = (reading : Reading) → read ≡ Some reading → AreWithoutFault infos reading.after reading.messages

-- No offset that may be stored after these records is longer than 2^28 bytes.
abbrev pub OffsetsAreShort : SessionStart → SourceState → List Record → Type 0
OffsetsAreShort entry t records = (offset : Offset) → offset.identity ≡ session_identity entry → IsCapturing entry offset.infos
    → IsOffsetOf t.history t.confirmed records offset → length (offset_bytes_form offset) ≤ offset_limit

-- What a session has met when it ends, in the source's state and the sink's contents, is supported.
pub record HasMetSupported (entry : SessionStart) (stands : SourceState → Type 0) (holds : List (List Record) → Type 0) : Type 0 where
  pub messages : (t : SourceState) (infos : List TableInfo) → stands t → IsCapturing entry infos → IsClean infos t.reading
  pub cells : (t : SourceState) (infos : List TableInfo) → stands t → IsCapturing entry infos → RowsAreReadable infos t.history
  pub commits : (t : SourceState) (infos : List TableInfo) (reading : Reading) → stands t → IsCapturing entry infos
      → t.reading ≡ Some reading
      → CanSend entry t.history infos reading
  pub windows : (t : SourceState) (groups : List (List Record)) (infos : List TableInfo) → stands t → holds groups → IsCapturing entry infos
      → WindowsAreSupported entry t (joined groups) infos
  pub offsets : (t : SourceState) (groups : List (List Record)) → stands t → holds groups → OffsetsAreShort entry t (joined groups)

-- ---- errors

-- The offset that was stored last agrees with the source's state and with the sink's contents.
abbrev pub IsOffsetOfThese : Option Offset → (SourceState → Type 0) → (List (List Record) → Type 0) → Type 0
IsOffsetOfThese stored stands holds = (offset : Offset) (t : SourceState) → stored ≡ Some offset → stands t
    → (groups : List (List Record)) × holds groups × IsOffsetOf t.history t.confirmed (joined groups) offset

-- A call of the source, the sink or the store failed, or memory ran out.
abbrev pub MayStillHalt : Halt → Type 0
MayStillHalt halt.Source = Unit {0}
MayStillHalt halt.Sink = Unit {0}
MayStillHalt halt.Offsets = Unit {0}
MayStillHalt halt.Memory = Unit {0}
MayStillHalt h = ⊥
