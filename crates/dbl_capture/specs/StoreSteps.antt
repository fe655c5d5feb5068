-- What storing and confirming an offset keeps of a session.
use Rattle.std.specs.Prelude.{◌≡◌, ◌≢◌, ℕ, Option, Some, None, Result, Err, Bool, true, List, IfErr, IsTrue, OnErr, OnOk, is_ok}
use Rattle.dbl_base.specs.declared.lsn.Lsn.{Lsn}
use Rattle.dbl_disk.specs.Model.{DiskModel}
use Rattle.dbl_record.specs.declared.record.Record.{Record}
use Rattle.dbl_topic.specs.Model.{SinkModel}
use Rattle.dbl_source.specs.Model.{SourceModel}
use Rattle.dbl_source.specs.SourceModel.Standings.{CrashState, SourceState}
use Rattle.dbl_source.specs.SourceModel.Trace.{LastAnswerIs, Trace, Read}
use Rattle.dbl_offset.specs.Stores.{IsLive, StoreOn}
use Rattle.dbl_capture_work.specs.CaptureModel.Entries.{SessionStart, WasFaithful}
use Rattle.dbl_capture_work.specs.Follow.declared.window.Window.TheVariants as windows
use Rattle.dbl_capture_work.specs.Works.{HasReadyWork}
use Rattle.dbl_capture_work.specs.declared.halt.Halt.{Halt}
use Rattle.dbl_capture_work.specs.declared.halt.Halt.TheVariants as halt
use Rattle.dbl_capture_work.specs.declared.report.Report.{Report}
use Rattle.dbl_capture_work.specs.declared.work.SessionState.{SessionState}
use Rattle.dbl_capture_laws.specs.Awaited.{Awaits}
use Rattle.dbl_capture_laws.specs.Carried.{Beginning}
use Rattle.dbl_capture_laws.specs.Caused.{Halts, IsNotGone, IsQuiet}
use Rattle.dbl_capture_laws.specs.Closed.{HasClosedRead}
use Rattle.dbl_capture_laws.specs.Ends.{CacheMatchesDisk, IsReportAt}
use Rattle.dbl_capture_laws.specs.Nevers.{IsFaithfulHalt, IsHonestHalt}
use Rattle.dbl_capture_laws.specs.Sessions.{InSession, LeavesBy}
use Rattle.dbl_capture_laws.specs.Sinks.{IsPutting, HasHaltedPut, HasPutCommit}
use Rattle.dbl_capture_laws.specs.Sources.{IsUnderWay, HasSettledAll, HasCommitted}
use Rattle.dbl_capture_laws.specs.Turns.{IsSettledWhole, HasReadAllAt, IsSettled}
use Rattle.dbl_capture_laws.specs.Written.{AddsNoMore, AreClosed, IsLonger}
use Rattle.dbl_source.specs.SourceModel.Leaves.{Leaves}
use Rattle.dbl_capture_laws.specs.Found.{HasConfirmed}
use Rattle.dbl_offset_content.specs.declared.offset.Offset.{Offset}

-- The next offset can be stored and confirmed.
pub record IsReadyToStore {S D : Type 0} (source_model : SourceModel S) (work : SessionState) (src : S) (store : StoreOn D) : Type 0 where
  pub source_live : IsTrue (source_model.is_live src)
  pub store_live : IsLive store
  pub ready : HasReadyWork work

-- Storing the offset keeps the session's invariant; an error leaves what the session guarantees.
pub record KeepsStored {S K D T : Type 0} (source_model : SourceModel S) (sink_model : SinkModel K) (model : DiskModel D)
    (work new_work : SessionState) (src new_src : S) (sink : K) (store new_store : StoreOn D) (report new_report : Report)
    (result : Result T Halt) : Type 0 where
  pub next : (tell : Bool) (entry : SessionStart) → InSession tell source_model sink_model model entry work src sink store
      → source_model.honest new_src → OnOk result (IsSettled tell source_model sink_model model entry new_work new_src sink new_store)
  pub whole : (tell : Bool) (entry : SessionStart) → HasReadAllAt tell source_model sink_model model entry work src sink store
      → source_model.honest new_src → OnOk result (IsSettledWhole tell source_model sink_model model entry new_work new_src sink new_store)
  pub left : (tell : Bool) (entry : SessionStart) → InSession tell source_model sink_model model entry work src sink store
      → source_model.honest new_src → OnErr result (LeavesBy tell source_model sink_model model entry new_src sink new_store)
  pub own : (entry : SessionStart) → IfErr result (IsHonestHalt entry (source_model.stands new_src))
  pub most : (tell : Bool) (entry : SessionStart) → InSession tell source_model sink_model model entry work src sink store
      → AreClosed work report.chunks
      → OnErr result ((left : CrashState) → source_model.may_leave new_src left → AddsNoMore new_report.chunks entry.history left.history)
  pub content : (entry : SessionStart) → InSession true source_model sink_model model entry work src sink store → WasFaithful entry
      → IfErr result (IsFaithfulHalt entry new_store.offset new_report (source_model.stands new_src) (sink_model.holds sink))
  pub unclosed : (entry : SessionStart) (first : SourceState) (found : Option Trace) (b : Beginning)
      → InSession true source_model sink_model model entry work src sink store
      → HasCommitted source_model (Some first) found b store.offset work report src → WasFaithful entry → source_model.honest new_src
      → (t : SourceState) → source_model.stands new_src t → OnErr result (HasClosedRead new_store.offset new_report t)

-- Storing the offset appends nothing.
pub record PutsStored {S K D T : Type 0} (source_model : SourceModel S) (sink_model : SinkModel K) (work new_work : SessionState)
    (src new_src : S) (sink : K) (store new_store : StoreOn D) (report new_report : Report) (result : Result T Halt) : Type 0 where
  pub putting : (groups : List (List Record)) (at : Option SourceState) (found : Option Trace) (b : Beginning)
      → HasPutCommit source_model sink_model groups at found b store.offset work report src sink
      → OnOk result (IsPutting source_model sink_model groups at found b new_store.offset new_work new_report new_src sink)
  pub put : (groups : List (List Record)) (at : Option SourceState) (found : Option Trace) (b : Beginning)
      → HasPutCommit source_model sink_model groups at found b store.offset work report src sink
      → IfErr result (HasHaltedPut source_model sink_model groups at b.config b.now b.held new_store.offset new_report new_src sink)

-- What is stored and reported; the rest of the session's state is unchanged.
pub record StoresNext {S D T : Type 0} (source_model : SourceModel S) (model : DiskModel D) (work new_work : SessionState) (src new_src : S)
    (store new_store : StoreOn D) (report new_report : Report) (result : Result T Halt) : Type 0 where
  pub same : OnOk result (new_work ≡ record work { since = 0 })
  pub held : CacheMatchesDisk model store new_store result
  pub still : source_model.has_ended new_src ≡ source_model.has_ended src
  pub reading : source_model.is_reading new_src ≡ source_model.is_reading src
  pub quiet : OnOk result (IsQuiet (source_model.told new_src))
  pub reported : IsReportAt (is_ok result) store.offset new_store.offset work report new_report

-- Storing the offset reads no message; its error agrees with what the source reports.
pub record ReportsStored {S D T : Type 0} (source_model : SourceModel S) (work new_work : SessionState) (src new_src : S)
    (store new_store : StoreOn D) (report new_report : Report) (result : Result T Halt) : Type 0 where
  pub all : (at : Option SourceState) (found : Option Trace) (b : Beginning)
      → HasCommitted source_model at found b store.offset work report src
      → OnOk result (HasSettledAll source_model at found b new_store.offset new_work new_report new_src)
  pub halted : (at : Option SourceState) (found : Option Trace) (b : Beginning)
      → HasCommitted source_model at found b store.offset work report src → IsQuiet (source_model.told src)
      → IfErr result (Halts source_model at found b.config b.now b.held new_store.offset new_report new_src)
  pub awaits : Awaits source_model.stands work src → OnOk result (Awaits source_model.stands new_work new_src)
  pub grows : Leaves source_model.stands source_model.may_leave src new_src (λ s left. IsLonger s.history left.history)
  pub confirmed : (held : Option Offset) (s t : SourceState) → source_model.stands src s → source_model.stands new_src t
      → HasConfirmed held store.offset s → HasConfirmed held new_store.offset t

-- The errors that storing the offset never returns.
pub record StopsStoring {T : Type 0} (result : Result T Halt) : Type 0 where
  pub never : (value : List ℕ) (at : Lsn) → result ≢ Err (halt.WatermarkMissing value at)
  pub reads : IfErr result IsNotGone
  pub sink : result ≢ Err halt.Sink

-- A session that has read everything is left complete; an error leaves what the session guarantees.
pub record KeepsFinished {S K D T : Type 0} (source_model : SourceModel S) (sink_model : SinkModel K) (model : DiskModel D)
    (work new_work : SessionState) (src new_src : S) (sink : K) (store new_store : StoreOn D) (report new_report : Report)
    (result : Result T Halt) : Type 0 where
  pub next : (tell : Bool) (entry : SessionStart) → HasReadAllAt tell source_model sink_model model entry work src sink store
      → source_model.honest new_src → OnOk result (IsSettledWhole tell source_model sink_model model entry new_work new_src sink new_store)
  pub left : (tell : Bool) (entry : SessionStart) → InSession tell source_model sink_model model entry work src sink store
      → source_model.honest new_src → OnErr result (LeavesBy tell source_model sink_model model entry new_src sink new_store)
  pub own : (entry : SessionStart) → IfErr result (IsHonestHalt entry (source_model.stands new_src))
  pub most : (tell : Bool) (entry : SessionStart) → InSession tell source_model sink_model model entry work src sink store
      → AreClosed work report.chunks
      → OnErr result ((left : CrashState) → source_model.may_leave new_src left → AddsNoMore new_report.chunks entry.history left.history)
  pub content : (entry : SessionStart) → InSession true source_model sink_model model entry work src sink store → WasFaithful entry
      → IfErr result (IsFaithfulHalt entry new_store.offset new_report (source_model.stands new_src) (sink_model.holds sink))
  pub unclosed : (entry : SessionStart) (first : SourceState) (found : Option Trace) (b : Beginning)
      → InSession true source_model sink_model model entry work src sink store
      → IsUnderWay source_model (Some first) found b store.offset work report src → WasFaithful entry → source_model.honest new_src
      → (t : SourceState) → source_model.stands new_src t → OnErr result (HasClosedRead new_store.offset new_report t)

-- Finishing appends nothing.
pub record PutsFinished {S K D T : Type 0} (source_model : SourceModel S) (sink_model : SinkModel K) (work new_work : SessionState)
    (src new_src : S) (sink : K) (store new_store : StoreOn D) (report new_report : Report) (result : Result T Halt) : Type 0 where
  pub putting : (groups : List (List Record)) (at : Option SourceState) (found : Option Trace) (b : Beginning)
      → IsPutting source_model sink_model groups at found b store.offset work report src sink
      → OnOk result (IsPutting source_model sink_model groups at found b new_store.offset new_work new_report new_src sink)
  pub put : (groups : List (List Record)) (at : Option SourceState) (found : Option Trace) (b : Beginning)
      → IsPutting source_model sink_model groups at found b store.offset work report src sink
      → IfErr result (HasHaltedPut source_model sink_model groups at b.config b.now b.held new_store.offset new_report new_src sink)

-- No window is awaited; what is stored and reported; the rest of the session's state is unchanged.
pub record FinishesAll {S D T : Type 0} (source_model : SourceModel S) (model : DiskModel D) (work new_work : SessionState)
    (src new_src : S) (store new_store : StoreOn D) (report new_report : Report) (result : Result T Halt) : Type 0 where
  pub waited : OnOk result (work.follower.window ≡ windows.Absent)
  pub same : OnOk result (new_work ≡ record work { since = 0 })
  pub held : CacheMatchesDisk model store new_store result
  pub still : source_model.has_ended new_src ≡ source_model.has_ended src
  pub reading : source_model.is_reading new_src ≡ source_model.is_reading src
  pub quiet : OnOk result (IsQuiet (source_model.told new_src))
  pub reported : IsReportAt (is_ok result) store.offset new_store.offset work report new_report

-- Finishing reads no message; its error agrees with what the source reports.
pub record ReportsFinished {S D T : Type 0} (source_model : SourceModel S) (work new_work : SessionState) (src new_src : S)
    (store new_store : StoreOn D) (report new_report : Report) (result : Result T Halt) : Type 0 where
  pub all : (at : Option SourceState) (found : Option Trace) (b : Beginning)
      → IsUnderWay source_model at found b store.offset work report src
      → OnOk result (HasSettledAll source_model at found b new_store.offset new_work new_report new_src)
  pub halted : (at : Option SourceState) (found : Option Trace) (b : Beginning)
      → IsUnderWay source_model at found b store.offset work report src → LastAnswerIs (source_model.told src) (Read None)
      → IfErr result (Halts source_model at found b.config b.now b.held new_store.offset new_report new_src)
  pub grows : Leaves source_model.stands source_model.may_leave src new_src (λ s left. IsLonger s.history left.history)
  pub confirmed : (held : Option Offset) (s t : SourceState) → source_model.stands src s → source_model.stands new_src t
      → HasConfirmed held store.offset s → HasConfirmed held new_store.offset t

-- The errors that finishing never returns.
pub record StopsFinishing {T : Type 0} (work : SessionState) (result : Result T Halt) : Type 0 where
  pub unmissed : work.follower.window ≡ windows.Absent → (value : List ℕ) (at : Lsn) → result ≢ Err (halt.WatermarkMissing value at)
  pub reads : IfErr result IsNotGone
  pub sink : result ≢ Err halt.Sink
