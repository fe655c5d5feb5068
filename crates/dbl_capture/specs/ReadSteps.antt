-- What reading a message keeps of a session.
use Rattle.std.specs.Prelude.{◌≡◌, ◌≢◌, ◌^◌, ◌≤◌, ◌<◌, ℕ, Option, Some, None, Result, Ok, Err, Bool, true, List, IfErr, IfOk, IsTrue, OnErr}
use Rattle.std.specs.Prelude.{OnOk}
use Rattle.dbl_base.specs.declared.lsn.Lsn.{Lsn}
use Rattle.dbl_disk.specs.Model.{DiskModel}
use Rattle.dbl_record.specs.declared.record.Record.{Record}
use Rattle.dbl_topic.specs.Model.{SinkModel}
use Rattle.dbl_model_history.specs.Ranges.{IsMomentInRange}
use Rattle.dbl_source.specs.Model.{SourceModel}
use Rattle.dbl_source.specs.SourceModel.Standings.{CrashState, SourceState}
use Rattle.dbl_source.specs.SourceModel.Trace.{LastAnswerIs, Trace, Read}
use Rattle.dbl_offset.specs.Stores.{StoreOn}
use Rattle.dbl_capture_work.specs.CaptureModel.Entries.{SessionStart, WasFaithful}
use Rattle.dbl_capture_work.specs.Follow.declared.window.Window.TheVariants as windows
use Rattle.dbl_capture_work.specs.Works.{HasReadyWork}
use Rattle.dbl_capture_work.specs.declared.halt.Halt.{Halt}
use Rattle.dbl_capture_work.specs.declared.halt.Halt.TheVariants as halt
use Rattle.dbl_capture_work.specs.declared.report.Report.{Report}
use Rattle.dbl_capture_work.specs.declared.work.SessionState.{SessionState}
use Rattle.dbl_capture_laws.specs.Awaited.{Awaits}
use Rattle.dbl_capture_laws.specs.Carried.{Beginning}
use Rattle.dbl_capture_laws.specs.Caused.{Halts, IsNotGone, IsQuiet}
use Rattle.dbl_capture_laws.specs.Closed.{HasClosedRead}
use Rattle.dbl_capture_laws.specs.Gained.{read_limit}
use Rattle.dbl_capture_laws.specs.Nevers.{IsFaithfulHalt, IsHonestHalt}
use Rattle.dbl_capture_laws.specs.Putting.{PutsOn}
use Rattle.dbl_capture_laws.specs.Sessions.{InSession, LeavesBy}
use Rattle.dbl_capture_laws.specs.Sinks.{IsPutting, HasHaltedPut}
use Rattle.dbl_capture_laws.specs.Sources.{IsUnderWay, GoesOn}
use Rattle.dbl_capture_laws.specs.Turns.{HasReadAllAt, IsCountedNext, IsDue, IsNextOf}
use Rattle.dbl_capture_laws.specs.Written.{AddsNoMore, AreClosed, IsLonger}
use Rattle.dbl_source.specs.SourceModel.Leaves.{Leaves}

-- A message can be read, followed and counted.
pub record IsReadyToRead {S K : Type 0} (source_model : SourceModel S) (sink_model : SinkModel K) (work : SessionState) (src : S) (sink : K)
    (report : Report) : Type 0 where
  pub source_live : IsTrue (source_model.is_live src)
  pub reading : IsTrue (source_model.is_reading src)
  pub sink_live : IsTrue (sink_model.is_live sink)
  pub ready : HasReadyWork work
  pub since : work.since < work.every
  pub number : work.number < 2 ^ 64
  pub time : IsMomentInRange work.now_ms
  pub messages : report.messages < read_limit
  pub commits : report.commits ≤ report.messages

-- Reading a message keeps the session's invariant; an error leaves what the session guarantees.
pub record KeepsRead {S K D : Type 0} (source_model : SourceModel S) (sink_model : SinkModel K) (model : DiskModel D)
    (work new_work : SessionState) (src new_src : S) (sink new_sink : K) (store : StoreOn D) (report new_report : Report)
    (result : Result (Option Bool) Halt) : Type 0 where
  pub next : (tell : Bool) (entry : SessionStart) → InSession tell source_model sink_model model entry work src sink store
      → source_model.honest new_src → OnOk result (InSession tell source_model sink_model model entry new_work new_src new_sink store)
  pub left : (tell : Bool) (entry : SessionStart) → InSession tell source_model sink_model model entry work src sink store
      → source_model.honest new_src → OnErr result (LeavesBy tell source_model sink_model model entry new_src new_sink store)
  pub whole : (tell : Bool) (entry : SessionStart) → InSession tell source_model sink_model model entry work src sink store
      → source_model.honest new_src → result ≡ Ok None
      → HasReadAllAt tell source_model sink_model model entry new_work new_src new_sink store
  pub own : (tell : Bool) (entry : SessionStart) (at : Option SourceState) (found : Option Trace) (b : Beginning)
      → InSession tell source_model sink_model model entry work src sink store
      → IsUnderWay source_model at found b store.offset work report src → (s : SourceState) → at ≡ Some s → source_model.honest new_src
      → IfErr result (IsHonestHalt entry (source_model.stands new_src))
  pub most : (tell : Bool) (entry : SessionStart) → InSession tell source_model sink_model model entry work src sink store
      → AreClosed work report.chunks
      → OnErr result ((left : CrashState) → source_model.may_leave new_src left → AddsNoMore new_report.chunks entry.history left.history)
  pub content : (entry : SessionStart) (at : Option SourceState) (found : Option Trace) (b : Beginning)
      → InSession true source_model sink_model model entry work src sink store
      → IsUnderWay source_model at found b store.offset work report src → WasFaithful entry → source_model.honest new_src
      → IfErr result (IsFaithfulHalt entry store.offset new_report (source_model.stands new_src) (sink_model.holds new_sink))
  pub unclosed : (entry : SessionStart) (first : SourceState) (found : Option Trace) (b : Beginning)
      → InSession true source_model sink_model model entry work src sink store
      → IsUnderWay source_model (Some first) found b store.offset work report src → WasFaithful entry → source_model.honest new_src
      → (t : SourceState) → source_model.stands new_src t → OnErr result (HasClosedRead store.offset new_report t)

-- The sink gains the records of the commit that the message ends, and before an error those that the report counts.
pub record PutsRead {S K D : Type 0} (source_model : SourceModel S) (sink_model : SinkModel K) (work new_work : SessionState)
    (src new_src : S) (sink new_sink : K) (store : StoreOn D) (report new_report : Report) (result : Result (Option Bool) Halt)
    : Type 0 where
  pub putting : (groups : List (List Record)) (at : Option SourceState) (found : Option Trace) (b : Beginning)
      → IsPutting source_model sink_model groups at found b store.offset work report src sink
      → IfOk result (PutsOn source_model sink_model groups at found b store.offset new_work new_report new_src new_sink)
  pub put : (groups : List (List Record)) (at : Option SourceState) (found : Option Trace) (b : Beginning)
      → IsPutting source_model sink_model groups at found b store.offset work report src sink
      → IfErr result (HasHaltedPut source_model sink_model groups at b.config b.now b.held store.offset new_report new_src new_sink)

-- What reading a message changes in the session's state and in the report.
pub record ReadsMessage {S : Type 0} (source_model : SourceModel S) (work new_work : SessionState) (src new_src : S)
    (report new_report : Report) (result : Result (Option Bool) Halt) : Type 0 where
  pub ready : OnOk result (HasReadyWork new_work)
  pub is_next : OnOk result (IsNextOf work new_work)
  pub due : IfOk result (IsDue work new_work)
  pub counts : IsCountedNext result report new_report
  pub ended : result ≡ Ok None → IsTrue (source_model.has_ended new_src)
  pub nothing : result ≡ Ok None → LastAnswerIs (source_model.told new_src) (Read None)
  pub reading : source_model.is_reading new_src ≡ source_model.is_reading src
  pub quiet : OnOk result (IsQuiet (source_model.told new_src))
  pub windows : AreClosed work report.chunks → report.chunks ≤ new_report.chunks

-- The message is the next one of the source's trace and state; an error agrees with them.
pub record ReportsRead {S D : Type 0} (source_model : SourceModel S) (work new_work : SessionState) (src new_src : S) (store : StoreOn D)
    (report new_report : Report) (result : Result (Option Bool) Halt) : Type 0 where
  pub under_way : (at : Option SourceState) (found : Option Trace) (b : Beginning)
      → IsUnderWay source_model at found b store.offset work report src
      → IfOk result (GoesOn source_model at found b store.offset new_work new_report new_src)
  pub halted : (at : Option SourceState) (found : Option Trace) (b : Beginning)
      → IsUnderWay source_model at found b store.offset work report src
      → IfErr result (Halts source_model at found b.config b.now b.held store.offset new_report new_src)
  pub awaits : (at : Option SourceState) (found : Option Trace) (b : Beginning)
      → IsUnderWay source_model at found b store.offset work report src → (s : SourceState) → at ≡ Some s → source_model.honest new_src
      → Awaits source_model.stands work src → OnOk result (Awaits source_model.stands new_work new_src)
  pub waits : (at : Option SourceState) (found : Option Trace) (b : Beginning)
      → IsUnderWay source_model at found b store.offset work report src → (s : SourceState) → at ≡ Some s → source_model.honest new_src
      → Awaits source_model.stands work src → result ≡ Ok None → new_work.follower.window ≡ windows.Absent
  pub grows : Leaves source_model.stands source_model.may_leave src new_src (λ s left. IsLonger s.history left.history)
  pub confirmed : (s t : SourceState) → source_model.stands src s → source_model.stands new_src t → t.confirmed ≡ s.confirmed

-- The errors that reading a message never returns.
pub record StopsAtRead {T : Type 0} (result : Result T Halt) : Type 0 where
  pub offsets : result ≢ Err halt.Offsets
  pub never : (value : List ℕ) (at : Lsn) → result ≢ Err (halt.WatermarkMissing value at)
  pub reads : IfErr result IsNotGone
