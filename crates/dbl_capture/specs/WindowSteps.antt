-- What reading a window keeps of a session.
use Rattle.std.specs.Prelude.{◌≡◌, ◌≢◌, ◌+◌, ◌^◌, ◌<◌, ℕ, Option, Result, Err, Bool, List, IfErr, IsTrue, OnErr, OnOk}
use Rattle.dbl_base.specs.declared.lsn.Lsn.{Lsn}
use Rattle.dbl_disk.specs.Model.{DiskModel}
use Rattle.dbl_record.specs.declared.record.Record.{Record}
use Rattle.dbl_topic.specs.Model.{SinkModel}
use Rattle.dbl_source.specs.Model.{SourceModel}
use Rattle.dbl_source.specs.SourceModel.Standings.{CrashState, SourceState}
use Rattle.dbl_source.specs.SourceModel.Trace.{Trace}
use Rattle.dbl_offset.specs.Stores.{StoreOn}
use Rattle.dbl_capture_work.specs.CaptureModel.Entries.{SessionStart}
use Rattle.dbl_capture_work.specs.Follow.declared.window.Window.TheVariants as windows
use Rattle.dbl_capture_work.specs.Works.{HasReadyWork, IsArmedWork, IsOpenTable}
use Rattle.dbl_capture_work.specs.declared.halt.Halt.{Halt}
use Rattle.dbl_capture_work.specs.declared.halt.Halt.TheVariants as halt
use Rattle.dbl_capture_work.specs.declared.report.Report.{Report}
use Rattle.dbl_capture_work.specs.declared.work.SessionState.{SessionState}
use Rattle.dbl_capture_laws.specs.Awaited.{Awaits}
use Rattle.dbl_capture_laws.specs.Carried.{Beginning}
use Rattle.dbl_capture_laws.specs.Caused.{Halts, IsNotGone, IsQuiet}
use Rattle.dbl_capture_laws.specs.Ends.{IsArmedNext}
use Rattle.dbl_capture_laws.specs.Nevers.{IsHonestHalt}
use Rattle.dbl_capture_laws.specs.Owned.{IsContentFree}
use Rattle.dbl_capture_laws.specs.Sessions.{InSession, LeavesBy}
use Rattle.dbl_capture_laws.specs.Sinks.{IsPutting, HasHaltedPut}
use Rattle.dbl_capture_laws.specs.Sources.{IsUnderWay}
use Rattle.dbl_capture_laws.specs.Written.{AddsNoMore, AreClosed, IsLonger}
use Rattle.dbl_source.specs.SourceModel.Leaves.{Leaves}

-- The next window of this table can be read: no other one is awaited, and the table is unfinished.
pub record IsReadyToArm {S : Type 0} (source_model : SourceModel S) (table : ℕ) (work : SessionState) (src : S) : Type 0 where
  pub live : IsTrue (source_model.is_live src)
  pub ready : HasReadyWork work
  pub absent : work.follower.window ≡ windows.Absent
  pub is_open : IsOpenTable work table
  pub number : work.number + 1 < 2 ^ 64

-- Reading a window keeps the session's invariant; an error leaves what the session guarantees.
pub record KeepsWindowed {S K D T : Type 0} (source_model : SourceModel S) (sink_model : SinkModel K) (model : DiskModel D)
    (work new_work : SessionState) (src new_src : S) (sink : K) (store : StoreOn D) (result : Result T Halt) : Type 0 where
  pub next : (tell : Bool) (entry : SessionStart) → InSession tell source_model sink_model model entry work src sink store
      → source_model.honest new_src → OnOk result (InSession tell source_model sink_model model entry new_work new_src sink store)
  pub left : (tell : Bool) (entry : SessionStart) → InSession tell source_model sink_model model entry work src sink store
      → source_model.honest new_src → OnErr result (LeavesBy tell source_model sink_model model entry new_src sink store)
  pub own : (tell : Bool) (entry : SessionStart) → InSession tell source_model sink_model model entry work src sink store
      → source_model.honest new_src → IfErr result (IsHonestHalt entry (source_model.stands new_src))
  pub most : (tell : Bool) (entry : SessionStart) (chunks : ℕ) → InSession tell source_model sink_model model entry work src sink store
      → AreClosed work chunks
      → OnErr result ((left : CrashState) → source_model.may_leave new_src left → AddsNoMore chunks entry.history left.history)

-- Reading a window appends nothing.
pub record PutsNothing {S K D T : Type 0} (source_model : SourceModel S) (sink_model : SinkModel K) (work new_work : SessionState)
    (src new_src : S) (sink : K) (store : StoreOn D) (result : Result T Halt) : Type 0 where
  pub putting : (groups : List (List Record)) (at : Option SourceState) (found : Option Trace) (b : Beginning) (report : Report)
      → IsPutting source_model sink_model groups at found b store.offset work report src sink
      → OnOk result (IsPutting source_model sink_model groups at found b store.offset new_work report new_src sink)
  pub put : (groups : List (List Record)) (at : Option SourceState) (found : Option Trace) (b : Beginning) (report : Report)
      → IsPutting source_model sink_model groups at found b store.offset work report src sink
      → IfErr result (HasHaltedPut source_model sink_model groups at b.config b.now b.held store.offset report new_src sink)

-- The session waits for the window that was read, and reading goes on as before.
pub record ArmsWindow {S T : Type 0} (source_model : SourceModel S) (table : ℕ) (work new_work : SessionState) (src new_src : S)
    (result : Result T Halt) : Type 0 where
  pub same : OnOk result (IsArmedWork table work new_work)
  pub reading : source_model.is_reading new_src ≡ source_model.is_reading src
  pub quiet : OnOk result (IsQuiet (source_model.told new_src))

-- Reading a window reads no message; its error agrees with what the source reports.
pub record ReportsWindow {S D T : Type 0} (source_model : SourceModel S) (work new_work : SessionState) (src new_src : S)
    (store : StoreOn D) (result : Result T Halt) : Type 0 where
  pub under_way : (at : Option SourceState) (found : Option Trace) (b : Beginning) (report : Report)
      → IsUnderWay source_model at found b store.offset work report src
      → OnOk result (IsUnderWay source_model at found b store.offset new_work report new_src)
  pub halted : (at : Option SourceState) (found : Option Trace) (b : Beginning) (report : Report)
      → IsUnderWay source_model at found b store.offset work report src
      → IfErr result (Halts source_model at found b.config b.now b.held store.offset report new_src)
  pub awaits : Awaits source_model.stands work src → OnOk result (Awaits source_model.stands new_work new_src)
  pub still : (s t : SourceState) → source_model.stands src s → source_model.stands new_src t → t.reading ≡ s.reading
  pub grows : Leaves source_model.stands source_model.may_leave src new_src (λ s left. IsLonger s.history left.history)
  pub confirmed : (s t : SourceState) → source_model.stands src s → source_model.stands new_src t → t.confirmed ≡ s.confirmed

-- The errors that reading a window never returns.
pub record StopsAtSource {T : Type 0} (result : Result T Halt) : Type 0 where
  pub others : (result ≢ Err halt.Sink) × (result ≢ Err halt.Offsets)
  pub never : (value : List ℕ) (at : Lsn) → result ≢ Err (halt.WatermarkMissing value at)
  pub reads : IfErr result IsNotGone
  pub free : IfErr result IsContentFree

-- A next window can be read.
pub record IsReadyToOpen {S : Type 0} (source_model : SourceModel S) (work : SessionState) (src : S) : Type 0 where
  pub live : IsTrue (source_model.is_live src)
  pub ready : HasReadyWork work
  pub number : work.number + 1 < 2 ^ 64

-- The session waits for a window if a table is unfinished, and reading goes on as before.
pub record ArmsNext {S T : Type 0} (source_model : SourceModel S) (work new_work : SessionState) (src new_src : S) (result : Result T Halt)
    : Type 0 where
  pub waits : OnOk result (IsArmedNext work new_work)
  pub reading : source_model.is_reading new_src ≡ source_model.is_reading src
  pub quiet : IsQuiet (source_model.told src) → OnOk result (IsQuiet (source_model.told new_src))
