-- What processing messages keeps of a session.
use Rattle.std.specs.Prelude.{◌≡◌, ◌≢◌, ◌+◌, ◌^◌, ◌≤◌, ◌<◌, ℕ, Option, Some, Result, Ok, Err, Bool, true, false, List, IfErr, IfOk, IsTrue}
use Rattle.std.specs.Prelude.{MatchBool, OnErr, OnOk}
use Rattle.dbl_base.specs.declared.lsn.Lsn.{Lsn}
use Rattle.dbl_disk.specs.Model.{DiskModel}
use Rattle.dbl_record.specs.declared.record.Record.{Record}
use Rattle.dbl_topic.specs.Model.{SinkModel}
use Rattle.dbl_model_table.specs.Configs.{budget_limit}
use Rattle.dbl_model_history.specs.Ranges.{IsMomentInRange}
use Rattle.dbl_source.specs.Model.{SourceModel}
use Rattle.dbl_source.specs.SourceModel.Standings.{CrashState, SourceState}
use Rattle.dbl_source.specs.SourceModel.Trace.{Trace}
use Rattle.dbl_offset.specs.Stores.{IsLive, StoreOn}
use Rattle.dbl_offset_content.specs.declared.offset.Offset.{Offset}
use Rattle.dbl_capture_work.specs.CaptureModel.Entries.{SessionStart, WasFaithful}
use Rattle.dbl_capture_work.specs.Follow.declared.window.Window.TheVariants as windows
use Rattle.dbl_capture_work.specs.Works.{HasReadyWork, next_offset_of}
use Rattle.dbl_capture_work.specs.declared.halt.Halt.{Halt}
use Rattle.dbl_capture_work.specs.declared.halt.Halt.TheVariants as halt
use Rattle.dbl_capture_work.specs.declared.report.Ending.{Ending}
use Rattle.dbl_capture_work.specs.declared.report.Ending.TheVariants as endings
use Rattle.dbl_capture_work.specs.declared.report.Report.{Report}
use Rattle.dbl_capture_work.specs.declared.work.SessionState.{SessionState}
use Rattle.dbl_capture_laws.specs.Awaited.{Awaits}
use Rattle.dbl_capture_laws.specs.Carried.{Beginning}
use Rattle.dbl_capture_laws.specs.Caused.{Halts, IsNotGone, IsQuiet}
use Rattle.dbl_capture_laws.specs.Closed.{HasClosedRead}
use Rattle.dbl_capture_laws.specs.Ends.{AreAllDone, IsAtPosition, CacheMatchesDisk, HasNoneNext, HasOwnStored}
use Rattle.dbl_capture_laws.specs.Gained.{read_limit}
use Rattle.dbl_capture_laws.specs.Nevers.{IsFaithfulHalt, IsHonestHalt}
use Rattle.dbl_capture_laws.specs.Sessions.{InSession, LeavesBy}
use Rattle.dbl_capture_laws.specs.Sinks.{IsPutting, HasHaltedPut}
use Rattle.dbl_capture_laws.specs.Sources.{IsUnderWay, HasSettledAll}
use Rattle.dbl_capture_laws.specs.Turns.{IsSettledWhole}
use Rattle.dbl_capture_laws.specs.Written.{AddsNoMore, AdvancesAtMost}
use Rattle.dbl_capture_laws.specs.Found.{HasConfirmed}

-- A message can be processed.
pub record IsReadyToProcess {S K D : Type 0} (source_model : SourceModel S) (sink_model : SinkModel K) (work : SessionState) (src : S)
    (sink : K) (store : StoreOn D) (report : Report) : Type 0 where
  pub source_live : IsTrue (source_model.is_live src)
  pub reading : IsTrue (source_model.is_reading src)
  pub sink_live : IsTrue (sink_model.is_live sink)
  pub store_live : IsLive store
  pub ready : HasReadyWork work
  pub since : work.since < work.every
  pub time : IsMomentInRange work.now_ms
  pub number : work.number + 1 < 2 ^ 64
  pub messages : report.messages < read_limit
  pub commits : report.commits ≤ report.messages

-- Processing a message keeps the session's invariant, and the last one leaves the session complete; an error leaves what the session
-- guarantees.
pub record KeepsProcessed {S K D : Type 0} (source_model : SourceModel S) (sink_model : SinkModel K) (model : DiskModel D)
    (work new_work : SessionState) (src new_src : S) (sink new_sink : K) (store new_store : StoreOn D) (report new_report : Report)
    (result : Result Bool Halt) : Type 0 where
  pub next : (tell : Bool) (entry : SessionStart) → InSession tell source_model sink_model model entry work src sink store
      → source_model.honest new_src → OnOk result (InSession tell source_model sink_model model entry new_work new_src new_sink new_store)
  pub left : (tell : Bool) (entry : SessionStart) → InSession tell source_model sink_model model entry work src sink store
      → source_model.honest new_src → OnErr result (LeavesBy tell source_model sink_model model entry new_src new_sink new_store)
  pub complete : (tell : Bool) (entry : SessionStart) → InSession tell source_model sink_model model entry work src sink store
      → source_model.honest new_src → result ≡ Ok true
      → IsSettledWhole tell source_model sink_model model entry new_work new_src new_sink new_store
  pub own : (tell : Bool) (entry : SessionStart) (at : Option SourceState) (found : Option Trace) (b : Beginning)
      → InSession tell source_model sink_model model entry work src sink store
      → IsUnderWay source_model at found b store.offset work report src → (s : SourceState) → at ≡ Some s → source_model.honest new_src
      → IfErr result (IsHonestHalt entry (source_model.stands new_src))
  pub most : (tell : Bool) (entry : SessionStart) (at : Option SourceState) (found : Option Trace) (b : Beginning)
      → InSession tell source_model sink_model model entry work src sink store
      → IsUnderWay source_model at found b store.offset work report src → source_model.honest new_src
      → OnErr result ((left : CrashState) → source_model.may_leave new_src left → AddsNoMore new_report.chunks entry.history left.history)
  pub content : (entry : SessionStart) (at : Option SourceState) (found : Option Trace) (b : Beginning)
      → InSession true source_model sink_model model entry work src sink store
      → IsUnderWay source_model at found b store.offset work report src → WasFaithful entry → source_model.honest new_src
      → IfErr result (IsFaithfulHalt entry new_store.offset new_report (source_model.stands new_src) (sink_model.holds new_sink))
  pub unclosed : (entry : SessionStart) (first : SourceState) (found : Option Trace) (b : Beginning)
      → InSession true source_model sink_model model entry work src sink store
      → IsUnderWay source_model (Some first) found b store.offset work report src → WasFaithful entry → source_model.honest new_src
      → (t : SourceState) → source_model.stands new_src t → OnErr result (HasClosedRead new_store.offset new_report t)
  pub advances : (tell : Bool) (entry : SessionStart) (at : Option SourceState) (found : Option Trace) (b : Beginning)
      → InSession tell source_model sink_model model entry work src sink store
      → IsUnderWay source_model at found b store.offset work report src → source_model.honest new_src
      → OnErr result ((left : CrashState) → source_model.may_leave new_src left
      → AdvancesAtMost entry.config.chunk new_report.chunks left.history entry.offset new_store.offset)

-- The sink has gained the records of the commits that were read, and after an error those that the report counts.
pub record PutsProcessed {S K D T : Type 0} (source_model : SourceModel S) (sink_model : SinkModel K) (work new_work : SessionState)
    (src new_src : S) (sink new_sink : K) (store new_store : StoreOn D) (report new_report : Report) (result : Result T Halt) : Type 0 where
  pub putting : (groups : List (List Record)) (at : Option SourceState) (found : Option Trace) (b : Beginning)
      → IsPutting source_model sink_model groups at found b store.offset work report src sink
      → OnOk result (IsPutting source_model sink_model groups at found b new_store.offset new_work new_report new_src new_sink)
  pub put : (groups : List (List Record)) (at : Option SourceState) (found : Option Trace) (b : Beginning)
      → IsPutting source_model sink_model groups at found b store.offset work report src sink
      → IfErr result (HasHaltedPut source_model sink_model groups at b.config b.now b.held new_store.offset new_report new_src new_sink)

-- What processing a message changes in the session's state and in the report, and what is stored.
pub record ProcessesMessage {S D : Type 0} (source_model : SourceModel S) (model : DiskModel D) (work new_work : SessionState)
    (src new_src : S) (store new_store : StoreOn D) (report new_report : Report) (result : Result Bool Halt) : Type 0 where
  pub done : result ≡ Ok true → AreAllDone new_work.follower.cursors
  pub none : result ≡ Ok true → HasNoneNext new_work × (new_work.follower.window ≡ windows.Absent)
  pub ended : result ≡ Ok true → IsTrue (source_model.has_ended new_src)
  pub loads : result ≡ Ok true → new_store.offset ≡ Some (next_offset_of new_work)
  pub ready : OnOk result (HasReadyWork new_work)
  pub since : OnOk result (new_work.since < new_work.every)
  pub number : OnOk result (new_work.number ≤ work.number + 1)
  pub time : OnOk result (new_work.now_ms ≡ work.now_ms)
  pub offset_is : OnOk result (new_work.offset ≡ record work.offset { lsn = new_work.offset.lsn; end_lsn = new_work.offset.end_lsn })
  pub stored : (first : Offset) → work.offset ≡ record first { lsn = work.offset.lsn; end_lsn = work.offset.end_lsn }
      → HasOwnStored first store.offset → HasOwnStored first new_store.offset
  pub position : IsAtPosition store.offset report → IsAtPosition new_store.offset new_report
  pub held : CacheMatchesDisk model store new_store result
  pub counts : IfOk result (λ ended. MatchBool ended (new_report.messages ≡ report.messages) (new_report.messages ≡ report.messages + 1))
  pub messages : new_report.messages ≤ report.messages + 1
  pub commits : new_report.commits ≤ new_report.messages
  pub reading : source_model.is_reading new_src ≡ source_model.is_reading src
  pub quiet : OnOk result (IsQuiet (source_model.told new_src))
  pub missed : (value : List ℕ) (at : Lsn) → result ≡ Err (halt.WatermarkMissing value at) → IsTrue (source_model.has_ended new_src)
  pub reads : IfErr result IsNotGone

-- The messages that were read are in the source's trace and state; an error agrees with them, and no watermark of the session is missing.
pub record ReportsProcessed {S D : Type 0} (source_model : SourceModel S) (work new_work : SessionState) (src new_src : S)
    (store new_store : StoreOn D) (report new_report : Report) (result : Result Bool Halt) : Type 0 where
  pub under_way : (at : Option SourceState) (found : Option Trace) (b : Beginning)
      → IsUnderWay source_model at found b store.offset work report src
      → OnOk result (IsUnderWay source_model at found b new_store.offset new_work new_report new_src)
  pub all : (at : Option SourceState) (found : Option Trace) (b : Beginning)
      → IsUnderWay source_model at found b store.offset work report src → result ≡ Ok true
      → HasSettledAll source_model at found b new_store.offset new_work new_report new_src
  pub halted : (at : Option SourceState) (found : Option Trace) (b : Beginning)
      → IsUnderWay source_model at found b store.offset work report src
      → IfErr result (Halts source_model at found b.config b.now b.held new_store.offset new_report new_src)
  pub awaits : (at : Option SourceState) (found : Option Trace) (b : Beginning)
      → IsUnderWay source_model at found b store.offset work report src → (s : SourceState) → at ≡ Some s → source_model.honest new_src
      → Awaits source_model.stands work src → IfOk result (λ ended. ended ≡ false → Awaits source_model.stands new_work new_src)
  pub unmissed : (at : Option SourceState) (found : Option Trace) (b : Beginning)
      → IsUnderWay source_model at found b store.offset work report src → (s : SourceState) → at ≡ Some s → source_model.honest new_src
      → Awaits source_model.stands work src → (value : List ℕ) (position : Lsn) → result ≢ Err (halt.WatermarkMissing value position)
  pub confirmed : (first : SourceState) (found : Option Trace) (b : Beginning)
      → IsUnderWay source_model (Some first) found b store.offset work report src
      → ((s : SourceState) → source_model.stands src s → HasConfirmed b.held store.offset s)
      → (t : SourceState) → source_model.stands new_src t → HasConfirmed b.held new_store.offset t

-- Messages up to the budget can be processed.
pub record IsReadyToRun {S K D : Type 0} (source_model : SourceModel S) (sink_model : SinkModel K) (budget : ℕ) (work : SessionState)
    (src : S) (sink : K) (store : StoreOn D) (report : Report) : Type 0 where
  pub source_live : IsTrue (source_model.is_live src)
  pub reading : IsTrue (source_model.is_reading src)
  pub sink_live : IsTrue (sink_model.is_live sink)
  pub store_live : IsLive store
  pub ready : HasReadyWork work
  pub since : work.since < work.every
  pub time : IsMomentInRange work.now_ms
  pub number : work.number ≡ 0
  pub nothing : (report.messages ≡ 0) × (report.commits ≡ 0)
  pub some : 1 ≤ budget
  pub within : budget ≤ budget_limit

-- Processing messages keeps the session's invariant, and a complete session is left complete; an error leaves what the session guarantees.
pub record KeepsRun {S K D : Type 0} (source_model : SourceModel S) (sink_model : SinkModel K) (model : DiskModel D)
    (work new_work : SessionState) (src new_src : S) (sink new_sink : K) (store new_store : StoreOn D) (report new_report : Report)
    (result : Result Ending Halt) : Type 0 where
  pub next : (tell : Bool) (entry : SessionStart) → InSession tell source_model sink_model model entry work src sink store
      → source_model.honest new_src → OnOk result (InSession tell source_model sink_model model entry new_work new_src new_sink new_store)
  pub left : (tell : Bool) (entry : SessionStart) → InSession tell source_model sink_model model entry work src sink store
      → source_model.honest new_src → OnErr result (LeavesBy tell source_model sink_model model entry new_src new_sink new_store)
  pub complete : (tell : Bool) (entry : SessionStart) → InSession tell source_model sink_model model entry work src sink store
      → source_model.honest new_src → result ≡ Ok endings.Complete
      → IsSettledWhole tell source_model sink_model model entry new_work new_src new_sink new_store
  pub own : (tell : Bool) (entry : SessionStart) (at : Option SourceState) (found : Option Trace) (b : Beginning)
      → InSession tell source_model sink_model model entry work src sink store
      → IsUnderWay source_model at found b store.offset work report src → (s : SourceState) → at ≡ Some s → source_model.honest new_src
      → IfErr result (IsHonestHalt entry (source_model.stands new_src))
  pub most : (tell : Bool) (entry : SessionStart) (at : Option SourceState) (found : Option Trace) (b : Beginning)
      → InSession tell source_model sink_model model entry work src sink store
      → IsUnderWay source_model at found b store.offset work report src → source_model.honest new_src
      → OnErr result ((left : CrashState) → source_model.may_leave new_src left → AddsNoMore new_report.chunks entry.history left.history)
  pub content : (entry : SessionStart) (at : Option SourceState) (found : Option Trace) (b : Beginning)
      → InSession true source_model sink_model model entry work src sink store
      → IsUnderWay source_model at found b store.offset work report src → WasFaithful entry → source_model.honest new_src
      → IfErr result (IsFaithfulHalt entry new_store.offset new_report (source_model.stands new_src) (sink_model.holds new_sink))
  pub unclosed : (entry : SessionStart) (first : SourceState) (found : Option Trace) (b : Beginning)
      → InSession true source_model sink_model model entry work src sink store
      → IsUnderWay source_model (Some first) found b store.offset work report src → WasFaithful entry → source_model.honest new_src
      → (t : SourceState) → source_model.stands new_src t → OnErr result (HasClosedRead new_store.offset new_report t)
  pub advances : (tell : Bool) (entry : SessionStart) (at : Option SourceState) (found : Option Trace) (b : Beginning)
      → InSession tell source_model sink_model model entry work src sink store
      → IsUnderWay source_model at found b store.offset work report src → source_model.honest new_src
      → OnErr result ((left : CrashState) → source_model.may_leave new_src left
      → AdvancesAtMost entry.config.chunk new_report.chunks left.history entry.offset new_store.offset)

-- When the session ends normally, what is stored, and what the report counts.
pub record RunsMessages {S D : Type 0} (source_model : SourceModel S) (model : DiskModel D) (budget : ℕ) (work new_work : SessionState)
    (new_src : S) (store new_store : StoreOn D) (report new_report : Report) (result : Result Ending Halt) : Type 0 where
  pub done : result ≡ Ok endings.Complete
      → AreAllDone new_work.follower.cursors × (new_store.offset ≡ Some (next_offset_of new_work)) × (new_report.messages < budget)
  pub ended : result ≡ Ok endings.Complete → IsTrue (source_model.has_ended new_src)
  pub none : OnOk result (HasNoneNext new_work)
  pub waited : result ≡ Ok endings.Complete → new_work.follower.window ≡ windows.Absent
  pub spent : result ≡ Ok endings.Budget → new_report.messages ≡ budget
  pub stored : HasOwnStored work.offset store.offset → HasOwnStored work.offset new_store.offset
  pub position : IsAtPosition store.offset report → IsAtPosition new_store.offset new_report
  pub held : CacheMatchesDisk model store new_store result
  pub bounded : new_report.messages ≤ budget
  pub commits : new_report.commits ≤ new_report.messages
  pub quiet : OnOk result (IsQuiet (source_model.told new_src))
  pub missed : (value : List ℕ) (at : Lsn) → result ≡ Err (halt.WatermarkMissing value at) → IsTrue (source_model.has_ended new_src)
  pub reads : IfErr result IsNotGone

-- The messages that were read are in the source's trace and state; an error agrees with them, and no watermark of the session is missing.
pub record ReportsRun {S D T : Type 0} (source_model : SourceModel S) (work new_work : SessionState) (src new_src : S)
    (store new_store : StoreOn D) (report new_report : Report) (result : Result T Halt) : Type 0 where
  pub all : (at : Option SourceState) (found : Option Trace) (b : Beginning)
      → IsUnderWay source_model at found b store.offset work report src
      → OnOk result (HasSettledAll source_model at found b new_store.offset new_work new_report new_src)
  pub halted : (at : Option SourceState) (found : Option Trace) (b : Beginning)
      → IsUnderWay source_model at found b store.offset work report src
      → IfErr result (Halts source_model at found b.config b.now b.held new_store.offset new_report new_src)
  pub unmissed : (at : Option SourceState) (found : Option Trace) (b : Beginning)
      → IsUnderWay source_model at found b store.offset work report src → (s : SourceState) → at ≡ Some s → source_model.honest new_src
      → Awaits source_model.stands work src → (value : List ℕ) (position : Lsn) → result ≢ Err (halt.WatermarkMissing value position)
  pub confirmed : (first : SourceState) (found : Option Trace) (b : Beginning)
      → IsUnderWay source_model (Some first) found b store.offset work report src
      → ((s : SourceState) → source_model.stands src s → HasConfirmed b.held store.offset s)
      → (t : SourceState) → source_model.stands new_src t → HasConfirmed b.held new_store.offset t
