-- What opening a session keeps, and with what it begins.
use Rattle.std.specs.Prelude.{◌≡◌, ◌≢◌, ◌⊎◌, ℕ, ℤ, Option, Some, None, Result, Err, Bool, true, List, [], length}
use Rattle.std.specs.Prelude.{IfErr, IfOk, IsTrue, OnErr, OnOk}
use Rattle.dbl_base.specs.declared.lsn.Lsn.{Lsn}
use Rattle.dbl_disk.specs.Model.{DiskModel}
use Rattle.dbl_record.specs.declared.record.Record.{Record}
use Rattle.dbl_topic.specs.Model.{SinkModel}
use Rattle.dbl_model_table.specs.Configs.{IsGoodConfig}
use Rattle.dbl_model_table.specs.declared.config.Config.{Config}
use Rattle.dbl_source.specs.Model.{SourceModel}
use Rattle.dbl_source.specs.SourceModel.Calls.{Moved}
use Rattle.dbl_source.specs.SourceModel.Growth.{marks_in}
use Rattle.dbl_source.specs.SourceModel.Leaves.{Leaves}
use Rattle.dbl_source.specs.SourceModel.Standings.{MovesTo, CrashState, SourceState, HasState}
use Rattle.dbl_source.specs.SourceModel.Trace.{Head, IsTakenBy, LastAnswerIs}
use Rattle.dbl_offset.specs.Offsets.{IsOffset}
use Rattle.dbl_offset.specs.Stores.{IsLive, StoreOn}
use Rattle.dbl_offset_content.specs.declared.offset.Offset.{Offset}
use Rattle.dbl_capture_work.specs.Begins.{IsAbsentAfter, IsExhausted, IsOffsetFor, MayRest}
use Rattle.dbl_capture_work.specs.CaptureModel.Entries.{SessionStart, HadOwnTables, IsKeptAfter, WasFaithful}
use Rattle.dbl_capture_work.specs.Works.{BeginsWithOffset}
use Rattle.dbl_capture_work.specs.declared.halt.Halt.{Halt}
use Rattle.dbl_capture_work.specs.declared.halt.Halt.TheVariants as halt
use Rattle.dbl_capture_work.specs.declared.report.Report.{Report}
use Rattle.dbl_capture_work.specs.declared.work.SessionState.{SessionState}
use Rattle.dbl_capture_laws.specs.Awaited.{Awaits, HasPositionInLog, IsWithinLog}
use Rattle.dbl_capture_laws.specs.Captured.{CapturedOrHalts, CapturesOrHalts, FindsTables, PassesState}
use Rattle.dbl_capture_laws.specs.Caused.{AsksUnread, Halts, IsNotGone}
use Rattle.dbl_capture_laws.specs.Ends.{IsAtPosition, CacheMatchesDisk}
use Rattle.dbl_capture_laws.specs.Found.{BeganAt, BeginsAt, HasStored, IsFirstAtHead, IsFirstIn, IsFirstStored, IsFound, position_of}
use Rattle.dbl_capture_laws.specs.HasState.{IsGoneBelow, IsNotOffsetTooLong, IsShortOr}
use Rattle.dbl_capture_laws.specs.Musts.{CapturesAll}
use Rattle.dbl_capture_laws.specs.Nevers.{IsFaithfulHalt, IsHonestHalt}
use Rattle.dbl_capture_laws.specs.Owned.{IsContentFree, IsFirstByCatalogue, IsLongBy}
use Rattle.dbl_capture_laws.specs.Sessions.{InSession, LeavesBy}
use Rattle.dbl_capture_laws.specs.Sinks.{IsPutting}
use Rattle.dbl_capture_laws.specs.Sources.{IsUnderWay}
use Rattle.dbl_capture_laws.specs.Underway.{IsBeginHalt}
use Rattle.dbl_capture.specs.Begun.{beginning_at}

-- A session can begin.
pub record IsReadyToBegin {S D : Type 0} (source_model : SourceModel S) (config : Config) (src : S) (store : StoreOn D) : Type 0 where
  pub source_live : IsTrue (source_model.is_live src)
  pub store_live : IsLive store
  pub good : IsGoodConfig config

-- The offset to store first.
pub record FindsOffset {S D : Type 0} (source_model : SourceModel S) (config : Config) (src new_src : S) (store : StoreOn D)
    (result : Result Offset Halt) : Type 0 where
  pub begins : (entry : SessionStart) → entry.config ≡ config → entry.offset ≡ store.offset → HadOwnTables entry → (s : SourceState)
      → source_model.stands src s → s.history ≡ entry.history → source_model.honest new_src
      → IfOk result (λ offset. HasState source_model.stands new_src (BeginsAt entry offset s))
  pub offset : IfOk result IsOffset
  pub of : IfOk result (IsOffsetFor config store.offset)
  pub headed : store.offset ≡ None → OnOk result ((lsn : Lsn) × LastAnswerIs (source_model.told new_src) (Head lsn))

-- What the offset and an error say of the source's state: over any source an error about a table, and over a conforming one the tables.
pub record FindsByState {S D : Type 0} (source_model : SourceModel S) (config : Config) (src new_src : S) (store : StoreOn D)
    (result : Result Offset Halt) : Type 0 where
  pub stood : MovesTo source_model.stands src new_src result (λ offset. Moved)
  pub absent : (s : SourceState) → source_model.stands src s
      → IfErr result (IsAbsentAfter (source_model.stands new_src) s config.tables)
  pub described : (s : SourceState) → source_model.stands src s → store.offset ≡ None → PassesState source_model src new_src s (λ t.
      CapturedOrHalts config t.history (length s.history.commits) result × IfOk result (IsFirstIn config s.history t.history))
  pub captures : (s : SourceState) → source_model.stands src s → source_model.honest new_src → store.offset ≡ None
      → CapturesOrHalts config s.history result
  pub within : (s : SourceState) → source_model.stands src s → IsWithinLog s.history store.offset
      → IfOk result (λ offset. HasState source_model.stands new_src (λ t. HasPositionInLog offset.lsn t.history))
  pub first : (s : SourceState) → source_model.stands src s → source_model.honest new_src → store.offset ≡ None
      → IfOk result (λ offset. IsFirstByCatalogue config s.history offset × IsFirstAtHead config s.history offset)

-- Why no offset is returned.
pub record StopsFinding {S D T : Type 0} (source_model : SourceModel S) (config : Config) (new_src : S) (store : StoreOn D)
    (result : Result T Halt) : Type 0 where
  pub others : (result ≢ Err halt.Sink) × (result ≢ Err halt.Offsets)
  pub never : (value : List ℕ) (at : Lsn) → result ≢ Err (halt.WatermarkMissing value at)
  pub exhausted : (h : Halt) → IsExhausted store.offset h → result ≡ Err h
  pub short : IfErr result IsNotOffsetTooLong
  pub ask : IfErr result (AsksUnread config store.offset store.offset (source_model.told new_src))
  pub free : IfErr result IsContentFree
  pub halt : IfErr result (IsBeginHalt config store.offset (source_model.told new_src))

-- The session begins with stores that are faithful; an error leaves what the session guarantees.
pub record KeepsBegun {S K D : Type 0} (source_model : SourceModel S) (sink_model : SinkModel K) (model : DiskModel D) (config : Config)
    (src new_src : S) (sink : K) (store new_store : StoreOn D) (result : Result Offset Halt) : Type 0 where
  pub begun : (tell : Bool) (entry : SessionStart) → entry.config ≡ config → IsFound tell source_model sink_model model entry src sink store
      → source_model.honest new_src → HadOwnTables entry
      → IfOk result (λ offset. BeganAt tell source_model sink_model model entry offset new_src sink new_store)
  pub left : (tell : Bool) (entry : SessionStart) → entry.config ≡ config → IsFound tell source_model sink_model model entry src sink store
      → source_model.honest new_src → HadOwnTables entry
      → OnErr result (LeavesBy tell source_model sink_model model entry new_src sink new_store)
  pub content : (entry : SessionStart) (stored : Option Offset) (report : Report) → entry.config ≡ config
      → IsFound true source_model sink_model model entry src sink store → source_model.honest new_src → WasFaithful entry
      → IfErr result (IsFaithfulHalt entry stored report (source_model.stands new_src) (sink_model.holds sink))

-- What is stored first.
pub record StoresFirst {D : Type 0} (model : DiskModel D) (config : Config) (store new_store : StoreOn D) (result : Result Offset Halt)
    : Type 0 where
  pub loads : IfOk result (λ offset. new_store.offset ≡ Some offset)
  pub held : CacheMatchesDisk model store new_store result
  pub offset : IfOk result IsOffset
  pub of : IfOk result (IsOffsetFor config store.offset)
  pub keeps : OnErr result (new_store.offset ≡ store.offset)

-- What the first offset and an error say of the source's state; no message is read.
pub record BeginsByState {S D : Type 0} (source_model : SourceModel S) (config : Config) (src new_src : S) (store new_store : StoreOn D)
    (result : Result Offset Halt) : Type 0 where
  pub rests : Leaves source_model.stands source_model.may_leave src new_src MayRest
  pub stood : MovesTo source_model.stands src new_src result (λ offset. Moved)
  pub absent : (s : SourceState) → source_model.stands src s
      → IfErr result (IsAbsentAfter (source_model.stands new_src) s config.tables)
  pub described : (s : SourceState) → source_model.stands src s → store.offset ≡ None → PassesState source_model src new_src s (λ t.
      FindsTables config s.history t.history new_store.offset result)
  pub captures : (s : SourceState) → source_model.stands src s → source_model.honest new_src → store.offset ≡ None
      → CapturesOrHalts config s.history result
  pub captured : (s : SourceState) → source_model.stands src s → source_model.honest new_src
      → CapturesAll config store.offset new_store.offset s.history
  pub first : (s : SourceState) → source_model.stands src s → source_model.honest new_src → store.offset ≡ None
      → IfOk result (IsFirstAtHead config s.history)
  pub standing : (s : SourceState) → source_model.stands src s → IfErr result (IsShortOr (source_model.stands new_src))
  pub within : (s : SourceState) → source_model.stands src s → IsWithinLog s.history store.offset
      → IfOk result (λ offset. HasState source_model.stands new_src (λ t. HasPositionInLog offset.lsn t.history))
  pub still : (s t : SourceState) → source_model.stands src s → source_model.stands new_src t → t.reading ≡ s.reading
  pub taken : IsTakenBy [] (source_model.told src) (source_model.told new_src)
  pub long : (s : SourceState) → source_model.stands src s → source_model.honest new_src → store.offset ≡ None
      → IfErr result (IsLongBy config s.history)

-- Why the session doesn't begin.
pub record StopsBeginning {S D T : Type 0} (source_model : SourceModel S) (config : Config) (new_src : S) (store new_store : StoreOn D)
    (result : Result T Halt) : Type 0 where
  pub never : (value : List ℕ) (at : Lsn) → result ≢ Err (halt.WatermarkMissing value at)
  pub exhausted : (h : Halt) → IsExhausted store.offset h → result ≡ Err h
  pub ask : IfErr result (AsksUnread config store.offset new_store.offset (source_model.told new_src))
  pub sink : result ≢ Err halt.Sink
  pub halt : IfErr result (IsBeginHalt config store.offset (source_model.told new_src))

-- The session's invariant is true at the start; an error leaves what the session guarantees.
pub record KeepsOpened {S K D : Type 0} (source_model : SourceModel S) (sink_model : SinkModel K) (model : DiskModel D) (config : Config)
    (now : ℤ) (src new_src : S) (sink : K) (store new_store : StoreOn D) (new_report : Report) (result : Result SessionState Halt)
    : Type 0 where
  pub next : (tell : Bool) (entry : SessionStart) → entry.config ≡ config → entry.now ≡ now
      → IsFound tell source_model sink_model model entry src sink store → source_model.honest new_src → HadOwnTables entry
      → IfOk result (λ work. InSession tell source_model sink_model model entry work new_src sink new_store)
  pub left : (tell : Bool) (entry : SessionStart) → entry.config ≡ config → IsFound tell source_model sink_model model entry src sink store
      → source_model.honest new_src → HadOwnTables entry
      → OnErr result (LeavesBy tell source_model sink_model model entry new_src sink new_store)
  pub content : (entry : SessionStart) → entry.config ≡ config → IsFound true source_model sink_model model entry src sink store
      → source_model.honest new_src → WasFaithful entry
      → IfErr result (IsFaithfulHalt entry new_store.offset new_report (source_model.stands new_src) (sink_model.holds sink))

-- With what state the session begins, what is stored, and what is reported.
pub record OpensSession {S D : Type 0} (source_model : SourceModel S) (model : DiskModel D) (config : Config) (now : ℤ) (new_src : S)
    (store new_store : StoreOn D) (report new_report : Report) (result : Result SessionState Halt) : Type 0 where
  pub begun : IfOk result (λ work. (offset : Offset) × (new_store.offset ≡ Some offset) × BeginsWithOffset offset now config.chunk
      config.every work × IsOffsetFor config store.offset offset)
  pub at : OnOk result (IsAtPosition new_store.offset new_report)
  pub held : CacheMatchesDisk model store new_store result
  pub stored : OnErr result ((new_store.offset ≡ store.offset) ⊎ HasStored config store.offset new_store.offset)
  pub position : report.position ≡ 0 → OnErr result (new_report.position ≡ position_of store.offset new_store.offset)
  pub counts : (new_report.records ≡ report.records) × (new_report.chunks ≡ report.chunks) ×
      (new_report.snapshot_rows ≡ report.snapshot_rows)
  pub reading : OnOk result (IsTrue (source_model.is_reading new_src))
  pub uncounted : (new_report.messages ≡ report.messages) × (new_report.commits ≡ report.commits)
  pub first : OnErr result ((new_store.offset ≡ store.offset)
      ⊎ ((offset : Offset) × (new_store.offset ≡ Some offset) × IsOffsetFor config store.offset offset))

-- What the session's state and an error say of the source's state.
pub record OpensByState {S D : Type 0} (source_model : SourceModel S) (config : Config) (src new_src : S) (store new_store : StoreOn D)
    (result : Result SessionState Halt) : Type 0 where
  pub absent : (s : SourceState) → source_model.stands src s
      → IfErr result (IsAbsentAfter (source_model.stands new_src) s config.tables)
  pub described : (s : SourceState) → source_model.stands src s → store.offset ≡ None → PassesState source_model src new_src s (λ t.
      FindsTables config s.history t.history new_store.offset result)
  pub captures : (s : SourceState) → source_model.stands src s → source_model.honest new_src → store.offset ≡ None
      → CapturesOrHalts config s.history result
  pub captured : (s : SourceState) → source_model.stands src s → source_model.honest new_src
      → CapturesAll config store.offset new_store.offset s.history
  pub firsts : (s : SourceState) → source_model.stands src s → source_model.honest new_src
      → IsFirstStored config s.history store.offset new_store.offset
  pub gone : (s : SourceState) → source_model.stands src s → IsKeptAfter s.confirmed store.offset → IfErr result IsNotGone
  pub gone_stood : (s : SourceState) → source_model.stands src s → IfErr result (IsGoneBelow s.confirmed)
  pub awaits : (s : SourceState) → source_model.stands src s → IsWithinLog s.history store.offset
      → IfOk result (λ work. Awaits source_model.stands work new_src)
  pub unmarked : (s : SourceState) (left : CrashState) → source_model.stands src s → source_model.may_leave new_src left
      → marks_in left.history.commits ≡ marks_in s.history.commits
  pub long : (s : SourceState) → source_model.stands src s → source_model.honest new_src → store.offset ≡ None
      → IfErr result (IsLongBy config s.history)

-- No message was read, and nothing appended; an error agrees with what the source reports.
pub record ReportsOpened {S K D : Type 0} (source_model : SourceModel S) (sink_model : SinkModel K) (config : Config) (now : ℤ)
    (src new_src : S) (sink : K) (store new_store : StoreOn D) (report new_report : Report) (result : Result SessionState Halt)
    : Type 0 where
  pub under_way : (at : Option SourceState) → ((s : SourceState) → at ≡ Some s → source_model.stands src s)
      → (report.messages ≡ 0) × (report.commits ≡ 0) × (report.chunks ≡ 0)
      → IfOk result (λ work. (first : Offset) × IsUnderWay source_model at (source_model.told src)
      (beginning_at config now store.offset first) new_store.offset work new_report new_src)
  pub halted : (at : Option SourceState) → ((s : SourceState) → at ≡ Some s → source_model.stands src s)
      → (report.messages ≡ 0) × (report.commits ≡ 0) × (report.chunks ≡ 0)
      → IfErr result (Halts source_model at (source_model.told src) config now store.offset new_store.offset new_report new_src)
  pub putting : (groups : List (List Record)) → sink_model.holds sink groups → (at : Option SourceState)
      → ((s : SourceState) → at ≡ Some s → source_model.stands src s)
      → (report.messages ≡ 0) × (report.commits ≡ 0) × (report.chunks ≡ 0) × (report.records ≡ 0) × (report.snapshot_rows ≡ 0)
      → IfOk result (λ work. (first : Offset) × IsPutting source_model sink_model groups at (source_model.told src)
      (beginning_at config now store.offset first) new_store.offset work new_report new_src sink)

-- The errors that must come, and those that never come.
pub record StopsOpening {S D T : Type 0} (source_model : SourceModel S) (new_src : S) (store : StoreOn D) (result : Result T Halt)
    : Type 0 where
  pub exhausted : (h : Halt) → IsExhausted store.offset h → result ≡ Err h
  pub never : (value : List ℕ) (at : Lsn) → result ≢ Err (halt.WatermarkMissing value at)
  pub own : (entry : SessionStart) → IfErr result (IsHonestHalt entry (source_model.stands new_src))
  pub sink : result ≢ Err halt.Sink
