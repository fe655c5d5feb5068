-- What a session leaves and reports, and why it stops.
use Rattle.std.specs.Prelude.{◌≡◌, ◌≢◌, ◌⊎◌, ◌≤◌, ◌<◌, ℕ, ℤ, Some, None, Result, Ok, Err, List, IfErr, IfOk, IsTrue, OnOk}
use Rattle.dbl_base.specs.declared.lsn.Lsn.{Lsn}
use Rattle.dbl_disk.specs.Model.{DiskModel}
use Rattle.dbl_record.specs.declared.record.Record.{Record}
use Rattle.dbl_topic.specs.Model.{SinkModel}
use Rattle.dbl_model_table.specs.declared.config.Config.{Config}
use Rattle.dbl_source.specs.Model.{SourceModel}
use Rattle.dbl_source.specs.SourceModel.Standings.{CrashState, SourceState, HasState}
use Rattle.dbl_source.specs.SourceModel.Trace.{Trace}
use Rattle.dbl_offset.specs.Stores.{StoreOn}
use Rattle.dbl_offset_content.specs.declared.offset.Offset.{Offset}
use Rattle.dbl_capture_work.specs.Begins.{IsAbsentAfter}
use Rattle.dbl_capture_work.specs.CaptureModel.Entries.{SessionStart, HadOwnTables, IsKeptAfter}
use Rattle.dbl_capture_work.specs.declared.halt.Halt.{Halt}
use Rattle.dbl_capture_work.specs.declared.halt.Halt.TheVariants as halt
use Rattle.dbl_capture_work.specs.declared.report.Ending.{Ending}
use Rattle.dbl_capture_work.specs.declared.report.Ending.TheVariants as endings
use Rattle.dbl_capture_work.specs.declared.report.Report.{Report}
use Rattle.dbl_capture_laws.specs.Awaited.{IsWithinLog}
use Rattle.dbl_capture_laws.specs.Captured.{FindsTables, MustHaltAbsent, PassesState}
use Rattle.dbl_capture_laws.specs.Ends.{AreAllDone, LeavesComplete, CacheMatchesDisk}
use Rattle.dbl_capture_laws.specs.Found.{Found, HasStored, IsEntryOf, IsFirstStored, session_start_at, position_of, HasConfirmed}
use Rattle.dbl_capture_laws.specs.Gained.{Gains, ReportsGroups}
use Rattle.dbl_capture_laws.specs.Halted.{IsHalt}
use Rattle.dbl_capture_laws.specs.HasState.{IsGoneBelow, IsHaltStanding}
use Rattle.dbl_capture_laws.specs.Musts.{CapturesAll, MustExhaust, MustHalt, MustHaltStood, MustHaltTold}
use Rattle.dbl_capture_laws.specs.Nevers.{IsHonestHalt}
use Rattle.dbl_capture_laws.specs.Owned.{IsLongBy}
use Rattle.dbl_capture_laws.specs.Reported.{HasReadMessages, HasSettled, HasStoodAfter, IsFollowed, StoodAtLast}
use Rattle.dbl_capture_laws.specs.Sessions.{AddsFewOrNoMarks, LeavesGoing}
use Rattle.dbl_capture_laws.specs.Tallied.{HasPassed, IsTallied, IsTalliedAfter}
use Rattle.dbl_capture_laws.specs.Written.{AddsAtMost, EndsExactly, marks_more, AdvancesAtMost}

-- Over a conforming source with the stored tables: stores that were found faithful are left faithful at every exit, and complete after
-- `Complete`.
pub record LeavesStores {S K D : Type 0} (source_model : SourceModel S) (sink_model : SinkModel K) (model : DiskModel D) (config : Config)
    (now : ℤ) (src new_src : S) (sink new_sink : K) (store new_store : StoreOn D) (result : Result Ending Halt) : Type 0 where
  pub faithful : (entry : SessionStart) → IsEntryOf config now entry → Found source_model.stands sink_model.holds model entry src sink store
      → source_model.honest new_src → HadOwnTables entry
      → LeavesGoing source_model.may_leave sink_model.may_leave model entry new_src new_sink new_store
  pub complete : (entry : SessionStart) → IsEntryOf config now entry → Found source_model.stands sink_model.holds model entry src sink store
      → source_model.honest new_src → HadOwnTables entry → result ≡ Ok endings.Complete
      → LeavesComplete source_model.may_leave sink_model.may_leave model entry new_src new_sink new_store

-- What is stored, for any source, sink and disk; the offset of the store still agrees with its disk, unless the disk failed. Over a
-- conforming source a first one has the tables of its catalogue.
pub record MayStoreOffset {S D : Type 0} (source_model : SourceModel S) (model : DiskModel D) (config : Config) (src new_src : S)
    (store new_store : StoreOn D) (result : Result Ending Halt) : Type 0 where
  pub holds : CacheMatchesDisk model store new_store result
  pub stores : (new_store.offset ≡ store.offset) ⊎ HasStored config store.offset new_store.offset
  pub firsts : (s : SourceState) → source_model.stands src s → source_model.honest new_src
      → IsFirstStored config s.history store.offset new_store.offset

-- Over a conforming source with the stored tables: at most how many watermarks are added, after a normal end exactly how many, with
-- the closed windows accounting for the stored cursors, and after any end at most two for each reported window, and two more, with closed
-- windows that are reported accounting for the stored cursors.
pub record AddsMarks {S D : Type 0} (source_model : SourceModel S) (config : Config) (now : ℤ) (src new_src : S)
    (store new_store : StoreOn D) (new_report : Report) (result : Result Ending Halt) : Type 0 where
  pub marks : (s : SourceState) → source_model.stands src s → source_model.honest new_src
      → HadOwnTables (session_start_at config now s store.offset) → (left : CrashState) → source_model.may_leave new_src left
      → AddsFewOrNoMarks (session_start_at config now s store.offset) left
  pub exactly : (s : SourceState) → source_model.stands src s → source_model.honest new_src
      → HadOwnTables (session_start_at config now s store.offset)
      → IfOk result (λ ending. (left : CrashState) → source_model.may_leave new_src left → EndsExactly
      (session_start_at config now s store.offset) new_store.offset new_report.chunks (marks_more ending new_store.offset) left.history)
  pub most : (s : SourceState) → source_model.stands src s → source_model.honest new_src
      → HadOwnTables (session_start_at config now s store.offset) → (left : CrashState) → source_model.may_leave new_src left
      → AddsAtMost new_store.offset new_report.chunks s.history left.history
  pub advances : (s : SourceState) → source_model.stands src s → source_model.honest new_src
      → HadOwnTables (session_start_at config now s store.offset) → (left : CrashState) → source_model.may_leave new_src left
      → AdvancesAtMost config.chunk new_report.chunks left.history store.offset new_store.offset

-- What the sink gained, for any source.
pub record AddsRecords {K D : Type 0} (sink_model : SinkModel K) (config : Config) (now : ℤ) (sink new_sink : K)
    (store new_store : StoreOn D) : Type 0 where
  pub grouped : (groups left : List (List Record)) → sink_model.holds sink groups → sink_model.may_leave new_sink left
      → Gains config now store.offset new_store.offset groups left
  pub ungained : (groups left : List (List Record)) → sink_model.holds sink groups → sink_model.may_leave new_sink left
      → new_store.offset ≡ store.offset → left ≡ groups

-- The report, by the source's trace.
pub record ReportsByTrace {S D : Type 0} (source_model : SourceModel S) (config : Config) (now : ℤ) (src new_src : S)
    (store new_store : StoreOn D) (new_report : Report) (result : Result Ending Halt) : Type 0 where
  pub read : HasReadMessages result new_report.messages (source_model.told src) (source_model.told new_src)
  pub last : OnOk result (StoodAtLast config now store.offset new_store.offset new_report (source_model.told new_src))
  pub followed : IfErr result (IsFollowed config now store.offset new_store.offset new_report (source_model.told new_src))

-- The report, by the source's state; and that what is stored is confirmed, unless it was found so.
pub record ReportsByState {S D T : Type 0} (source_model : SourceModel S) (config : Config) (now : ℤ) (src new_src : S)
    (store new_store : StoreOn D) (new_report : Report) (result : Result T Halt) : Type 0 where
  pub settled : (s : SourceState) → source_model.stands src s
      → OnOk result (HasState source_model.stands new_src (HasSettled config now store.offset new_store.offset new_report))
  pub stood : (s t : SourceState) → source_model.stands src s → source_model.stands new_src t
      → IfErr result (HasStoodAfter config now store.offset new_store.offset new_report s t)
  pub confirmed : (s t : SourceState) → source_model.stands src s → source_model.stands new_src t
      → HasConfirmed store.offset new_store.offset t

-- The bounds of the counts, and the position that was stored last.
pub record CountsWithin {D : Type 0} (config : Config) (store new_store : StoreOn D) (new_report : Report) : Type 0 where
  pub commits : new_report.commits ≤ new_report.messages
  pub bounded : new_report.messages ≤ config.messages
  pub position : new_report.position ≡ position_of store.offset new_store.offset

-- What the report counts of the sink, and, unless an append failed, of the commits: those of which the sink has all records, by the
-- source's trace and by its state. If an append failed, the sink has all records of the commits that the stored offset passed.
pub record TalliesRecords {S K D : Type 0} (source_model : SourceModel S) (sink_model : SinkModel K) (config : Config) (now : ℤ)
    (src new_src : S) (sink new_sink : K) (store new_store : StoreOn D) (new_report : Report) (result : Result Ending Halt) : Type 0 where
  pub counted : (groups : List (List Record)) → sink_model.holds sink groups
      → ReportsGroups sink_model.holds sink_model.may_leave groups result new_sink new_report
  pub tallied : (groups : List (List Record)) → sink_model.holds sink groups → result ≢ Err halt.Sink
      → IsTallied sink_model.holds groups config now store.offset new_store.offset new_report (source_model.told new_src) new_sink result
  pub tallied_stood : (groups : List (List Record)) → sink_model.holds sink groups → result ≢ Err halt.Sink → (s t : SourceState)
      → source_model.stands src s → source_model.stands new_src t
      → IsTalliedAfter sink_model.holds groups config now store.offset new_store.offset new_report t new_sink result
  pub passed : (groups : List (List Record)) → sink_model.holds sink groups → result ≡ Err halt.Sink → (s t : SourceState)
      → source_model.stands src s → source_model.stands new_src t → (left : List (List Record)) → sink_model.may_leave new_sink left
      → HasPassed groups left config now store.offset new_store.offset t

-- When the session ends normally.
pub record EndsNormally {S D : Type 0} (source_model : SourceModel S) (config : Config) (new_src : S) (new_store : StoreOn D)
    (new_report : Report) (result : Result Ending Halt) : Type 0 where
  pub done : result ≡ Ok endings.Complete
      → (offset : Offset) × (new_store.offset ≡ Some offset) × AreAllDone offset.cursors × (new_report.messages < config.messages)
  pub ended : result ≡ Ok endings.Complete → IsTrue (source_model.has_ended new_src)
  pub spent : result ≡ Ok endings.Budget → new_report.messages ≡ config.messages

-- The cause of each error, by the source's trace, and the errors that its newest message or last answer requires.
pub record HaltsByTrace {S D : Type 0} (source_model : SourceModel S) (config : Config) (now : ℤ) (new_src : S)
    (store new_store : StoreOn D) (new_report : Report) (result : Result Ending Halt) : Type 0 where
  pub must : (t : Trace) → source_model.told new_src ≡ Some t → MustHaltTold config now store.offset new_store.offset new_report t result
  pub answered : (t : Trace) → source_model.told new_src ≡ Some t → MustHalt config store.offset new_store.offset new_report t result
  pub exhausted : MustExhaust store.offset result
  pub missed : (value : List ℕ) (at : Lsn) → result ≡ Err (halt.WatermarkMissing value at) → IsTrue (source_model.has_ended new_src)
  pub halt : IfErr result (IsHalt config now store.offset new_store.offset new_report (source_model.told new_src))

-- The cause of each error, by the source's state and catalogue, and the errors that they require. A table's error, and the tables that a
-- first session finds, are by the catalogue at one time between its call and a state that it passed; over a conforming source, which alters
-- no table, by that at the call.
pub record HaltsByState {S D : Type 0} (source_model : SourceModel S) (config : Config) (now : ℤ) (src new_src : S)
    (store new_store : StoreOn D) (new_report : Report) (result : Result Ending Halt) : Type 0 where
  pub halt_stood : (s : SourceState) → source_model.stands src s
      → IfErr result (IsHaltStanding config now store.offset new_store.offset new_report (source_model.stands new_src))
  pub absent : (s : SourceState) → source_model.stands src s
      → IfErr result (IsAbsentAfter (source_model.stands new_src) s config.tables)
  pub described : (s : SourceState) → source_model.stands src s → store.offset ≡ None → PassesState source_model src new_src s (λ t.
      FindsTables config s.history t.history new_store.offset result)
  pub captures : (s : SourceState) → source_model.stands src s → source_model.honest new_src
      → CapturesAll config store.offset new_store.offset s.history
  pub gone : (s : SourceState) → source_model.stands src s → IsKeptAfter s.confirmed store.offset → (asked first : Lsn)
      → result ≢ Err (halt.Gone asked first)
  pub gone_stood : (s : SourceState) → source_model.stands src s → IfErr result (IsGoneBelow s.confirmed)
  pub must_absent : (s : SourceState) → source_model.stands src s → source_model.honest new_src
      → MustHaltAbsent config s.history store.offset result
  pub must_stood : (s t : SourceState) → source_model.stands src s → source_model.stands new_src t
      → MustHaltStood config now store.offset new_store.offset new_report t result
  pub long : (s : SourceState) → source_model.stands src s → source_model.honest new_src → store.offset ≡ None
      → new_store.offset ≡ None → IfErr result (IsLongBy config s.history)

-- The errors that never come from a conforming source.
pub record NeverHalts {S D T : Type 0} (source_model : SourceModel S) (config : Config) (now : ℤ) (src new_src : S) (store : StoreOn D)
    (result : Result T Halt) : Type 0 where
  pub missing : (s : SourceState) → source_model.stands src s → source_model.honest new_src → IsWithinLog s.history store.offset
      → (value : List ℕ) (at : Lsn) → result ≢ Err (halt.WatermarkMissing value at)
  pub own : (s : SourceState) → source_model.stands src s → source_model.honest new_src
      → HadOwnTables (session_start_at config now s store.offset)
      → IfErr result (IsHonestHalt (session_start_at config now s store.offset) (source_model.stands new_src))
