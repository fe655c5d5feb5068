-- What a session over opened stores has answered: its contract, over the source, the topic log and the offset store of the program.
use Rattle.std.proofs.Common.{◌≡◌, ◌⊎◌, ℕ, ℤ, ◌<◌, ◌≤◌, Option, Some, None, List, Result, Ok, Err, sym, subst}
use Rattle.std.specs.Prelude.{IfErr, IfOk, IfSome, IsTrue, OnOk}
use Rattle.dbl_base.specs.declared.lsn.Lsn.{Lsn}
use Rattle.dbl_record.specs.declared.record.Record.{Record}
use Rattle.dbl_disk.specs.Model.{DiskModel}
use Rattle.dbl_hooks_gate.specs.Gates.{AddsAllowed}
use Rattle.dbl_model_table.specs.declared.config.Config.{Config}
use Rattle.dbl_journal.specs.Stored.{OnDisk}
use Rattle.dbl_demo.specs.SourceModel.Calls.{IsConfirmedAt, IsConfirmedUpTo, Moved}
use Rattle.dbl_demo.specs.SourceModel.Standings.{CrashState, SourceState, HasState}
use Rattle.dbl_topic.specs.Held.{ExtendsTopics as LogComesOf, HoldsGroups, MayLeaveGroups}
use Rattle.dbl_offset_content.specs.declared.offset.Offset.{Offset}
use Rattle.dbl_offset.specs.Stores.{ExtendsOffsets as StoreComesOf, HoldsOffset, StoreOn}
use Rattle.dbl_demo.specs.DemoWal.Standings.{MayLeaveWal}
use Rattle.dbl_demo.specs.DemoLaws.Demo.{ExtendsDemo, Demo, HasDemoState}
use Rattle.dbl_capture.specs.CaptureModel.Entries.{SessionStart, HadOwnTables, IsKeptAfter, WasFaithful}
use Rattle.dbl_capture.specs.CaptureWork.declared.halt.Halt.{Halt}
use Rattle.dbl_capture.specs.CaptureWork.declared.halt.Halt.TheVariants as halt
use Rattle.dbl_capture.specs.CaptureWork.declared.report.Ending.{Ending}
use Rattle.dbl_capture.specs.CaptureWork.declared.report.Ending.TheVariants.{Budget, Complete}
use Rattle.dbl_capture.specs.CaptureWork.declared.report.Report.{Report}
use Rattle.dbl_capture.specs.CaptureWork.Begins.{IsAbsentHalt}
use Rattle.dbl_capture_gated.specs.Passed.{RefusesNext}
use Rattle.dbl_capture.specs.CaptureLaws.Closed.{HasClosedRead}
use Rattle.dbl_capture.specs.CaptureLaws.Ends.{AreAllDone, LeavesComplete}
use Rattle.dbl_capture.specs.CaptureLaws.Found.{Found, HasStored, IsEntryOf, IsFirstStored, session_start_at, position_of}
use Rattle.dbl_capture.specs.CaptureLaws.Sessions.{AddsFewOrNoMarks, LeavesGoing}
use Rattle.dbl_capture.specs.CaptureLaws.Gained.{Gains, ReportsGroups}
use Rattle.dbl_capture.specs.CaptureLaws.Halted.{IsHalt}
use Rattle.dbl_capture.specs.CaptureLaws.Musts.{CapturesAll, MustExhaust}
use Rattle.dbl_capture.specs.CaptureLaws.Nevers.{IsFaithfulHalt, IsHonestHalt}
use Rattle.dbl_capture.specs.CaptureLaws.Reported.{HasSettled, HasStoodAfter, IsFollowed}
use Rattle.dbl_capture.specs.CaptureLaws.Tallied.{IsTalliedAfter}
use Rattle.dbl_capture.specs.CaptureLaws.Written.{AddsAtMost, EndsExactly, marks_more}
use Rattle.dbl_capture.specs.CaptureLaws.Awaited.{IsWithinLog}
use Rattle.dbl_capture.specs.CaptureLaws.Captured.{MustHaltAbsent}
use Rattle.dbl_capture.specs.CaptureLaws.Owned.{IsLongBy}
use Rattle.dbl_capture.specs.CaptureLaws.HasState.{IsGoneBelow, IsHaltStanding}
use Rattle.dblog_connect.specs.declared.asked.Asked.{Asked}
use Rattle.dblog_connect.specs.Asked.{rule_of}

-- what a crash may leave of the source, and of the topic log
abbrev pub SourceLeaves : {W : Type 0} → DiskModel W → Demo W → CrashState → Type 0
SourceLeaves model source l = MayLeaveWal model source.journal.disk l

abbrev pub LogLeaves : {T : Type 0} → DiskModel T → OnDisk T → List (List Record) → Type 0
LogLeaves model log groups = MayLeaveGroups model log.disk groups

-- every record that the topic log gained is one that the session's receiver accepts
abbrev pub GainsAllowed : {T : Type 0} → DiskModel T → Asked → OnDisk T → OnDisk T → Type 0
GainsAllowed model asked log new_log = (groups left : List (List Record)) → HoldsGroups model log groups → LogLeaves model new_log left → AddsAllowed (rule_of asked) groups left

-- which record was refused, by the messages after which the source stands
abbrev pub TellsNext : {W T : Type 0} → DiskModel W → DiskModel T → Config → ℤ → Asked → Demo W → Demo W → OnDisk T → Option Offset → Option Offset → ℕ × ℕ → Type 0
TellsNext wal_model topics_model config now asked source new_source log old new place = (groups : List (List Record)) → HoldsGroups topics_model log groups → (s : SourceState)
    → HasDemoState wal_model source s → HasState (HasDemoState wal_model) new_source (RefusesNext config now (rule_of asked) old new place)

pub record Ran {W T F : Type 0} (wal_model : DiskModel W) (topics_model : DiskModel T) (offsets_model : DiskModel F) (config : Config) (now : ℤ) (so sn : Demo W) (lo ln : OnDisk T) (fo fn : StoreOn F)
    (report : Report) (result : Result Ending Halt) : Type 0 where
  pub faithful : (entry : SessionStart) → IsEntryOf config now entry → Found (HasDemoState wal_model) (HoldsGroups topics_model) offsets_model entry so lo fo
      → HadOwnTables entry → LeavesGoing (SourceLeaves wal_model) (LogLeaves topics_model) offsets_model entry sn ln fn
  pub complete : (entry : SessionStart) → IsEntryOf config now entry → Found (HasDemoState wal_model) (HoldsGroups topics_model) offsets_model entry so lo fo
      → HadOwnTables entry → result ≡ Ok Complete → LeavesComplete (SourceLeaves wal_model) (LogLeaves topics_model) offsets_model entry sn ln fn
  pub held : HoldsOffset offsets_model fo fo.offset → (result ≡ Err halt.Offsets → ⊥) → HoldsOffset offsets_model fn fn.offset
  pub marks : (s : SourceState) → HasDemoState wal_model so s → HadOwnTables (session_start_at config now s fo.offset)
      → (left : CrashState) → SourceLeaves wal_model sn left → AddsFewOrNoMarks (session_start_at config now s fo.offset) left
  pub most : (s : SourceState) → HasDemoState wal_model so s → HadOwnTables (session_start_at config now s fo.offset)
      → (left : CrashState) → SourceLeaves wal_model sn left → AddsAtMost fn.offset report.chunks s.history left.history
  pub exactly : (s : SourceState) → HasDemoState wal_model so s → HadOwnTables (session_start_at config now s fo.offset)
      → IfOk result (λ ending. (left : CrashState) → SourceLeaves wal_model sn left → EndsExactly (session_start_at config now s fo.offset) fn.offset report.chunks (marks_more ending fn.offset) left.history)
  pub unclosed : (entry : SessionStart) → IsEntryOf config now entry → Found (HasDemoState wal_model) (HoldsGroups topics_model) offsets_model entry so lo fo
      → WasFaithful entry → (t : SourceState) → HasDemoState wal_model sn t → HasClosedRead fn.offset report t
  pub stores : (fn.offset ≡ fo.offset) ⊎ HasStored config fo.offset fn.offset
  pub firsts : (s : SourceState) → HasDemoState wal_model so s → IsFirstStored config s.history fo.offset fn.offset
  pub few : result ≡ Ok Complete → report.messages < config.messages
  pub done : result ≡ Ok Complete → IfSome fn.offset (λ offset. AreAllDone offset.cursors)
  pub bounded : report.messages ≤ config.messages
  pub ended : result ≡ Ok Complete → IsTrue sn.ended
  pub exhausted : MustExhaust fo.offset result
  pub must_absent : (s : SourceState) → HasDemoState wal_model so s → MustHaltAbsent config s.history fo.offset result
  pub captures : (s : SourceState) → HasDemoState wal_model so s → CapturesAll config fo.offset fn.offset s.history
  pub spent : result ≡ Ok Budget → report.messages ≡ config.messages
  pub settled : (s : SourceState) → HasDemoState wal_model so s
      → OnOk result (HasState (HasDemoState wal_model) sn (HasSettled config now fo.offset fn.offset report))
  pub position : report.position ≡ position_of fo.offset fn.offset
  pub halt_is : IfErr result (IsHalt config now fo.offset fn.offset report None)
  pub halt_stood : (s : SourceState) → HasDemoState wal_model so s
      → IfErr result (IsHaltStanding config now fo.offset fn.offset report (HasDemoState wal_model sn))
  pub absent : (s : SourceState) → HasDemoState wal_model so s → IfErr result (IsAbsentHalt config.tables s.history)
  pub gone : (s : SourceState) → HasDemoState wal_model so s → IsKeptAfter s.confirmed fo.offset → (asked first : Lsn) → result ≡ Err (halt.Gone asked first) → ⊥
  pub gone_stood : (s : SourceState) → HasDemoState wal_model so s → IfErr result (IsGoneBelow s.confirmed)
  pub kept : (s : SourceState) → HasDemoState wal_model so s → (stored : Offset) → fo.offset ≡ Some stored
      → OnOk result ((t : SourceState) × Moved s t × IsConfirmedUpTo t stored.lsn)
  pub dropped : (s : SourceState) → HasDemoState wal_model so s → (asked first : Lsn) → result ≡ Err (halt.Gone asked first)
      → (t : SourceState) × Moved s t × (¬ IsConfirmedUpTo t asked) × IsConfirmedAt t first
  pub missing : (s : SourceState) → HasDemoState wal_model so s → IsWithinLog s.history fo.offset
      → (value : List ℕ) (at : Lsn) → result ≡ Err (halt.WatermarkMissing value at) → ⊥
  pub own : (s : SourceState) → HasDemoState wal_model so s → HadOwnTables (session_start_at config now s fo.offset)
      → IfErr result (IsHonestHalt (session_start_at config now s fo.offset) (HasDemoState wal_model sn))
  pub content : (entry : SessionStart) → IsEntryOf config now entry → Found (HasDemoState wal_model) (HoldsGroups topics_model) offsets_model entry so lo fo
      → WasFaithful entry → IfErr result (IsFaithfulHalt entry fn.offset report (HasDemoState wal_model sn) (HoldsGroups topics_model ln))
  pub long : (s : SourceState) → HasDemoState wal_model so s → fo.offset ≡ None → fn.offset ≡ None → IfErr result (IsLongBy config s.history)
  pub grouped : (groups left : List (List Record)) → HoldsGroups topics_model lo groups → LogLeaves topics_model ln left
      → Gains config now fo.offset fn.offset groups left
  pub ungained : (groups left : List (List Record)) → HoldsGroups topics_model lo groups → LogLeaves topics_model ln left → fn.offset ≡ fo.offset → left ≡ groups
  pub counted : (groups : List (List Record)) → HoldsGroups topics_model lo groups → ReportsGroups (HoldsGroups topics_model) (LogLeaves topics_model) groups result ln report
  pub followed : IfErr result (IsFollowed config now fo.offset fn.offset report None)
  pub stood : (s t : SourceState) → HasDemoState wal_model so s → HasDemoState wal_model sn t
      → IfErr result (HasStoodAfter config now fo.offset fn.offset report s t)
  pub tallied : (groups : List (List Record)) → HoldsGroups topics_model lo groups → (result ≡ Err halt.Sink → ⊥) → (s t : SourceState)
      → HasDemoState wal_model so s → HasDemoState wal_model sn t
      → IsTalliedAfter (HoldsGroups topics_model) groups config now fo.offset fn.offset report t ln result
  pub source_live : OnOk result (IsTrue sn.live)
  pub source_comes : ExtendsDemo wal_model so sn
  pub sink_comes : LogComesOf topics_model lo ln
  pub store_comes : StoreComesOf offsets_model fo fn

-- where it was complete, each table is done by the offset that it stored
pub done_by : (stored : Option Offset) (offset : Offset) → stored ≡ Some offset → AreAllDone offset.cursors → IfSome stored (λ o. AreAllDone o.cursors)
done_by stored offset is done = subst (λ (o : Option Offset). IfSome o (λ x. AreAllDone x.cursors)) (sym is) done

-- at the same moment
pub renow : {W T F : Type 0} (wal_model : DiskModel W) (topics_model : DiskModel T) (offsets_model : DiskModel F) (config : Config) (now later : ℤ) (so sn : Demo W) (lo ln : OnDisk T) (fo fn : StoreOn F)
    (report : Report) (result : Result Ending Halt) → now ≡ later
    → Ran wal_model topics_model offsets_model config now so sn lo ln fo fn report result → Ran wal_model topics_model offsets_model config later so sn lo ln fo fn report result
renow wal_model topics_model offsets_model config now later so sn lo ln fo fn report result same ran =
    subst (λ (n : ℤ). Ran wal_model topics_model offsets_model config n so sn lo ln fo fn report result) same ran
