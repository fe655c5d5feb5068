-- A session that meets only what is supported ends normally.
use Rattle.std.specs.Prelude.{◌≡◌, ℕ, ℤ, Option, Result, Err, IfErr, List}
use Rattle.dbl_base.specs.declared.lsn.Lsn.{Lsn}
use Rattle.dbl_disk.specs.Model.{DiskModel}
use Rattle.dbl_record.specs.declared.record.Record.{Record}
use Rattle.dbl_topic.specs.Model.{SinkModel}
use Rattle.dbl_model_history.specs.Fit.{IsFitHistory}
use Rattle.dbl_source_model.specs.Standings.{SourceState}
use Rattle.dbl_source_model.specs.Trace.{Trace}
use Rattle.dbl_model_table.specs.declared.config.Config.{Config}
use Rattle.dbl_offset_content.specs.declared.offset.Offset.{Offset}
use Rattle.dbl_offset.specs.Stores.{StoreOn}
use Rattle.dbl_source.specs.Keeps.{KeepsSource}
use Rattle.dbl_source.specs.Model.{SourceModel}
use Rattle.dblog_run.specs.CaptureModel.Entries.{SessionStart, HadOwnTables, IsKeptAfter, WasFaithful}
use Rattle.dblog_run.specs.CaptureLaws.Ends.{CacheMatchesDisk}
use Rattle.dblog_run.specs.CaptureLaws.Found.{Found, IsEntryOf, session_start_at}
use Rattle.dblog_run.specs.CaptureLaws.Sessions.{LeavesGoing}
use Rattle.dblog_run.specs.CaptureWork.declared.halt.Halt.{Halt}
use Rattle.dblog_run.specs.CaptureWork.declared.halt.Halt.TheVariants as halt
use Rattle.dblog_run.specs.CaptureWork.declared.report.Ending.{Ending}
use Rattle.dblog_run.specs.CaptureWork.declared.report.Report.{Report}
use Rattle.dblog_run.specs.CaptureWork.Begins.{IsAbsentAfter, IsAbsentHalt}
use Rattle.dblog_run.specs.CaptureLaws.Gained.{ReportsGroups}
use Rattle.dblog_run.specs.CaptureLaws.Halted.{IsHalt}
use Rattle.dblog_run.specs.CaptureLaws.Nevers.{IsFaithfulHalt, IsHonestHalt}
use Rattle.dblog_run.specs.CaptureLaws.Awaited.{IsWithinLog}
use Rattle.dblog_laws.specs.Supported.{CanBegin, HasMetSupported, IsOffsetOfThese, MayStillHalt}

-- The errors of a session over a conforming source and faithful stores: their causes, and which never come.
pub record SaysWhy (entry : SessionStart) (stored : Option Offset) (report : Report) (told : Option Trace) (stands : SourceState → Type 0)
    (holds : List (List Record) → Type 0) (result : Result Ending Halt) : Type 0 where
  pub cause : IfErr result (IsHalt entry.config entry.now entry.offset stored report told)
  pub fit : IsFitHistory entry.history
  pub absent : IfErr result (IsAbsentHalt entry.config.tables entry.history)
  pub own : IfErr result (IsHonestHalt entry stands)
  pub content : IfErr result (IsFaithfulHalt entry stored report stands holds)
  pub gone : (asked first : Lsn) → result ≡ Err (halt.Gone asked first) → ⊥
  pub missing : (value : List ℕ) (at : Lsn) → result ≡ Err (halt.WatermarkMissing value at) → ⊥
  -- If no call failed, the stored offset agrees with the source and the topic log.
  pub offset : IfErr result (λ h. (MayStillHalt h → ⊥) → IsOffsetOfThese stored stands holds)

-- A session that could begin, and met only what is supported, stops only if a device failed or memory ran out.
abbrev pub SupportedSessionsEnd : {S K : Type 0} → (S → SourceState → Type 0) → (K → List (List Record) → Type 0) → Type 0
SupportedSessionsEnd {S} {K} stands holds =
    (entry : SessionStart) (stored : Option Offset) (report : Report) (told : Option Trace) (src : S) (sink : K)
    (result : Result Ending Halt) → SaysWhy entry stored report told (stands src) (holds sink) result
    → CanBegin entry.config entry.history entry.offset → HasMetSupported entry (stands src) (holds sink)
    → IfErr result MayStillHalt

-- What `faithful`, `holds`, `halt`, `absent`, `gone`, `missing`, `own`, `content`, `counted` and `source` say of a session, verbatim, for
-- one call with this configuration and time, from these source, sink and store to the new ones.
pub record TellsHalts {S K D : Type 0} (source_model : SourceModel S) (sink_model : SinkModel K) (model : DiskModel D)
    (config : Config) (now : ℤ) (src new_src : S) (sink new_sink : K) (store new_store : StoreOn D) (report : Report)
    (result : Result Ending Halt) : Type 0 where
  pub faithful : (entry : SessionStart) → IsEntryOf config now entry
      → Found source_model.stands sink_model.holds model entry src sink store → source_model.honest new_src → HadOwnTables entry
      → LeavesGoing source_model.may_leave sink_model.may_leave model entry new_src new_sink new_store
  pub held : CacheMatchesDisk model store new_store result
  pub halts : IfErr result (IsHalt config now store.offset new_store.offset report (source_model.told new_src))
  pub absent : (s : SourceState) → source_model.stands src s
      → IfErr result (IsAbsentAfter (source_model.stands new_src) s config.tables)
  pub gone : (s : SourceState) → source_model.stands src s → IsKeptAfter s.confirmed store.offset → (asked first : Lsn)
      → result ≡ Err (halt.Gone asked first) → ⊥
  pub missing : (s : SourceState) → source_model.stands src s → source_model.honest new_src → IsWithinLog s.history store.offset
      → (value : List ℕ) (at : Lsn) → result ≡ Err (halt.WatermarkMissing value at) → ⊥
  pub own : (s : SourceState) → source_model.stands src s → source_model.honest new_src
      → HadOwnTables (session_start_at config now s store.offset)
      → IfErr result (IsHonestHalt (session_start_at config now s store.offset) (source_model.stands new_src))
  pub content : (entry : SessionStart) → IsEntryOf config now entry
      → Found source_model.stands sink_model.holds model entry src sink store → source_model.honest new_src → WasFaithful entry
      → IfErr result (IsFaithfulHalt entry new_store.offset report (source_model.stands new_src) (sink_model.holds new_sink))
  pub counted : (groups : List (List Record)) → sink_model.holds sink groups
      → ReportsGroups sink_model.holds sink_model.may_leave groups result new_sink report
  pub source : KeepsSource source_model src new_src result halt.Source

-- A session over a conforming source and faithful stores, with known contents, that could begin and met only what is supported, ends
-- normally, unless a device failed or memory ran out.
abbrev pub FaithfulSessionsEnd : {S K D : Type 0} → SourceModel S → SinkModel K → DiskModel D → Type 0
FaithfulSessionsEnd {S} {K} {D} source_model sink_model model =
    (config : Config) (now : ℤ) (src new_src : S) (sink new_sink : K) (store new_store : StoreOn D) (report : Report)
    (result : Result Ending Halt)
    → TellsHalts source_model sink_model model config now src new_src sink new_sink store new_store report result
    → (entry : SessionStart) → IsEntryOf config now entry → Found source_model.stands sink_model.holds model entry src sink store
    → source_model.honest new_src → WasFaithful entry → CanBegin entry.config entry.history entry.offset
    → HasMetSupported entry (source_model.stands new_src) (sink_model.holds new_sink)
    → IfErr result MayStillHalt
