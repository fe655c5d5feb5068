-- The law, as a session's own clause asks it: of what it was called with, and what it found.
use Rattle.std.proofs.Common.{◌≡◌, ◌∙◌, ℤ, Option, Some, None, List, ◌++◌, ℕ, Result, Ok, Err, refl, sym, subst}
use Rattle.std.specs.Prelude.{IfErr, IfSome}
use Rattle.dbl_base.specs.declared.lsn.Lsn.{Lsn}
use Rattle.dbl_disk.specs.Model.{DiskModel}
use Rattle.dbl_record.specs.declared.record.Record.{Record}
use Rattle.dbl_record.specs.Cuts.{joined}
use Rattle.dbl_topic.specs.Model.{SinkModel}
use Rattle.dbl_model_table.specs.declared.config.Config.{Config}
use Rattle.dbl_model_table.specs.declared.table.TableInfo.{TableInfo}
use Rattle.dbl_model_history.specs.Fit.{AreInfosOf, IsFitHistory}
use Rattle.dbl_source_model.specs.Standings.{CrashState, SourceState, left_of}
use Rattle.dbl_source_model.specs.Trace.{Trace}
use Rattle.dbl_offset_content.specs.declared.offset.Offset.{Offset}
use Rattle.dbl_offset.specs.Stores.{HoldsOffset, StoreOn, disk_of}
use Rattle.dbl_offset.proofs.StoreLaws.{one_store, store_of}
use Rattle.dbl_faithful.specs.Lag.{IsOffsetOf}
use Rattle.dbl_faithful.specs.Faithful.{IsFaithful}
use Rattle.dbl_faithful.proofs.Faithful.{described_infos}
use Rattle.dbl_source.specs.Model.{SourceModel}
use Rattle.dblog_run.specs.CaptureModel.Entries.{SessionStart, HadOwnTables, IsKeptAfter, WasFaithful}
use Rattle.dblog_run.specs.CaptureWork.declared.halt.Halt.{Halt}
use Rattle.dblog_run.specs.CaptureWork.declared.halt.Halt.TheVariants as halt
use Rattle.dblog_run.specs.CaptureWork.declared.report.Ending.{Ending}
use Rattle.dblog_run.specs.CaptureWork.declared.report.Report.{Report}
use Rattle.dblog_run.specs.CaptureWork.Begins.{IsAbsentHalt}
use Rattle.dblog_run.specs.CaptureLaws.Found.{Found, IsEntryOf, session_start_at}
use Rattle.dblog_run.specs.CaptureLaws.Sessions.{Captures, IsCapturing, LeavesGoing}
use Rattle.dblog_run.proofs.CaptureLawsKeeping.{absent_first, held_left}
use Rattle.dblog_run.specs.CaptureLaws.Gained.{HasCountedGroups, ReportsGroups}
use Rattle.dblog_run.specs.CaptureLaws.Halted.{IsHalt}
use Rattle.dblog_run.specs.CaptureLaws.Nevers.{IsFaithfulHalt, IsHonestHalt}
use Rattle.dbl_model_history.specs.History.{History, IsRising}
use Rattle.dbl_faithful.specs.Stores.{IsPositionOf}
use Rattle.dblog_run.proofs.CaptureModelEnding.{stood_of}
use Rattle.dblog_run.specs.CaptureLaws.Awaited.{IsWithinLog}
use Rattle.dblog_run.proofs.CaptureLawsAwaited.{stood_offsets_are_within}
use Rattle.dblog_laws.specs.SessionLaws.{FaithfulSessionsEnd, SaysWhy, TellsHalts}
use Rattle.dblog_laws.specs.Supported.{CanBegin, HasMetSupported, IsOffsetOfThese, MayStillHalt}
use Rattle.dblog_laws.proofs.Ending.{outside}

-- an entry says of these halts what another one says that captures the same
honest_as : (first second : SessionStart) (stands : SourceState → Type 0) (h : Halt) → ((infos : List TableInfo) → IsCapturing first infos → IsCapturing second infos) → IsHonestHalt first stands h → IsHonestHalt second stands h
honest_as first second stands halt.Source same own = tt
honest_as first second stands halt.Sink same own = tt
honest_as first second stands halt.Offsets same own = tt
honest_as first second stands halt.Memory same own = tt
honest_as first second stands (halt.Message number error) same own = own
honest_as first second stands (halt.Txn number error) same own = (own.0, own.1, own.2, same own.2 own.3, own.4)
honest_as first second stands (halt.Chunk table row) same own = own
honest_as first second stands (halt.Altered table) same own = own
honest_as first second stands (halt.Cell table column error) same own = (own.0, own.1, own.2, same own.2 own.3, own.4)
honest_as first second stands (halt.Clash table column) same own = tt
honest_as first second stands (halt.RecordTooLong len) same own = tt
honest_as first second stands (halt.OffsetTooLong len) same own = tt
honest_as first second stands (halt.Model error) same own = tt
honest_as first second stands (halt.UnknownTable table) same own = tt
honest_as first second stands (halt.Gone asked far) same own = tt
honest_as first second stands (halt.WatermarkMissing value at) same own = tt
honest_as first second stands (halt.Exhausted incarnation) same own = tt

-- ---- what faithful stores say of the offset that was found

kept_so : (history : History) (confirmed : Lsn) (records : List Record) (offset : Option Offset) → IsFaithful history confirmed records offset → IsKeptAfter confirmed offset
kept_so history confirmed records None faithful = faithful.unconfirmed
kept_so history confirmed records (Some offset) faithful = faithful.lags.offset_is.confirmed_to

own_so : (history : History) (confirmed : Lsn) (records : List Record) (offset : Option Offset) → IsFitHistory history → IsFaithful history confirmed records offset → IfSome offset (λ o. AreInfosOf history o.infos)
own_so history confirmed records None fit faithful = tt
own_so history confirmed records (Some offset) fit faithful = described_infos history confirmed records offset fit faithful.lags.offset_is

module _ (entry : SessionStart) (config : Config) (now : ℤ) (s : SourceState) (old : Option Offset) (config_is : entry.config ≡ config) (now_is : entry.now ≡ now)
    (history : s.history ≡ entry.history) (confirmed : s.confirmed ≡ entry.confirmed) (offset_is : entry.offset ≡ old) where
  own_at : IsFitHistory entry.history → WasFaithful entry → HadOwnTables (session_start_at config now s old)
  own_at fit faithful =
      subst (λ (o : Option Offset). IfSome o (λ offset. AreInfosOf s.history offset.infos)) offset_is
      (subst (λ (h : History). IfSome entry.offset (λ offset. AreInfosOf h offset.infos)) (sym history) (own_so entry.history entry.confirmed (joined entry.groups) entry.offset fit faithful))

  kept_at : WasFaithful entry → IsKeptAfter s.confirmed old
  kept_at faithful =
      subst (IsKeptAfter s.confirmed) offset_is (subst (λ (l : Lsn). IsKeptAfter l entry.offset) (sym confirmed) (kept_so entry.history entry.confirmed (joined entry.groups) entry.offset faithful))

  captures_as : (infos : List TableInfo) → IsCapturing (session_start_at config now s old) infos → IsCapturing entry infos
  captures_as infos captures =
      subst (λ (o : Option Offset). Captures entry.config entry.history o infos) (sym offset_is)
      (subst (λ (h : History). Captures entry.config h old infos) history (subst (λ (k : Config). Captures k s.history old infos) (sym config_is) captures))

  module _ (stored : Option Offset) (report : Report) (told : Option Trace) (stands : SourceState → Type 0) (holds : List (List Record) → Type 0) (faithful : WasFaithful entry) where
    pub ends : (result : Result Ending Halt) → IsFitHistory entry.history
        → IfErr result (IsHalt config now old stored report told) → IfErr result (IsAbsentHalt config.tables s.history)
        → (HadOwnTables (session_start_at config now s old) → IfErr result (IsHonestHalt (session_start_at config now s old) stands)) → IfErr result (IsFaithfulHalt entry stored report stands holds)
        → (IsKeptAfter s.confirmed old → (asked first : Lsn) → result ≡ Err (halt.Gone asked first) → ⊥) → ((value : List ℕ) (at : Lsn) → result ≡ Err (halt.WatermarkMissing value at) → ⊥)
        → IfErr result (λ h. (MayStillHalt h → ⊥) → IsOffsetOfThese stored stands holds)
        → CanBegin entry.config entry.history entry.offset → HasMetSupported entry stands holds → IfErr result MayStillHalt
    ends (Ok ending) fit cause absent own content gone missing offset begins met = tt
    ends (Err h) fit cause absent own content gone missing offset begins met =
        let why : SaysWhy entry stored report told stands holds (Err h) = record {
          cause = subst (λ (k : Config). IsHalt k entry.now entry.offset stored report told h) (sym config_is)
              (subst (λ (n : ℤ). IsHalt config n entry.offset stored report told h) (sym now_is) (subst (λ (o : Option Offset). IsHalt config now o stored report told h) (sym offset_is) cause));
          fit = fit;
          absent = subst (λ (k : Config). IsAbsentHalt k.tables entry.history h) (sym config_is) (subst (λ (x : History). IsAbsentHalt config.tables x h) history absent);
          own = honest_as (session_start_at config now s old) entry stands h captures_as (own (own_at fit faithful));
          content = content;
          gone = gone (kept_at faithful);
          missing = missing;
          offset = offset;
        } in
        outside entry stored report told stands holds begins met h why

-- the offset that was found isn't above the log
within_so : (entry : SessionStart) (s : SourceState) (found : Option Offset) → s.history ≡ entry.history → entry.offset ≡ found → IsRising s.history → WasFaithful entry → IsWithinLog s.history found
within_so entry s found history offset_is rise faithful =
    let stood = subst (λ (h : History). IfSome entry.offset (λ o. IsPositionOf h o.lsn.0)) (sym history) (stood_of entry faithful) in
    subst (IsWithinLog s.history) offset_is (stood_offsets_are_within s.history entry.offset rise stood)

-- ---- what it stored last

-- where no put failed, the sink has what is counted
counted_of : {K : Type 0} (holds may_sink : K → List (List Record) → Type 0) (groups : List (List Record)) (sink : K) (report : Report) (h : Halt) → (MayStillHalt h → ⊥)
    → ReportsGroups {A = Ending} holds may_sink groups (Err h) sink report → HasCountedGroups holds groups sink report
counted_of holds may_sink groups sink report halt.Source none counted = counted
counted_of holds may_sink groups sink report halt.Sink none counted = absurd (none tt)
counted_of holds may_sink groups sink report halt.Offsets none counted = counted
counted_of holds may_sink groups sink report halt.Memory none counted = counted
counted_of holds may_sink groups sink report (halt.Message number error) none counted = counted
counted_of holds may_sink groups sink report (halt.Txn number error) none counted = counted
counted_of holds may_sink groups sink report (halt.Chunk table row) none counted = counted
counted_of holds may_sink groups sink report (halt.Altered table) none counted = counted
counted_of holds may_sink groups sink report (halt.Cell table column error) none counted = counted
counted_of holds may_sink groups sink report (halt.Clash table column) none counted = counted
counted_of holds may_sink groups sink report (halt.RecordTooLong len) none counted = counted
counted_of holds may_sink groups sink report (halt.OffsetTooLong len) none counted = counted
counted_of holds may_sink groups sink report (halt.Model error) none counted = counted
counted_of holds may_sink groups sink report (halt.UnknownTable table) none counted = counted
counted_of holds may_sink groups sink report (halt.Gone asked far) none counted = counted
counted_of holds may_sink groups sink report (halt.WatermarkMissing value at) none counted = counted
counted_of holds may_sink groups sink report (halt.Exhausted incarnation) none counted = counted

-- no disk of the offset failed where nothing did
not_offsets : (h : Halt) → (MayStillHalt h → ⊥) → (r : Result Ending Halt) → r ≡ Err h → r ≡ Err halt.Offsets → ⊥
not_offsets h none r is failed = none (subst (λ (x : Result Ending Halt). IfErr x MayStillHalt) is (subst (λ (x : Result Ending Halt). IfErr x MayStillHalt) (sym failed) tt))

module _ {S K D : Type 0} (source_model : SourceModel S) (sink_model : SinkModel K) (model : DiskModel D)
    (rising : (source : S) (s : SourceState) → source_model.stands source s → IsRising s.history) (may : (source : S) (s : SourceState) → source_model.stands source s → source_model.may_leave source (left_of s))
    (fit : (source : S) (l : CrashState) → source_model.may_leave source l → source_model.honest source → IsFitHistory l.history) (may_groups : (sink : K) (groups : List (List Record)) → sink_model.holds sink groups → sink_model.may_leave sink groups)
    (seen_may : (disk : D) (bytes : List ℕ) → model.seen disk ≡ Some bytes → model.may_leave disk bytes) where
  -- what is left follows from what was found, by the offset that the store answers
  stored_is : (entry : SessionStart) (new_src : S) (new_sink : K) (new_store : StoreOn D) → LeavesGoing source_model.may_leave sink_model.may_leave model entry new_src new_sink new_store → WasFaithful entry
      → HoldsOffset model new_store new_store.offset → (groups : List (List Record)) → sink_model.holds new_sink groups → (offset : Offset) (t : SourceState) → new_store.offset ≡ Some offset → source_model.stands new_src t
      → IsOffsetOf t.history t.confirmed (joined groups) offset
  stored_is entry new_src new_sink new_store leaves faithful held groups has offset t stored there =
      let stores = store_of model new_store new_store.offset held in
      let image = stores.bytes in
      let may_image = seen_may (disk_of new_store) image stores.told in
      let left = leaves.follows faithful image may_image in
      let own = held_left model new_store new_store.offset held image may_image in
      let same : left.0 ≡ Some offset = one_store image left.0 own.0 left.1 own.1 ∙ own.2 ∙ stored in
      let follows = left.2 (left_of t) groups (may new_src t there) (may_groups new_sink groups has) in
      let faithful_is : IsFaithful t.history t.confirmed (joined groups) (Some offset) = subst (IsFaithful t.history t.confirmed (joined groups)) same follows.faithful in
      faithful_is.lags.offset_is

  module _ (config : Config) (now : ℤ) (src new_src : S) (sink new_sink : K) (store new_store : StoreOn D) (report : Report)
      (entry : SessionStart) (asked : IsEntryOf config now entry) (found : Found source_model.stands sink_model.holds model entry src sink store) (kept_honest : source_model.honest new_src) (faithful : WasFaithful entry) where
    offset_told : (result : Result Ending Halt) → TellsHalts source_model sink_model model config now src new_src sink new_sink store new_store report result
        → IfErr result (λ h. (MayStillHalt h → ⊥) → IsOffsetOfThese new_store.offset (source_model.stands new_src) (sink_model.holds new_sink))
    offset_told (Ok ending) tells = tt
    offset_told (Err h) tells = λ none offset t stored there.
        let counted = counted_of sink_model.holds sink_model.may_leave entry.groups new_sink report h none (tells.counted entry.groups found.sink_is) in
        let before : HoldsOffset model store store.offset = subst (HoldsOffset model store) (sym found.store_is.offset_is) found.store_is in
        let held = tells.held before (not_offsets h none (Err h) refl) in
        let valid : IsFitHistory entry.history = subst IsFitHistory found.history (fit src (left_of found.standing) (may src found.standing found.source_is) (tells.source.honest kept_honest)) in
        let leaves = tells.faithful entry asked found kept_honest (own_so entry.history entry.confirmed (joined entry.groups) entry.offset valid faithful) in
        (entry.groups ++ counted.more, counted.held, stored_is entry new_src new_sink new_store leaves faithful held (entry.groups ++ counted.more) counted.held offset t stored there)

  pub faithful_sessions_end : FaithfulSessionsEnd source_model sink_model model
  faithful_sessions_end config now src new_src sink new_sink store new_store report result tells entry asked found kept_honest faithful =
      let s = found.standing in
      let offset_is : entry.offset ≡ store.offset = sym found.store_is.offset_is in
      ends entry config now s store.offset asked.config_is asked.now_is found.history found.confirmed offset_is new_store.offset report (source_model.told new_src) (source_model.stands new_src) (sink_model.holds new_sink) faithful result
      (subst IsFitHistory found.history (fit src (left_of s) (may src s found.source_is) (tells.source.honest kept_honest)))
      tells.halts (absent_first (source_model.stands new_src) s config.tables result (λ t at. (fit new_src (left_of t) (may new_src t at) kept_honest).unaltered) (tells.absent s found.source_is)) (tells.own s found.source_is kept_honest) (tells.content entry asked found kept_honest faithful) (tells.gone s found.source_is)
      (tells.missing s found.source_is kept_honest (within_so entry s store.offset found.history offset_is (rising src s found.source_is) faithful))
      (offset_told config now src new_src sink new_sink store new_store report entry asked found kept_honest faithful result tells)
