-- A session that met nothing that isn't supported: each halt for what it met is refused by what it met.
use Rattle.std.proofs.Common.{◌≡◌, ◌∙◌, ◌⊎◌, inl, inr, ℕ, ◌≤◌, ◌^◌, Option, Some, None, List, [], ◌∷◌, ◌++◌, length, Ok, Err, refl, sym, ap, subst, arith}
use Rattle.std.specs.Prelude.{slice_get}
use Rattle.std.specs.List.{AllByRecursion}
use Rattle.dbl_pgmsg.specs.declared.messages.Message.{Message}
use Rattle.dbl_value_types.specs.declared.error.ValueError.{ValueError}
use Rattle.dbl_record.specs.declared.record.Record.{Record}
use Rattle.dbl_record.specs.Groups.{group_form}
use Rattle.dbl_model_table.specs.declared.config.Config.{Config}
use Rattle.dbl_model_table.specs.declared.error.ModelError.{ModelError}
use Rattle.dbl_model_table.specs.declared.table.RawTable.{RawTable}
use Rattle.dbl_model_table.specs.declared.table.TableInfo.{TableInfo}
use Rattle.dbl_model_table.specs.declared.table.TableName.{TableName}
use Rattle.dbl_model_table.specs.Made.{table_fault}
use Rattle.dbl_model_history.specs.History.{History, entry_of}
use Rattle.dbl_model_commit.specs.declared.txn_error.TxnError.{TxnError}
use Rattle.dbl_model_commit.specs.Blocks.{AreWithoutFault}
use Rattle.dbl_model_event.specs.declared.closed.Closed.{Closed}
use Rattle.dbl_model_event.specs.Clashes.{Clash, clash_of, snapshot_clash}
use Rattle.dbl_model_event.specs.EventJson.{envelopes}
use Rattle.dbl_model_event.specs.Snapshots.{snapshot}
use Rattle.dbl_faithful.proofs.Items.{at_all}
use Rattle.dbl_source_model.specs.Growth.{KeepsColumns}
use Rattle.dbl_source_model.specs.Standings.{Reading, SourceState}
use Rattle.dbl_source_model.specs.Trace.{Trace}
use Rattle.dbl_source_model.proofs.PlainLemmas.{entry_kept}
use Rattle.dbl_offset_content.specs.declared.offset.Offset.{Offset}
use Rattle.dbl_faithful.specs.Lag.{IsOffsetOf}
use Rattle.dblog_run.specs.CaptureModel.Entries.{SessionStart}
use Rattle.dblog_run.specs.CaptureWork.declared.halt.Halt.{Halt}
use Rattle.dblog_run.specs.CaptureWork.declared.halt.Halt.TheVariants as halt
use Rattle.dblog_run.specs.CaptureWork.declared.report.Report.{Report}
use Rattle.dblog_run.specs.CaptureWork.Begins.{CanBeCaptured, HadEntry, IsAbsentHalt, IsExhausted, IsFirstAtFault}
use Rattle.dblog_run.specs.CaptureWork.Causes.{IsLongRecord}
use Rattle.dblog_run.specs.CaptureWork.Takes.{IsClashIn}
use Rattle.dblog_run.specs.CaptureWork.Works.{AreShort}
use Rattle.dblog_run.specs.CaptureLaws.Nevers.{IsOwnCell, IsOwnClash, IsOwnClosed, IsOwnLong, IsOwnOffset, IsOwnTxnFault}
use Rattle.dblog_run.specs.CaptureLaws.Stored.{session_identity}
use Rattle.dbl_record.specs.Cuts.{joined}
use Rattle.dblog_laws.specs.SessionLaws.{SaysWhy, SupportedSessionsEnd}
use Rattle.dbl_demo_wal_laws.specs.Readable.{RowsAreReadable}
use Rattle.dblog_laws.specs.Supported.{CanBegin, CanSend, HasMetSupported, IsClean, MayStillHalt, OffsetsAreShort, WindowsAreSupported}

-- ---- it could begin

among : (before after : List TableName) (name : TableName) (history : History) → AllByRecursion (CanBeCaptured history) (before ++ name ∷ after) → CanBeCaptured history name
among [] after name history all = all.0
among (other ∷ before) after name history all = among before after name history all.1

pub at_fault : (names : List TableName) (history : History) (name : TableName) → AllByRecursion (CanBeCaptured history) names → IsFirstAtFault names history name → CanBeCaptured history name
at_fault names history name all first = among first.before first.after name history (subst (AllByRecursion (CanBeCaptured history)) first.parted all)

-- an entry that the catalogue had is its first one
first_entry : (history : History) (name : TableName) (raw : RawTable) → KeepsColumns history → HadEntry history name raw → entry_of history name ≡ Some raw
first_entry history name raw kept had = sym (entry_kept history had.place name kept) ∙ had.is

pub not_absent : (names : List TableName) (history : History) → KeepsColumns history → AllByRecursion (CanBeCaptured history) names → (name : TableName) → IsAbsentHalt names history (halt.UnknownTable name) → ⊥
not_absent names history kept all name absent =
    let can = at_fault names history name all absent.0 in
    let wrong : Some can.raw ≡ None = sym (first_entry history name can.raw kept can.entry) ∙ absent.1 in
    cc

pub not_model : (names : List TableName) (history : History) → KeepsColumns history → AllByRecursion (CanBeCaptured history) names → (error : ModelError) → IsAbsentHalt names history (halt.Model error) → ⊥
not_model names history kept all error absent =
    let can = at_fault names history absent.0 all absent.2 in
    let same : Some can.raw ≡ Some absent.1 = sym (first_entry history absent.0 can.raw kept can.entry) ∙ first_entry history absent.0 absent.1 kept absent.3 in
    let raw : can.raw ≡ absent.1 = cc in
    let wrong : None ≡ Some error = sym can.clean ∙ ap (λ (r : RawTable). table_fault r) raw ∙ absent.4 in
    cc

pub first_captures : (config : Config) (history : History) (offset : Option Offset) → offset ≡ None → CanBegin config history offset → AllByRecursion (CanBeCaptured history) config.tables
first_captures config history None none begins = begins
first_captures config history (Some offset) none begins = absurd (let wrong : Some offset ≡ None = none in cc)

pub not_exhausted : (config : Config) (history : History) (offset : Option Offset) (h : Halt) → CanBegin config history offset → IsExhausted offset h → ⊥
not_exhausted config history None h begins exhausted = exhausted
not_exhausted config history (Some offset) h begins exhausted = omega (arith, begins, exhausted.0)

-- ---- content

pub not_fault : (infos : List TableInfo) (t : SourceState) (number : ℕ) (error : TxnError) → IsClean infos t.reading → IsOwnTxnFault infos t number error → ⊥
not_fault infos t number error clean own =
    let all = subst (λ (ms : List Message). AreWithoutFault infos own.reading.after ms) own.fault.newest (clean own.reading own.reading_is) in
    let wrong : None ≡ Some error = sym all.0 ∙ own.fault.fault in
    cc

pub not_unreadable : (infos : List TableInfo) (history : History) (table : TableName) (column : List ℕ) (error : ValueError) → RowsAreReadable infos history → IsOwnCell infos history table column error → ⊥
not_unreadable infos history table column error readable own =
    let cell = own.cell in
    let clean = readable cell.place own.plan.table own.plan.info cell.key cell.cells own.captured.here cell.row cell.number cell.column cell.text cell.column_is cell.cell in
    let wrong : None ≡ Some error = sym clean ∙ cell.fault in
    cc

pub no_clash : (clash : Option Clash) (h : Halt) → clash ≡ None → IsClashIn clash h → ⊥
no_clash None h none is = is
no_clash (Some clash) h none is = absurd (let wrong : Some clash ≡ None = none in cc)

pub not_clash : (entry : SessionStart) (t : SourceState) (records : List Record) (offset : Offset) (report : Report) (reading : Reading) (h : Halt) (own : IsOwnClash entry offset report t.history reading h) → CanSend entry t.history own.infos reading
    → WindowsAreSupported entry t records own.infos → IsOffsetOf t.history t.confirmed records offset → ⊥
not_clash entry t records offset report reading h own can windows of = by own.clash
  where
    by : IsClashIn (clash_of (session_identity entry) own.infos own.newest.commit) h
        ⊎ ((closed : Closed) × IsOwnClosed own.infos entry.config.chunk offset report t.history own.newest.place closed
        × IsClashIn (snapshot_clash (session_identity entry) own.infos closed) h) → ⊥
    by (inl clash) = no_clash (clash_of (session_identity entry) own.infos own.newest.commit) h (can own.newest).clear clash
    by (inr window) = no_clash (snapshot_clash (session_identity entry) own.infos window.0) h (windows offset report own.newest.place window.0 of window.1).clear window.2

pub short_one : (records : List Record) (h : Halt) → AreShort records → IsLongRecord records h → ⊥
short_one records h short long =
    let fits : length (group_form (long.item ∷ [])) ≤ 2 ^ 28 = at_all (λ (item : Record). length (group_form (item ∷ [])) ≤ 2 ^ 28) records long.place long.item short long.stands in
    omega (arith, fits, long.long)

pub not_long : (entry : SessionStart) (t : SourceState) (records : List Record) (offset : Offset) (report : Report) (reading : Reading) (h : Halt) (own : IsOwnLong entry offset report t.history reading h) → CanSend entry t.history own.infos reading
    → WindowsAreSupported entry t records own.infos → IsOffsetOf t.history t.confirmed records offset → ⊥
not_long entry t records offset report reading h own can windows of = by own.long
  where
    by : IsLongRecord (envelopes (session_identity entry) own.infos own.newest.commit entry.now) h
        ⊎ ((closed : Closed) × IsOwnClosed own.infos entry.config.chunk offset report t.history own.newest.place closed
        × IsLongRecord (snapshot (session_identity entry) own.infos closed own.newest.commit entry.now) h) → ⊥
    by (inl long) = short_one (envelopes (session_identity entry) own.infos own.newest.commit entry.now) h (can own.newest).short long
    by (inr window) = short_one (snapshot (session_identity entry) own.infos window.0 own.newest.commit entry.now) h ((windows offset report own.newest.place window.0 of window.1).short own.newest.commit own.newest.stands) window.2

pub not_offset : (entry : SessionStart) (t : SourceState) (records : List Record) (h : Halt) → OffsetsAreShort entry t records → IsOwnOffset entry t records h → ⊥
not_offset entry t records h short own =
    let fits = short own.offset own.identity own.captured own.is in
    omega (arith, fits, own.long.long)

-- ---- each halt

module _ (entry : SessionStart) (stored : Option Offset) (report : Report) (told : Option Trace) (stands : SourceState → Type 0) (holds : List (List Record) → Type 0)
    (begins : CanBegin entry.config entry.history entry.offset) (met : HasMetSupported entry stands holds) where
  pub outside : (h : Halt) → SaysWhy entry stored report told stands holds (Err h) → MayStillHalt h
  outside halt.Source why = tt
  outside halt.Sink why = tt
  outside halt.Offsets why = tt
  outside halt.Memory why = tt
  outside (halt.Message number error) why = why.own
  outside (halt.Txn number error) why = not_fault why.own.2 why.own.0 number error (met.messages why.own.0 why.own.2 why.own.1 why.own.3) why.own.4
  outside (halt.Chunk table row) why = why.own
  outside (halt.Altered table) why = why.own
  outside (halt.Cell table column error) why = not_unreadable why.own.2 why.own.0.history table column error (met.cells why.own.0 why.own.2 why.own.1 why.own.3) why.own.4
  outside (halt.Clash table column) why =
      let own = why.content.6 in
      let these = why.offset (λ may. may) why.content.4 why.content.0 why.content.5 why.content.1 in
      not_clash entry why.content.0 (joined these.0) why.content.4 report why.content.2 (halt.Clash table column) own (met.commits why.content.0 own.infos why.content.2 why.content.1 own.captured why.content.3)
      (met.windows why.content.0 these.0 own.infos why.content.1 these.1 own.captured) these.2
  outside (halt.RecordTooLong len) why =
      let own = why.content.6 in
      let these = why.offset (λ may. may) why.content.4 why.content.0 why.content.5 why.content.1 in
      not_long entry why.content.0 (joined these.0) why.content.4 report why.content.2 (halt.RecordTooLong len) own (met.commits why.content.0 own.infos why.content.2 why.content.1 own.captured why.content.3)
      (met.windows why.content.0 these.0 own.infos why.content.1 these.1 own.captured) these.2
  outside (halt.OffsetTooLong len) why = not_offset entry why.content.0 (joined why.content.2) (halt.OffsetTooLong len) (met.offsets why.content.0 why.content.2 why.content.1 why.content.3) why.content.4
  outside (halt.Model error) why = not_model entry.config.tables entry.history why.fit.unaltered (first_captures entry.config entry.history entry.offset why.cause.0 begins) error why.absent
  outside (halt.UnknownTable table) why = not_absent entry.config.tables entry.history why.fit.unaltered (first_captures entry.config entry.history entry.offset why.cause.0 begins) table why.absent
  outside (halt.Gone asked first) why = why.gone asked first refl
  outside (halt.WatermarkMissing value at) why = why.missing value at refl
  outside (halt.Exhausted incarnation) why = not_exhausted entry.config entry.history entry.offset (halt.Exhausted incarnation) begins why.cause.1

module _ {S K : Type 0} (stands : S → SourceState → Type 0) (holds : K → List (List Record) → Type 0) where
  pub supported_sessions_end : SupportedSessionsEnd stands holds
  supported_sessions_end entry stored report told src sink (Ok ending) why begins met = tt
  supported_sessions_end entry stored report told src sink (Err h) why begins met = outside entry stored report told (stands src) (holds sink) begins met h why
