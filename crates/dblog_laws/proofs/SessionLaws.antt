-- A supported session over kept disks: each error but those of the outside is refused by what it met.
use Rattle.std.proofs.Common.{◌≡◌, inl, inr, ◌∙◌, ◌≤◌, ℕ, ℤ, Option, Some, None, Ok, Err, List, [], ◌∷◌, map, refl, sym, ap, subst}
use Rattle.std.specs.Prelude.{IfErr}
use Rattle.std.specs.List.{AllByRecursion}
use Rattle.dbl_base.specs.declared.lsn.Lsn.{Lsn}
use Rattle.dbl_base.specs.Lines.{lines_text}
use Rattle.dbl_pgmsg.specs.declared.messages.Message.{Message}
use Rattle.dbl_model_table.specs.declared.config.Config.{Config}
use Rattle.dbl_model_table.specs.declared.table.TableInfo.{TableInfo}
use Rattle.dbl_model_table.specs.declared.table.TableName.{TableName}
use Rattle.dbl_model_commit.specs.declared.txn_error.TxnError.{TxnError}
use Rattle.dbl_model_commit.specs.Blocks.{AreWithoutFault}
use Rattle.dbl_source_model.specs.Growth.{KeepsColumns}
use Rattle.dbl_source_model.specs.Standings.{Reading}
use Rattle.dbl_offset_content.specs.declared.offset.Offset.{Offset}
use Rattle.dbl_offset.proofs.StoreLaws.{one_store}
use Rattle.dbl_faithful.specs.Lag.{IsOffsetOf}
use Rattle.dbl_faithful.specs.Faithful.{IsFaithful, IsFaithfulTo}
use Rattle.dblog_run.specs.CaptureWork.declared.halt.Halt.{Halt}
use Rattle.dblog_run.specs.CaptureWork.declared.halt.Halt.TheVariants as halt
use Rattle.dblog_run.specs.CaptureWork.declared.report.Ending.{Ending}
use Rattle.dblog_run.specs.CaptureWork.declared.report.Ending.TheVariants.{Complete, Budget}
use Rattle.dblog_run.specs.CaptureWork.declared.report.Report.{Report}
use Rattle.dblog_run.specs.CaptureLaws.Halted.{IsTxnFault}
use Rattle.dblog_laws.specs.Supported.{CanBegin}
use Rattle.dbl_demo_wal.specs.Wals.{IsWal}
use Rattle.dbl_demo_wal.proofs.FitLaws.{wal_has_fit_history}
use Rattle.dblog_laws.proofs.CellLaws.{not_cell}
use Rattle.dblog_laws.proofs.MoveLaws.{read_moves, without_fault}
use Rattle.dblog_laws.proofs.Ending.{first_captures, not_absent, not_clash, not_exhausted, not_long, not_model, not_offset}
use Rattle.dblog_run.specs.Promise.Restarts.{restart_at}
use Rattle.dblog_run.specs.Init.declared.error.Store.TheVariants.{Wal, Topics, Offsets}
use Rattle.dblog_run.specs.CaptureLaws.Reported.{BeginsAfter}
use Rattle.dblog_run.specs.CaptureLaws.Found.{IsFirstStored}
use Rattle.dblog_run.specs.CaptureLaws.Sessions.{Captures}
use Rattle.dbl_model_history.specs.Fit.{AreInfosOf}
use Rattle.dbl_model_history.specs.History.{History, RawCommit}
use Rattle.dblog_run.proofs.WindowHonestLemmas.{captured_stays}
use Rattle.dblog_run.specs.Promise.Causes.{HasRead, IsCauseOf, IsHaltByLog, IsKeptHalt, standing_left}
use Rattle.dblog_run.specs.Promise.Contents.{Contents, confirmed_at, found_in, history_at, records_of_contents}
use Rattle.dblog_run.specs.Promise.Kept.{IsKept}
use Rattle.dblog_run.proofs.PromiseKeptLaws.{disks_are_read_once}
use Rattle.dblog_run.specs.Connect.declared.asked.Asked.{Asked}
use Rattle.dblog_run.specs.Connect.declared.asked.Asked.TheVariants.{First, Again}
use Rattle.dblog_run.specs.Connect.ConnectEnds.declared.error.ConnectError.{ConnectError}
use Rattle.dblog_run.specs.Connect.ConnectEnds.declared.error.ConnectError.TheVariants as connect
use Rattle.dblog_run.specs.Connect.ConnectEnds.declared.error.ConnectError.TheVariants.{Halted}
use Rattle.dblog_run.specs.Connect.Asked.{Refuses, asks_in, asks_of, workload_tables}
use Rattle.dblog_run.specs.Connect.Ends.{ConnectEnd, EndsBefore, EndsWithHalt, IsKeptError, IsRefused, no_source, no_log, no_offset, not_asked}
use Rattle.dblog_run.specs.Connect.Errors.{IsConnectError, IsExternalConnectError, IsOwnHalt}
use Rattle.dblog_run.specs.Connect.Refusals.{ExceedsMaximum}
use Rattle.dblog_run.specs.Capture.Reports.{ending_status}
use Rattle.dbl_lines.specs.declared.status.Status.{Status}
use Rattle.dbl_lines.specs.declared.status.Status.TheVariants.{RecordRefused}
use Rattle.dbl_lines.specs.Says.{Writes}
use Rattle.dblog_run.specs.Capture.Ends.{SaysSession, connect_line, connect_status}
use Rattle.dblog_laws.specs.RunLaws.{SupportedRunsSucceed, SupportedSessionsSucceed}
use Rattle.dblog_laws.specs.Sessions.{ReadsFromOffset, IsSessionDone, IsSupportedOver, IsSupportedRun, MayHaveRead, NoneFailed, NoneRefused}

-- ---- what it met

not_faulty : (infos : List TableInfo) (reading : Reading) (number : ℕ) (error : TxnError) → AreWithoutFault infos reading.after reading.messages → IsTxnFault infos reading number error → ⊥
not_faulty infos reading number error clean fault =
    let all = subst (λ (ms : List Message). AreWithoutFault infos reading.after ms) fault.newest clean in
    let wrong : None ≡ Some error = sym all.0 ∙ fault.fault in
    cc

-- where a session reads, by what it found and what it stored
reads_from : (config : Config) (history : History) (found stored : Option Offset) (infos : List TableInfo) (after : Lsn) → IsFirstStored config history found stored → BeginsAfter found stored infos after
    → Captures config history found infos × ReadsFromOffset history found after
reads_from config history (Some offset) stored infos after first begins = begins
reads_from config history None None infos after first begins = absurd begins
reads_from config history None (Some begun) infos after first begins = (
  (
    ap (map (λ (info : TableInfo). info.name)) begins.0 ∙ first.is.tables,
    captured_stays first.later history infos (sym first.grown.tables) (subst (AreInfosOf first.later) (sym begins.0) first.infos),
  ),
  subst (λ (l : Lsn). AllByRecursion (λ (commit : RawCommit). commit.lsn.0 ≤ l.0) history.commits) (sym begins.1) first.is.not_before,
)

module _ (config : Config) (now : ℤ) (old left : Contents) (begins : CanBegin config (history_at old) old.offset) (supported : IsSupportedOver config now old left)
    (kept : IsKept left) (bytes : List ℕ) (wal : IsWal bytes left.wal) (stored : Option Offset) (left_is : left.offset ≡ stored) (report : Report)
    (first : IsFirstStored config (history_at old) old.offset stored) (unaltered : KeepsColumns (history_at old)) where
  -- the offset that it stored last is one to what it leaves
  of_left : (offset : Offset) → stored ≡ Some offset → IsOffsetOf (history_at left) (confirmed_at left) (records_of_contents left) offset
  of_left offset is =
      let faithful : IsFaithfulTo (history_at left) (confirmed_at left) (records_of_contents left) offset = subst (IsFaithful (history_at left) (confirmed_at left) (records_of_contents left)) (left_is ∙ is) kept.faithful in
      faithful.lags.offset_is

  may_have : (reading : Reading) → HasRead config old.offset stored left.wal reading → MayHaveRead old left.wal reading
  may_have reading was = record {
    from = (reads_from config (history_at old) old.offset stored was.by.offset.infos reading.after first was.begins_after).1;
    rest = was.rest;
    front = was.front;
  }

  not_txn : (number : ℕ) (error : TxnError) → IsHaltByLog config now old.offset stored report left.wal (halt.Txn number error) → ⊥
  not_txn number error halted =
      let infos = halted.was.by.offset.infos in
      let captures = (reads_from config (history_at old) old.offset stored infos halted.reading.after first halted.was.begins_after).0 in
      let moved = read_moves config old.offset stored left bytes wal kept left_is halted.reading halted.was in
      let none = supported.messages infos halted.reading captures (may_have halted.reading halted.was) in
      not_faulty infos halted.reading number error (without_fault infos halted.reading.after halted.reading.messages moved none) halted.is

  never : (h : Halt) → IsOwnHalt h → IsKeptHalt config now old stored report left h → IsCauseOf config now old stored report left.wal h → ⊥
  never halt.Source own kept cause = absurd own
  never halt.Sink own kept cause = absurd own
  never halt.Offsets own kept cause = absurd own
  never halt.Memory own kept cause = absurd own
  never (halt.Message number error) own kept cause = absurd kept
  never (halt.Txn number error) own kept cause = absurd (not_txn number error cause.0)
  never (halt.Chunk table row) own kept cause = absurd kept
  never (halt.Altered table) own kept cause = absurd kept
  never (halt.Cell table column error) own kept cause =
      absurd (not_cell config now old stored report left bytes table column error wal kept)
  never (halt.Clash table column) own kept cause =
      let clash = kept.5 in
      absurd (not_clash (restart_at config now (found_in old)) (standing_left left) (records_of_contents left) kept.3 report kept.0 (halt.Clash table column) clash (supported.commits clash.infos kept.0 clash.captured (may_have kept.0 kept.1))
      (supported.windows clash.infos clash.captured) (of_left kept.3 kept.4))
  never (halt.RecordTooLong len) own kept cause =
      let long = kept.5 in
      absurd (not_long (restart_at config now (found_in old)) (standing_left left) (records_of_contents left) kept.3 report kept.0 (halt.RecordTooLong len) long (supported.commits long.infos kept.0 long.captured (may_have kept.0 kept.1))
      (supported.windows long.infos long.captured) (of_left kept.3 kept.4))
  never (halt.OffsetTooLong len) own kept cause =
      absurd (not_offset (restart_at config now (found_in old)) (standing_left left) (records_of_contents left) (halt.OffsetTooLong len) supported.offsets kept)
  never (halt.Model error) own kept cause = absurd (not_model config.tables (history_at old) unaltered (first_captures config (history_at old) old.offset cause.0 begins) error cause.1)
  never (halt.UnknownTable table) own kept cause = absurd (not_absent config.tables (history_at old) unaltered (first_captures config (history_at old) old.offset cause.0 begins) table cause.1)
  never (halt.Gone asked first) own kept cause = absurd kept
  never (halt.WatermarkMissing value at) own kept cause = absurd kept
  never (halt.Exhausted incarnation) own kept cause = absurd (not_exhausted config (history_at old) old.offset (halt.Exhausted incarnation) begins cause)

-- ---- it could begin

not_both : (asked : Asked) (all : List TableName) (offset : Option Offset) (config : Config) (e : ConnectError) → Refuses asked offset e → asks_of asked all offset ≡ Some config → ⊥
not_both (First options) all None config e refuses asks = refuses
not_both (First options) all (Some offset) config e refuses asks = let wrong : None ≡ Some config = asks in cc
not_both (Again options) all None config e refuses asks = let wrong : None ≡ Some config = asks in cc
not_both (Again options) all (Some offset) config e refuses asks = refuses

module _ (asked : Asked) (now : ℤ) (wals logs stores : List ℕ → Type 0) (w t f : List ℕ) (run : IsSupportedRun asked now wals logs stores w t f) where
  not_refused : (e : ConnectError) → IsKeptError asked now wals logs stores w t f e → IsRefused asked w t f e → ⊥
  not_refused e kept (no_source (inl fault)) = subst (IsKeptError asked now wals logs stores w t f) fault.1 kept
  not_refused e kept (no_source (inr bad)) = subst (IsKeptError asked now wals logs stores w t f) bad.1 kept
  not_refused e kept (no_log wal is (inl fault)) = subst (IsKeptError asked now wals logs stores w t f) fault.1 kept
  not_refused e kept (no_log wal is (inr bad)) = subst (IsKeptError asked now wals logs stores w t f) bad.1 kept
  not_refused e kept (no_offset wal groups is log (inl fault)) = subst (IsKeptError asked now wals logs stores w t f) fault.1 kept
  not_refused e kept (no_offset wal groups is log (inr bad)) = subst (IsKeptError asked now wals logs stores w t f) bad.1 kept
  not_refused e kept (not_asked held read refuses) =
      let same : run.begun.held ≡ held = disks_are_read_once w t f run.begun.held held run.begun.read read in
      let asks : asks_in asked held ≡ Some run.begun.config = subst (λ (c : Contents). asks_in asked c ≡ Some run.begun.config) same run.begun.asks in
      not_both asked (workload_tables held.wal) held.offset run.begun.config e refuses asks

  -- by what it halted for over kept disks, which is as is said of it over all
  halted_so : (e : ConnectError) → IsConnectError e → IsKeptError asked now wals logs stores w t f e → EndsWithHalt asked now wals logs stores w t f e → IsExternalConnectError e
  halted_so e kind kept_error told =
      let begun = run.begun in
      let may = run.may in
      let kept_halt = subst (IsKeptError asked now wals logs stores w t f) told.is kept_error in
      let halted = kept_halt.halted in
      let halts : Halted told.halt ≡ Halted halted.halt = halted.is in
      let one_halt : halted.halt ≡ told.halt = cc in
      let same : halted.begun.held ≡ begun.held = disks_are_read_once w t f halted.begun.held begun.held halted.begun.read begun.read in
      let asked_so : Some halted.begun.config ≡ Some begun.config = sym halted.begun.asks ∙ ap (λ (c : Contents). asks_in asked c) same ∙ begun.asks in
      let one : halted.begun.config ≡ begun.config = cc in
      let cause_told = subst (IsCauseOf halted.begun.config now halted.begun.held halted.stored halted.report run.left.wal) one_halt (halted.cause may.w run.left.wal may.wal may.read.source) in
      let cause_here = subst (λ (c : Contents). IsCauseOf halted.begun.config now c halted.stored halted.report run.left.wal told.halt) same cause_told in
      let cause = subst (λ (c : Config). IsCauseOf c now begun.held halted.stored halted.report run.left.wal told.halt) one cause_here in
      let kept_told = kept_halt.each may.w may.t may.f run.left may.wal may.topics may.offsets may.read in
      let kept_here = subst (λ (c : Contents). IsKeptHalt halted.begun.config now c halted.stored halted.report run.left told.halt) same kept_told in
      let found = subst (λ (c : Config). IsKeptHalt c now begun.held halted.stored halted.report run.left told.halt) one kept_here in
      let own = subst IsConnectError told.is kind in
      let left_is : run.left.offset ≡ halted.stored = one_store may.f run.left.offset halted.stored may.read.store (halted.store may.f may.offsets) in
      let of_begun = subst (λ (c : Config). IsFirstStored c (history_at halted.begun.held) halted.begun.held.offset halted.stored) one halted.first in
      let first = subst (λ (c : Contents). IsFirstStored begun.config (history_at c) c.offset halted.stored) same of_begun in
      absurd (never begun.config now begun.held run.left run.can run.supported run.kept may.w may.read.source halted.stored left_is halted.report first (wal_has_fit_history w begun.held.wal begun.read.source).unaltered told.halt own found cause)

  ended : (e : ConnectError) → IsConnectError e → IsKeptError asked now wals logs stores w t f e → EndsBefore asked now wals logs stores w t f e → IsExternalConnectError e
  ended e kind kept (inl outside) = outside
  ended e kind kept (inr (inl refused)) = absurd (not_refused e kept refused)
  ended e kind kept (inr (inr halted)) = halted_so e kind kept halted

pub supported_sessions_succeed : (wals logs new_wals new_logs new_stores : List ℕ → Type 0) → SupportedSessionsSucceed wals logs new_wals new_logs new_stores
supported_sessions_succeed wals logs new_wals new_logs new_stores asked now w t f (Ok summary) answers kept kind run = tt
supported_sessions_succeed wals logs new_wals new_logs new_stores asked now w t f (Err e) answers kept kind run =
    ended asked now new_wals new_logs new_stores w t f run e kind kept.never answers.told

-- ---- its status

by_ending : (ending : Ending) (status : Status) → status ≡ ending_status ending → IsSessionDone status
by_ending Complete status is = inl is
by_ending Budget status is = inr (inl is)

refuses_none : (asked : Asked) (status : Status) (position ordinal : ℕ) → NoneRefused asked status → status ≡ RecordRefused
    → ExceedsMaximum asked (connect.Refused position ordinal) → ⊥
refuses_none asked status position ordinal (inl unlimited) is exceeds = let wrong : None ≡ Some exceeds.0 = sym unlimited ∙ exceeds.1 in cc
refuses_none asked status position ordinal (inr other) is exceeds = other is

module _ (asked : Asked) (status : Status) (before after : Option (List ℕ)) (none : NoneFailed status) (unrefused : NoneRefused asked status) where
  by_error : (e : ConnectError) → IsExternalConnectError e → ExceedsMaximum asked e → Writes (connect_status e) (lines_text (connect_line e ∷ [])) status before after → IsSessionDone status
  by_error e may exceeds (inr cut) = absurd (none.output cut.0)
  by_error (connect.Failed Wal) may exceeds (inl said) = absurd (none.wal said.0)
  by_error (connect.Failed Topics) may exceeds (inl said) = absurd (none.topics said.0)
  by_error (connect.Failed Offsets) may exceeds (inl said) = absurd (none.offsets said.0)
  by_error (connect.NotAStore store at) may exceeds (inl said) = absurd may
  by_error (connect.BadEntry store index) may exceeds (inl said) = absurd may
  by_error connect.AlreadyStarted may exceeds (inl said) = absurd may
  by_error connect.NotStarted may exceeds (inl said) = absurd may
  by_error (connect.Halted h) may exceeds (inl said) = absurd may
  by_error (connect.Refused position ordinal) may exceeds (inl said) = absurd (refuses_none asked status position ordinal unrefused said.0 exceeds)
  by_error connect.Memory may exceeds (inl said) = inr (inr said.0)

  by_end : (end : ConnectEnd) → IfErr end IsExternalConnectError → IfErr end (ExceedsMaximum asked) → SaysSession end status before after → IsSessionDone status
  by_end end may exceeds (inr (inl said)) = inr (inr said.0)
  by_end end may exceeds (inr (inr cut)) = absurd (none.output cut.0)
  by_end (Ok summary) may exceeds (inl (inl said)) = by_ending summary.ending status said.0
  by_end (Ok summary) may exceeds (inl (inr cut)) = absurd (none.output cut.0)
  by_end (Err e) may exceeds (inl writes) = by_error e may exceeds writes

pub supported_runs_succeed : (wals logs stores new_wals new_logs new_stores : List ℕ → Type 0) → SupportedRunsSucceed wals logs stores new_wals new_logs new_stores
supported_runs_succeed wals logs stores new_wals new_logs new_stores asked now told_wal told_topics told_offsets status before after runs kept w t f wal_is topics_is offsets_is run none unrefused =
    let may = supported_sessions_succeed wals logs new_wals new_logs new_stores asked now w t f runs.end (runs.answers w t f wal_is topics_is offsets_is) (runs.kept kept w t f wal_is topics_is offsets_is) runs.kinds run in
    by_end asked status before after none unrefused runs.end may runs.exceeds runs.says
