-- What a session amounts to over opened stores, where they are kept and where not.
use Rattle.std.proofs.Common.{◌≤◌, ◌≡◌, ◌∙◌, ◌⊎◌, inl, inr, ℕ, ℤ, ◌+◌, ◌==◌, Bool, false, if◌then◌else◌, arith, ◌++◌, Option, Some, None, List, length, Result, Ok, Err, refl, sym, ap, subst}
use Rattle.std.specs.Prelude.{IfSome, is_some}
use Rattle.std.specs.List.{AllByRecursion}
use Rattle.dbl_base.specs.declared.lsn.Lsn.{Lsn}
use Rattle.dbl_record.specs.declared.record.Record.{Record}
use Rattle.dbl_hooks_gate.specs.Gates.{AddsAllowed}
use Rattle.dbl_disk.specs.Model.{DiskModel}
use Rattle.dbl_model_table.specs.declared.config.Config.{Config}
use Rattle.dbl_journal.specs.Stored.{OnDisk}
use Rattle.dbl_model_history.specs.History.{IsRising}
use Rattle.dbl_demo.specs.SourceLog.declared.reader_position.ReaderPosition.{ReaderPosition}
use Rattle.dbl_demo.proofs.SourceLogLogLemmas.{is_rising}
use Rattle.dbl_model_commit.specs.Past.{last_lsn}
use Rattle.dbl_demo.specs.SourceModel.Calls.{IsConfirmedUpTo, Moved}
use Rattle.dbl_demo.specs.SourceModel.Standings.{CrashState, Reading, SourceState}
use Rattle.dbl_demo.specs.SourceModel.Stated.{commits_after}
use Rattle.dbl_topic.specs.Held.{HoldsGroups}
use Rattle.dbl_topic.specs.Logs.{IsLog}
use Rattle.dbl_topic.specs.SinkLaws.{log_of, only_held}
use Rattle.dbl_offset_content.specs.declared.offset.Offset.{Offset}
use Rattle.dbl_offset.specs.Stores.{IsStore, StoreOn, StoresOffset, disk_of}
use Rattle.dbl_offset.proofs.StoreLaws.{store_of}
use Rattle.dbl_demo.specs.DemoWal.Sound.{logged_in}
use Rattle.dbl_demo.specs.DemoWal.Standings.{confirmed_of, history_in, left_in, standing_in, tables_of}
use Rattle.dbl_demo.specs.DemoWal.Wals.{IsWal, Wal}
use Rattle.dbl_demo.specs.DemoLaws.Demo.{Demo, IsDemo, HasDemoState}
use Rattle.dbl_demo.specs.DemoLaws.SourceLaws.{wal_of}
use Rattle.dbl_capture.specs.CaptureModel.Entries.{SessionStart}
use Rattle.dbl_capture.specs.CaptureWork.declared.halt.Halt.{Halt}
use Rattle.dbl_capture.specs.CaptureWork.declared.halt.Halt.TheVariants as halt
use Rattle.dbl_capture.specs.CaptureWork.declared.report.Ending.{Ending}
use Rattle.dbl_capture.specs.CaptureWork.declared.report.Ending.TheVariants.{Budget, Complete}
use Rattle.dbl_capture.specs.CaptureWork.declared.report.Report.{Report}
use Rattle.dbl_capture.specs.CaptureWork.Begins.{IsAbsentHalt}
use Rattle.dbl_capture.specs.CaptureLaws.Found as found
use Rattle.dbl_capture.specs.CaptureLaws.Sessions.{AddsFewOrNoMarks as AddsFewBy}
use Rattle.dbl_capture.specs.CaptureLaws.Gained.{Gains, HasCountedGroups, ReportsGroups as IsCounted}
use Rattle.dbl_capture.specs.CaptureLaws.Reported.{HasSettled}
use Rattle.dbl_capture.specs.CaptureLaws.Written.{EndsExactly, marks_more}
use Rattle.dblog_promise.specs.Restarts.{restart_at}
use Rattle.dblog_promise.proofs.Going.{faithful_entries_are_known}
use Rattle.dbl_capture.specs.CaptureLaws.Captured.{IsTableHalt}
use Rattle.dbl_capture.proofs.CaptureLawsAwaited.{stood_offsets_are_within}
use Rattle.dblog_promise.specs.Bounds.{GrowsByFewMarks}
use Rattle.dblog_promise.specs.Causes.{IsKeptHalt}
use Rattle.dblog_promise.specs.Contents.{Contents, HasOwnTables, ReadAs, found_in, history_at}
use Rattle.dblog_promise.specs.Kept.{AreKept, IsKept}
use Rattle.dblog_promise.specs.Reports.{IsWatermark}
use Rattle.dblog_promise.proofs.CountLaws.{small_logs_are_counted}
use Rattle.dblog_promise.proofs.KeptLaws.{disks_are_read_once}
use Rattle.dblog_promise.proofs.ReportLaws.{settled_reports_are_right}
use Rattle.dblog_promise.proofs.WholeLaws.{all_is_read}
use Rattle.dblog_connect.specs.declared.asked.Asked.{Asked}
use Rattle.dblog_connect_ends.specs.declared.error.ConnectError.{ConnectError}
use Rattle.dblog_connect_ends.specs.declared.error.ConnectError.TheVariants as error
use Rattle.dblog_connect_ends.specs.declared.error.ConnectError.TheVariants.{Halted}
use Rattle.dblog_connect.specs.Asked.{asks_in, rule_of}
use Rattle.dblog_connect.specs.Ends.{AddsFew, AreGained, EndsBefore, GainsRecords, HasBegun, HasClosedSent, EndsWithHalt, HasReadClean, HasRun, IsKeptError, IsReported, IsStoredLast, IsUngained}
use Rattle.dblog_connect_ends.specs.Errors.{IsExternalConnectError, IsOwnHalt, halt_error}
use Rattle.dblog_connect.specs.Followed.{AreFollowed, AreTallied, ComesByReading}
use Rattle.dblog_connect.specs.Refusals.{RefusesRecord}
use Rattle.dblog_connect.specs.Steps.{IsLogOf, IsSourceOf, IsStoreOf}
use Rattle.dblog_connect.proofs.Configs.{asks_budget}
use Rattle.dblog_connect.proofs.Causes.{IsHaltOver, cause_of, err_is, kept_halt, sent_front}
use Rattle.dblog_connect.proofs.Followed.{followed_read, refused_read, still_stands, tallied_read, unread_by}
use Rattle.dblog_connect.proofs.CrashState.{ended_store, ended_wal, image_of, left_store, ok_is, own_of, place_read, settled_of, source_kept}
use Rattle.dblog_connect.proofs.Opened.{found_of, held_by, left_wal, log_come, read_of, stood_first}
use Rattle.dblog_connect.proofs.Ran.{GainsAllowed, LogLeaves, Ran, SourceLeaves, TellsNext}

-- ---- halts

-- a halt is told as a disk's fault or as out of memory, or as itself
pub own_or : (h : Halt) → IsExternalConnectError (halt_error h) ⊎ ((halt_error h ≡ Halted h) × IsOwnHalt h)
own_or halt.Source = inl tt
own_or halt.Sink = inl tt
own_or halt.Offsets = inl tt
own_or halt.Memory = inl tt
own_or (halt.Message number error) = inr (refl, tt)
own_or (halt.Txn number error) = inr (refl, tt)
own_or (halt.Chunk table row) = inr (refl, tt)
own_or (halt.Altered table) = inr (refl, tt)
own_or (halt.Cell table column error) = inr (refl, tt)
own_or (halt.Clash table column) = inr (refl, tt)
own_or (halt.RecordTooLong len) = inr (refl, tt)
own_or (halt.OffsetTooLong len) = inr (refl, tt)
own_or (halt.Model error) = inr (refl, tt)
own_or (halt.UnknownTable table) = inr (refl, tt)
own_or (halt.Gone asked first) = inr (refl, tt)
own_or (halt.WatermarkMissing value at) = inr (refl, tt)
own_or (halt.Exhausted incarnation) = inr (refl, tt)

-- after a halt that isn't the sink's, it has what the report counts
counted_own : {K : Type 0} (holds may : K → List (List Record) → Type 0) (groups : List (List Record)) (sink : K) (report : Report) (h : Halt)
    → IsOwnHalt h → IsCounted {A = Ending} holds may groups (Err h) sink report → HasCountedGroups holds groups sink report
counted_own holds may groups sink report halt.Source own is = absurd own
counted_own holds may groups sink report halt.Sink own is = absurd own
counted_own holds may groups sink report halt.Offsets own is = absurd own
counted_own holds may groups sink report halt.Memory own is = absurd own
counted_own holds may groups sink report (halt.Message number error) own is = is
counted_own holds may groups sink report (halt.Txn number error) own is = is
counted_own holds may groups sink report (halt.Chunk table row) own is = is
counted_own holds may groups sink report (halt.Altered table) own is = is
counted_own holds may groups sink report (halt.Cell table column error) own is = is
counted_own holds may groups sink report (halt.Clash table column) own is = is
counted_own holds may groups sink report (halt.RecordTooLong len) own is = is
counted_own holds may groups sink report (halt.OffsetTooLong len) own is = is
counted_own holds may groups sink report (halt.Model error) own is = is
counted_own holds may groups sink report (halt.UnknownTable table) own is = is
counted_own holds may groups sink report (halt.Gone asked first) own is = is
counted_own holds may groups sink report (halt.WatermarkMissing value at) own is = is
counted_own holds may groups sink report (halt.Exhausted incarnation) own is = is

-- ---- positions

raised : (a b : ℕ) → b ≡ a + 1 → (a == b) ≡ false
raised a b is = grind (arith, is)

-- a session raises the incarnation by its first store
position_is : (config : Config) (old new : Option Offset) (offset : Offset) → new ≡ Some offset → found.IsStoredBy config old offset → found.position_of old new ≡ offset.lsn.0
position_is config None new offset is by = ap (found.position_of None) is
position_is config (Some old) new offset is by =
    ap (found.position_of (Some old)) is ∙ ap (λ (b : Bool). if b then 0 else offset.lsn.0) (raised old.incarnation offset.incarnation by.3)

-- a result is one error
err_one : (r : Result Ending Halt) (a b : Halt) → r ≡ Err a → r ≡ Err b → a ≡ b
err_one r a b one other =
    let both : Err a ≡ Err b = sym one ∙ other in
    cc

-- ---- what began

-- of any session that began over these bytes, this is what it found and was asked for
pub at_begun : (asked : Asked) (w t f : List ℕ) (P : Contents → Config → Type 0) (begun : HasBegun asked w t f) (old : Contents) (config : Config)
    → ReadAs w t f old → asks_in asked old ≡ Some config → P old config → P begun.held begun.config
at_begun asked w t f P begun old config read asks p =
    let same : old ≡ begun.held = disks_are_read_once w t f old begun.held read begun.read in
    let both : Some config ≡ Some begun.config = sym asks ∙ ap (asks_in asked) same ∙ begun.asks in
    let configs : config ≡ begun.config = cc in
    subst (λ (h : Contents). P h begun.config) same (subst (P old) configs p)

few_of : (config : Config) (now : ℤ) (old left : Contents) → AddsFewBy (found.session_start_at config now (standing_in old.wal None) old.offset) (left_in left.wal) → GrowsByFewMarks config old left
few_of config now old left (inl none) = inl none
few_of config now old left (inr added) = inr (added.infos, added.captured, added.few)

-- the log after the offset was there
log_kept : (confirmed : Lsn) (offset : Offset) (s : SourceState) → s.confirmed ≡ confirmed → ((t : SourceState) × Moved s t × IsConfirmedUpTo t offset.lsn) → confirmed.0 ≤ offset.lsn.0
log_kept confirmed offset s is had = subst (λ (l : Lsn). l.0 ≤ offset.lsn.0) (had.1.confirmed ∙ is) had.2

each_stored : {P : Offset → Type 0} (stored : Option Offset) → ((offset : Offset) → stored ≡ Some offset → P offset) → IfSome stored P
each_stored None all = tt
each_stored (Some offset) all = all offset refl

-- ---- the session

module _ {W T F : Type 0} (wal_model : DiskModel W) (topics_model : DiskModel T) (offsets_model : DiskModel F)
    (is_w : (disk : W) (bytes : List ℕ) → wal_model.seen disk ≡ Some bytes → wal_model.may_leave disk bytes)
    (is_t : (disk : T) (bytes : List ℕ) → topics_model.seen disk ≡ Some bytes → topics_model.may_leave disk bytes)
    (is_f : (disk : F) (bytes : List ℕ) → offsets_model.seen disk ≡ Some bytes → offsets_model.may_leave disk bytes)
    (w t f : List ℕ) (so : Demo W) (lo : OnDisk T) (fo : StoreOn F)
    (src : IsSourceOf wal_model w so) (lg : IsLogOf topics_model t lo) (st : IsStoreOf offsets_model f fo)
    (config : Config) (now : ℤ) (sn : Demo W) (ln : OnDisk T) (fn : StoreOn F) (report : Report) (result : Result Ending Halt)
    (ran : Ran wal_model topics_model offsets_model config now so sn lo ln fo fn report result) where
  abbrev old : Contents
  old = held_by src.wal lg.groups fo.offset

  abbrev entry : SessionStart
  entry = restart_at config now (found_in (held_by src.wal lg.groups fo.offset))

  abbrev first : SourceState
  first = standing_in src.wal so.place

  pub read_here : ReadAs w t f old
  read_here = read_of wal_model topics_model offsets_model w t f so lo fo src lg st

  first_stands : HasDemoState wal_model so first
  first_stands = stood_first wal_model w so src

  -- they are kept again
  pub kept_again : IsKept old → AreKept (wal_model.seen sn.journal.disk) (topics_model.seen ln.disk) (offsets_model.seen (disk_of fn)) (wal_model.may_leave sn.journal.disk) (topics_model.may_leave ln.disk) (offsets_model.may_leave (disk_of fn))
  kept_again kept = record {
    wal = ap is_some (source_kept wal_model topics_model offsets_model is_w is_t is_f w t f so lo fo src lg st config now sn ln fn report result ran).come.told.1;
    topics = ap is_some (ran.sink_comes.journal 0 (length t) (log_come topics_model t lo lg)).told.1;
    offsets = ap is_some (ran.store_comes (record { most = length f; faults = offsets_model.faults (disk_of fo) }) (record { bytes = f; told = st.told; short = omega arith; steady = λ live. refl })).told;
    each = λ w1 t1 f1 mw mt mf. (
        let here = image_of wal_model topics_model offsets_model is_w is_t is_f w t f so lo fo src lg st config now sn ln fn report result ran kept w1 t1 f1 mw mt mf in
        (here.held, here.read, here.kept));
  }

  -- what the topic log gains, and how few watermarks are added
  pub gains_of : (asked : Asked) → asks_in asked old ≡ Some config → GainsAllowed topics_model asked lo ln → (begun : HasBegun asked w t f) → GainsRecords asked now (topics_model.may_leave lo.disk) (topics_model.may_leave ln.disk) w t f begun
  gains_of asked asks adds begun = record {
    stored = fn.offset;
    last = at_begun asked w t f (λ h c. IsStoredLast c h.offset fn.offset) begun old config read_here asks ran.stores;
    gains = λ bytes groups leaves is. inr
        (at_begun asked w t f (λ h c. Gains c now h.offset fn.offset h.groups groups) begun old config read_here asks
        (ran.grouped lg.groups groups lg.holds (bytes, leaves, is)));
    allowed = λ bytes groups leaves is. inr
        (at_begun asked w t f (λ h c. AddsAllowed (rule_of asked) h.groups groups) begun old config read_here asks (adds lg.groups groups lg.holds (bytes, leaves, is)));
  }

  ungained_of : IsUngained (topics_model.may_leave ln.disk) old fn.offset
  ungained_of same bytes groups leaves is = ran.ungained lg.groups groups lg.holds (bytes, leaves, is) same

  pub marks_of : (asked : Asked) → asks_in asked old ≡ Some config → AddsFew asked (wal_model.may_leave so.journal.disk) (wal_model.may_leave sn.journal.disk) w t f
  marks_of asked asks begun own bytes left leaves is =
      let same : begun.held ≡ old = disks_are_read_once w t f begun.held old begun.read read_here in
      let few = ran.marks first first_stands (subst HasOwnTables same own) (left_in left.wal) (record { crashed = bytes; may = leaves; wal = left.wal; is = is; left = refl }) in
      inr (at_begun asked w t f (λ h c. GrowsByFewMarks c h left) begun old config read_here asks (few_of config now old left few))

  -- ---- what it had followed and sent

  -- where it can't be used any more, nothing stands
  one_left : (bytes : List ℕ) (wal : Wal) → wal_model.may_leave sn.journal.disk bytes → IsWal bytes wal → (s : SourceState) → HasDemoState wal_model sn s → s ≡ standing_in wal sn.place
  one_left bytes wal leaves is s stands = stands.2 ∙ ap (λ (x : Wal). standing_in x sn.place) (sym (left_wal wal_model sn stands.0 wal bytes stands.1 leaves is))

  followed_at : (h : Halt) → result ≡ Err h → (t : SourceState) → HasDemoState wal_model sn t → AreFollowed config now old fn.offset (wal_model.may_leave sn.journal.disk) report h
  followed_at h is t stands bytes wal leaves read =
      followed_read config now fo.offset fn.offset report first t wal sn.place (one_left bytes wal leaves read t stands) h (err_is result h _ (ran.stood first t first_stands stands) is)

  tallied_at : (result ≡ Err halt.Sink → ⊥) → (t : SourceState) → HasDemoState wal_model sn t
      → AreTallied config now old fn.offset (wal_model.may_leave sn.journal.disk) (topics_model.may_leave ln.disk) report result
  tallied_at other t stands bytes image wal groups leaves read left is =
      tallied_read config now fo.offset fn.offset report first t wal sn.place (one_left bytes wal leaves read t stands) (HoldsGroups topics_model) lg.groups groups ln result
      (λ had holds. only_held topics_model ln had groups holds (image, left, is))
      (ran.tallied lg.groups lg.holds other first t first_stands stands)

  -- the same of a result that is known
  tallied_as : (r : Result Ending Halt) → result ≡ r → (result ≡ Err halt.Sink → ⊥) → (t : SourceState) → HasDemoState wal_model sn t
      → AreTallied config now old fn.offset (wal_model.may_leave sn.journal.disk) (topics_model.may_leave ln.disk) report r
  tallied_as r is other t stands =
      subst (λ (x : Result Ending Halt). AreTallied config now old fn.offset (wal_model.may_leave sn.journal.disk) (topics_model.may_leave ln.disk) report x) is (tallied_at other t stands)

  abbrev pub begun_of : (asked : Asked) → asks_in asked old ≡ Some config → HasBegun asked w t f
  begun_of asked asks = record { held = old; read = read_here; config = config; asks = asks }

  -- ---- where a record was refused

  pub refuses_of : (asked : Asked) → asks_in asked old ≡ Some config → (place : ℕ × ℕ) → TellsNext wal_model topics_model config now asked so sn lo fo.offset fn.offset place
      → RefusesRecord asked now (wal_model.may_leave sn.journal.disk) w t f place
  refuses_of asked asks place tells =
      let next = tells lg.groups lg.holds first first_stands in
      record {
        begun = begun_of asked asks;
        stored = fn.offset;
        last = ran.stores;
        next = λ bytes wal leaves read. refused_read config now (rule_of asked) fo.offset fn.offset next.standing wal sn.place
            (one_left bytes wal leaves read next.standing next.is) place next.holds;
      }

  -- ---- where it ended normally

  demo_at : (ending : Ending) → result ≡ Ok ending → (bytes : List ℕ) (wal : Wal) → wal_model.may_leave sn.journal.disk bytes → IsWal bytes wal → IsDemo wal_model wal sn
  demo_at ending is bytes wal leaves read =
      let stands = ended_wal wal_model topics_model offsets_model is_w is_t is_f w t f so lo fo src lg st config now sn ln fn report result ran ending is in
      subst (λ (x : Wal). IsDemo wal_model x sn) (sym (left_wal wal_model sn stands.0 wal bytes stands.1 leaves read)) stands.1

  settled_at : (ending : Ending) → result ≡ Ok ending → (wal : Wal) → IsDemo wal_model wal sn → HasSettled config now fo.offset fn.offset report (standing_in wal sn.place)
  settled_at ending is wal demo = settled_of wal_model topics_model offsets_model is_w is_t is_f w t f so lo fo src lg st config now sn ln fn report result ran ending is wal demo

  counted_ok : (ending : Ending) → result ≡ Ok ending → HasCountedGroups (HoldsGroups topics_model) lg.groups ln report
  counted_ok ending is = subst (λ (r : Result Ending Halt). IsCounted (HoldsGroups topics_model) (LogLeaves topics_model) lg.groups r ln report) is (ran.counted lg.groups lg.holds)

  gained_by : (counts : HasCountedGroups (HoldsGroups topics_model) lg.groups ln report) → AreGained (topics_model.may_leave ln.disk) old report
  gained_by counts bytes groups leaves is = record {
    more = counts.more;
    is = only_held topics_model ln (lg.groups ++ counts.more) groups counts.held (bytes, leaves, is);
    are = counts.are;
  }

  -- nothing but watermarks is after the reader
  all_read_of : (ending : Ending) (is : result ≡ Ok ending) → ending ≡ Complete → (bytes : List ℕ) (wal : Wal) (leaves : wal_model.may_leave sn.journal.disk bytes) (read : IsWal bytes wal)
      → AllByRecursion (λ commit. IsWatermark commit.body) (commits_after (last_lsn (settled_at ending is wal (demo_at ending is bytes wal leaves read)).reading.after
      (settled_at ending is wal (demo_at ending is bytes wal leaves read)).reading.messages) (history_in wal).commits)
  all_read_of ending is same bytes wal leaves read =
      let demo = demo_at ending is bytes wal leaves read in
      let settled = settled_at ending is wal demo in
      let place = place_read wal sn.place settled.reading settled.reading_is in
      let has = demo.ended (ran.ended (is ∙ ap (λ (e : Ending). Ok e) same)) in
      all_is_read (tables_of wal) (logged_in wal.entries) place.0 (last_lsn settled.reading.after settled.reading.messages) (demo.running.reader.placed place.0 place.1) (has.whole place.0 place.1)
      (sym (ap (λ (r : Reading). last_lsn r.after r.messages) place.2)) (has.read place.0 place.1)

  clean_of : (ending : Ending) → result ≡ Ok ending → (bytes : List ℕ) (wal : Wal) → wal_model.may_leave sn.journal.disk bytes → IsWal bytes wal
      → HasReadClean config now fo.offset fn.offset wal (record { ending = ending; report = report })
  clean_of ending is bytes wal leaves read =
      let settled = settled_at ending is wal (demo_at ending is bytes wal leaves read) in
      let front = sent_front (standing_in wal sn.place) settled.reading wal sn.place refl settled.reading_is in
      record {
        reading = settled.reading;
        was = record { by = settled.stored; begins_after = settled.begins_after; rest = front.0; front = front.1 };
        many = settled.many;
        accepted = settled.accepted;
        sendable = settled.sent;
        commits = settled.followed;
        confirmed = subst (λ (n : ℕ). n ≤ (confirmed_of wal).0)
            (sym (ran.position ∙ position_is config fo.offset fn.offset settled.stored.offset settled.stored.is settled.stored.by)) settled.upto;
        position = ran.position ∙ position_is config fo.offset fn.offset settled.stored.offset settled.stored.is settled.stored.by ∙ ap (λ (l : Lsn). l.0) settled.last;
        all_read = λ same. all_read_of ending is same bytes wal leaves read;
      }

  pub run_of : (asked : Asked) → asks_in asked old ≡ Some config → (ending : Ending) → result ≡ Ok ending
      → HasRun asked now (wal_model.may_leave sn.journal.disk) (topics_model.may_leave ln.disk) (offsets_model.may_leave (disk_of fn)) w t f (record { ending = ending; report = report })
  run_of asked asks ending is =
      let stands = ended_wal wal_model topics_model offsets_model is_w is_t is_f w t f so lo fo src lg st config now sn ln fn report result ran ending is in
      record {
        begun = begun_of asked asks;
        stays = (source_kept wal_model topics_model offsets_model is_w is_t is_f w t f so lo fo src lg st config now sn ln fn report result ran).crash;
        gained = gained_by (counted_ok ending is);
        raised = λ h exhausted. (let wrong : Ok ending ≡ Err h = sym is ∙ ran.exhausted h exhausted in cc);
        captured = λ none. ran.captures first first_stands none (settled_at ending is stands.0 stands.1).stored;
        kept = each_stored {P = λ offset. (confirmed_of src.wal).0 ≤ offset.lsn.0} fo.offset (λ offset stored. log_kept (confirmed_of src.wal) offset first refl (ok_is result ending (λ e. (t : SourceState) × Moved first t × IsConfirmedUpTo t offset.lsn) (ran.kept first first_stands offset stored) is));
        stored = fn.offset;
        store = left_store wal_model topics_model offsets_model is_w is_t is_f w t f so lo fo src lg st config now sn ln fn report result ran (λ failed. (let wrong : Ok ending ≡ Err halt.Offsets = sym is ∙ failed in cc));
        first = ran.firsts first first_stands;
        ungained = ungained_of;
        done = λ same. ran.done (is ∙ ap (λ (e : Ending). Ok e) same);
        clean = clean_of ending is;
        tallied = tallied_as (Ok ending) is (λ failed. (let wrong : Ok ending ≡ Err halt.Sink = sym is ∙ failed in cc)) (standing_in stands.0 sn.place) (stands.0, stands.1, refl);
      }

  -- ---- its report

  module _ (ending : Ending) (is : result ≡ Ok ending) (kept : IsKept old) where
    stands : (wal : Wal) × IsDemo wal_model wal sn × (wal.script ≡ src.wal.script)
    stands = ended_wal wal_model topics_model offsets_model is_w is_t is_f w t f so lo fo src lg st config now sn ln fn report result ran ending is

    counts : HasCountedGroups (HoldsGroups topics_model) lg.groups ln report
    counts = counted_ok ending is

    stored : StoresOffset offsets_model (disk_of fn) fn.offset
    stored =
        store_of offsets_model fn fn.offset
        (ended_store wal_model topics_model offsets_model is_w is_t is_f w t f so lo fo src lg st config now sn ln fn report result ran ending is)

    abbrev left : Contents
    left = held_by stands.0 (lg.groups ++ counts.more) fn.offset

    read_told : ReadAs stands.1.running.lists.bytes counts.held.lists.bytes stored.bytes left
    read_told = record {
      source = wal_of wal_model sn stands.0 stands.1.running;
      log = log_of topics_model ln (lg.groups ++ counts.more) counts.held;
      store = stored.is;
    }

    read_each : (w1 t1 f1 : List ℕ) → wal_model.may_leave sn.journal.disk w1 → topics_model.may_leave ln.disk t1 → offsets_model.may_leave (disk_of fn) f1 → ReadAs w1 t1 f1 left
    read_each w1 t1 f1 mw mt mf = record {
      source = subst (λ (b : List ℕ). IsWal b stands.0) (sym (stands.1.running.lists.only w1 mw)) read_told.source;
      log = subst (λ (b : List ℕ). IsLog b (lg.groups ++ counts.more)) (sym (counts.held.lists.only t1 mt)) read_told.log;
      store = subst (λ (b : List ℕ). IsStore b fn.offset) (sym (stored.only f1 mf)) read_told.store;
    }

    told_w : wal_model.may_leave sn.journal.disk stands.1.running.lists.bytes
    told_w = is_w sn.journal.disk stands.1.running.lists.bytes stands.1.running.lists.told

    left_kept : IsKept left
    left_kept =
        let here = image_of wal_model topics_model offsets_model is_w is_t is_f w t f so lo fo src lg st config now sn ln fn report result ran kept
        stands.1.running.lists.bytes counts.held.lists.bytes stored.bytes
        told_w (is_t ln.disk counts.held.lists.bytes counts.held.lists.told) (is_f (disk_of fn) stored.bytes stored.told) in
        subst IsKept (disks_are_read_once stands.1.running.lists.bytes counts.held.lists.bytes stored.bytes here.held left here.read read_told) here.kept

    -- no high watermark of a window that wasn't closed
    closed_of : HasClosedSent config fo.offset fn.offset stands.0 report
    closed_of =
        let settled = settled_at ending is stands.0 stands.1 in
        let here : SourceState = standing_in stands.0 sn.place in
        let front = sent_front here settled.reading stands.0 sn.place refl settled.reading_is in
        let closed = ran.unclosed entry (record { config_is = refl; now_is = refl }) (found_of wal_model topics_model offsets_model w t f so lo fo src lg st config now) kept.faithful here (stands.0, stands.1, refl) in
        record {
          reading = settled.reading;
          was = record { by = settled.stored; begins_after = settled.begins_after; rest = front.0; front = front.1 };
          many = settled.many;
          none = closed settled.stored.offset settled.reading settled.stored.is settled.reading_is;
        }

    pub report_of : (asked : Asked) → asks_in asked old ≡ Some config
        → IsReported asked now (wal_model.may_leave sn.journal.disk) (topics_model.may_leave ln.disk) (offsets_model.may_leave (disk_of fn)) w t f (record { ending = ending; report = report })
    report_of asked asks =
        let settled = settled_at ending is stands.0 stands.1 in
        let place = place_read stands.0 sn.place settled.reading settled.reading_is in
        let own = own_of wal_model topics_model offsets_model is_w is_t is_f w t f so lo fo src lg st config now sn ln fn report result ran kept in
        let told = settled_reports_are_right wal_model config now old left ending report stands.1.running.lists.bytes sn place.0 counts.more
        left_kept read_told.source stands.1 place.1
        (λ (same : ending ≡ Complete). (ran.ended (is ∙ ap (λ (e : Ending). Ok e) same), ran.few (is ∙ ap (λ (e : Ending). Ok e) same)))
        (λ (same : ending ≡ Budget). ran.spent (is ∙ ap (λ (e : Ending). Ok e) same))
        (subst (λ (p : Option ReaderPosition). HasSettled config now fo.offset fn.offset report (standing_in stands.0 p)) place.1 settled)
        ran.position refl counts.are in
        let exactly = ok_is result ending (λ e. (l : CrashState) → SourceLeaves wal_model sn l → EndsExactly (found.session_start_at config now first fo.offset) fn.offset report.chunks (marks_more e fn.offset) l.history)
        (ran.exactly first first_stands own) is (left_in stands.0)
        (record { crashed = stands.1.running.lists.bytes; may = told_w; wal = stands.0; is = read_told.source; left = refl }) in
        record {
          ended = record { begun = begun_of asked asks; left = left; each = read_each };
          exact = λ bytes leaves short. small_logs_are_counted bytes left.groups old.groups told.more report
              (subst (λ (b : List ℕ). IsLog b left.groups) (sym (counts.held.lists.only bytes leaves)) read_told.log) short told.gained told.counted;
          report = told;
          marks = exactly.0;
          brought = exactly.1;
          closed = closed_of;
        }

  -- ---- where it halted

  halt_over : (h : Halt) → result ≡ Err h → IsHaltOver config now old fn.offset report (HasDemoState wal_model sn) h
  halt_over h is = record {
    is = err_is result h _ ran.halt_is is;
    stood = err_is result h _ (ran.halt_stood first first_stands) is;
    absent = err_is result h _ (ran.absent first first_stands) is;
    own = λ own. err_is result h _ (ran.own first first_stands own) is;
    below = err_is result h _ (ran.gone_stood first first_stands) is;
    from = λ asked far same. (let gone = ran.dropped first first_stands asked far (is ∙ ap (λ (x : Halt). Err x) same) in gone.3 ∙ gone.1.confirmed);
    gone = λ asked far same subsequent. ran.gone first first_stands subsequent asked far (is ∙ ap (λ (x : Halt). Err x) same);
    missing = λ value at same within. ran.missing first first_stands within value at (is ∙ ap (λ (x : Halt). Err x) same);
    long = λ none still. err_is result h _ (ran.long first first_stands none still) is;
  }

  counted_at : (h : Halt) → result ≡ Err h → IsOwnHalt h → HasCountedGroups (HoldsGroups topics_model) lg.groups ln report
  counted_at h is own =
      counted_own (HoldsGroups topics_model) (LogLeaves topics_model) lg.groups ln report h own
      (subst (λ (r : Result Ending Halt). IsCounted (HoldsGroups topics_model) (LogLeaves topics_model) lg.groups r ln report) is (ran.counted lg.groups lg.holds))

  still_at : (h : Halt) → result ≡ Err h → ComesByReading old h → (t : SourceState) × HasDemoState wal_model sn t
  still_at h is reading = still_stands config now old fn.offset report (HasDemoState wal_model sn) h reading (halt_over h is)

  halted_as : (asked : Asked) → asks_in asked old ≡ Some config → (h : Halt) → result ≡ Err h → IsOwnHalt h
      → EndsWithHalt asked now (wal_model.may_leave sn.journal.disk) (topics_model.may_leave ln.disk) (offsets_model.may_leave (disk_of fn)) w t f (Halted h)
  halted_as asked asks h is own = record {
    begun = begun_of asked asks;
    halt = h;
    is = refl;
    stored = fn.offset;
    last = ran.stores;
    store = left_store wal_model topics_model offsets_model is_w is_t is_f w t f so lo fo src lg st config now sn ln fn report result ran (λ failed. subst IsOwnHalt (err_one result h halt.Offsets is failed) own);
    first = ran.firsts first first_stands;
    ungained = ungained_of;
    report = report;
    within = subst (λ (n : ℕ). report.messages ≤ n) (asks_budget asked _ fo.offset config asks) ran.bounded;
    marked = λ tables bytes left leaves is. ran.most first first_stands tables (left_in left.wal) (record { crashed = bytes; may = leaves; wal = left.wal; is = is; left = refl });
    raised = λ other exhausted. err_one result h other is (ran.exhausted other exhausted);
    captured = λ none name among cannot. (
        let must = ran.must_absent first first_stands none name among cannot in
        subst (λ (x : Halt). IsTableHalt x × IsAbsentHalt config.tables (history_at old) x) (err_one result must.0 h must.1 is) (must.2, must.3));
    gained = gained_by (counted_at h is own);
    stays = (source_kept wal_model topics_model offsets_model is_w is_t is_f w t f so lo fo src lg st config now sn ln fn report result ran).crash;
    cause = λ bytes wal leaves read. cause_of config now old fn.offset report (HasDemoState wal_model sn) wal sn.place (one_left bytes wal leaves read) h (halt_over h is);
    unread = unread_by config now fo.offset fn.offset report None h (err_is result h _ ran.followed is);
    followed = λ reading. (let at = still_at h is reading in followed_at h is at.0 at.1);
    tallied = λ reading. (
        let at = still_at h is reading in
        tallied_as (Err h) is (λ failed. subst IsOwnHalt (err_one result h halt.Sink is failed) own) at.0 at.1);
  }

  pub ends_before : (asked : Asked) → asks_in asked old ≡ Some config → (h : Halt) → result ≡ Err h
      → EndsBefore asked now (wal_model.may_leave sn.journal.disk) (topics_model.may_leave ln.disk) (offsets_model.may_leave (disk_of fn)) w t f (halt_error h)
  ends_before asked asks h is = by (own_or h)
    where
      by : IsExternalConnectError (halt_error h) ⊎ ((halt_error h ≡ Halted h) × IsOwnHalt h) → EndsBefore asked now (wal_model.may_leave sn.journal.disk) (topics_model.may_leave ln.disk) (offsets_model.may_leave (disk_of fn)) w t f (halt_error h)
      by (inl out) = inl out
      by (inr own) = inr (inr (subst (EndsWithHalt asked now (wal_model.may_leave sn.journal.disk) (topics_model.may_leave ln.disk) (offsets_model.may_leave (disk_of fn)) w t f) (sym own.0) (halted_as asked asks h is own.1)))

  kept_each : (h : Halt) → result ≡ Err h → (kept : IsKept old) → (w1 t1 f1 : List ℕ) (left : Contents) → wal_model.may_leave sn.journal.disk w1 → topics_model.may_leave ln.disk t1 → offsets_model.may_leave (disk_of fn) f1
      → ReadAs w1 t1 f1 left → IsKeptHalt config now old fn.offset report left h
  kept_each h is kept w1 t1 f1 left mw mt mf read =
      let known = faithful_entries_are_known entry kept.fit kept.faithful in
      let rising : IsRising (history_at old) = is_rising (tables_of src.wal) (logged_in src.wal.entries) in
      kept_halt config now old fn.offset report (HasDemoState wal_model sn) left.wal sn.place (one_left w1 left.wal mw read.source) left (HoldsGroups topics_model ln) h refl
      (λ groups holds. sym (only_held topics_model ln groups left.groups holds (t1, mt, read.log)))
      known.0 known.2 (stood_offsets_are_within (history_at old) fo.offset rising known.1)
      (halt_over h is)
      (err_is result h _ (ran.content entry (record { config_is = refl; now_is = refl }) (found_of wal_model topics_model offsets_model w t f so lo fo src lg st config now) kept.faithful) is)

  -- over kept disks
  pub never_of : (asked : Asked) → asks_in asked old ≡ Some config → (h : Halt) → result ≡ Err h → IsKept old
      → IsKeptError asked now (wal_model.may_leave sn.journal.disk) (topics_model.may_leave ln.disk) (offsets_model.may_leave (disk_of fn)) w t f (halt_error h)
  unfolding halted_as
  never_of asked asks h is kept = by (own_or h)
    where
      out : (e : ConnectError) → IsExternalConnectError e → IsKeptError asked now (wal_model.may_leave sn.journal.disk) (topics_model.may_leave ln.disk) (offsets_model.may_leave (disk_of fn)) w t f e
      out (error.Failed store) outside = tt
      out (error.NotAStore store at) outside = absurd outside
      out (error.BadEntry store index) outside = absurd outside
      out error.AlreadyStarted outside = tt
      out error.NotStarted outside = tt
      out (error.Halted k) outside = absurd outside
      out (error.Refused position ordinal) outside = tt
      out error.Memory outside = tt

      by : IsExternalConnectError (halt_error h) ⊎ ((halt_error h ≡ Halted h) × IsOwnHalt h) → IsKeptError asked now (wal_model.may_leave sn.journal.disk) (topics_model.may_leave ln.disk) (offsets_model.may_leave (disk_of fn)) w t f (halt_error h)
      by (inl outside) = out (halt_error h) outside
      by (inr own) = subst (IsKeptError asked now (wal_model.may_leave sn.journal.disk) (topics_model.may_leave ln.disk) (offsets_model.may_leave (disk_of fn)) w t f) (sym own.0) (record {
        halted = halted_as asked asks h is own.1;
        each = kept_each h is kept;
      })
