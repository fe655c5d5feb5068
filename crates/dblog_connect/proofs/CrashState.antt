-- What a session leaves, over opened stores that are kept: kept stores again, which went on from these, as the connector promises.
use Rattle.std.proofs.Common.{◌≡◌, ◌∙◌, ℕ, ℤ, Option, Some, None, List, length, Result, Ok, Err, refl, sym, ap, subst}
use Rattle.std.specs.Prelude.{IfOk, IsTrue, option_map}
use Rattle.dbl_disk.specs.Model.{DiskModel}
use Rattle.dbl_model_table.specs.declared.config.Config.{Config}
use Rattle.dbl_journal.specs.Stored.{OnDisk}
use Rattle.dbl_model_commit.specs.Past.{last_lsn}
use Rattle.dbl_demo.specs.SourceLog.declared.reader_position.ReaderPosition.{ReaderPosition}
use Rattle.dbl_demo.specs.SourceModel.Standings.{Reading}
use Rattle.dbl_topic.specs.Held.{HasGroups}
use Rattle.dbl_offset.specs.Stores.{HoldsOffset, IsStore, StoreOn, disk_of}
use Rattle.dbl_offset.proofs.StoreLaws.{one_store, store_of}
use Rattle.dbl_demo.specs.DemoWal.Standings.{left_in, wal_reading, standing_in}
use Rattle.dbl_demo.specs.DemoWal.Wals.{Wal}
use Rattle.dbl_demo.proofs.DemoWalFitLaws.{wal_has_fit_history}
use Rattle.dbl_demo.specs.DemoLaws.Demo.{Demo, HasKept, IsDemo}
use Rattle.dbl_demo.specs.DemoLaws.SourceLaws.{one_demo}
use Rattle.dbl_capture.specs.CaptureModel.Entries.{SessionStart, HadOwnTables}
use Rattle.dbl_capture.specs.CaptureWork.declared.halt.Halt.{Halt}
use Rattle.dbl_capture.specs.CaptureWork.declared.halt.Halt.TheVariants as halt
use Rattle.dbl_capture.specs.CaptureWork.declared.report.Ending.{Ending}
use Rattle.dbl_capture.specs.CaptureWork.declared.report.Ending.TheVariants.{Complete}
use Rattle.dbl_capture.specs.CaptureWork.declared.report.Report.{Report}
use Rattle.dbl_capture.specs.CaptureLaws.Ends.{IsCompleteWith}
use Rattle.dbl_capture.specs.CaptureLaws.Sessions.{LeavesGoing}
use Rattle.dbl_capture.specs.CaptureLaws.Reported.{HasSettled}
use Rattle.dblog_promise.specs.Restarts.{restart_at}
use Rattle.dblog_promise.proofs.Going.{faithful_entries_are_known}
use Rattle.dblog_promise.specs.Contents.{Contents, ReadAs, found_in}
use Rattle.dblog_promise.specs.Goes.{Advances, AdvancesFrom}
use Rattle.dblog_promise.specs.Headline.{GuaranteesAfterCrash, LeavesTablesEqual}
use Rattle.dblog_promise.specs.Kept.{AreKept, IsKept}
use Rattle.dblog_promise.proofs.KeptLaws.{disks_are_read_once, kept_runs_are_promised, sessions_go_on}
use Rattle.dblog_promise.proofs.WholeLaws.{complete_runs_leave_tables_equal}
use Rattle.dblog_connect.specs.declared.asked.Asked.{Asked}
use Rattle.dblog_connect.specs.Asked.{asks_in}
use Rattle.dblog_connect.specs.Ends.{AreStores, ConnectEnd, IsCompleteEnd}
use Rattle.dblog_connect.specs.Steps.{IsLogOf, IsSourceOf, IsStoreOf}
use Rattle.dblog_connect.proofs.Opened.{found_of, held_by, kept_log, kept_source, left_offset, left_wal, read_of, stood_first}
use Rattle.dblog_connect.proofs.Ran.{LogLeaves, Ran, SourceLeaves}

-- ---- small words

pub ok_is : {A E : Type 0} (r : Result A E) (x : A) (P : A → Type 0) → IfOk r P → r ≡ Ok x → P x
ok_is (Ok y) x P p is =
    let same : y ≡ x = cc in
    subst P same p
ok_is (Err e) x P p is = cc

pub place_read : (wal : Wal) (place : Option ReaderPosition) (reading : Reading) → option_map (wal_reading wal) place ≡ Some reading → (p : ReaderPosition) × (place ≡ Some p) × (wal_reading wal p ≡ reading)
place_read wal None reading is = cc
place_read wal (Some p) reading is = (p, refl, (let i = is in cc))

-- what a crash leaves is read as contents, which went on from these contents
pub record GoesOn (config : Config) (old : Contents) (w t f : List ℕ) : Type 0 where
  pub held : Contents
  pub read : ReadAs w t f held
  pub kept : IsKept held
  pub goes : AdvancesFrom config old held

module _ {W T F : Type 0} (wal_model : DiskModel W) (topics_model : DiskModel T) (offsets_model : DiskModel F)
    (is_w : (disk : W) (bytes : List ℕ) → wal_model.seen disk ≡ Some bytes → wal_model.may_leave disk bytes)
    (is_t : (disk : T) (bytes : List ℕ) → topics_model.seen disk ≡ Some bytes → topics_model.may_leave disk bytes)
    (is_f : (disk : F) (bytes : List ℕ) → offsets_model.seen disk ≡ Some bytes → offsets_model.may_leave disk bytes)
    (w t f : List ℕ) (so : Demo W) (lo : OnDisk T) (fo : StoreOn F)
    (src : IsSourceOf wal_model w so) (lg : IsLogOf topics_model t lo) (st : IsStoreOf offsets_model f fo) where
  -- contents that the disks are read as, where they are kept
  pub kept_of : AreKept (wal_model.seen so.journal.disk) (topics_model.seen lo.disk) (offsets_model.seen (disk_of fo)) (wal_model.may_leave so.journal.disk) (topics_model.may_leave lo.disk) (offsets_model.may_leave (disk_of fo)) → IsKept (held_by src.wal lg.groups fo.offset)
  kept_of kept =
      let here = kept.each w t f (is_w so.journal.disk w src.told) (is_t lo.disk t lg.told) (is_f (disk_of fo) f st.told) in
      subst IsKept (disks_are_read_once w t f here.0 (held_by src.wal lg.groups fo.offset) here.1 (read_of wal_model topics_model offsets_model w t f so lo fo src lg st)) here.2

  module _ (config : Config) (now : ℤ) (sn : Demo W) (ln : OnDisk T) (fn : StoreOn F) (report : Report) (result : Result Ending Halt)
      (ran : Ran wal_model topics_model offsets_model config now so sn lo ln fo fn report result) where
    abbrev old : Contents
    old = held_by src.wal lg.groups fo.offset

    abbrev entry : SessionStart
    entry = restart_at config now (found_in (held_by src.wal lg.groups fo.offset))

    pub source_kept : HasKept wal_model src.wal.script 0 (length w) (wal_model.faults so.journal.disk) sn
    source_kept = ran.source_comes src.wal.script 0 (length w) (wal_model.faults so.journal.disk) (kept_source wal_model w so src)

    pub log_kept : HasGroups topics_model ln
    log_kept = ran.sink_comes.groups (kept_log topics_model t lo lg)

    pub own_of : IsKept old → HadOwnTables entry
    own_of kept = (faithful_entries_are_known entry kept.fit kept.faithful).0

    pub left_of : IsKept old → LeavesGoing (SourceLeaves wal_model) (LogLeaves topics_model) offsets_model entry sn ln fn
    left_of kept = ran.faithful entry (record { config_is = refl; now_is = refl }) (found_of wal_model topics_model offsets_model w t f so lo fo src lg st config now) (own_of kept)

    -- for all that a crash leaves of the three disks
    pub image_of : IsKept old → (w1 t1 f1 : List ℕ) → wal_model.may_leave sn.journal.disk w1 → topics_model.may_leave ln.disk t1 → offsets_model.may_leave (disk_of fn) f1 → GoesOn config old w1 t1 f1
    image_of kept w1 t1 f1 mw mt mf =
        let wal = source_kept.crash w1 mw in
        let groups = log_kept.leaves t1 mt in
        let offset = (left_of kept).follows kept.faithful f1 mf in
        let follows = offset.2 (left_in wal.0) groups.0 (record { crashed = w1; may = mw; wal = wal.0; is = wal.1; left = refl }) (t1, mt, groups.1) in
        record {
          held = held_by wal.0 groups.0 offset.0;
          read = record { source = wal.1; log = groups.1; store = offset.1 };
          kept = record { fit = wal_has_fit_history w1 wal.0 wal.1; faithful = follows.faithful };
          goes = sessions_go_on config now old (held_by wal.0 groups.0 offset.0) wal.2 follows;
        }

    -- ---- where it ended normally

    pub ended_wal : (ending : Ending) → result ≡ Ok ending → (wal : Wal) × IsDemo wal_model wal sn × (wal.script ≡ src.wal.script)
    ended_wal ending is = source_kept.stands (ok_is result ending (λ e. IsTrue sn.live) ran.source_live is)

    pub ended_store : (ending : Ending) → result ≡ Ok ending → HoldsOffset offsets_model fn fn.offset
    ended_store ending is = ran.held st.holds (λ failed. (let wrong : Ok ending ≡ Err halt.Offsets = sym is ∙ failed in cc))

    -- unless its disk failed, a crash leaves a store of what was stored last
    pub left_store : (result ≡ Err halt.Offsets → ⊥) → AreStores (offsets_model.may_leave (disk_of fn)) fn.offset
    left_store other bytes leaves =
        let stores = store_of offsets_model fn fn.offset (ran.held st.holds other) in
        subst (λ (b : List ℕ). IsStore b fn.offset) (sym (stores.only bytes leaves)) stores.is

    pub settled_of : (ending : Ending) → result ≡ Ok ending → (wal : Wal) → IsDemo wal_model wal sn → HasSettled config now fo.offset fn.offset report (standing_in wal sn.place)
    settled_of ending is wal demo =
        let stood = ok_is result ending (λ e. _) (ran.settled (standing_in src.wal so.place) (stood_first wal_model w so src)) is in
        let same : stood.is.0 ≡ wal = one_demo wal_model sn stood.is.0 wal stood.is.1 demo in
        subst (HasSettled config now fo.offset fn.offset report) (stood.is.2 ∙ ap (λ (x : Wal). standing_in x sn.place) same) stood.holds

    pub tables_of : result ≡ Ok Complete → IsKept old → (w1 t1 f1 : List ℕ) → wal_model.may_leave sn.journal.disk w1 → topics_model.may_leave ln.disk t1 → offsets_model.may_leave (disk_of fn) f1
        → (held : Contents) → ReadAs w1 t1 f1 held → IsKept held → AdvancesFrom config old held → LeavesTablesEqual old held
    tables_of is kept w1 t1 f1 mw mt mf held read kept1 goes =
        let wal = ended_wal Complete is in
        let same_wal : wal.0 ≡ held.wal = sym (left_wal wal_model sn wal.0 held.wal w1 wal.1 mw read.source) in
        let demo : IsDemo wal_model held.wal sn = subst (λ (x : Wal). IsDemo wal_model x sn) same_wal wal.1 in
        let settled = settled_of Complete is held.wal demo in
        let place = place_read held.wal sn.place settled.reading settled.reading_is in
        let offset_is : held.offset ≡ Some settled.stored.offset = left_offset offsets_model fn fn.offset held.offset f1 (ended_store Complete is) mf read.store ∙ settled.stored.is in
        let whole = ran.complete entry (record { config_is = refl; now_is = refl }) (found_of wal_model topics_model offsets_model w t f so lo fo src lg st config now) (own_of kept) is kept.faithful f1 mf in
        let complete = whole.2 (left_in held.wal) held.groups (record { crashed = w1; may = mw; wal = held.wal; is = read.source; left = refl }) (t1, mt, read.log) in
        let same : whole.0 ≡ Some settled.stored.offset = one_store f1 whole.0 held.offset whole.1 read.store ∙ offset_is in
        complete_runs_leave_tables_equal wal_model config now old held settled.stored.offset sn place.0 kept kept1 goes demo (ran.ended is) place.1 offset_is
        (settled.last ∙ ap (λ (r : Reading). last_lsn r.after r.messages) (sym place.2))
        (subst (IsCompleteWith entry (left_in held.wal) held.groups) same complete)

    -- ---- the headline

    pub promised_of : (asked : Asked) (end : ConnectEnd) → asks_in asked old ≡ Some config → (IsCompleteEnd end → result ≡ Ok Complete) → IsKept old
        → (w1 t1 f1 : List ℕ) → wal_model.may_leave sn.journal.disk w1 → topics_model.may_leave ln.disk t1 → offsets_model.may_leave (disk_of fn) f1
        → GuaranteesAfterCrash (IsCompleteEnd end) (asks_in asked) (wal_model.may_leave so.journal.disk) (topics_model.may_leave lo.disk) (offsets_model.may_leave (disk_of fo)) w1 t1 f1
    promised_of asked end asks complete kept w1 t1 f1 mw mt mf =
        let here = image_of kept w1 t1 f1 mw mt mf in
        let all = kept_runs_are_promised config old here.held here.kept here.goes in
        record {
          left = record {
            held = here.held;
            read = here.read;
            kept = here.kept;
            predecessor = record {
              wal = w;
              topics = t;
              offsets = f;
              may_wal = is_w so.journal.disk w src.told;
              may_topics = is_t lo.disk t lg.told;
              may_offsets = is_f (disk_of fo) f st.told;
              old = old;
              read = read_of wal_model topics_model offsets_model w t f so lo fo src lg st;
              advances = subst (λ (a : Option Config). Advances a old here.held) (sym asks) here.goes;
            };
          };
          guarantees = record {
            first_deliveries = all.first_deliveries;
            snapshots = all.snapshots;
            appends = all.appends;
            tables = λ whole. tables_of (complete whole) kept w1 t1 f1 mw mt mf here.held here.read here.kept here.goes;
          };
        }
