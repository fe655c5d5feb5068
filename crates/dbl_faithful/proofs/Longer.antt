-- Stores as the source's history grows.
use Rattle.std.proofs.Common.{◌≡◌, ◌∙◌, ◌⊎◌, inl, inr, ◌≤◌, ◌<◌, ℕ, List, ◌++◌, Some, None, length, fold, sym, ap, subst, arith, le_refl}
use Rattle.std.specs.Prelude.{nat_lt, option_map, slice_get}
use Rattle.std.specs.List.{AllByRecursion}
use Rattle.std.proofs.lemmas.Bool.{cases_lt}
use Rattle.std.proofs.lemmas.List.{take_all, take-append-le}
use Rattle.dbl_base.specs.declared.lsn.Lsn.{Lsn}
use Rattle.dbl_record.specs.declared.record.Record.{Record}
use Rattle.dbl_model_table.specs.declared.table.TableInfo.{TableInfo}
use Rattle.dbl_model_table.specs.declared.table.TableName.{TableName}
use Rattle.dbl_consume_laws.specs.ModelHistory.declared.cursor.Cursor.{Cursor}
use Rattle.dbl_consume_laws.specs.ModelHistory.History.{RawCommit, History, IsRising, entry_of}
use Rattle.dbl_consume_laws.specs.ModelHistory.InForce.{entry_after, entry_at}
use Rattle.dbl_consume_laws.specs.ModelHistory.Fit.{AreInfosOf, IsFitHistory}
use Rattle.dbl_offset_content.specs.declared.offset.Offset.{Offset}
use Rattle.dbl_consume_laws.proofs.Notices.{all_append}
use Rattle.dbl_consume_courses.specs.Versions.{Versioned}
use Rattle.dbl_consume_courses.specs.FitVersions.{AreFitVersions}
use Rattle.dbl_consume_courses.proofs.StoreSteps.{longer_histories}
use Rattle.dbl_faithful.specs.CaughtUp.{HasDeliveredUpTo}
use Rattle.dbl_faithful.specs.ToldEvents.{ToldEvent, commits_since, events_since}
use Rattle.dbl_faithful.proofs.CaughtUp.{longer_histories_are_caught_up}
use Rattle.dbl_faithful.proofs.Items.{at_cases, at_all, zip_weaker}
use Rattle.dbl_faithful.proofs.Trace.{told_at, event_position, events_since-append, all_filter}
use Rattle.dbl_faithful.specs.Stores.{IsCommitAt, top_position}
use Rattle.dbl_faithful.specs.Lag.{IsRightCursor, IsMarkedBy, IsDescribedAt, IsOffsetOf, IsBehind}
use Rattle.dbl_faithful.specs.Faithful.{captured_commits, first_infos, HasNoMark, IsUntouched, IsFaithfulTo}
use Rattle.dbl_faithful.specs.Kept.{LongerHistoriesStayFaithful, LongerHistoriesKeepOffsets}
use Rattle.dbl_faithful.proofs.Faithful.{described_infos, fit_commits, faithful_stores_are_caught_up, caught_up_stores_are_faithful, faithful_records_stand}
use Rattle.dbl_faithful.proofs.Lists.{longer, is_longer, versioned_all, new_versions, versioned_more, infos_through, after_position, after_top, still_at, still_position, pairs}

not_both : (p l : ℕ) → p ≤ l → l < p → ⊥
not_both p l le lt = omega (arith, le, lt)

-- ---- entries of the catalogue

-- an entry of a history is one of a longer history at the same place, or at the end of the shorter one
still_entry : (history : History) (more : List RawCommit) (name : TableName) (place : ℕ) → (p : ℕ) × (entry_at (longer history more) p name ≡ entry_at history place name)
still_entry history more name place = elim (cases_lt place (length history.commits)) [
  | inl lt ↦ (place, same (take-append-le place history.commits more (under place (length history.commits) lt)))
  | inr le ↦ (
    length history.commits,
    same (take-append-le (length history.commits) history.commits more (le_refl (length history.commits))
        ∙ (take_all (length history.commits) history.commits (le_refl (length history.commits)) ∙ sym (take_all place history.commits le))),
  )
]
  where
    under : (a b : ℕ) → a < b → a ≤ b
    under a b lt = omega (arith, lt)

    same : {xs ys : List RawCommit} → xs ≡ ys
        → option_map (λ table. fold (λ entry commit. entry_after commit.body entry) table xs) (entry_of history name) ≡ option_map (λ table. fold (λ entry commit. entry_after commit.body entry) table ys) (entry_of history name)
    same e = ap (λ (l : List RawCommit). option_map (λ table. fold (λ entry commit. entry_after commit.body entry) table l) (entry_of history name)) e

pub still_described : (history : History) (more : List RawCommit) (info : TableInfo) (version : ℕ) → IsDescribedAt history info version → IsDescribedAt (longer history more) info version
still_described history more info version described =
    let there = still_entry history more info.name described.place in
    record { place = there.0; entry = described.entry; stands = there.1 ∙ described.stands; is = described.is; version_is = described.version_is }

-- ---- what stands of an offset

module _ (history : History) (more : List RawCommit) (confirmed : Lsn) (records : List Record) (offset : Offset) (rising : IsRising (longer history more)) (marks : AllByRecursion (λ commit. IsMarkedBy offset.incarnation commit.body) more) where
  still_lsn : (offset.lsn.0 ≡ offset.start.0) ⊎ IsCommitAt history offset.lsn.0 → (offset.lsn.0 ≡ offset.start.0) ⊎ IsCommitAt (longer history more) offset.lsn.0
  still_lsn (inl same) = inl same
  still_lsn (inr at) = inr (still_at history more offset.lsn.0 at)

  abbrev new : List Versioned
  new = new_versions offset.infos history more

  list : captured_commits (longer history more) offset ≡ captured_commits history offset ++ new
  list = versioned_more offset.infos history more

  -- the new commits are after the LSN
  after_lsn : IsOffsetOf history confirmed records offset → AllByRecursion (λ v. offset.lsn.0 < v.lsn.0) new
  after_lsn is = versioned_all (infos_through (first_infos history offset) history.commits) (λ n. offset.lsn.0 < n) more (by is.lsn)
    where
      by : (offset.lsn.0 ≡ offset.start.0) ⊎ IsCommitAt history offset.lsn.0 → AllByRecursion (λ commit. offset.lsn.0 < commit.lsn.0) more
      by (inl same) = subst (λ (p : ℕ). AllByRecursion (λ (commit : RawCommit). p < commit.lsn.0) more) (sym same) (after_position history more rising offset.start.0 is.start)
      by (inr at) = after_position history more rising offset.lsn.0 (inr at)

  still_cursor : (table : ℕ) (info : TableInfo) (version : ℕ) (cursor : Cursor) → AllByRecursion (λ v. offset.lsn.0 < v.lsn.0) new
      → IsRightCursor offset.identity (captured_commits history offset) records offset.lsn.0 table info version cursor
      → IsRightCursor offset.identity (captured_commits (longer history more) offset) records offset.lsn.0 table info version cursor
  still_cursor table info version cursor ahead (inl unread) = inl unread
  still_cursor table info version cursor ahead (inr told) =
      subst (λ (l : List Versioned). IsRightCursor offset.identity l records offset.lsn.0 table info version cursor) (sym list)
      (inr (longer_histories offset.identity (captured_commits history offset) new records offset.lsn.0 table info version cursor ahead told))

  still_offset : IsOffsetOf history confirmed records offset → IsOffsetOf (longer history more) confirmed records offset
  still_offset is = record {
    start = still_position history more offset.start.0 is.start;
    lsn = still_lsn is.lsn;
    order = is.order;
    many = is.many;
    cursors = λ table info version cursor at_info at_version at_cursor. still_cursor table info version cursor (after_lsn is) (is.cursors table info version cursor at_info at_version at_cursor);
    confirmed_to = is.confirmed_to;
    marks = all_append (λ (commit : RawCommit). IsMarkedBy offset.incarnation commit.body) history.commits more is.marks marks;
    distinct = is.distinct;
    infos = zip_weaker (IsDescribedAt history) (IsDescribedAt (longer history more)) offset.infos offset.versions (λ info version described. still_described history more info version described) is.infos;
  }

  -- the new events are after the LSN
  new_event : AllByRecursion (λ v. offset.lsn.0 < v.lsn.0) new → (k : ℕ) (t : ToldEvent) → slice_get (events_since offset.start.0 new) k ≡ Some t → offset.lsn.0 < t.event.position
  new_event high k t at =
      let found = told_at (commits_since offset.start.0 new) k t at in
      subst (λ (p : ℕ). offset.lsn.0 < p) (sym (event_position (commits_since offset.start.0 new) t found))
      (at_all (λ (v : Versioned). offset.lsn.0 < v.lsn.0) (commits_since offset.start.0 new) found.place found.version (all_filter (λ (v : Versioned). offset.lsn.0 < v.lsn.0) (λ (v : Versioned). nat_lt offset.start.0 v.lsn.0) new high) found.commit_at)

  still_after : IsBehind history confirmed records offset → IsBehind (longer history more) confirmed records offset
  still_after lags = record {
    offset_is = still_offset lags.offset_is;
    has_records = λ number t at le. elim (at_cases (events_since offset.start.0 (captured_commits history offset)) (events_since offset.start.0 new) number t
        (ap (λ (l : List ToldEvent). slice_get l number) (sym (ap (events_since offset.start.0) list ∙ events_since-append offset.start.0 (captured_commits history offset) new)) ∙ at)) [
          | inl known ↦ lags.has_records number t known le
          | inr late ↦ absurd (not_both t.event.position offset.lsn.0 le (new_event (after_lsn lags.offset_is) late.0 t late.1))
        ];
  }

  -- ---- faithful stores

  still_faithful : IsFitHistory history → IsFitHistory (longer history more) → IsFaithfulTo history confirmed records offset → IsFaithfulTo (longer history more) confirmed records offset
  still_faithful fit fit_longer faithful =
      let is : IsOffsetOf history confirmed records offset = faithful.lags.offset_is in
      let begins = faithful_stores_are_caught_up history confirmed records offset fit faithful in
      let captured : AreInfosOf (longer history more) offset.infos = described_infos (longer history more) confirmed records offset fit_longer (still_offset is) in
      let facts : AreFitVersions (first_infos history offset) (captured_commits (longer history more) offset) = fit_commits (longer history more) offset fit_longer captured in
      let far : AllByRecursion (λ v. top_position records < v.lsn.0) new =
      versioned_all (infos_through (first_infos history offset) history.commits) (λ n. top_position records < n) more (after_top history more rising records (λ place item at. faithful_records_stand history confirmed records offset place item faithful at)) in
      let up : HasDeliveredUpTo offset.identity (first_infos history offset) (captured_commits (longer history more) offset) offset.start.0 offset.lsn.0 offset.lsn.0 (top_position records) begins.before (begins.later ++ new) 0 records =
      subst (λ (l : List Versioned). HasDeliveredUpTo offset.identity (first_infos history offset) l offset.start.0 offset.lsn.0 offset.lsn.0 (top_position records) begins.before (begins.later ++ new) 0 records) (sym list)
      (longer_histories_are_caught_up offset.identity (first_infos history offset) (captured_commits history offset) begins.before begins.later new offset.start.0 offset.lsn.0 offset.lsn.0 (top_position records) 0 records
      (subst (AreFitVersions (first_infos history offset)) list facts) (pairs (top_position records) offset.lsn.0 new far (after_lsn is)) begins.delivered) in
      caught_up_stores_are_faithful (longer history more) confirmed records offset begins.before (begins.later ++ new) offset.lsn.0 offset.lsn.0 (top_position records) 0 (le_refl offset.lsn.0) (le_refl offset.lsn.0) (still_offset is) up

-- ---- the laws

pub longer_histories_keep_offsets : LongerHistoriesKeepOffsets
longer_histories_keep_offsets old new more confirmed records offset grown rising marks =
    let same : longer old more ≡ new = sym (is_longer old new more grown) in
    let rises : IsRising (longer old more) = subst IsRising (sym same) rising in (
      λ is. subst (λ (h : History). IsOffsetOf h confirmed records offset) same (still_offset old more confirmed records offset rises marks is),
      λ lags. subst (λ (h : History). IsBehind h confirmed records offset) same (still_after old more confirmed records offset rises marks lags),
    )

pub longer_histories_stay_faithful : LongerHistoriesStayFaithful
longer_histories_stay_faithful old new more confirmed records None fit fit_new grown bodies faithful =
    subst (λ (h : History). IsUntouched h confirmed records) (sym (is_longer old new more grown))
    (record { empty = faithful.empty; unmarked = all_append (λ (commit : RawCommit). HasNoMark commit.body) old.commits more faithful.unmarked bodies; unconfirmed = faithful.unconfirmed })
longer_histories_stay_faithful old new more confirmed records (Some offset) fit fit_new grown bodies faithful =
    let same : longer old more ≡ new = sym (is_longer old new more grown) in
    let fit_longer : IsFitHistory (longer old more) = subst IsFitHistory (sym same) fit_new in
    subst (λ (h : History). IsFaithfulTo h confirmed records offset) same (still_faithful old more confirmed records offset fit_longer.rising bodies fit fit_longer faithful)
