-- Faithful stores at a session's beginning and at its end.
use Rattle.std.proofs.Common.{◌≡◌, ◌∙◌, ◌⊎◌, inl, inr, ◌≤◌, ◌<◌, ℕ, true, false, List, [], ◌∷◌, ◌++◌, Option, Some, length, map, refl, sym, ap, ap₂, subst, arith, le_refl}
use Rattle.std.specs.Prelude.{nat_lt, IsSomeAnd, option_map, unwrap_or, slice_get}
use Rattle.std.specs.List.{AllByRecursion, AllZip}
use Rattle.dbl_record.specs.Places.{Place}
use Rattle.dbl_base.specs.declared.lsn.Lsn.{Lsn}
use Rattle.dbl_record.specs.declared.record.Record.{Record}
use Rattle.dbl_model_table.specs.declared.identity.Identity.{Identity}
use Rattle.dbl_model_table.specs.declared.row.Key.{Key}
use Rattle.dbl_model_table.specs.declared.table.RawTable.{RawTable}
use Rattle.dbl_model_table.specs.declared.table.TableInfo.{TableInfo}
use Rattle.dbl_model_table.specs.Infos.{IsInfoOf}
use Rattle.dbl_model_table.proofs.Lists.{bool_case}
use Rattle.dbl_consume_laws.specs.ModelHistory.declared.cursor.Cursor.{Cursor}
use Rattle.dbl_consume_laws.specs.ModelHistory.KeyBounds.{IsUpTo}
use Rattle.dbl_consume_laws.specs.ModelHistory.Fit.{AltersNone, AreInfosOf, IsFitHistory}
use Rattle.dbl_consume_laws.specs.ModelHistory.History.{AreRising, RawBody, RawCommit, History, entry_of}
use Rattle.dbl_consume_laws.specs.ModelHistory.History.RawBody.{Changes, Mark, Alter}
use Rattle.dbl_consume_laws.specs.ModelHistory.InForce.{reshaped, opening_infos}
use Rattle.dbl_model_history.proofs.InForceLemmas.{unaltered_entries, reshaped_itself}
use Rattle.dbl_model_history.proofs.RowKeys.{some_and}
use Rattle.dbl_consume_laws.proofs.ModelHistoryMomentLemmas.{lsns}
use Rattle.dbl_offset_content.specs.declared.offset.Offset.{Offset}
use Rattle.dbl_consume_laws.specs.KnownKeys.{IsTold}
use Rattle.dbl_consume_laws.proofs.Lists.{slice_get-seam}
use Rattle.dbl_consume_courses.specs.Versions.{Versioned, plain_commit}
use Rattle.dbl_consume_courses.specs.Courses.{course}
use Rattle.dbl_consume_courses.specs.Since.{since}
use Rattle.dbl_consume_courses.specs.AlteredTables.{IsAgedFrom}
use Rattle.dbl_consume_courses.specs.AgesBetween.{IsLsnOf}
use Rattle.dbl_consume_courses.specs.VersionStores.{IsCursorOf}
use Rattle.dbl_consume_courses.specs.FitVersions.{AreFitVersions}
use Rattle.dbl_consume_courses.proofs.FitHistoryLemmas.{plain_fit_versions}
use Rattle.dbl_consume_courses.proofs.VersionLemmas.{cursors_are}
use Rattle.dbl_faithful.specs.CaughtUp.{HasDeliveredUpTo}
use Rattle.dbl_faithful.specs.Kinds.{is_change_record}
use Rattle.dbl_faithful.specs.ToldEvents.{ToldEvent, commits_since, events_since, HasRecordOfEvent, ArePut}
use Rattle.dbl_faithful.proofs.CaughtUp.{ahead_of, starts_are_caught_up, put_logs_are_caught_up, caught_up_logs_are_right, delivered_events_are_put}
use Rattle.dbl_faithful.proofs.Items.{at_left, at_cases, taken_at, at_all, zip_at, zip_length}
use Rattle.dbl_faithful.proofs.Positions.{end_after, end_under}
use Rattle.dbl_faithful.proofs.RightSnapshots.{filter_from}
use Rattle.dbl_faithful.proofs.Trace.{told_at, event_position, events_since-append, all_filter, print_place}
use Rattle.dbl_faithful.specs.Stores.{IsCommitAt, IsPositionOf, top_position}
use Rattle.dbl_faithful.specs.Lag.{IsUnread, IsRightCursor, IsMarkedBy, IsDescribedAt, IsOffsetOf, IsBehind}
use Rattle.dbl_faithful.specs.Faithful.{captured_commits, first_infos, HasNoMark}
use Rattle.dbl_faithful.specs.Laws.{FaithfulStoresAreCaughtUp, CursorsWereTold, FaithfulRecordsStand, CaughtUpStoresAreFaithful, FirstOffsetsAreFaithful}
use Rattle.dbl_faithful.proofs.StorePositions.{commit_at, lsn_at, IsEnded, ended_at, top_has}

-- ---- numbers

never_both : (a b c : ℕ) → a < b → b ≤ c → c ≡ a → ⊥
never_both a b c lt le e = omega (arith, lt, le, e)

equal_le : (a b : ℕ) → b ≡ a → a ≤ b
equal_le a b e = omega (arith, e)

none_le : (a b : ℕ) → a ≡ 0 → a ≤ b
none_le a b e = omega (arith, e)

-- ---- a history in which no table is altered

-- what a table is described as is its entry
described : (history : History) (infos : List TableInfo) (versions : List ℕ) → AllByRecursion (λ commit. AltersNone commit.body) history.commits → AllZip (IsDescribedAt history) infos versions
    → AllByRecursion (λ info. IsSomeAnd (entry_of history info.name) (λ raw. IsInfoOf raw info)) infos
described history [] versions unaltered zipped = tt
described history (info ∷ infos) [] unaltered zipped = absurd zipped
described history (info ∷ infos) (version ∷ versions) unaltered zipped =
    let entry_is : entry_of history info.name ≡ Some zipped.0.entry = sym (unaltered_entries history zipped.0.place info.name unaltered) ∙ zipped.0.stands in
    (subst (λ (o : Option RawTable). IsSomeAnd o (λ raw. IsInfoOf raw info)) (sym entry_is) zipped.0.is, described history infos versions unaltered zipped.1)

pub described_infos : (history : History) (confirmed : Lsn) (records : List Record) (offset : Offset) → IsFitHistory history → IsOffsetOf history confirmed records offset → AreInfosOf history offset.infos
described_infos history confirmed records offset fit is = record { distinct = is.distinct; each = described history offset.infos offset.versions fit.unaltered is.infos }

pub infos_opened : (history : History) (infos : List TableInfo) → AllByRecursion (λ info. IsSomeAnd (entry_of history info.name) (λ table. IsInfoOf table info)) infos → opening_infos history infos ≡ infos
infos_opened history [] each = refl
infos_opened history (info ∷ infos) each =
    let found = some_and (entry_of history info.name) (λ table. IsInfoOf table info) each.0 in
    let here : unwrap_or (option_map (λ table. reshaped table.columns info) (entry_of history info.name)) info ≡ info =
    ap (λ (o : Option RawTable). unwrap_or (option_map (λ table. reshaped table.columns info) o) info) found.1 ∙ reshaped_itself found.0 info found.2 in
    ap₂ (λ (x : TableInfo) (l : List TableInfo). x ∷ l) here (infos_opened history infos each.1)

pub fit_commits : (history : History) (offset : Offset) → IsFitHistory history → AreInfosOf history offset.infos → AreFitVersions (first_infos history offset) (captured_commits history offset)
fit_commits history offset fit captured =
    subst (λ (l : List TableInfo). AreFitVersions l (captured_commits history offset)) (sym (infos_opened history offset.infos captured.each)) (plain_fit_versions history offset.infos fit captured)

-- ---- the beginning of a session

lsn_position : (history : History) (offset : Offset) → IsPositionOf history offset.start.0 → (offset.lsn.0 ≡ offset.start.0) ⊎ IsCommitAt history offset.lsn.0 → IsPositionOf history offset.lsn.0
lsn_position history offset start (inl same) = subst (IsPositionOf history) (sym same) start
lsn_position history offset start (inr at) = inr at

one_position : (a b : ℕ) → a ≤ b → b ≤ a → a ≡ b
one_position a b one two = omega (arith, one, two)

pub faithful_stores_are_caught_up : FaithfulStoresAreCaughtUp
faithful_stores_are_caught_up history confirmed records offset fit faithful =
    let versions : List Versioned = captured_commits history offset in
    let infos : List TableInfo = first_infos history offset in
    let lsn : ℕ = offset.lsn.0 in
    let lags : IsBehind history confirmed records offset = faithful.lags in
    let facts : AreFitVersions infos versions = fit_commits history offset fit (described_infos history confirmed records offset fit lags.offset_is) in
    let end : IsEnded versions lsn = ended_at offset.infos history lsn (lsn_position history offset lags.offset_is.start lags.offset_is.lsn) in
    let rise : AreRising 0 (lsns (map plain_commit (end.before ++ end.later))) = subst (λ (l : List Versioned). AreRising 0 (lsns (map plain_commit l))) end.spelled facts.rise in
    let upto : AllByRecursion (λ v. v.lsn.0 ≤ lsn) end.before = end_under lsn end.before end.later rise end.ends in
    let past : AllByRecursion (λ v. lsn < v.lsn.0) end.later = end_after lsn end.before end.later rise end.ends in
    let told_are : events_since offset.start.0 versions ≡ events_since offset.start.0 end.before ++ events_since offset.start.0 end.later =
    ap (events_since offset.start.0) end.spelled ∙ events_since-append offset.start.0 end.before end.later in
    let put : ArePut offset.identity records (events_since offset.start.0 end.before) =
    (λ number t at. (
    let found = told_at (commits_since offset.start.0 end.before) number t at in
    let low : found.version.lsn.0 ≤ lsn =
    at_all (λ (v : Versioned). v.lsn.0 ≤ lsn) (commits_since offset.start.0 end.before) found.place found.version
    (all_filter (λ (v : Versioned). v.lsn.0 ≤ lsn) (λ (v : Versioned). nat_lt offset.start.0 v.lsn.0) end.before upto) found.commit_at in
    lags.has_records number t
    (ap (λ (l : List ToldEvent). slice_get l number) told_are ∙ at_left (events_since offset.start.0 end.before) (events_since offset.start.0 end.later) number t at)
    (subst (λ (p : ℕ). p ≤ lsn) (sym (event_position (commits_since offset.start.0 end.before) t found)) low))) in
    record {
      before = end.before;
      later = end.later;
      delivered = put_logs_are_caught_up offset.identity infos versions end.before end.later offset.start.0 lsn (top_position records) records facts end.spelled upto past lags.offset_is.order put
          (λ table position at lower upper. subst (λ (p : ℕ). IsAgedFrom offset.identity infos versions offset.start.0 records p table) (one_position lsn position lower upper) (faithful.aged table))
          faithful.agrees faithful.keyed faithful.exact faithful.snapshots faithful.late (top_has records);
    }

-- what reports progress is a record of the log, and isn't before its start
pub told_after : (identity : Identity) (versions : List Versioned) (records : List Record) (start lsn table : ℕ) (info : TableInfo) (version : ℕ) (cursor : Cursor) → AllByRecursion (λ item. start ≤ item.position) records
    → (told : IsCursorOf identity versions records lsn table info version cursor) → start ≤ told.item.position
told_after identity versions records start lsn table info version cursor late told =
    at_all (λ (item : Record). start ≤ item.position) records (length told.earlier) told.item late (ap (λ (l : List Record). slice_get l (length told.earlier)) told.spelled ∙ slice_get-seam told.earlier told.item told.later)

pub cursors_were_told : CursorsWereTold
cursors_were_told history confirmed records offset table info version cursor lags late captured at_version at version_is in_force =
    by (lags.offset_is.cursors table info version cursor captured at_version at)
  where
    by : IsRightCursor offset.identity (captured_commits history offset) records offset.lsn.0 table info version cursor → (key : Key) → IsUpTo cursor.last key
        → IsTold offset.identity (course (first_infos history offset) (captured_commits history offset) offset.start.0 table offset.lsn.0).infos
        (since (course (first_infos history offset) (captured_commits history offset) offset.start.0 table offset.lsn.0).start records) table key
    by (inl unread) key up_to = absurd (subst (λ (bound : Option Key). IsUpTo bound key) unread.0 up_to)
    by (inr told) key up_to =
        cursors_are offset.identity (first_infos history offset) (captured_commits history offset) records offset.start.0 offset.lsn.0 table info version cursor key told in_force
        (told_after offset.identity (captured_commits history offset) records offset.start.0 offset.lsn.0 table info version cursor late told) version_is (inr up_to)

pub faithful_records_stand : FaithfulRecordsStand
faithful_records_stand history confirmed records offset place item faithful at = by (bool_case (is_change_record item))
  where
    by : (is_change_record item ≡ true) ⊎ (is_change_record item ≡ false) → IsCommitAt history item.position
    by (inl change) =
        let versions : List Versioned = captured_commits history offset in
        let among = faithful.exact.1.others place item at change in
        let stands = taken_at faithful.exact.0 (events_since offset.start.0 versions) among.number among.event among.stands in
        let found = told_at (commits_since offset.start.0 versions) among.number among.event stands.1 in
        let here = filter_from (λ (v : Versioned). nat_lt offset.start.0 v.lsn.0) versions found.place found.version found.commit_at in
        let position : item.position ≡ found.version.lsn.0 =
        ap (λ (p : Place). p.0) (print_place offset.identity among.event item among.is) ∙ event_position (commits_since offset.start.0 versions) among.event found in
        subst (IsCommitAt history) (sym position) (commit_at offset.infos history here.0 found.version here.1)
    by (inr other) =
        let window = (faithful.snapshots.each place item at other).window in
        subst (IsCommitAt history) window.position_is
        (commit_at offset.infos history (length window.before) window.mark
        (ap (λ (l : List Versioned). slice_get l (length window.before)) window.spelled ∙ slice_get-seam window.before window.mark window.later))

-- ---- its end

-- an offset between the delivered positions is at the first of them or at a commit
offset_at : (history : History) (confirmed : Lsn) (records : List Record) (offset : Offset) (low : ℕ) → IsOffsetOf history confirmed records offset → offset.start.0 ≤ low → low ≤ offset.lsn.0 → (offset.lsn.0 ≡ low) ⊎ IsLsnOf (captured_commits history offset) offset.lsn.0
offset_at history confirmed records offset low is order lower = by is.lsn
  where
    at_first : (s l o : ℕ) → s ≤ l → l ≤ o → o ≡ s → o ≡ l
    at_first s l o one two same = omega (arith, one, two, same)

    by : (offset.lsn.0 ≡ offset.start.0) ⊎ IsCommitAt history offset.lsn.0 → (offset.lsn.0 ≡ low) ⊎ IsLsnOf (captured_commits history offset) offset.lsn.0
    by (inl same) = inl (at_first offset.start.0 low offset.lsn.0 order lower same)
    by (inr at) = inr (lsn_at offset.infos history offset.lsn.0 at)

pub caught_up_stores_are_faithful : CaughtUpStoresAreFaithful
caught_up_stores_are_faithful history confirmed records offset before later low high far sent lower upper is up =
    let right = caught_up_logs_are_right offset.identity (first_infos history offset) (captured_commits history offset) before later offset.start.0 low high far sent records up in
    record {
      late = up.late;
      agrees = right.0.agrees;
      exact = right.1;
      snapshots = right.2;
      aged = λ table. right.0.aged table offset.lsn.0 (offset_at history confirmed records offset low is up.order lower) lower upper;
      keyed = right.0.keyed;
      lags = record { offset_is = is; has_records = put };
    }
  where
    not_both : (p l : ℕ) → p ≤ l → l < p → ⊥
    not_both p l le lt = omega (arith, le, lt)

    above : AllByRecursion (λ v. offset.lsn.0 < v.lsn.0) later
    above = ahead_of offset.lsn.0 high high later upper (le_refl high) up.past

    -- an event after the delivered commits is after the LSN
    after_lsn : (k : ℕ) (t : ToldEvent) → slice_get (events_since offset.start.0 later) k ≡ Some t → offset.lsn.0 < t.event.position
    after_lsn k t at =
        let found = told_at (commits_since offset.start.0 later) k t at in
        subst (λ (p : ℕ). offset.lsn.0 < p) (sym (event_position (commits_since offset.start.0 later) t found))
        (at_all (λ (v : Versioned). offset.lsn.0 < v.lsn.0) (commits_since offset.start.0 later) found.place found.version
        (all_filter (λ (v : Versioned). offset.lsn.0 < v.lsn.0) (λ (v : Versioned). nat_lt offset.start.0 v.lsn.0) later above) found.commit_at)

    put : (number : ℕ) (t : ToldEvent) → slice_get (events_since offset.start.0 (captured_commits history offset)) number ≡ Some t → t.event.position ≤ offset.lsn.0 → HasRecordOfEvent offset.identity records t
    put number t at le =
        elim (at_cases (events_since offset.start.0 before) (events_since offset.start.0 later) number t
        (ap (λ (l : List ToldEvent). slice_get l number) (sym (ap (events_since offset.start.0) up.spelled ∙ events_since-append offset.start.0 before later)) ∙ at)) [
          | inl known ↦ delivered_events_are_put offset.identity (first_infos history offset) (captured_commits history offset) before later offset.start.0 low high far sent records up number t known
          | inr late ↦ absurd (not_both t.event.position offset.lsn.0 le (after_lsn late.0 t late.1))
        ]

-- ---- a first offset

unmarked : (greatest : ℕ) (body : RawBody) → HasNoMark body → IsMarkedBy greatest body
unmarked greatest (Changes changes) none = tt
unmarked greatest (Mark value) none = absurd none
unmarked greatest (Alter name columns rows) none = tt

all_unmarked : (greatest : ℕ) (commits : List RawCommit) → AllByRecursion (λ commit. HasNoMark commit.body) commits → AllByRecursion (λ commit. IsMarkedBy greatest commit.body) commits
all_unmarked greatest [] none = tt
all_unmarked greatest (commit ∷ commits) none = (unmarked greatest commit.body none.0, all_unmarked greatest commits none.1)

as_many : (history : History) (infos : List TableInfo) (versions : List ℕ) → AllZip (IsDescribedAt history) infos versions → length versions ≡ length infos
as_many history infos versions zipped = sym (zip_length (IsDescribedAt history) infos versions zipped)

-- the cursor of a table of which nothing was read
unread_at : (infos : List TableInfo) (cursors : List Cursor) (table : ℕ) (cursor : Cursor) → AllZip (λ info cursor. IsUnread cursor) infos cursors → slice_get cursors table ≡ Some cursor → IsUnread cursor
unread_at infos cursors table cursor unread at = (zip_at (λ (info : TableInfo) (x : Cursor). IsUnread x) infos cursors table cursor unread at).2

pub first_offsets_are_faithful : FirstOffsetsAreFaithful
first_offsets_are_faithful history confirmed records offset fit untouched apart infos many start same unread =
    let versions : List Versioned = captured_commits history offset in
    let is : IsOffsetOf history confirmed records offset = record {
      start = start;
      lsn = inl same;
      order = equal_le offset.start.0 offset.lsn.0 same;
      many = (as_many history offset.infos offset.versions infos, many);
      cursors = λ table info version cursor at_info at_version at_cursor. inl (unread_at offset.infos offset.cursors table cursor unread at_cursor);
      confirmed_to = none_le confirmed.0 offset.lsn.0 untouched.unconfirmed;
      marks = all_unmarked offset.incarnation history.commits untouched.unmarked;
      distinct = apart;
      infos = infos;
    } in
    let facts : AreFitVersions (first_infos history offset) versions = fit_commits history offset fit (described_infos history confirmed records offset fit is) in
    let end : IsEnded versions offset.start.0 = ended_at offset.infos history offset.start.0 start in
    let up : HasDeliveredUpTo offset.identity (first_infos history offset) versions offset.start.0 offset.start.0 offset.start.0 0 end.before end.later 0 records =
    subst (HasDeliveredUpTo offset.identity (first_infos history offset) versions offset.start.0 offset.start.0 offset.start.0 0 end.before end.later 0) (sym untouched.empty)
    (starts_are_caught_up offset.identity (first_infos history offset) versions end.before end.later offset.start.0 0 facts end.spelled end.ends) in
    caught_up_stores_are_faithful history confirmed records offset end.before end.later offset.start.0 offset.start.0 0 0 (equal_le offset.start.0 offset.lsn.0 same) (equal_le offset.lsn.0 offset.start.0 (sym same)) is up
