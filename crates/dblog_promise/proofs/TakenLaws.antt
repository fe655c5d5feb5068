-- A consumer takes each record of a kept log, so that `apply` prints what it holds.
use Rattle.std.proofs.Common.{◌≡◌, ◌∙◌, ℕ, ℤ, ◌+◌, ◌==◌, ◌&&◌, Bool, true, false, if◌then◌else◌, List, [], ◌∷◌, ◌++◌, Option, Some, None, Ok, length, map, flat_map, refl, sym, ap, subst}
use Rattle.std.specs.Prelude.{is_ok, nat_lt, option_map, slice_get, unwrap_or}
use Rattle.std.specs.List.{AllByRecursion, list_all}
use Rattle.dbl_record.specs.declared.acts.Act.{Act}
use Rattle.dbl_record.specs.declared.reading.Line.{Line}
use Rattle.dbl_record.specs.declared.record.Record.{Record}
use Rattle.dbl_record.specs.Acts.{act, reading_of}
use Rattle.dbl_record.specs.Cuts.{joined}
use Rattle.dbl_record.specs.Reading.{as_line}
use Rattle.dbl_consume.specs.Printing.{row_line}
use Rattle.dbl_consume.proofs.StandLemmas.{rows_stand}
use Rattle.dbl_model_table.specs.declared.change.Commit.{Commit}
use Rattle.dbl_model_table.specs.declared.identity.Identity.{Identity}
use Rattle.dbl_model_table.specs.declared.row.Key.{Key}
use Rattle.dbl_model_table.specs.declared.row.Row.{Row}
use Rattle.dbl_model_table.specs.declared.table.TableInfo.{TableInfo}
use Rattle.dbl_model_table.specs.Infos.{column_types}
use Rattle.dbl_model_table.specs.Keys.{key_of}
use Rattle.dbl_model_table.specs.Rows.{changes_of, no_rows}
use Rattle.dbl_model_history.specs.Fit.{IsKeyOf}
use Rattle.dbl_model_history.specs.FitsInfos.{AreCellsOf}
use Rattle.dbl_model_history.specs.InForce.{Versioned, plain_commit}
use Rattle.dbl_model_history.specs.Ranges.{IsCommitInRange, IsMomentInRange}
use Rattle.dbl_model_event.specs.Events.{Content, Created, Updated, Deleted, Tombstone, Truncated, Notice, notices}
use Rattle.dbl_model_event.specs.SnapshotLists.{IsSnapshot}
use Rattle.dbl_model_event.specs.Snapshots.{chunk_records, progress_record, read_record, read_records}
use Rattle.dbl_model_event.specs.declared.closed.Closed.{Closed}
use Rattle.dbl_capture_laws.specs.ConsumeLaws.Snapshots.{IsReadInRange}
use Rattle.dbl_capture_laws.proofs.ConsumeLawsActs.{line_of_event, act_created, act_updated, act_deleted, act_tombstone, act_truncated}
use Rattle.dbl_capture_laws.proofs.ConsumeLawsCellEvents.{IsKeyed, IsKeyedNotice, all_keyed}
use Rattle.dbl_capture_laws.proofs.ConsumeLawsConsumers.{all_left, all_right}
use Rattle.dbl_capture_laws.proofs.ConsumeLawsNotices.{ContentFits, KeyFits, NoticeFits, commit_tells}
use Rattle.dbl_capture_laws.proofs.ConsumeLawsPrints.{through_in_range}
use Rattle.dbl_capture_laws.proofs.ConsumeLawsReadRows.{act_progress, act_read_record}
use Rattle.dbl_capture_laws.proofs.ConsumeLawsEvents.{numbered_notice}
use Rattle.dbl_capture_laws.proofs.ConsumeLawsLists.{slice_get-seam}
use Rattle.dbl_capture_laws.proofs.ConsumeLawsSnapshot.{cells_in_range}
use Rattle.dbl_capture_laws.specs.Faithful.Kinds.{is_change_record}
use Rattle.dbl_capture_laws.specs.Faithful.ConsumeCourses.VersionStores.{HasWindowAt}
use Rattle.dbl_capture_laws.specs.Faithful.ToldEvents.{IsPrint, ToldEvent, commits_since, events_since, events_of_commits}
use Rattle.dbl_capture_laws.proofs.FaithfulFaithful.{described_infos, fit_commits}
use Rattle.dbl_capture_laws.proofs.FaithfulItems.{all_by_place, at_all, taken_at}
use Rattle.dbl_capture_laws.proofs.FaithfulRightSnapshots.{at_test, filter_has}
use Rattle.dbl_capture_laws.proofs.FaithfulTrace.{all_filter, in_range, told_at}
use Rattle.dbl_capture_laws.specs.Offset.declared.offset.Offset.{Offset}
use Rattle.dbl_capture_laws.specs.OffsetStore.Stores.{IsStore}
use Rattle.dbl_capture_laws.specs.Faithful.Faithful.{IsFaithful, IsFaithfulTo, captured_commits}
use Rattle.dblog_stores.specs.Answers.{accepts, first_refused_from, takes}
use Rattle.dblog_promise.specs.Applied.{KeptLogsArePrinted}
use Rattle.dblog_promise.specs.Contents.{Contents, confirmed_at, history_at, records_of_contents}
use Rattle.dblog_promise.specs.Kept.{IsKept}

abbrev IsTaken : Identity → Record → Type 0
IsTaken identity item = (done : Act) × (act identity.placeholder (as_line item) ≡ Ok done)

module _ (identity : Identity) where
  by_line : (item : Record) (line : Line) (done : Act) → as_line item ≡ line → act identity.placeholder line ≡ Ok done → IsTaken identity item
  by_line item line done is does = (done, ap (act identity.placeholder) is ∙ does)

  -- ---- the record of an event

  event_taken : (commit : Commit) (now : ℤ) → IsCommitInRange commit → IsMomentInRange now → (info : TableInfo) (key : Option Key) (content : Content) (item : Record) → as_line item ≡ line_of_event identity commit now info key content
      → KeyFits key → ContentFits content → IsKeyed key content → IsTaken identity item
  event_taken commit now range moment info (Some key) (Created row) item line k c keyed = by_line item _ _ line (act_created identity commit now range moment info key row k c)
  event_taken commit now range moment info (Some key) (Updated old cells) item line k c keyed = by_line item _ _ line (act_updated identity commit now range moment info key old cells k c.0 c.1)
  event_taken commit now range moment info (Some key) (Deleted old) item line k c keyed = by_line item _ _ line (act_deleted identity commit now range moment info key old k c)
  event_taken commit now range moment info (Some key) Tombstone item line k c keyed = by_line item _ _ line (act_tombstone identity commit now range moment info key k)
  event_taken commit now range moment info (Some key) Truncated item line k c keyed = absurd keyed
  event_taken commit now range moment info None (Created row) item line k c keyed = absurd keyed
  event_taken commit now range moment info None (Updated old cells) item line k c keyed = absurd keyed
  event_taken commit now range moment info None (Deleted old) item line k c keyed = absurd keyed
  event_taken commit now range moment info None Tombstone item line k c keyed = absurd keyed
  event_taken commit now range moment info None Truncated item line k c keyed = by_line item _ _ line (act_truncated identity commit now range moment info)

  print_taken : (versions : List Versioned) → AllByRecursion (λ v. IsCommitInRange (plain_commit v)) versions → (k : ℕ) (t : ToldEvent) (item : Record) → slice_get (events_of_commits versions) k ≡ Some t → IsPrint identity t item → IsTaken identity item
  print_taken versions all k t item at is =
      let found = told_at versions k t at in
      let infos : List TableInfo = found.version.infos in
      let commit : Commit = plain_commit found.version in
      let range : IsCommitInRange commit = at_all (λ (v : Versioned). IsCommitInRange (plain_commit v)) versions found.place found.version all found.commit_at in
      let ns : List Notice = flat_map (notices infos) (changes_of commit) in
      let stands : slice_get ns found.number ≡ Some t.event.notice = numbered_notice commit.lsn.0 0 ns found.number t.event found.event_at in
      let fits : NoticeFits t.event.notice = at_all NoticeFits ns found.number t.event.notice (commit_tells infos commit range).fit stands in
      let keyed : IsKeyedNotice t.event.notice = at_all IsKeyedNotice ns found.number t.event.notice (all_keyed infos (changes_of commit)) stands in
      event_taken t.commit is.now (subst IsCommitInRange (sym found.commit_is) range) is.in_range t.event.notice.info t.event.notice.key t.event.notice.content item (ap as_line is.printed) fits.key fits.content keyed

  -- ---- the records of a window

  module _ (mark : Commit) (now : ℤ) (range : IsCommitInRange mark) (moment : IsMomentInRange now) (info : TableInfo) where
    read_taken : (ordinal : ℕ) (entry : Key × Row) → IsKeyOf info entry.0 → AreCellsOf (column_types info) entry.1.cells → IsTaken identity (read_record identity info mark now ordinal entry)
    read_taken ordinal entry is_key cells =
        let in_range : IsReadInRange entry mark now =
        record { key_fits = through_in_range info (Some entry.0) is_key; row_fits = cells_in_range (column_types info) entry.1.cells cells; commit_fits = range; moment_fits = moment } in
        by_line (read_record identity info mark now ordinal entry) _ _ refl (act_read_record identity info mark now ordinal entry in_range)

    chunk_taken : (ordinal last : ℕ) (rows : List (Key × Row)) (through : Option Key) (done : Bool) → AllByRecursion (λ e. AreCellsOf (column_types info) e.1.cells × (key_of info e.1.cells ≡ e.0)) rows → AllByRecursion (λ e. IsKeyOf info e.0) rows
        → AllByRecursion (IsTaken identity) (read_records identity info mark now ordinal rows ++ progress_record identity info mark last through done ∷ [])
    chunk_taken ordinal last [] through done fits keys = (by_line (progress_record identity info mark last through done) _ _ refl (act_progress identity info mark last through done), tt)
    chunk_taken ordinal last (entry ∷ rows) through done fits keys = (read_taken ordinal entry keys.0 fits.0.0, chunk_taken (ordinal + 1) last rows through done fits.1 keys.1)

  snapshot_taken : (infos : List TableInfo) (closed : Closed) (mark : Commit) (now : ℤ) (records : List Record) → IsCommitInRange mark → IsMomentInRange now → IsSnapshot identity infos closed mark now records → AllByRecursion (IsTaken identity) records
  snapshot_taken infos closed mark now records range moment listed =
      let chunk : records ≡ chunk_records identity listed.info closed.rows closed.through closed.done mark now =
      listed.records_are ∙ ap (λ (o : Option TableInfo). unwrap_or (option_map (λ i. chunk_records identity i closed.rows closed.through closed.done mark now) o) []) listed.captured in
      subst (AllByRecursion (IsTaken identity)) (sym chunk) (chunk_taken mark now range moment listed.info 0 (length closed.rows) closed.rows closed.through closed.done listed.fits.rows listed.keys)

  window_taken : (versions : List Versioned) (records : List Record) (place : ℕ) (item : Record) → AllByRecursion (λ v. IsCommitInRange (plain_commit v)) versions → slice_get records place ≡ Some item
      → HasWindowAt identity versions records item.position → IsTaken identity item
  window_taken versions records place item all at window =
      let marked : slice_get versions (length window.before) ≡ Some window.mark =
      ap (λ (l : List Versioned). slice_get l (length window.before)) window.spelled ∙ slice_get-seam window.before window.mark window.later in
      let range : IsCommitInRange (plain_commit window.mark) = at_all (λ (v : Versioned). IsCommitInRange (plain_commit v)) versions (length window.before) window.mark all marked in
      let among = filter_has (λ (r : Record). r.position == item.position) records place item at (at_test item.position item.position refl) in
      let taken = taken_at window.count window.snapshot among.0 item (ap (λ (l : List Record). slice_get l among.0) (sym window.shown) ∙ among.1) in
      at_all (IsTaken identity) window.snapshot among.0 item (snapshot_taken window.mark.infos window.closed (plain_commit window.mark) window.now window.snapshot range window.in_range window.listed) taken.1

-- ---- the records of a kept log

record_taken : (held : Contents) (offset : Offset) → AllByRecursion (λ v. IsCommitInRange (plain_commit v)) (captured_commits (history_at held) offset) → IsFaithfulTo (history_at held) (confirmed_at held) (records_of_contents held) offset
    → (place : ℕ) (item : Record) → slice_get (records_of_contents held) place ≡ Some item → IsTaken offset.identity item
record_taken held offset all faithful place item at = by (is_change_record item) refl
  where
    by : (b : Bool) → is_change_record item ≡ b → IsTaken offset.identity item
    by true change =
        let among = faithful.exact.1.others place item at change in
        let first = taken_at faithful.exact.0 (events_since offset.start.0 (captured_commits (history_at held) offset)) among.number among.event among.stands in
        print_taken offset.identity (commits_since offset.start.0 (captured_commits (history_at held) offset))
        (all_filter (λ (v : Versioned). IsCommitInRange (plain_commit v)) (λ (v : Versioned). nat_lt offset.start.0 v.lsn.0) (captured_commits (history_at held) offset) all) among.number among.event item first.1 among.is
    by false other = window_taken offset.identity (captured_commits (history_at held) offset) (records_of_contents held) place item all at (faithful.snapshots.each place item at other).window

all_taken : (held : Contents) (stored : Option Offset) (offset : Offset) → IsKept held → IsFaithful (history_at held) (confirmed_at held) (records_of_contents held) stored → stored ≡ Some offset → AllByRecursion (IsTaken offset.identity) (records_of_contents held)
all_taken held None offset kept faithful is = absurd (let e : None ≡ Some offset = is in cc)
all_taken held (Some found) offset kept faithful is =
    let same : found ≡ offset = (let e : Some found ≡ Some offset = is in cc) in
    let captured = described_infos (history_at held) (confirmed_at held) (records_of_contents held) found kept.fit faithful.lags.offset_is in
    let all : AllByRecursion (λ v. IsCommitInRange (plain_commit v)) (captured_commits (history_at held) found) = in_range no_rows (captured_commits (history_at held) found) (fit_commits (history_at held) found kept.fit captured).fit in
    subst (λ (o : Offset). AllByRecursion (IsTaken o.identity) (records_of_contents held)) same
    (all_by_place (IsTaken found.identity) (records_of_contents held) (λ place item at. record_taken held found all faithful place item at))

-- ---- groups

group_taken : (identity : Identity) (group : List Record) → AllByRecursion (IsTaken identity) group → takes identity.placeholder group ≡ true
group_taken identity [] all = refl
group_taken identity (item ∷ group) all =
    ap (λ (b : Bool). b && list_all (accepts identity.placeholder) group) (ap is_ok all.0.1) ∙ group_taken identity group all.1

none_refused : (identity : Identity) (number : ℕ) (groups : List (List Record)) → AllByRecursion (IsTaken identity) (joined groups) → first_refused_from number identity.placeholder groups ≡ None
none_refused identity number [] all = refl
none_refused identity number (group ∷ groups) all =
    ap (λ (b : Bool). if b then first_refused_from (number + 1) identity.placeholder groups else Some number) (group_taken identity group (all_left (IsTaken identity) group (joined groups) all))
    ∙ none_refused identity (number + 1) groups (all_right (IsTaken identity) group (joined groups) all)

pub kept_logs_are_printed : KeptLogsArePrinted
kept_logs_are_printed held offset w t f read kept is =
    let rows = rows_stand offset.identity.placeholder (map reading_of (map as_line (records_of_contents held))) in (
      map row_line rows.0,
      record {
        groups = held.groups;
        offset = offset;
        read = record { log = read.log; store = subst (λ (o : Option Offset). IsStore f o) is read.store };
        taken = none_refused offset.identity 0 held.groups (all_taken held held.offset offset kept kept.faithful is);
        rows = rows.0;
        are = rows.1;
        lines_are = refl;
      },
    )
