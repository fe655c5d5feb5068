-- Offsets as records are appended, positions are confirmed and sessions follow each other.
use Rattle.std.proofs.Common.{◌≡◌, inl, inr, ◌≤◌, ◌<◌, ℕ, true, List, ◌++◌, Some, sym, subst, arith, le_trans}
use Rattle.std.specs.Prelude.{nat_lt, slice_get}
use Rattle.std.specs.List.{AllByRecursion}
use Rattle.std.proofs.lemmas.Bool.Decides.{Decides-ltb}
use Rattle.dbl_base.specs.declared.lsn.Lsn.{Lsn}
use Rattle.dbl_record.specs.declared.record.Record.{Record}
use Rattle.dbl_model_table.specs.declared.identity.Identity.{Identity}
use Rattle.dbl_model_table.specs.declared.table.TableInfo.{TableInfo}
use Rattle.dbl_consume_laws.specs.ModelHistory.History.RawBody.{Changes, Mark, Alter}
use Rattle.dbl_consume_laws.specs.ModelHistory.History.{RawBody, RawCommit, History}
use Rattle.dbl_consume_laws.specs.ModelHistory.declared.cursor.Cursor.{Cursor}
use Rattle.dbl_offset_content.specs.declared.offset.Offset.{Offset}
use Rattle.dbl_consume_courses.specs.Versions.{Versioned}
use Rattle.dbl_consume_courses.proofs.StoreSteps.{more_records}
use Rattle.dbl_faithful.specs.ToldEvents.{ToldEvent, commits_since, events_since}
use Rattle.dbl_faithful.proofs.Exact.{put_more}
use Rattle.dbl_faithful.proofs.Items.{at_all, all_weaker}
use Rattle.dbl_faithful.proofs.Trace.{told_at, event_position}
use Rattle.dbl_faithful.specs.Lag.{IsRightCursor, IsMarkedBy, IsOffsetOf}
use Rattle.dbl_faithful.specs.Faithful.{captured_commits, IsFaithfulTo}
use Rattle.dbl_faithful.specs.Kept.{IsTakenOver, MoreRecordsKeepOffsets, StartOffsetsLag, ConfirmsStayFaithful, LaterSessionsStayFaithful}
use Rattle.dbl_faithful.proofs.Onward.{passing}

-- ---- more records

more_told : (identity : Identity) (versions : List Versioned) (records more : List Record) (lsn table : ℕ) (info : TableInfo) (version : ℕ) (cursor : Cursor) → AllByRecursion (λ item. lsn ≤ item.position) more
    → IsRightCursor identity versions records lsn table info version cursor → IsRightCursor identity versions (records ++ more) lsn table info version cursor
more_told identity versions records more lsn table info version cursor late (inl unread) = inl unread
more_told identity versions records more lsn table info version cursor late (inr told) = inr (more_records identity versions records more lsn table info version cursor late told)

more_offset : (history : History) (confirmed : Lsn) (records more : List Record) (offset : Offset) → AllByRecursion (λ item. offset.lsn.0 ≤ item.position) more → IsOffsetOf history confirmed records offset → IsOffsetOf history confirmed (records ++ more) offset
more_offset history confirmed records more offset late is = record {
  start = is.start;
  lsn = is.lsn;
  order = is.order;
  many = is.many;
  cursors = λ table info version cursor at_info at_version at_cursor.
      more_told offset.identity (captured_commits history offset) records more offset.lsn.0 table info version cursor late (is.cursors table info version cursor at_info at_version at_cursor);
  confirmed_to = is.confirmed_to;
  marks = is.marks;
  distinct = is.distinct;
  infos = is.infos;
}

pub more_records_keep_offsets : MoreRecordsKeepOffsets
more_records_keep_offsets history confirmed records more offset late = (
  more_offset history confirmed records more offset late,
  λ lags. record {
    offset_is = more_offset history confirmed records more offset late lags.offset_is;
    has_records = λ number event at le. put_more offset.identity records more event (lags.has_records number event at le);
  },
)

-- ---- at the start

never_both : (a b c : ℕ) → a < b → b ≤ c → c ≡ a → ⊥
never_both a b c lt le e = omega (arith, lt, le, e)

pub start_offsets_lag : StartOffsetsLag
start_offsets_lag history confirmed records offset same is = record { offset_is = is; has_records = λ number t at le. absurd (none_told number t at le) }
  where
    none_told : (number : ℕ) (t : ToldEvent) → slice_get (events_since offset.start.0 (captured_commits history offset)) number ≡ Some t → t.event.position ≤ offset.lsn.0 → ⊥
    none_told number t at le =
        let since : List Versioned = commits_since offset.start.0 (captured_commits history offset) in
        let found = told_at since number t at in
        let passes : nat_lt offset.start.0 found.version.lsn.0 ≡ true =
        at_all (λ (v : Versioned). nat_lt offset.start.0 v.lsn.0 ≡ true) since found.place found.version (passing (λ (v : Versioned). nat_lt offset.start.0 v.lsn.0) (captured_commits history offset)) found.commit_at in
        let low : found.version.lsn.0 ≤ offset.lsn.0 = subst (λ (p : ℕ). p ≤ offset.lsn.0) (event_position since t found) le in
        never_both offset.start.0 found.version.lsn.0 offset.lsn.0 ((Decides-ltb offset.start.0 found.version.lsn.0).0 passes) low same

-- ---- confirming

confirmed_offset : (history : History) (confirmed next : Lsn) (records : List Record) (offset : Offset) → next.0 ≤ offset.lsn.0 → IsOffsetOf history confirmed records offset → IsOffsetOf history next records offset
confirmed_offset history confirmed next records offset le is = record { start = is.start; lsn = is.lsn; order = is.order; many = is.many; cursors = is.cursors; confirmed_to = le; marks = is.marks; distinct = is.distinct; infos = is.infos }

pub confirms_stay_faithful : ConfirmsStayFaithful
confirms_stay_faithful history confirmed next records offset le faithful = record {
  late = faithful.late;
  agrees = faithful.agrees;
  exact = faithful.exact;
  snapshots = faithful.snapshots;
  aged = faithful.aged;
  keyed = faithful.keyed;
  lags = record { offset_is = confirmed_offset history confirmed next records offset le faithful.lags.offset_is; has_records = faithful.lags.has_records };
}

-- ---- a later session

-- the old offset with a new incarnation, and another end of its last commit
abbrev raised : Offset → ℕ → Lsn → Offset
raised offset incarnation end = record { identity = offset.identity; incarnation = incarnation; start = offset.start; lsn = offset.lsn; end_lsn = end; infos = offset.infos; cursors = offset.cursors; versions = offset.versions }

is_raised : (old new : Offset) → IsTakenOver old new → new ≡ raised old new.incarnation new.end_lsn
is_raised old new over =
    λ i. record { identity = over.identity i; incarnation = new.incarnation; start = over.start i; lsn = over.lsn i; end_lsn = new.end_lsn; infos = over.infos i; cursors = over.cursors i; versions = over.versions i }

later_mark : (low most : ℕ) (body : RawBody) → low ≤ most → IsMarkedBy low body → IsMarkedBy most body
later_mark low most (Changes changes) le is = tt
later_mark low most (Mark value) le is = record { incarnation = is.incarnation; number = is.number; side = is.side; is = is.is; not_above = le_trans is.not_above le; small = is.small }
later_mark low most (Alter name columns rows) le is = tt

module _ (history : History) (confirmed : Lsn) (records : List Record) (old : Offset) (incarnation : ℕ) (end : Lsn) (le : old.incarnation ≤ incarnation) where
  raised_offset : IsOffsetOf history confirmed records old → IsOffsetOf history confirmed records (raised old incarnation end)
  raised_offset is = record {
    start = is.start;
    lsn = is.lsn;
    order = is.order;
    many = is.many;
    cursors = is.cursors;
    confirmed_to = is.confirmed_to;
    marks = all_weaker (λ (commit : RawCommit). IsMarkedBy old.incarnation commit.body) (λ (commit : RawCommit). IsMarkedBy incarnation commit.body) history.commits (λ commit own. later_mark old.incarnation incarnation commit.body le own) is.marks;
    distinct = is.distinct;
    infos = is.infos;
  }

  raised_faithful : IsFaithfulTo history confirmed records old → IsFaithfulTo history confirmed records (raised old incarnation end)
  raised_faithful faithful = record {
    late = faithful.late;
    agrees = faithful.agrees;
    exact = faithful.exact;
    snapshots = faithful.snapshots;
    aged = faithful.aged;
    keyed = faithful.keyed;
    lags = record { offset_is = raised_offset faithful.lags.offset_is; has_records = faithful.lags.has_records };
  }

pub later_sessions_stay_faithful : LaterSessionsStayFaithful
later_sessions_stay_faithful history confirmed records old new over = (
  λ is. subst (IsOffsetOf history confirmed records) (sym (is_raised old new over)) (raised_offset history confirmed records old new.incarnation new.end_lsn over.incarnation is),
  λ faithful. subst (IsFaithfulTo history confirmed records) (sym (is_raised old new over)) (raised_faithful history confirmed records old new.incarnation new.end_lsn over.incarnation faithful),
)
