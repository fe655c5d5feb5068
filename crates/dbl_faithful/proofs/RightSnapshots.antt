-- Right snapshots stay right as records and commits are added, and a right window's records are right.
use Rattle.std.proofs.Common.{◌≡◌, ◌∙◌, ◌⊎◌, inl, inr, ◌+◌, ◌≤◌, ◌<◌, ℕ, zero, suc, ℤ, Bool, true, false, cond, All, List, [], ◌∷◌, ◌++◌, Option, Some, None, length, map, filter, flat_map, refl, sym, ap, subst, arith, append_assoc, append-nil}
use Rattle.std.specs.Prelude.{◌==◌, nat_lt, slice_get}
use Rattle.std.specs.List.{AllByRecursion}
use Rattle.std.proofs.lemmas.Bool.Decides.{Decides-eqb}
use Rattle.std.proofs.lemmas.List.Elements.{filter-append}
use Rattle.dbl_record.specs.declared.record.Record.{Record}
use Rattle.dbl_record.specs.Places.{place_of, IsBefore, IsFresh}
use Rattle.dbl_model_table.specs.declared.identity.Identity.{Identity}
use Rattle.dbl_model_table.specs.declared.row.Key.{Key}
use Rattle.dbl_model_table.specs.declared.row.Row.{Row}
use Rattle.dbl_model_table.specs.declared.table.TableInfo.{TableInfo}
use Rattle.dbl_model_table.specs.declared.change.Body.{Body}
use Rattle.dbl_model_table.specs.declared.change.Body.TheVariants.{Changes, Mark}
use Rattle.dbl_model_table.specs.declared.change.Change.{Change}
use Rattle.dbl_model_table.specs.declared.change.Commit.{Commit}
use Rattle.dbl_model_table.specs.Infos.{column_types}
use Rattle.dbl_model_table.specs.Keys.{key_of}
use Rattle.dbl_model_table.specs.Rows.{changes_of}
use Rattle.dbl_model_table.proofs.Lists.{bool_case, slice_get-lt}
use Rattle.dbl_consume_laws.specs.ModelHistory.History.{AreRising}
use Rattle.dbl_consume_laws.specs.ModelHistory.Fit.{IsKeyOf}
use Rattle.dbl_consume_laws.specs.ModelHistory.FitsInfos.{AreCellsOf}
use Rattle.dbl_consume_laws.specs.ModelHistory.MarkTexts.{High, side_text}
use Rattle.dbl_consume_laws.specs.ModelHistory.Ranges.{IsCommitInRange, IsMomentInRange}
use Rattle.dbl_consume_laws.proofs.ModelHistoryMomentLemmas.{lsns}
use Rattle.dbl_consume_laws.specs.ModelEvent.Events.{Event, notices, numbered, events_of}
use Rattle.dbl_consume_laws.specs.ModelEvent.Snapshots.{read_record, read_records, progress_record}
use Rattle.dbl_consume_laws.specs.Snapshots.{IsReadInRange}
use Rattle.dbl_consume_laws.proofs.Prints.{lsn_one, through_in_range}
use Rattle.dbl_consume_laws.proofs.Lists.{slice_get-seam}
use Rattle.dbl_consume_laws.proofs.Snapshot.{cells_in_range}
use Rattle.dbl_consume_courses.specs.Versions.{Alteration, Versioned, plain_commit, FollowsInfos, AreVersionsFrom}
use Rattle.dbl_consume_courses.proofs.TableRepeats.{follows_at}
use Rattle.dbl_faithful.specs.Kinds.{is_change_record}
use Rattle.dbl_faithful.specs.ToldEvents.{ToldEvent, events_since, commits_since}
use Rattle.dbl_faithful.specs.RightSnapshots.{IsHighMark, records_at, IsRightSnapshot, AreSnapshotsRight}
use Rattle.dbl_faithful.proofs.Exact.{AreBehind, put_more}
use Rattle.dbl_faithful.proofs.Items.{first_some, at_left, at_cases, take_within, map_get, all_by_place, at_all, filter_none}
use Rattle.dbl_faithful.proofs.RecordKinds.{read_rows_are_rows, progress_is_neither}
use Rattle.dbl_faithful.proofs.Trace.{told_at, event_position, events_since-append, all_filter}

-- ---- tests of positions

pub at_test : (a b : ℕ) → a ≡ b → (a == b) ≡ true
at_test a b e = (Decides-eqb a b).1 e

pub apart_test : (a b : ℕ) → (a ≡ b → ⊥) → (a == b) ≡ false
apart_test a b never = elim (bool_case (a == b)) [
  | inl is ↦ absurd (never ((Decides-eqb a b).0 is))
  | inr isnt ↦ isnt
]

-- ---- the records of a position

pub at-append : (position : ℕ) (xs ys : List Record) → records_at position (xs ++ ys) ≡ records_at position xs ++ records_at position ys
at-append position xs ys = filter-append (λ (item : Record). item.position == position) xs ys

-- none of other positions is among them
pub at_others : (position : ℕ) (rs : List Record) → ((j : ℕ) (item : Record) → slice_get rs j ≡ Some item → item.position ≡ position → ⊥) → records_at position rs ≡ []
at_others position rs never = filter_none (λ (item : Record). item.position == position) rs
    (all_by_place (λ (item : Record). (item.position == position) ≡ false) rs (λ j item at. apart_test item.position position (never j item at)))

-- an item that passes is among those that do
pub filter_has : {X : Type 0} (p : X → Bool) (xs : List X) (k : ℕ) (x : X) → slice_get xs k ≡ Some x → p x ≡ true → (j : ℕ) × (slice_get (filter p xs) j ≡ Some x)
filter_has p [] k x at passes = cc
filter_has p (y ∷ xs) zero x at passes =
    let same : y ≡ x = first_some y x at in
    (0, ap (λ (b : Bool). slice_get (cond b (y ∷ filter p xs) (filter p xs)) 0) (ap p same ∙ passes) ∙ at)
filter_has p (y ∷ xs) (suc k) x at passes = by (filter_has p xs k x at passes) (p y)
  where
    by : (j : ℕ) × (slice_get (filter p xs) j ≡ Some x) → (b : Bool) → (j : ℕ) × (slice_get (cond b (y ∷ filter p xs) (filter p xs)) j ≡ Some x)
    by rest true = (suc rest.0, rest.1)
    by rest false = rest

-- and one among those is an item
pub filter_from : {X : Type 0} (p : X → Bool) (xs : List X) (k : ℕ) (x : X) → slice_get (filter p xs) k ≡ Some x → (j : ℕ) × (slice_get xs j ≡ Some x)
filter_from p [] k x at = cc
filter_from p (y ∷ xs) k x at = by (λ n. filter_from p xs n x) (p y) k at
  where
    by : ((n : ℕ) → slice_get (filter p xs) n ≡ Some x → (j : ℕ) × (slice_get xs j ≡ Some x)) → (b : Bool) (n : ℕ) → slice_get (cond b (y ∷ filter p xs) (filter p xs)) n ≡ Some x → (j : ℕ) × (slice_get (y ∷ xs) j ≡ Some x)
    by below true zero here = (0, here)
    by below true (suc n) here = let rest = below n here in (suc rest.0, rest.1)
    by below false n here = let rest = below n here in (suc rest.0, rest.1)

-- ---- watermarks

-- a watermark has no changes
pub mark_is_silent : (commit : Commit) → IsHighMark commit → changes_of commit ≡ []
mark_is_silent commit high = ap (λ (b : Body). changes_of (record { lsn = commit.lsn; end_lsn = commit.end_lsn; time = commit.time; xid = commit.xid; body = b })) high.is

-- and alters no table
no_alteration : (old : List TableInfo) (v : Versioned) (o : Option Alteration) (value : List ℕ) → FollowsInfos old v o → v.body ≡ Mark value → o ≡ None
no_alteration old v None value follows is = refl
no_alteration old v (Some alteration) value alters is = let contra : Changes [] ≡ Mark value = sym alters.silent ∙ is in cc

pub mark_is_unaltered : (infos : List TableInfo) (before : List Versioned) (mark : Versioned) (later : List Versioned) → AreVersionsFrom infos (before ++ mark ∷ later) → IsHighMark (plain_commit mark) → mark.altered ≡ None
mark_is_unaltered infos before mark later follow high =
    let found = follows_at infos before mark later follow in
    no_alteration found.0 mark mark.altered (high.front ++ side_text High) found.1 high.is

-- no event stands at a watermark's position
pub no_event_at_mark : (start : ℕ) (versions before : List Versioned) (mark : Versioned) (later : List Versioned) → AreRising 0 (lsns (map plain_commit versions)) → versions ≡ before ++ mark ∷ later → changes_of (plain_commit mark) ≡ []
    → (number : ℕ) (t : ToldEvent) → slice_get (events_since start versions) number ≡ Some t → t.event.position ≡ mark.lsn.0 → ⊥
no_event_at_mark start versions before mark later rise is none number t at same =
    let found = told_at (commits_since start versions) number t at in
    let v : Versioned = found.version in
    let stands = filter_from (λ (x : Versioned). nat_lt start x.lsn.0) versions found.place v found.commit_at in
    let marked : slice_get versions (length before) ≡ Some mark = ap (λ (l : List Versioned). slice_get l (length before)) is ∙ slice_get-seam before mark later in
    let lsn : v.lsn.0 ≡ mark.lsn.0 = sym (event_position (commits_since start versions) t found) ∙ same in
    let place : stands.0 ≡ length before =
    lsn_one 0 (map plain_commit versions) stands.0 (length before) (plain_commit v) (plain_commit mark) rise (map_get plain_commit versions stands.0 v stands.1) (map_get plain_commit versions (length before) mark marked) lsn in
    let one : v ≡ mark = first_some v mark (sym stands.1 ∙ (ap (slice_get versions) place ∙ marked)) in
    let empty : events_of v.infos (plain_commit v) ≡ [] = ap (λ (x : Versioned). events_of x.infos (plain_commit x)) one ∙ ap (λ (l : List Change). numbered mark.lsn.0 0 (flat_map (notices mark.infos) l)) none in
    never (slice_get (events_of v.infos (plain_commit v)) found.number) t.event (ap (λ (l : List Event). slice_get l found.number) empty) found.event_at
  where
    never : (o : Option Event) (e : Event) → o ≡ None → o ≡ Some e → ⊥
    never o e one two = cc

-- ---- what right snapshots are to the events

pub right_after : (identity : Identity) (start : ℕ) (versions : List Versioned) (records : List Record) → AreRising 0 (lsns (map plain_commit versions)) → AreSnapshotsRight identity versions (events_since start versions) records
    → AreBehind identity (events_since start versions) records
right_after identity start versions records rise right = record {
  put = λ place item at other. (right.each place item at other).put;
  apart = λ place item at other number t at_told same. (
      let window = (right.each place item at other).window in
      no_event_at_mark start versions window.before window.mark window.later rise window.spelled (mark_is_silent (plain_commit window.mark) (record { front = window.front; is = window.is_high })) number t at_told (same ∙ sym window.position_is));
}

-- ---- more records

pub fresh_kept : (records more : List Record) (place : ℕ) → IsFresh records place → IsFresh (records ++ more) place
fresh_kept records more place fresh =
    let lt : place < length records = slice_get-lt records place fresh.0 fresh.1 in (
      fresh.0,
      at_left records more place fresh.0 fresh.1,
      subst (All (λ (earlier : Record). IsBefore (place_of earlier) (place_of fresh.0))) (sym (take_within place records more (at_most place (length records) lt))) fresh.2,
    )
  where
    at_most : (a b : ℕ) → a < b → a ≤ b
    at_most a b lt = omega (arith, lt)

pub right_kept : (identity : Identity) (versions : List Versioned) (told : List ToldEvent) (records more : List Record) (place position : ℕ)
    → ((j : ℕ) (item : Record) → slice_get more j ≡ Some item → item.position ≡ position → ⊥)
    → IsRightSnapshot identity versions told records place position → IsRightSnapshot identity versions told (records ++ more) place position
right_kept identity versions told records more place position others right = record {
  fresh = fresh_kept records more place right.fresh;
  window = record {
    before = right.window.before;
    mark = right.window.mark;
    later = right.window.later;
    spelled = right.window.spelled;
    position_is = right.window.position_is;
    front = right.window.front;
    is_high = right.window.is_high;
    closed = right.window.closed;
    now = right.window.now;
    in_range = right.window.in_range;
    snapshot = right.window.snapshot;
    listed = right.window.listed;
    count = right.window.count;
    shown = at-append position records more ∙ (ap (λ (l : List Record). records_at position records ++ l) (at_others position more others) ∙ (append-nil (records_at position records) ∙ right.window.shown));
    right = right.window.right;
  };
  put = λ number t at lt. put_more identity records more t (right.put number t at lt);
}

-- ---- more commits

module _ (identity : Identity) (versions more : List Versioned) (records : List Record) (start far : ℕ) (placed : AllByRecursion (λ item. item.position ≤ far) records) (above : AllByRecursion (λ v. far < v.lsn.0) more) where
  -- the events of the new commits are after every record
  new_events : (number : ℕ) (t : ToldEvent) → slice_get (events_since start more) number ≡ Some t → far < t.event.position
  new_events number t at =
      let found = told_at (commits_since start more) number t at in
      let lsn : far < found.version.lsn.0 =
      at_all (λ (v : Versioned). far < v.lsn.0) (commits_since start more) found.place found.version (all_filter (λ (v : Versioned). far < v.lsn.0) (λ (v : Versioned). nat_lt start v.lsn.0) more above) found.commit_at in
      subst (λ (p : ℕ). far < p) (sym (event_position (commits_since start more) t found)) lsn

  pub right_longer : AreSnapshotsRight identity versions (events_since start versions) records → AreSnapshotsRight identity (versions ++ more) (events_since start (versions ++ more)) records
  right_longer right = record {
    each = λ place item at other. (
        let old = right.each place item at other in
        let le : item.position ≤ far = at_all (λ (r : Record). r.position ≤ far) records place item placed at in
        record {
          fresh = old.fresh;
          window = record {
            before = old.window.before;
            mark = old.window.mark;
            later = old.window.later ++ more;
            spelled = ap (λ (l : List Versioned). l ++ more) old.window.spelled ∙ append_assoc old.window.before (old.window.mark ∷ old.window.later) more;
            position_is = old.window.position_is;
            front = old.window.front;
            is_high = old.window.is_high;
            closed = old.window.closed;
            now = old.window.now;
            in_range = old.window.in_range;
            snapshot = old.window.snapshot;
            listed = old.window.listed;
            count = old.window.count;
            shown = old.window.shown;
            right = old.window.right;
          };
          put = λ number t at_told lt. elim (at_cases (events_since start versions) (events_since start more) number t (ap (λ (l : List ToldEvent). slice_get l number) (sym (events_since-append start versions more)) ∙ at_told)) [
            | inl known ↦ old.put number t known lt
            | inr new ↦ absurd (not_both far item.position t.event.position le lt (new_events new.0 t new.1))
          ];
        });
  }
    where
      not_both : (far p q : ℕ) → p ≤ far → q < p → far < q → ⊥
      not_both far p q le lt gt = omega (arith, le, lt, gt)

-- ---- the records of one window

zero_on : (o : ℕ) → o ≡ o + 0
zero_on o = omega arith

next_count : (o n : ℕ) → o + suc n ≡ o + 1 + n
next_count o n = omega arith

module _ (identity : Identity) (info : TableInfo) (mark : Commit) (now : ℤ) (through : Option Key) (done : Bool) where
  -- the records of rows, and the progress after them
  abbrev pub listing : ℕ → ℕ → List (Key × Row) → List Record
  listing ordinal last rows = read_records identity info mark now ordinal rows ++ progress_record identity info mark last through done ∷ []

  -- they stand at the watermark, one after the other
  pub listing_places : (ordinal : ℕ) (rows : List (Key × Row)) (j : ℕ) (item : Record) → slice_get (listing ordinal (ordinal + length rows) rows) j ≡ Some item → (item.position ≡ mark.lsn.0) × (item.ordinal ≡ ordinal + j)
  listing_places ordinal [] zero item at =
      let e : progress_record identity info mark (ordinal + 0) through done ≡ item = first_some (progress_record identity info mark (ordinal + 0) through done) item at in
      (ap (λ (r : Record). r.position) (sym e), ap (λ (r : Record). r.ordinal) (sym e))
  listing_places ordinal [] (suc j) item at = cc
  listing_places ordinal (entry ∷ rows) zero item at =
      let e : read_record identity info mark now ordinal entry ≡ item = first_some (read_record identity info mark now ordinal entry) item at in
      (ap (λ (r : Record). r.position) (sym e), ap (λ (r : Record). r.ordinal) (sym e) ∙ zero_on ordinal)
  listing_places ordinal (entry ∷ rows) (suc j) item at =
      let rest = listing_places (ordinal + 1) rows j item (subst (λ (o : ℕ). slice_get (listing (ordinal + 1) o rows) j ≡ Some item) (next_count ordinal (length rows)) at) in
      (rest.0, rest.1 ∙ sym (next_count ordinal j))

  -- each is one of a row's, or the progress
  pub listing_cases : (ordinal last : ℕ) (rows : List (Key × Row)) (j : ℕ) (item : Record) → slice_get (listing ordinal last rows) j ≡ Some item
      → ((number : ℕ) × (entry : Key × Row) × (o : ℕ) × (slice_get rows number ≡ Some entry) × (item ≡ read_record identity info mark now o entry)) ⊎ (item ≡ progress_record identity info mark last through done)
  listing_cases ordinal last [] zero item at = inr (sym (first_some (progress_record identity info mark last through done) item at))
  listing_cases ordinal last [] (suc j) item at = cc
  listing_cases ordinal last (entry ∷ rows) zero item at = inl (0, entry, ordinal, refl, sym (first_some (read_record identity info mark now ordinal entry) item at))
  listing_cases ordinal last (entry ∷ rows) (suc j) item at = elim (listing_cases (ordinal + 1) last rows j item at) [
    | inl found ↦ inl (suc found.0, found.1, found.2, found.3, found.4)
    | inr progress ↦ inr progress
  ]

  -- and none is a change
  pub listing_others : (ordinal last : ℕ) (rows : List (Key × Row)) → AllByRecursion (λ entry. IsReadInRange entry mark now) rows → (j : ℕ) (item : Record) → slice_get (listing ordinal last rows) j ≡ Some item → is_change_record item ≡ false
  listing_others ordinal last rows ranges j item at = elim (listing_cases ordinal last rows j item at) [
    | inl found ↦ (
        let range : IsReadInRange found.1 mark now = at_all (λ (entry : Key × Row). IsReadInRange entry mark now) rows found.0 found.1 ranges found.3 in
        ap is_change_record found.4 ∙ (read_rows_are_rows identity info mark now found.2 found.1 range).1)
    | inr progress ↦ ap is_change_record progress ∙ (progress_is_neither identity info mark last through done).1
  ]

-- the rows of a window that fits are in range
pub rows_in_range : (info : TableInfo) (mark : Commit) (now : ℤ) (rows : List (Key × Row)) → IsCommitInRange mark → IsMomentInRange now
    → AllByRecursion (λ e. AreCellsOf (column_types info) e.1.cells × (key_of info e.1.cells ≡ e.0)) rows → AllByRecursion (λ entry. IsKeyOf info entry.0) rows → AllByRecursion (λ entry. IsReadInRange entry mark now) rows
rows_in_range info mark now [] in_mark in_time fits keys = tt
rows_in_range info mark now (entry ∷ rows) in_mark in_time fits keys = (
  record { key_fits = through_in_range info (Some entry.0) keys.0; row_fits = cells_in_range (column_types info) entry.1.cells fits.0.0; commit_fits = in_mark; moment_fits = in_time },
  rows_in_range info mark now rows in_mark in_time fits.1 keys.1,
)
