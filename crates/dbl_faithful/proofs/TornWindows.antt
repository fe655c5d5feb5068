-- A log that has a window's first rows and lacks an event before them.
use Rattle.std.proofs.Common.{◌≡◌, ◌∙◌, ◌⊎◌, inl, inr, ◌+◌, ◌≤◌, ◌<◌, ℕ, zero, suc, ℤ, max, Bool, true, false, List, [], ◌∷◌, ◌++◌, Option, Some, None, length, take, map, refl, sym, ap, subst, arith, append_assoc, append-nil, le_refl}
use Rattle.std.specs.Prelude.{IsTrue, nat_le, nat_lt, ◌==◌, if◌then◌else◌, option_map, unwrap_or, slice_get}
use Rattle.std.specs.List.{AllByRecursion}
use Rattle.std.proofs.lemmas.Bool.Decides.{nat_tests}
use Rattle.dbl_record.specs.declared.record.Record.{Record}
use Rattle.dbl_record.specs.Consumers.{held_at}
use Rattle.dbl_record.specs.Places.{Place, place_of}
use Rattle.dbl_model_table.specs.declared.identity.Identity.{Identity}
use Rattle.dbl_model_table.specs.declared.row.Key.{Key}
use Rattle.dbl_model_table.specs.declared.row.Row.{Row}
use Rattle.dbl_model_table.specs.declared.table.TableInfo.{TableInfo}
use Rattle.dbl_model_table.specs.declared.change.Change.{Change}
use Rattle.dbl_model_table.specs.declared.change.Commit.{Commit}
use Rattle.dbl_model_table.specs.Rows.{Rows, no_rows, rows_from, rows_at, changes_of, all_changes, moment_at}
use Rattle.dbl_consume_laws.specs.ModelHistory.Fit.{AreFit}
use Rattle.dbl_consume_laws.specs.ModelHistory.History.{AreRising}
use Rattle.dbl_consume_laws.specs.ModelHistory.Image.{Names}
use Rattle.dbl_consume_laws.specs.ModelHistory.KeyBounds.{IsUpTo}
use Rattle.dbl_consume_laws.specs.ModelHistory.Ranges.{IsCommitInRange}
use Rattle.dbl_consume_laws.proofs.ModelHistoryMomentLemmas.{lsns}
use Rattle.dbl_consume_laws.proofs.ModelHistoryRowLemmas.{all_changes-append, AreFit-append}
use Rattle.dbl_consume_laws.specs.ModelEvent.declared.closed.Closed.{Closed}
use Rattle.dbl_consume_laws.specs.ModelEvent.Clashes.{snapshot_clash}
use Rattle.dbl_consume_laws.specs.ModelEvent.Snapshots.{read_record, read_records, progress_record, chunk_records, snapshot}
use Rattle.dbl_consume_laws.specs.ModelEvent.SnapshotLists.{IsSnapshot}
use Rattle.dbl_consume_laws.specs.Commits.{moment_after, AreFitCommits}
use Rattle.dbl_consume_laws.specs.Moments.{changes_through, record_moment}
use Rattle.dbl_consume_laws.specs.Ages.{held_row, IsAged}
use Rattle.dbl_consume_laws.specs.Windows.{IsRightWindow}
use Rattle.dbl_consume_laws.proofs.Moments.{AreAt, marks_stand}
use Rattle.dbl_consume_courses.specs.Versions.{Alteration, Versioned, plain_commit, AreVersionsFrom, versions_to, rows_through, altered_rows}
use Rattle.dbl_consume_courses.specs.Courses.{ticked_commit, Course}
use Rattle.dbl_consume_courses.specs.Since.{since}
use Rattle.dbl_consume_courses.specs.AlteredTables.{last_position, version_moment, position_moment, version_span_end, IsTableAged, IsAgedFrom}
use Rattle.dbl_consume_courses.specs.FitVersions.{AreFitVersions, AreFitFrom}
use Rattle.dbl_consume_courses.specs.Growth.{course_of, point_after}
use Rattle.dbl_consume_courses.specs.PlainAges.{ArePlain}
use Rattle.dbl_consume_courses.specs.RowsThere.{HasRowsThere}
use Rattle.dbl_consume_courses.proofs.BetweenLemmas.{last_more, span_item}
use Rattle.dbl_consume_courses.proofs.GrowthLemmas.{fit_versions_left}
use Rattle.dbl_consume_courses.proofs.PlainLemmas.{plain_age}
use Rattle.dbl_consume_courses.proofs.Positions.{moment_upto, position_mono}
use Rattle.dbl_consume_courses.proofs.SinceLemmas.{whole as whole_log}
use Rattle.dbl_consume_courses.proofs.ThereWindows.{go_back}
use Rattle.dbl_faithful.specs.Agreements.{AgreesUpTo}
use Rattle.dbl_faithful.specs.CaughtLaws.{IsWindowInCourse}
use Rattle.dbl_faithful.specs.Kinds.{is_change_record}
use Rattle.dbl_faithful.specs.ToldEvents.{ToldEvent, events_of_commit, events_of_commits, events_since, IsAmong, HasRecordOfEvent}
use Rattle.dbl_faithful.specs.ExactLogs.{IsLogExact}
use Rattle.dbl_faithful.specs.RightSnapshots.{AreSnapshotsRight}
use Rattle.dbl_faithful.specs.CaughtUp.{IsEndOf, IsExactLog, HasDeliveredUpTo}
use Rattle.dbl_faithful.specs.Controls.{IsTornWindow, MeetsAllElse, TornWindowsAreSpoilt}
use Rattle.dbl_faithful.proofs.CaughtUp.{shown_to, starts_are_caught_up, snapshots_are_caught_up, caught_up_logs_are_right}
use Rattle.dbl_faithful.proofs.Exact.{log_others, gaps_spoil_exact_logs}
use Rattle.dbl_faithful.proofs.Items.{first_some, at_left, at_right, taken_at, take_within, all_by_place, all_weaker}
use Rattle.dbl_faithful.proofs.PlainWindows.{one_infos, plain_left, plain_course, window_in_course, window_begins}
use Rattle.dbl_faithful.proofs.Positions.{end_after, end_under}
use Rattle.dbl_faithful.proofs.RightSnapshots.{mark_is_silent, listing, listing_places, listing_others, rows_in_range}
use Rattle.dbl_faithful.proofs.TornPlain.{torn_aged}
use Rattle.dbl_faithful.proofs.Trace.{in_range, since_all, after_rise, after_changes, events_since-append, of_commit}

-- ---- the records of rows

module _ (identity : Identity) (info : TableInfo) (mark : Commit) (now : ℤ) where
  reads_length : (ordinal : ℕ) (rows : List (Key × Row)) → length (read_records identity info mark now ordinal rows) ≡ length rows
  reads_length ordinal [] = refl
  reads_length ordinal (entry ∷ rows) = ap suc (reads_length (ordinal + 1) rows)

  -- none of them is the last of its commit
  never_last : (ordinal : ℕ) (rows : List (Key × Row)) (j : ℕ) (item : Record) → slice_get (read_records identity info mark now ordinal rows) j ≡ Some item → item.last ≡ false
  never_last ordinal [] j item at = cc
  never_last ordinal (entry ∷ rows) zero item at = ap (λ (r : Record). r.last) (sym (first_some (read_record identity info mark now ordinal entry) item at))
  never_last ordinal (entry ∷ rows) (suc j) item at = never_last (ordinal + 1) rows j item at

both_ways : {X : Type 0} (b : Bool) → b ≡ true → b ≡ false → X
both_ways b is isnt = cc

-- ---- numbers

lt_le : (a b : ℕ) → a < b → a ≤ b
lt_le a b lt = omega (arith, lt)

le_lt : (a b c : ℕ) → a ≤ b → b < c → a < c
le_lt a b c le lt = omega (arith, le, lt)

equal_le : (a b : ℕ) → b ≡ a → a ≤ b
equal_le a b e = omega (arith, e)

-- ---- a plain history

all_commits : (P : Commit → Type 0) (vs : List Versioned) → AllByRecursion (λ v. P (plain_commit v)) vs → AllByRecursion P (map plain_commit vs)
all_commits P [] all = tt
all_commits P (v ∷ vs) all = (all.0, all_commits P vs all.1)

fit_changes : (infos : List TableInfo) (at : Rows) (vs : List Versioned) → AreVersionsFrom infos vs → ArePlain vs → AreFitFrom at vs → AreFit infos at (all_changes (map plain_commit vs))
fit_changes infos at [] follow plain fit = tt
fit_changes infos at (v ∷ vs) follow plain fit =
    let here : v.infos ≡ infos = one_infos infos v v.altered follow.0 plain.0 in
    let first : AreFit infos at (changes_of (plain_commit v)) = subst (λ (l : List TableInfo). AreFit l at (changes_of (plain_commit v))) here fit.0.changes in
    let rows_are : rows_through at v ≡ rows_from infos at (changes_of (plain_commit v)) =
    ap (λ (o : Option Alteration). altered_rows v.infos o (rows_from v.infos at (changes_of (plain_commit v)))) plain.0 ∙ ap (λ (l : List TableInfo). rows_from l at (changes_of (plain_commit v))) here in
    AreFit-append infos at (changes_of (plain_commit v)) (all_changes (map plain_commit vs)) first
    (subst (λ (r : Rows). AreFit infos r (all_changes (map plain_commit vs))) rows_are
    (fit_changes infos (rows_through at v) vs (subst (λ (l : List TableInfo). AreVersionsFrom l vs) here follow.1) plain.1 fit.1))

plain_fit : (infos : List TableInfo) (vs : List Versioned) → AreFitVersions infos vs → ArePlain vs → AreFitCommits infos (map plain_commit vs)
plain_fit infos vs fit plain = record {
  distinct = fit.distinct;
  rise = fit.rise;
  in_range = all_commits IsCommitInRange vs (in_range no_rows vs fit.fit);
  fit = fit_changes infos no_rows vs fit.follow plain fit.fit;
}

-- a place after a position corresponds to no earlier point
version_past : (versions : List Versioned) (position : ℕ) (place : Place) → position < place.0 → position_moment versions position ≤ version_moment versions place
version_past [] position place lt = omega arith
version_past (v ∷ versions) position place lt =
    step v.lsn.0 position place.0 (length (changes_of (plain_commit v))) (position_moment versions position) (version_moment versions place) (changes_through v.infos (changes_of (plain_commit v)) place.1) lt (version_past versions position place lt)
  where
    step : (l p q n a b c : ℕ) → p < q → a ≤ b → (if nat_le l p then n + a else 0) ≤ (if nat_lt l q then n + b else (if l == q then c else 0))
    step l p q n a b c less le = grind (arith, nat_tests)

map_both : (xs ys : List Versioned) → map plain_commit (xs ++ ys) ≡ map plain_commit xs ++ map plain_commit ys
map_both [] ys = refl
map_both (x ∷ xs) ys = ap (λ (l : List Commit). plain_commit x ∷ l) (map_both xs ys)

to_commits : (P : ℕ → Type 0) (vs : List Versioned) → AllByRecursion (λ v. P v.lsn.0) vs → AllByRecursion (λ c. P c.lsn.0) (map plain_commit vs)
to_commits P [] all = tt
to_commits P (v ∷ vs) all = (all.0, to_commits P vs all.1)

last_infos : (infos : List TableInfo) (earlier : List Versioned) (v : Versioned) (later : List Versioned) → AreVersionsFrom infos (earlier ++ v ∷ later) → ArePlain (earlier ++ v ∷ later) → v.infos ≡ infos
last_infos infos [] v later follow plain = one_infos infos v v.altered follow.0 plain.0
last_infos infos (x ∷ earlier) v later follow plain =
    let here : x.infos ≡ infos = one_infos infos x x.altered follow.0 plain.0 in
    last_infos infos earlier v later (subst (λ (l : List TableInfo). AreVersionsFrom l (earlier ++ v ∷ later)) here follow.1) plain.1

-- ---- such a log

module _ (identity : Identity) (infos : List TableInfo) (versions : List Versioned) (start : ℕ) (late : Versioned) (records : List Record) (fit : AreFitVersions infos versions) (torn : IsTornWindow identity infos versions start late records) where
  abbrev low : Versioned
  low = torn.low

  abbrev mark : Versioned
  mark = torn.mark

  abbrev front : List Versioned
  front = torn.before ++ low ∷ late ∷ []

  -- the commits up to the watermark
  abbrev shown : List Versioned
  shown = front ++ mark ∷ []

  split : versions ≡ front ++ mark ∷ torn.later
  split = torn.spelled ∙ sym (append_assoc torn.before (low ∷ late ∷ []) (mark ∷ torn.later))

  whole : AreFitVersions infos (front ++ mark ∷ torn.later)
  whole = subst (AreFitVersions infos) split fit

  whole_plain : ArePlain (front ++ mark ∷ torn.later)
  whole_plain = subst ArePlain split torn.plain

  shown_fit : AreFitVersions infos shown
  shown_fit = fit_versions_left infos shown torn.later (subst (AreFitVersions infos) (sym (append_assoc front (mark ∷ []) torn.later)) whole)

  shown_plain : ArePlain shown
  shown_plain = plain_left shown torn.later (subst ArePlain (sym (append_assoc front (mark ∷ []) torn.later)) whole_plain)

  mark_infos : mark.infos ≡ infos
  mark_infos = last_infos infos front mark torn.later whole.follow whole_plain

  silent : changes_of (plain_commit mark) ≡ []
  silent = mark_is_silent (plain_commit mark) torn.is_high

  -- ---- positions

  late_ends : IsEndOf late.lsn.0 front
  late_ends = inr (record { front = torn.before ++ low ∷ []; last = late; spelled = sym (append_assoc torn.before (low ∷ []) (late ∷ [])); lsn_is = refl })

  upto_late : AllByRecursion (λ v. v.lsn.0 ≤ late.lsn.0) front
  upto_late = end_under late.lsn.0 front (mark ∷ torn.later) whole.rise late_ends

  past_late : AllByRecursion (λ v. late.lsn.0 < v.lsn.0) (mark ∷ torn.later)
  past_late = end_after late.lsn.0 front (mark ∷ torn.later) whole.rise late_ends

  late_before : late.lsn.0 < mark.lsn.0
  late_before = past_late.0

  rises : AreRising 0 (lsns (map plain_commit (torn.before ++ low ∷ late ∷ mark ∷ torn.later)))
  rises = subst (λ (l : List Versioned). AreRising 0 (lsns (map plain_commit l))) torn.spelled fit.rise

  past_start : AllByRecursion (λ v. start < v.lsn.0) (low ∷ late ∷ mark ∷ torn.later)
  past_start = end_after start torn.before (low ∷ late ∷ mark ∷ torn.later) rises torn.ends

  upto_start : AllByRecursion (λ v. v.lsn.0 ≤ start) torn.before
  upto_start = end_under start torn.before (low ∷ late ∷ mark ∷ torn.later) rises torn.ends

  start_before : start < late.lsn.0
  start_before = past_start.1.0

  -- ---- a window of the same rows that tells nothing of its progress

  abbrev closed : Closed
  closed = record { table = torn.closed.table; rows = torn.closed.rows; through = None; done = false }

  abbrev info : TableInfo
  info = torn.listed.info

  abbrev reads : List Record
  reads = read_records identity info (plain_commit mark) torn.now 0 torn.closed.rows

  chunk : (through : Option Key) (done : Bool) → unwrap_or (option_map (λ i. chunk_records identity i torn.closed.rows through done (plain_commit mark) torn.now) (slice_get infos torn.closed.table)) [] ≡ reads ++ progress_record identity info (plain_commit mark) (length torn.closed.rows) through done ∷ []
  chunk through done = ap (λ (o : Option TableInfo). unwrap_or (option_map (λ i. chunk_records identity i torn.closed.rows through done (plain_commit mark) torn.now) o) []) torn.listed.captured

  enough : torn.count ≤ length reads
  enough = subst (λ (n : ℕ). torn.count ≤ n) (sym (reads_length identity info (plain_commit mark) torn.now 0 torn.closed.rows)) torn.no_progress

  records_are : records ≡ take torn.count reads
  records_are =
      torn.front
      ∙ (ap (take torn.count) (torn.listed.records_are ∙ chunk torn.closed.through torn.closed.done)
      ∙ take_within torn.count reads (progress_record identity info (plain_commit mark) (length torn.closed.rows) torn.closed.through torn.closed.done ∷ []) enough)

  others_are : take torn.count (snapshot identity infos closed (plain_commit mark) torn.now) ≡ records
  others_are =
      ap (take torn.count) (chunk None false)
      ∙ (take_within torn.count reads (progress_record identity info (plain_commit mark) (length torn.closed.rows) None false ∷ []) enough ∙ sym records_are)

  listed : IsSnapshot identity mark.infos closed (plain_commit mark) torn.now (snapshot identity infos closed (plain_commit mark) torn.now)
  listed =
      subst (λ (l : List TableInfo). IsSnapshot identity l closed (plain_commit mark) torn.now (snapshot identity infos closed (plain_commit mark) torn.now)) (sym mark_infos)
      (record { info = info; captured = torn.listed.captured; fits = record { rows = torn.listed.fits.rows; through = tt }; keys = torn.listed.keys; ordered = torn.listed.ordered; records_are = refl })

  clear : snapshot_clash identity mark.infos closed ≡ None
  clear = subst (λ (l : List TableInfo). snapshot_clash identity l closed ≡ None) (sym mark_infos) torn.clear

  nothing : {X : Type 0} (key : Key) → IsTrue false ⊎ IsUpTo None key → X
  nothing key (inl is_done) = let e : false ≡ true = is_done in cc
  nothing key (inr up_to) = absurd up_to

  right : IsRightWindow infos (all_changes (map plain_commit versions)) (moment_after (map plain_commit front)) (moment_after (map plain_commit (front ++ []))) None closed
  right = record {
    right = subst (λ (l : List Versioned). AllByRecursion (λ (entry : Key × Row). rows_at infos (all_changes (map plain_commit versions)) (moment_after (map plain_commit l)) torn.closed.table entry.0 ≡ Some entry.1.cells) torn.closed.rows) (sym (append-nil front)) torn.right.right;
    missing = λ info key captured is_key above reached none. nothing key reached;
  }

  window_split : versions ≡ (front ++ []) ++ mark ∷ torn.later
  window_split = split ∙ ap (λ (l : List Versioned). l ++ mark ∷ torn.later) (sym (append-nil front))

  window : IsWindowInCourse identity infos versions late.lsn.0 [] mark (point_after infos late.lsn.0 closed.table front) None closed
  window = record {
    right = window_in_course identity infos versions front [] mark torn.later late.lsn.0 None closed fit torn.plain window_split silent late_before right;
    begins = window_begins infos versions front [] mark torn.later late.lsn.0 late.lsn.0 closed.table fit torn.plain window_split (le_refl late.lsn.0) upto_late (late_before, tt);
    told = λ key up_to. absurd up_to;
  }

  -- with the start at the insert, the log is delivered
  up : HasDeliveredUpTo identity infos versions late.lsn.0 late.lsn.0 mark.lsn.0 mark.lsn.0 (front ++ mark ∷ []) torn.later 0 records
  up =
      subst (HasDeliveredUpTo identity infos versions late.lsn.0 late.lsn.0 mark.lsn.0 mark.lsn.0 (front ++ mark ∷ []) torn.later 0) others_are
      (snapshots_are_caught_up identity infos versions front mark torn.later late.lsn.0 late.lsn.0 late.lsn.0 late.lsn.0 (point_after infos late.lsn.0 closed.table front) None closed [] (snapshot identity infos closed (plain_commit mark) torn.now) torn.now torn.count
      torn.is_high late_before torn.in_range listed clear window
      (starts_are_caught_up identity infos versions front (mark ∷ torn.later) late.lsn.0 late.lsn.0 fit split late_ends))

  settled : AgreesUpTo identity infos versions late.lsn.0 records late.lsn.0 mark.lsn.0 × IsLogExact identity versions late.lsn.0 records × AreSnapshotsRight identity versions (events_since late.lsn.0 versions) records
  settled = caught_up_logs_are_right identity infos versions (front ++ mark ∷ []) torn.later late.lsn.0 late.lsn.0 mark.lsn.0 mark.lsn.0 0 records up

  -- ---- its records

  of_reads : (j : ℕ) (item : Record) → slice_get records j ≡ Some item → slice_get reads j ≡ Some item
  of_reads j item at = (taken_at torn.count reads j item (ap (λ (l : List Record). slice_get l j) (sym records_are) ∙ at)).1

  of_listing : (j : ℕ) (item : Record) → slice_get records j ≡ Some item → slice_get (listing identity info (plain_commit mark) torn.now None false 0 (0 + length torn.closed.rows) torn.closed.rows) j ≡ Some item
  of_listing j item at = at_left reads (progress_record identity info (plain_commit mark) (0 + length torn.closed.rows) None false ∷ []) j item (of_reads j item at)

  position_is : (j : ℕ) (item : Record) → slice_get records j ≡ Some item → item.position ≡ mark.lsn.0
  position_is j item at = (listing_places identity info (plain_commit mark) torn.now None false 0 torn.closed.rows j item (of_listing j item at)).0

  mark_in_range : IsCommitInRange (plain_commit mark)
  mark_in_range = last_range front (in_range no_rows shown shown_fit.fit)
    where
      last_range : (xs : List Versioned) → AllByRecursion (λ v. IsCommitInRange (plain_commit v)) (xs ++ mark ∷ []) → IsCommitInRange (plain_commit mark)
      last_range [] all = all.0
      last_range (x ∷ xs) all = last_range xs all.1

  no_change : (j : ℕ) (item : Record) → slice_get records j ≡ Some item → is_change_record item ≡ false
  no_change j item at =
      listing_others identity info (plain_commit mark) torn.now None false 0 (0 + length torn.closed.rows) torn.closed.rows
      (rows_in_range info (plain_commit mark) torn.now torn.closed.rows mark_in_range torn.in_range torn.listed.fits.rows torn.listed.keys) j item (of_listing j item at)

  not_last : (j : ℕ) (item : Record) → slice_get records j ≡ Some item → item.last ≡ false
  not_last j item at = never_last identity info (plain_commit mark) torn.now 0 torn.closed.rows j item (of_reads j item at)

  some : 0 < length records
  some = subst (λ (l : List Record). 0 < length l) (sym records_are) (taken_some torn.count reads torn.some enough)
    where
      taken_some : {X : Type 0} (n : ℕ) (xs : List X) → 0 < n → n ≤ length xs → 0 < length (take n xs)
      taken_some zero xs lt le = absurd (omega (arith, lt))
      taken_some (suc n) [] lt le = absurd (omega (arith, le))
      taken_some (suc n) (x ∷ xs) lt le = omega arith

  late_log : AllByRecursion (λ item. item.position ≡ mark.lsn.0) records
  late_log = all_by_place (λ (item : Record). item.position ≡ mark.lsn.0) records (λ j item at. position_is j item at)

  -- the log reaches the watermark
  last_is : (position : ℕ) → position < mark.lsn.0 → last_position position records ≡ mark.lsn.0
  last_is position lt = by records refl
    where
      by : (rs : List Record) → records ≡ rs → last_position position records ≡ mark.lsn.0
      by [] is = absurd (none_left (length records) some (ap length is))
        where
          none_left : (n : ℕ) → 0 < n → n ≡ 0 → ⊥
          none_left n less e = omega (arith, less, e)
      by (row ∷ rest) is =
          ap (last_position position) is
          ∙ (last_more position mark.lsn.0 [] row rest (subst (AllByRecursion (λ (item : Record). item.position ≡ mark.lsn.0)) is late_log) ∙ max_is position mark.lsn.0 lt)
        where
          max_is : (a b : ℕ) → a < b → max a b ≡ b
          max_is a b less = omega (arith, less)

  to_mark : versions_to mark.lsn.0 versions ≡ shown
  to_mark = shown_to versions front mark torn.later fit.rise split

  -- ---- it is aged, in the plain history

  abbrev commits : List Commit
  commits = map plain_commit torn.before ++ plain_commit low ∷ plain_commit late ∷ plain_commit mark ∷ []

  abbrev fronted : List Commit
  fronted = map plain_commit torn.before ++ plain_commit low ∷ plain_commit late ∷ []

  commits_are : map plain_commit shown ≡ commits
  commits_are = ap (map plain_commit) (append_assoc torn.before (low ∷ late ∷ []) (mark ∷ [])) ∙ map_both torn.before (low ∷ late ∷ mark ∷ [])

  facts : AreFitCommits infos commits
  facts = subst (AreFitCommits infos) commits_are (plain_fit infos shown shown_fit shown_plain)

  start_is : moment_at commits start ≡ moment_after (map plain_commit torn.before)
  start_is =
      moment_upto start (map plain_commit torn.before) (map plain_commit (low ∷ late ∷ mark ∷ [])) (to_commits (λ l. l ≤ start) torn.before upto_start) (to_commits (λ l. start < l) (low ∷ late ∷ mark ∷ []) (past_start.0, (past_start.1.0, (past_start.1.1.0, tt))))

  fronted_is : map plain_commit front ≡ fronted
  fronted_is = map_both torn.before (low ∷ late ∷ [])

  parted : commits ≡ fronted ++ plain_commit mark ∷ []
  parted = sym (append_assoc (map plain_commit torn.before) (plain_commit low ∷ plain_commit late ∷ []) (plain_commit mark ∷ []))

  late_at : moment_at commits late.lsn.0 ≡ moment_after fronted
  late_at =
      ap (λ (l : List Commit). moment_at l late.lsn.0) parted
      ∙ moment_upto late.lsn.0 fronted (plain_commit mark ∷ []) (subst (AllByRecursion (λ (c : Commit). c.lsn.0 ≤ late.lsn.0)) fronted_is (to_commits (λ l. l ≤ late.lsn.0) front upto_late)) (late_before, tt)

  all_at : AreAt infos commits (moment_after fronted) records
  all_at = all_by_place (λ (item : Record). record_moment infos commits item ≡ moment_after fronted) records (λ j item at.
      ap (λ (p : ℕ). record_moment infos commits (record { topic = item.topic; key = item.key; value = item.value; position = p; ordinal = item.ordinal; last = item.last; newkey = item.newkey; oldkey = item.oldkey })) (position_is j item at)
      ∙ (ap (λ (l : List Commit). record_moment infos l (record { topic = item.topic; key = item.key; value = item.value; position = mark.lsn.0; ordinal = item.ordinal; last = item.last; newkey = item.newkey; oldkey = item.oldkey })) parted
      ∙ (marks_stand infos fronted (plain_commit mark) [] item.ordinal (subst (λ (l : List Commit). AreRising 0 (lsns l)) parted facts.rise) silent
      ∙ (ap length (all_changes-append fronted (plain_commit mark ∷ [])) ∙ ap length (ap (λ (l : List Change). all_changes fronted ++ (l ++ [])) silent ∙ append-nil (all_changes fronted))))))

  late_aged : (table : ℕ) → IsTableAged identity (course_of infos late.lsn.0 table shown) versions records late.lsn.0 table
  late_aged table =
      subst (λ (l : List Versioned). IsTableAged identity (course_of infos late.lsn.0 table l) versions records late.lsn.0 table) (ap (λ (q : ℕ). versions_to q versions) (last_is late.lsn.0 late_before) ∙ to_mark)
      (settled.0.aged table late.lsn.0 (inl refl) (le_refl late.lsn.0) (lt_le late.lsn.0 mark.lsn.0 late_before))

  from_late : AllByRecursion (λ item. late.lsn.0 ≤ item.position) records
  from_late = all_weaker (λ (item : Record). item.position ≡ mark.lsn.0) (λ (item : Record). late.lsn.0 ≤ item.position) records (λ item is. below late.lsn.0 mark.lsn.0 item.position late_before is) late_log
    where
      below : (a b c : ℕ) → a < b → c ≡ b → a ≤ c
      below a b c lt is = omega (arith, lt, is)

  from_start : AllByRecursion (λ item. start ≤ item.position) records
  from_start = all_weaker (λ (item : Record). late.lsn.0 ≤ item.position) (λ (item : Record). start ≤ item.position) records (λ item le. up_to start late.lsn.0 item.position start_before le) from_late
    where
      up_to : (a b c : ℕ) → a < b → b ≤ c → a ≤ c
      up_to a b c lt le = omega (arith, lt, le)

  late_plain : IsAged identity infos commits (moment_at commits late.lsn.0) records (moment_at commits late.lsn.0)
  late_plain =
      subst (λ (l : List Commit). IsAged identity infos l (moment_at l late.lsn.0) records (moment_at l late.lsn.0)) commits_are
      ((plain_age identity infos shown late.lsn.0 late.lsn.0 records shown_fit shown_plain from_late (le_refl late.lsn.0)).1 (λ table. (late_aged table).own))

  start_plain : IsAged identity infos (map plain_commit shown) (moment_at (map plain_commit shown) start) records (moment_at (map plain_commit shown) start)
  start_plain =
      subst (λ (l : List Commit). IsAged identity infos l (moment_at l start) records (moment_at l start)) (sym commits_are)
      (torn_aged identity infos (map plain_commit torn.before) (plain_commit low) (plain_commit late) (plain_commit mark) torn.table torn.row torn.low_is torn.late_is facts start start_is late_at records some all_at late_plain)

  -- ---- and in each course

  shown_course : (s table : ℕ) → course_of infos s table shown ≡ record { infos = infos; commits = map (ticked_commit table) shown; start = s }
  shown_course s table = plain_course infos s table shown shown_fit.follow shown_plain

  whole_since : (table : ℕ) → since (course_of infos start table shown).start records ≡ records
  whole_since table = ap (λ (c : Course). since c.start records) (shown_course start table) ∙ whole_log start records from_start

  same_infos : (table : ℕ) → (course_of infos start table shown).infos ≡ (course_of infos late.lsn.0 table shown).infos
  same_infos table = ap (λ (c : Course). c.infos) (shown_course start table) ∙ sym (ap (λ (c : Course). c.infos) (shown_course late.lsn.0 table))

  rows_there : (table : ℕ) → HasRowsThere identity (course_of infos late.lsn.0 table shown).infos versions records (position_moment versions start) table
  rows_there table =
      go_back identity (course_of infos late.lsn.0 table shown).infos versions records (position_moment versions start) (position_moment versions late.lsn.0) table (position_mono versions start late.lsn.0 (lt_le start late.lsn.0 start_before))
      (by records refl) (record { each = (late_aged table).there })
    where
      by : (rs : List Record) → records ≡ rs → position_moment versions late.lsn.0 ≤ version_span_end versions records (position_moment versions start)
      by [] is = absurd (none_left (length records) some (ap length is))
        where
          none_left : (n : ℕ) → 0 < n → n ≡ 0 → ⊥
          none_left n less e = omega (arith, less, e)
      by (row ∷ rest) is =
          let at : late.lsn.0 < row.position = subst (λ (p : ℕ). late.lsn.0 < p) (sym (position_is 0 row (ap (λ (l : List Record). slice_get l 0) is))) late_before in
          subst (λ (l : List Record). position_moment versions late.lsn.0 ≤ version_span_end versions l (position_moment versions start)) (sym is)
          (both_le (position_moment versions late.lsn.0) (version_moment versions (place_of row)) (version_span_end versions (row ∷ rest) (position_moment versions start))
          (version_past versions late.lsn.0 (place_of row) at) (span_item versions (position_moment versions start) [] row rest))
        where
          both_le : (a b c : ℕ) → a ≤ b → b ≤ c → a ≤ c
          both_le a b c one two = omega (arith, one, two)

  table_aged : (table : ℕ) → IsTableAged identity (course_of infos start table shown) versions records start table
  table_aged table = record {
    own = (plain_age identity infos shown start start records shown_fit shown_plain from_start (le_refl start)).0 start_plain table;
    same = record { each = λ topic text key column names known. ap (λ (l : List Record). held_at (held_row identity l topic text) column) (sym (whole_since table)) };
    there = λ topic text key names held. (rows_there table).each topic text key (subst (λ (l : List TableInfo). Names identity l topic text table key) (same_infos table) names) held;
  }

  aged : (table : ℕ) → IsAgedFrom identity infos versions start records start table
  aged table =
      subst (λ (l : List Versioned). IsTableAged identity (course_of infos start table l) versions records start table) (sym (ap (λ (q : ℕ). versions_to q versions) (last_is start (le_lt start late.lsn.0 mark.lsn.0 (lt_le start late.lsn.0 start_before) late_before)) ∙ to_mark)) (table_aged table)

  -- ---- and all else

  abbrev told : List ToldEvent
  told = events_since start versions

  log : IsExactLog identity told records 0
  log =
      log_others identity told (after_rise start 0 versions fit.rise) (after_changes identity start no_rows versions fit.fit) [] records 0 no_change
      (record { count = 0; exact = record { few = omega arith; fresh = tt; others = λ place item at change. never place item at }; not_after = le_refl 0 })
    where
      never : {X : Type 0} (k : ℕ) (item : Record) → slice_get [] k ≡ Some item → X
      never k item at = cc

  meets : MeetsAllElse identity infos versions start records
  meets = record {
    late = from_start;
    agrees = record { each = λ i item at fresh last topic text table key names known. both_ways item.last last (not_last i item at) };
    exact = (log.count, log.exact);
    aged = aged;
    keyed = settled.0.keyed;
    fresh = λ place item at other. (settled.2.each place item at other).fresh;
    windows = λ place item at other. (settled.2.each place item at other).window;
  }

  -- ---- and is spoilt by what comes next

  -- the insert's events are told after the start
  stands : (k : ℕ) (t : ToldEvent) → slice_get (events_of_commit late) k ≡ Some t → (number : ℕ) × (slice_get told number ≡ Some t)
  stands k t at =
      let parts : told ≡ events_since start torn.before ++ events_of_commits (low ∷ late ∷ mark ∷ torn.later) =
      ap (events_since start) torn.spelled
      ∙ (events_since-append start torn.before (low ∷ late ∷ mark ∷ torn.later)
      ∙ ap (λ (l : List Versioned). events_since start torn.before ++ events_of_commits l) (since_all start (low ∷ late ∷ mark ∷ torn.later) past_start)) in
      let there : slice_get (events_of_commits (low ∷ late ∷ mark ∷ torn.later)) (length (events_of_commit low) + k) ≡ Some t =
      at_right (events_of_commit low) (events_of_commits (late ∷ mark ∷ torn.later)) k t (at_left (events_of_commit late) (events_of_commits (mark ∷ torn.later)) k t at) in (
        length (events_since start torn.before) + (length (events_of_commit low) + k),
        ap (λ (l : List ToldEvent). slice_get l (length (events_since start torn.before) + (length (events_of_commit low) + k))) parts
            ∙ at_right (events_since start torn.before) (events_of_commits (low ∷ late ∷ mark ∷ torn.later)) (length (events_of_commit low) + k) t there,
      )

  spoilt : (item : Record) → IsAmong identity (events_of_commit late) item → IsLogExact identity versions start (records ++ item ∷ []) → ⊥
  spoilt item among = by records refl
    where
      by : (rs : List Record) → records ≡ rs → IsLogExact identity versions start (records ++ item ∷ []) → ⊥
      by [] is = absurd (none_left (length records) some (ap length is))
        where
          none_left : (n : ℕ) → 0 < n → n ≡ 0 → ⊥
          none_left n lt e = omega (arith, lt, e)
      by (row ∷ rest) is =
          let found = stands among.number among.event among.stands in
          let first : slice_get records 0 ≡ Some row = ap (λ (l : List Record). slice_get l 0) is in
          let place : among.event.event.position ≡ late.lsn.0 = (of_commit late among.number among.event among.stands).1 in
          gaps_spoil_exact_logs identity infos versions start records 0 found.0 row item among.event fit first found.1
          (before_mark among.event.event.position late.lsn.0 row.position mark.lsn.0 place late_before (position_is 0 row first)) (λ put. unput found.0 found.1 put) among.is
        where
          before_mark : (p l q h : ℕ) → p ≡ l → l < h → q ≡ h → p < q
          before_mark p l q h one lt two = omega (arith, one, lt, two)

          unput : (number : ℕ) → slice_get told number ≡ Some among.event → HasRecordOfEvent identity records among.event → ⊥
          unput number at put = both_ways (is_change_record put.item) (after_changes identity start no_rows versions fit.fit number among.event put.item at put.is) (no_change put.place put.item put.stands)

pub torn_windows_are_spoilt : TornWindowsAreSpoilt
torn_windows_are_spoilt identity infos versions start late records fit torn = (meets identity infos versions start late records fit torn, spoilt identity infos versions start late records fit torn)
