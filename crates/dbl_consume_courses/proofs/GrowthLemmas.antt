-- The age of a table's cells in its course, by the laws of histories without alterations.
use Rattle.std.proofs.Common.{◌≡◌, ◌∙◌, inl, ℕ, ℤ, ◌+◌, ◌≤◌, ◌<◌, max, Option, Some, None, List, [], ◌∷◌, ◌++◌, length, map, take, flat_map, refl, sym, ap, subst, arith}
use Rattle.std.proofs.lemmas.List.Sums.{fold-append}
use Rattle.std.specs.Prelude.{fold, option_map, unwrap_or, slice_get}
use Rattle.std.specs.List.{AllByRecursion}
use Rattle.dbl_record.specs.declared.record.Record.{Record}
use Rattle.dbl_model_table.specs.declared.identity.Identity.{Identity}
use Rattle.dbl_model_table.specs.declared.row.Key.{Key}
use Rattle.dbl_model_table.specs.declared.table.TableInfo.{TableInfo}
use Rattle.dbl_model_table.specs.declared.change.Body.{Body}
use Rattle.dbl_model_table.specs.declared.change.Body.TheVariants.{Changes, Mark}
use Rattle.dbl_model_table.specs.declared.change.Change.{Change}
use Rattle.dbl_model_table.specs.declared.change.Commit.{Commit}
use Rattle.dbl_model_table.specs.declared.row.Row.{Row}
use Rattle.dbl_model_table.specs.Rows.{Rows, no_rows, changes_of, all_changes}
use Rattle.dbl_model_history.specs.History.{AreRising}
use Rattle.dbl_model_history.proofs.MomentLemmas.{lsns}
use Rattle.dbl_model_history.proofs.RowLemmas.{all_changes-append}
use Rattle.dbl_model_event.specs.Events.{Notice, numbered}
use Rattle.dbl_model_event.specs.EventJson.{print, envelopes}
use Rattle.dbl_model_event.specs.Snapshots.{read_records, progress_record, chunk_records}
use Rattle.dbl_record.specs.Places.{Place}
use Rattle.dbl_model_history.specs.Laws.{AreDistinctTables}
use Rattle.dbl_model_history.specs.Ranges.{IsMomentInRange}
use Rattle.dbl_model_event.specs.Events.{notices}
use Rattle.dbl_model_event.specs.declared.closed.Closed.{Closed}
use Rattle.dbl_model_event.specs.Clashes.{notice_clash, first_found, clash_of, rows_clash, snapshot_clash}
use Rattle.dbl_model_event.specs.SnapshotLists.{IsSnapshot}
use Rattle.dbl_consume_laws.specs.Commits.{moment_after, AreFitCommits, IsCommitAmong}
use Rattle.dbl_consume_laws.specs.Moments.{last_moment, span_end}
use Rattle.dbl_consume_laws.specs.KnownKeys.{IsKnown, AreToldUpTo}
use Rattle.dbl_consume_laws.specs.Windows.{IsRightWindow}
use Rattle.dbl_consume_laws.specs.Ages.{held_cell, source_cell, IsAgedCell, IsAged}
use Rattle.dbl_consume_laws.proofs.AgeingCells.{aged_wider}
use Rattle.dbl_consume_laws.proofs.Spans.{known_shorter, stays_in_longer}
use Rattle.dbl_consume_laws.proofs.Lists.{all_take}
use Rattle.dbl_consume_laws.proofs.Changes.{parts_keep_age, commits_move_age}
use Rattle.dbl_consume_laws.proofs.Snapshot.{parts_of_snapshots_keep_age}
use Rattle.dbl_consume_courses.specs.Versions.{Versioned, plain_commit, AreVersionsFrom, rows_through}
use Rattle.dbl_consume_courses.specs.Courses.{Course, ticked, ticked_body, ticked_commit, course_after, course_from, first_course, infos_after, AreUnaltered}
use Rattle.dbl_consume_courses.specs.FitVersions.{AreFitFrom, AreFitVersions}
use Rattle.dbl_consume_courses.specs.Since.{since}
use Rattle.dbl_consume_courses.specs.AlteredTables.{course_changes, course_start, IsKnownIn, IsOwnAged}
use Rattle.dbl_consume_courses.specs.Growth.{course_of, own_span_end, IsVersionAmong, PartsOfCommitsKeepOwnAge, CommitsMoveOwnAge, PartsOfSnapshotsKeepOwnAge, OwnAgeGoesBack, OwnAgeStaysAsHistoriesGrow}
use Rattle.dbl_consume_courses.proofs.CourseLemmas.{goes_on, infos_from}
use Rattle.dbl_consume_courses.proofs.Kin.{AreKin, kin_all, kin_distinct, same_all}
use Rattle.dbl_consume_courses.proofs.FitLemmas.{AreTicks, IsGood, good_of, are_fit}
use Rattle.dbl_consume_courses.proofs.InfoMoves.{known_same, own_moves, moment_at-most, moment_at-late}
use Rattle.dbl_consume_courses.proofs.SinceLemmas.{appended, is_since}
use Rattle.dbl_consume_courses.proofs.Alone.{emptied_place, Own, AreLike, like_itself, like_back, like_append, like_take, told_like, last_like, OwnCell, own_like, emptied, emptied_like, whole}
use Rattle.dbl_consume_courses.proofs.TickLemmas.{AreAlike, clash_alike, alike_take, records_like, commit_alike, chunk_same}

span_same : (from to far : ℕ) → from ≤ to → to ≤ max from far → max to far ≡ max from far
span_same from to far le reached = omega (arith, le, reached)

pub goes_back : OwnAgeGoesBack
goes_back identity c from to table records le reached aged = record {
  each = λ topic text key column names. (
      let far : ℕ = last_moment c.infos c.commits (course_start c) (since c.start records) in
      let one : ℕ = own_span_end c records to in
      let two : ℕ = own_span_end c records from in
      let same : one ≡ two = span_same from to far le reached in
      let K : Type 0 = IsKnownIn identity c records one table key in
      let L : Type 0 = IsKnownIn identity c records two table key in
      let life = source_cell c.infos (course_changes c) table key column in
      let held = held_cell identity (since c.start records) topic text column in
      let here : IsAgedCell K life from one held = aged_wider K K life to from one one held (λ k. inl k) le (omega arith) (aged.each topic text key column names) in
      subst (λ (x : ℕ). IsAgedCell (IsKnownIn identity c records x table key) life from x held) same here);
}

-- ---- a course at one of its commits

pub late_items : (start position : ℕ) (items : List Record) → start ≤ position → AllByRecursion (λ item. item.position ≡ position) items → AllByRecursion (λ item. start ≤ item.position) items
late_items start position [] le at = tt
late_items start position (item ∷ items) le at = (omega (arith, le, at.0), late_items start position items le at.1)

pub printed_at : (identity : Identity) (commit : Commit) (now : ℤ) (position ordinal : ℕ) (ns : List Notice) → AllByRecursion (λ item. item.position ≡ position) (map (print identity commit now) (numbered position ordinal ns))
printed_at identity commit now position ordinal [] = tt
printed_at identity commit now position ordinal (n ∷ ns) = (refl, printed_at identity commit now position (ordinal + 1) ns)

pub read_at : (identity : Identity) (info : TableInfo) (mark : Commit) (now : ℤ) (ordinal : ℕ) (rows : List (Key × Row)) (last : Record) → last.position ≡ mark.lsn.0
    → AllByRecursion (λ item. item.position ≡ mark.lsn.0) (read_records identity info mark now ordinal rows ++ last ∷ [])
read_at identity info mark now ordinal [] last is = (is, tt)
read_at identity info mark now ordinal (entry ∷ rows) last is = (refl, read_at identity info mark now (ordinal + 1) rows last is)

pub rises_in : (low : ℕ) (front : List ℕ) (x : ℕ) (rest : List ℕ) → AreRising low (front ++ x ∷ rest) → AllByRecursion (λ y. y < x) front
rises_in low [] x rest rise = tt
rises_in low (y ∷ front) x rest rise = (under y front x rest rise.1, rises_in y front x rest rise.1)
  where
    under : (y : ℕ) (front : List ℕ) (x : ℕ) (rest : List ℕ) → AreRising y (front ++ x ∷ rest) → y < x
    under y [] x rest rise = rise.0
    under y (z ∷ front) x rest rise = lt_trans y z x rise.0 (under z front x rest rise.1)
      where
        lt_trans : (a b c : ℕ) → a < b → b < c → a < c
        lt_trans a b c one two = omega (arith, one, two)

pub lsns_append : (xs ys : List Versioned) → lsns (map plain_commit (xs ++ ys)) ≡ lsns (map plain_commit xs) ++ lsns (map plain_commit ys)
lsns_append [] ys = refl
lsns_append (x ∷ xs) ys = ap (λ (l : List ℕ). x.lsn.0 ∷ l) (lsns_append xs ys)

pub follow_left : (infos : List TableInfo) (xs ys : List Versioned) → AreVersionsFrom infos (xs ++ ys) → AreVersionsFrom infos xs
follow_left infos [] ys follow = tt
follow_left infos (x ∷ xs) ys follow = (follow.0, follow_left x.infos xs ys follow.1)

pub follow_right : (infos : List TableInfo) (xs ys : List Versioned) → AreVersionsFrom infos (xs ++ ys) → AreVersionsFrom (infos_after infos xs) ys
follow_right infos [] ys follow = follow
follow_right infos (x ∷ xs) ys follow = follow_right x.infos xs ys follow.1

fit_front : (at : Rows) (xs ys : List Versioned) → AreFitFrom at (xs ++ ys) → AreFitFrom at xs
fit_front at [] ys fit = tt
fit_front at (x ∷ xs) ys fit = (fit.0, fit_front (rows_through at x) xs ys fit.1)

pub fit_versions_left : (infos : List TableInfo) (xs ys : List Versioned) → AreFitVersions infos (xs ++ ys) → AreFitVersions infos xs
fit_versions_left infos xs ys valid = record {
  follow = follow_left infos xs ys valid.follow;
  distinct = valid.distinct;
  rise = rising_front 0 (lsns (map plain_commit xs)) (lsns (map plain_commit ys)) (subst (AreRising 0) (lsns_append xs ys) valid.rise);
  fit = fit_front no_rows xs ys valid.fit;
}
  where
    rising_front : (low : ℕ) (l m : List ℕ) → AreRising low (l ++ m) → AreRising low l
    rising_front low [] m rise = tt
    rising_front low (x ∷ l) m rise = (rise.0, rising_front x l m rise.1)

-- what is so of a commit in a course
pub record IsPlaced (infos : List TableInfo) (start table : ℕ) (versions earlier : List Versioned) (v : Versioned) (later : List Versioned) : Type 0 where
  pub commits : (course_of infos start table versions).commits ≡ (course_of infos start table earlier).commits ++ ticked_commit table v ∷ map (ticked_commit table) later
  pub kin : AreKin v.infos (course_of infos start table versions).infos
  pub same : slice_get v.infos table ≡ slice_get (course_of infos start table versions).infos table
  pub late : (course_of infos start table versions).start < v.lsn.0
  pub begins : (course_of infos start table versions).start ≡ (course_of infos start table earlier).start

pub placed_in : (infos : List TableInfo) (versions : List Versioned) (start table : ℕ) (earlier : List Versioned) (v : Versioned) (later : List Versioned)
    → IsVersionAmong infos versions start table earlier v later → IsPlaced infos start table versions earlier v later
placed_in infos versions start table earlier v later among =
    let mid : Course = course_of infos start table earlier in
    let all : Course = course_of infos start table versions in
    let valid : AreFitVersions infos (earlier ++ v ∷ later) = subst (AreFitVersions infos) among.spelled among.fit in
    let goes : course_of infos start table versions ≡ record { infos = infos_after mid.infos (v ∷ later); commits = mid.commits ++ map (ticked_commit table) (v ∷ later); start = mid.start } =
    ap (course_from table (first_course infos start)) among.spelled ∙ (fold-append (course_after table) (first_course infos start) earlier (v ∷ later) ∙ goes_on table mid (v ∷ later) among.unaltered) in
    let infos_are : all.infos ≡ infos_after v.infos later = ap (λ (c : Course). c.infos) goes in
    let follow : AreVersionsFrom (infos_after infos earlier) (v ∷ later) = follow_right infos earlier (v ∷ later) valid.follow in
    let good = good_of infos earlier start table (fit_versions_left infos earlier (v ∷ later) valid) in
    let begins : all.start ≡ mid.start = ap (λ (c : Course). c.start) goes in
    record {
      commits = ap (λ (c : Course). c.commits) goes;
      kin = subst (AreKin v.infos) (sym infos_are) (kin_all v.infos later follow.1);
      same = sym (ap (λ (l : List TableInfo). slice_get l table) infos_are ∙ same_all table v.infos later follow.1 among.unaltered.1);
      late = subst (λ (s : ℕ). s < v.lsn.0) (sym begins) (good.starts v.lsn.0 among.after
          (rises_in 0 (lsns (map plain_commit earlier)) v.lsn.0 (lsns (map plain_commit later)) (subst (AreRising 0) (lsns_append earlier (v ∷ later)) valid.rise)));
      begins = begins;
    }

-- ---- the laws of a course without alterations, for one table

module _ (identity : Identity) (infos : List TableInfo) (versions : List Versioned) (start table : ℕ) (earlier : List Versioned) (v : Versioned) (later : List Versioned)
    (among : IsVersionAmong infos versions start table earlier v later) (info : TableInfo) (captured : slice_get (course_of infos start table versions).infos table ≡ Some info) where
  abbrev C : Course
  C = course_of infos start table versions

  abbrev before : List Commit
  before = (course_of infos start table earlier).commits

  abbrev tick : Commit
  tick = ticked_commit table v

  placed : IsPlaced infos start table versions earlier v later
  placed = placed_in infos versions start table earlier v later among

  fit : AreFitCommits C.infos C.commits
  fit = are_fit infos versions start table among.fit

  ticks : AreTicks table (all_changes C.commits)
  ticks = (good_of infos versions start table among.fit).ticks

  pub next : IsCommitAmong C.infos C.commits before tick (map (ticked_commit table) later)
  next = record { fit = fit; spelled = placed.commits }

  -- records of the log since the course's start, without those of other tables
  abbrev quiet : List Record → List Record
  quiet records = map (emptied identity info) (since C.start records)

  quiet_like : (records : List Record) → AreLike identity info (quiet records) (since C.start records)
  quiet_like records = emptied_like identity info (since C.start records)

  own_whole : (records : List Record) (from : ℕ) → IsOwnAged identity C records from table → IsAged identity C.infos C.commits (course_start C) (quiet records) from
  own_whole records from aged = whole identity C.infos C.commits (course_start C) from table info captured fit.distinct ticks (since C.start records) aged.each

  span_quiet : (records : List Record) (from : ℕ) → own_span_end C records from ≡ span_end C.infos C.commits (course_start C) (quiet records) from
  span_quiet records from = ap (max from) (sym (last_like identity info C.infos C.commits (course_start C) (quiet records) (since C.start records) (quiet_like records)))

  -- what is aged of them with more records, alike to those of the log
  more_own : (records more items : List Record) (from : ℕ) → AreLike identity info items more → AllByRecursion (λ item. item.position ≡ v.lsn.0) more
      → IsAged identity C.infos C.commits (course_start C) (quiet records ++ items) from → IsOwnAged identity C (records ++ more) from table
  more_own records more items from like at aged =
      let late : AllByRecursion (λ item. C.start ≤ item.position) more = late_items C.start v.lsn.0 more (le_of C.start v.lsn.0 placed.late) at in
      let kept : since C.start (records ++ more) ≡ since C.start records ++ more = appended C.start records more late in
      record {
        each = λ topic text key column names. subst (λ (l : List Record). OwnCell identity info C.infos C.commits (course_start C) from table l topic text key column) (sym kept)
            (own_like identity info C.infos C.commits (course_start C) from table captured (quiet records ++ items) (since C.start records ++ more)
            (like_append identity info (quiet records) (since C.start records) items more (quiet_like records) like)
            (λ t x k c n. aged.each t x table k c n) topic text key column names);
      }
    where
      le_of : (a b : ℕ) → a < b → a ≤ b
      le_of a b lt = omega (arith, lt)

  -- ---- its events

  abbrev events : List Notice
  events = flat_map (notices v.infos) (changes_of (plain_commit v))

  abbrev course_events : List Notice
  course_events = flat_map (notices C.infos) (changes_of tick)

  alike : AreAlike identity v.infos C.infos table info placed.kin placed.same captured fit.distinct course_events events
  alike = commit_alike identity v.infos C.infos table info placed.kin placed.same captured fit.distinct v refl

  pub records_alike : (now : ℤ) → AreLike identity info (envelopes identity C.infos tick now) (envelopes identity v.infos (plain_commit v) now)
  records_alike now = records_like identity v.infos C.infos table info placed.kin placed.same captured fit.distinct v now v.lsn.0 0 course_events events alike

  all_printed : (now : ℤ) → AllByRecursion (λ item. item.position ≡ v.lsn.0) (envelopes identity v.infos (plain_commit v) now)
  all_printed now = printed_at identity (plain_commit v) now v.lsn.0 0 events

  pub parts : (from : ℕ) (records : List Record) (now : ℤ) (n : ℕ) → IsMomentInRange now → first_found (notice_clash identity.placeholder) (take n events) ≡ None
      → from ≤ moment_after before → moment_after before ≤ own_span_end C records from → IsOwnAged identity C records from table
      → IsOwnAged identity C (records ++ take n (envelopes identity v.infos (plain_commit v) now)) from table
  parts from records now n in_time clear low reached aged =
      let free : first_found (notice_clash identity.placeholder) (take n course_events) ≡ None =
      clash_alike identity v.infos C.infos table info placed.kin placed.same captured fit.distinct (take n course_events) (take n events)
      (alike_take identity v.infos C.infos table info placed.kin placed.same captured fit.distinct n course_events events alike) clear in
      let here : moment_after before ≤ span_end C.infos C.commits (course_start C) (quiet records) from = subst (λ (e : ℕ). moment_after before ≤ e) (span_quiet records from) reached in
      more_own records (take n (envelopes identity v.infos (plain_commit v) now)) (take n (envelopes identity C.infos tick now)) from
      (like_take identity info n (envelopes identity C.infos tick now) (envelopes identity v.infos (plain_commit v) now) (records_alike now))
      (all_take (λ item. item.position ≡ v.lsn.0) n (envelopes identity v.infos (plain_commit v) now) (all_printed now))
      (parts_keep_age identity C.infos C.commits before tick (map (ticked_commit table) later) (course_start C) from (quiet records) now n next in_time free low here (own_whole records from aged))

  pub moves : (records : List Record) (now : ℤ) → clash_of identity v.infos (plain_commit v) ≡ None → IsMomentInRange now → IsOwnAged identity C records (moment_after before) table
      → IsOwnAged identity C (records ++ envelopes identity v.infos (plain_commit v) now) (moment_after (before ++ tick ∷ [])) table
  moves records now clear in_time aged =
      let free : clash_of identity C.infos tick ≡ None = clash_alike identity v.infos C.infos table info placed.kin placed.same captured fit.distinct course_events events alike clear in
      more_own records (envelopes identity v.infos (plain_commit v) now) (envelopes identity C.infos tick now) (moment_after (before ++ tick ∷ [])) (records_alike now) (all_printed now)
      (commits_move_age identity C.infos C.commits before tick (map (ticked_commit table) later) (course_start C) (quiet records) now next free in_time (own_whole records (moment_after before) aged))

pub parts_keep : PartsOfCommitsKeepOwnAge
parts_keep identity infos versions start table earlier v later from records now n among in_time clear low reached aged = record {
  each = λ topic text key column names.
      (parts identity infos versions start table earlier v later among names.info names.captured from records now n in_time clear low reached aged).each topic text key column names;
}

-- the course after one commit more
pub one_more : (infos : List TableInfo) (versions : List Versioned) (start table : ℕ) (earlier : List Versioned) (v : Versioned) (later : List Versioned) → IsVersionAmong infos versions start table earlier v later
    → (course_of infos start table earlier).commits ++ ticked_commit table v ∷ [] ≡ (course_of infos start table (earlier ++ v ∷ [])).commits
one_more infos versions start table earlier v later among =
    sym (ap (λ (c : Course). c.commits) (fold-append (course_after table) (first_course infos start) earlier (v ∷ []) ∙ goes_on table (course_of infos start table earlier) (v ∷ []) (among.unaltered.0, tt)))

pub commits_move : CommitsMoveOwnAge
commits_move identity infos versions start table earlier v later records now among clear in_time aged = record {
  each = λ topic text key column names.
      (subst (λ (l : List Commit). IsOwnAged identity (course_of infos start table versions) (records ++ envelopes identity v.infos (plain_commit v) now) (moment_after l) table) (one_more infos versions start table earlier v later among)
      (moves identity infos versions start table earlier v later among names.info names.captured records now clear in_time aged)).each topic text key column names;
}

-- ---- a window

module _ (identity : Identity) (infos : List TableInfo) (versions : List Versioned) (start : ℕ) (earlier : List Versioned) (mark : Versioned) (later : List Versioned) (closed : Closed)
    (among : IsVersionAmong infos versions start closed.table earlier mark later) (info : TableInfo) (captured : slice_get (course_of infos start closed.table versions).infos closed.table ≡ Some info) where
  abbrev D : Course
  D = course_of infos start closed.table versions

  abbrev ahead : List Commit
  ahead = (course_of infos start closed.table earlier).commits

  abbrev high : Commit
  high = ticked_commit closed.table mark

  lies : IsPlaced infos start closed.table versions earlier mark later
  lies = placed_in infos versions start closed.table earlier mark later among

  silent : (body : Body) → mark.body ≡ body → changes_of (plain_commit mark) ≡ [] → changes_of high ≡ []
  silent (Changes changes) is none =
      let gone : changes ≡ [] = ap (λ (b : Body). elim b [ Changes changes ↦ changes | Mark value ↦ [] ]) (sym is) ∙ none in
      ap (λ (b : Body). elim (ticked_body mark.infos closed.table b) [ Changes changes ↦ changes | Mark value ↦ [] ]) is ∙ ap (flat_map (ticked mark.infos closed.table)) gone
  silent (Mark value) is none = ap (λ (b : Body). elim (ticked_body mark.infos closed.table b) [ Changes changes ↦ changes | Mark value ↦ [] ]) is

  -- its records are those of a window in the course
  in_course : (now : ℤ) (listed : List Record) → IsSnapshot identity mark.infos closed (plain_commit mark) now listed → IsSnapshot identity D.infos closed high now listed
  in_course now listed is = record {
    info = is.info;
    captured = sym lies.same ∙ is.captured;
    fits = is.fits;
    keys = is.keys;
    ordered = is.ordered;
    records_are = is.records_are
        ∙ (ap (λ (o : Option TableInfo). unwrap_or (option_map (λ i. chunk_records identity i closed.rows closed.through closed.done (plain_commit mark) now) o) []) is.captured
        ∙ (sym (chunk_same identity closed.table mark now is.info closed.rows closed.through closed.done)
        ∙ sym (ap (λ (o : Option TableInfo). unwrap_or (option_map (λ i. chunk_records identity i closed.rows closed.through closed.done high now) o) []) (sym lies.same ∙ is.captured))));
  }

  listed_at : (now : ℤ) (listed : List Record) → IsSnapshot identity mark.infos closed (plain_commit mark) now listed → AllByRecursion (λ item. item.position ≡ mark.lsn.0) listed
  listed_at now listed is =
      subst (AllByRecursion (λ item. item.position ≡ mark.lsn.0))
      (sym (is.records_are ∙ ap (λ (o : Option TableInfo). unwrap_or (option_map (λ i. chunk_records identity i closed.rows closed.through closed.done (plain_commit mark) now) o) []) is.captured))
      (read_at identity is.info (plain_commit mark) now 0 closed.rows (progress_record identity is.info (plain_commit mark) (length closed.rows) closed.through closed.done) refl)

  pub window : (low : ℕ) (above : Option Key) (records listed : List Record) (now : ℤ) (n : ℕ) → changes_of (plain_commit mark) ≡ [] → IsMomentInRange now
      → IsSnapshot identity mark.infos closed (plain_commit mark) now listed → snapshot_clash identity mark.infos closed ≡ None
      → IsRightWindow D.infos (course_changes D) low (moment_after ahead) above closed → course_start D ≤ low
      → AreToldUpTo identity D.infos (since D.start records) closed.table above
      → IsOwnAged identity D records (moment_after ahead) closed.table
      → IsOwnAged identity D (records ++ take n listed) (moment_after ahead) closed.table
  window low above records listed now n none in_time is clear right after told aged =
      let L : List Record = since D.start records in
      let S : List Record = map (emptied identity info) L in
      let free : snapshot_clash identity D.infos closed ≡ None = ap (λ (o : Option TableInfo). unwrap_or (option_map (λ i. rows_clash identity.placeholder i closed.rows) o) None) (sym lies.same) ∙ clear in
      let covered : AreToldUpTo identity D.infos S closed.table above =
      λ key up_to. told_like identity info D.infos closed.table key L S (like_back identity info S L (emptied_like identity info L)) (told key up_to) in
      more_own identity infos versions start closed.table earlier mark later among info captured records (take n listed) (take n listed) (moment_after ahead) (like_itself identity info (take n listed))
      (all_take (λ item. item.position ≡ mark.lsn.0) n listed (listed_at now listed is))
      (parts_of_snapshots_keep_age identity D.infos D.commits ahead high (map (ticked_commit closed.table) later) (course_start D) low above closed S listed now n
      (next identity infos versions start closed.table earlier mark later among info captured) (silent mark.body refl none) in_time (in_course now listed is) free right after covered
      (own_whole identity infos versions start closed.table earlier mark later among info captured records (moment_after ahead) aged))

pub snapshots_keep : PartsOfSnapshotsKeepOwnAge
snapshots_keep identity infos versions start earlier mark later low above closed records listed now n among none in_time is clear right after told aged = record {
  each = λ topic text key column names.
      (window identity infos versions start earlier mark later closed among names.info names.captured low above records listed now n none in_time is clear right after told aged).each topic text key column names;
}

-- ---- a longer history

all_emptied : (identity : Identity) (info : TableInfo) (commits : List Commit) (records : List Record) → AllByRecursion (λ item. AllByRecursion (λ commit. item.position < commit.lsn.0) commits) records
    → AllByRecursion (λ item. AllByRecursion (λ commit. item.position < commit.lsn.0) commits) (map (emptied identity info) records)
all_emptied identity info commits [] all = tt
all_emptied identity info commits (item ∷ records) all = (
  subst (λ (p : ℕ). AllByRecursion (λ commit. p < commit.lsn.0) commits) (ap (λ (place : Place). place.0) (sym (emptied_place identity info item))) all.0,
  all_emptied identity info commits records all.1,
)

pub all_ticked : (table position : ℕ) (versions : List Versioned) → AllByRecursion (λ v. position < v.lsn.0) versions → AllByRecursion (λ commit. position < commit.lsn.0) (map (ticked_commit table) versions)
all_ticked table position [] all = tt
all_ticked table position (v ∷ versions) all = (all.0, all_ticked table position versions all.1)

each_ticked : (table : ℕ) (versions : List Versioned) (records : List Record) → AllByRecursion (λ item. AllByRecursion (λ v. item.position < v.lsn.0) versions) records
    → AllByRecursion (λ item. AllByRecursion (λ commit. item.position < commit.lsn.0) (map (ticked_commit table) versions)) records
each_ticked table versions [] all = tt
each_ticked table versions (item ∷ records) all = (all_ticked table item.position versions all.0, each_ticked table versions records all.1)

items_back : (P : Record → Type 0) (l m : List Record) → AllByRecursion P (l ++ m) → AllByRecursion P m
items_back P [] m all = all
items_back P (x ∷ l) m all = items_back P l m all.1

drop_one : (front : List ℕ) (y : ℕ) (rest : List ℕ) (low : ℕ) → AreRising low (front ++ y ∷ rest) → AreRising low (front ++ rest)
drop_one [] y [] low rise = tt
drop_one [] y (z ∷ rest) low rise = (lt_of low y z rise.0 rise.1.0, rise.1.1)
  where
    lt_of : (a b c : ℕ) → a < b → b < c → a < c
    lt_of a b c one two = omega (arith, one, two)
drop_one (f ∷ front) y rest low rise = (rise.0, drop_one front y rest f rise.1)

pub each_late : (table : ℕ) (c : Course) (at : Rows) (start : ℕ) (done : List ℕ) → IsGood table c at start done → (vs : List Versioned) (low : ℕ) → AreRising low (done ++ lsns (map plain_commit vs))
    → AllByRecursion (λ v. start < v.lsn.0) vs → AllByRecursion (λ v. c.start < v.lsn.0) vs
each_late table c at start done good [] low rise all = tt
each_late table c at start done good (v ∷ vs) low rise all = (
  good.starts v.lsn.0 all.0 (rises_in low done v.lsn.0 (lsns (map plain_commit vs)) rise),
  each_late table c at start done good vs low (drop_one done v.lsn.0 (lsns (map plain_commit vs)) low rise) all.1,
)

module _ (identity : Identity) (infos : List TableInfo) (versions later : List Versioned) (start table : ℕ) (valid : AreFitVersions infos (versions ++ later)) (unaltered : AreUnaltered table later) where
  abbrev old : Course
  old = course_of infos start table versions

  abbrev rest : List Commit
  rest = map (ticked_commit table) later

  abbrev new : Course
  new = record { infos = infos_after old.infos later; commits = old.commits ++ rest; start = old.start }

  pub goes : course_of infos start table (versions ++ later) ≡ new
  goes = fold-append (course_after table) (first_course infos start) versions later ∙ goes_on table old later unaltered

  old_valid : AreFitVersions infos versions
  old_valid = fit_versions_left infos versions later valid

  good_old : IsGood table old (fold rows_through no_rows versions) start (lsns (map plain_commit versions))
  good_old = good_of infos versions start table old_valid

  old_infos : old.infos ≡ infos_after infos versions
  old_infos = infos_from table (first_course infos start) versions

  follow : AreVersionsFrom old.infos later
  follow = subst (λ (l : List TableInfo). AreVersionsFrom l later) (sym old_infos) (follow_right infos versions later valid.follow)

  kin : AreKin old.infos new.infos
  kin = kin_all old.infos later follow

  pub same_infos : slice_get old.infos table ≡ slice_get new.infos table
  same_infos = sym (same_all table old.infos later follow unaltered)

  apart : AreDistinctTables new.infos
  apart = kin_distinct old.infos new.infos kin (are_fit infos versions start table old_valid).distinct

  start_same : AllByRecursion (λ v. start < v.lsn.0) later → course_start new ≡ course_start old
  start_same after = moment_at-late old.commits rest old.start
      (all_ticked table old.start later (each_late table old (fold rows_through no_rows versions) start (lsns (map plain_commit versions)) good_old later 0 (subst (AreRising 0) (lsns_append versions later) valid.rise) after))

  -- what is known in the longer history up to a point of the shorter one is known there
  pub known_old : (moment : ℕ) (records : List Record) (key : Key) → AllByRecursion (λ v. start < v.lsn.0) later → moment ≤ moment_after old.commits → IsKnownIn identity new records moment table key → IsKnownIn identity old records moment table key
  known_old moment records key after low known =
      let here : IsKnown identity new.infos (course_changes new) (course_start old) (since old.start records) moment table key =
      subst (λ (s : ℕ). IsKnown identity new.infos (course_changes new) s (since old.start records) moment table key) (start_same after) known in
      let parted : IsKnown identity new.infos (all_changes old.commits ++ all_changes rest) (course_start old) (since old.start records) moment table key =
      subst (λ (l : List Change). IsKnown identity new.infos l (course_start old) (since old.start records) moment table key) (all_changes-append old.commits rest) here in
      known_same old.infos new.infos table kin same_infos identity (all_changes old.commits) (course_start old) moment (since old.start records) key
      (known_shorter identity new.infos (all_changes old.commits) (all_changes rest) (course_start old) (since old.start records) moment table key low parted)

  pub longer : (from : ℕ) (records : List Record) → AllByRecursion (λ v. start < v.lsn.0) later → AllByRecursion (λ item. AllByRecursion (λ v. item.position < v.lsn.0) later) records
      → from ≤ moment_after old.commits → IsOwnAged identity old records from table → (info : TableInfo) → slice_get new.infos table ≡ Some info
      → Own identity info new.infos new.commits (course_start new) from table (since old.start records)
  longer from records after above in_from aged info captured =
      let S : List Record = since old.start records in
      let L : List Record = map (emptied identity info) S in
      let s : ℕ = course_start old in
      let parted = is_since old.start records in
      let above_S : AllByRecursion (λ item. AllByRecursion (λ v. item.position < v.lsn.0) later) S =
      items_back (λ item. AllByRecursion (λ v. item.position < v.lsn.0) later) parted.earlier S
      (subst (AllByRecursion (λ item. AllByRecursion (λ v. item.position < v.lsn.0) later)) parted.is above) in
      let starts : course_start new ≡ s = start_same after in
      let moved : Own identity info new.infos old.commits s from table S =
      own_moves old.infos new.infos table kin same_infos identity info old.commits s from S good_old.ticks (λ t x k c n. aged.each t x k c n) in
      let flat : IsAged identity new.infos old.commits s L from = whole identity new.infos old.commits s from table info captured apart good_old.ticks S moved in
      let grown : IsAged identity new.infos (old.commits ++ rest) s L from =
      stays_in_longer identity new.infos old.commits rest s from L (moment_at-most old.commits old.start) in_from
      (all_emptied identity info rest S (each_ticked table later S above_S)) flat in
      subst (λ (x : ℕ). Own identity info new.infos new.commits x from table S) (sym starts)
      (own_like identity info new.infos new.commits s from table captured L S (emptied_like identity info S) (λ t x k c n. grown.each t x table k c n))

pub stays : OwnAgeStaysAsHistoriesGrow
stays identity infos versions later start table from records valid unaltered after above in_from aged =
    subst (λ (c : Course). IsOwnAged identity c records from table) (sym (goes identity infos versions later start table valid unaltered)) (record {
      each = λ topic text key column names.
          longer identity infos versions later start table valid unaltered from records after above in_from aged names.info names.captured topic text key column names;
    })
