-- The age of an altered table by positions: the points of its course and those of the history are brought together.
use Rattle.std.proofs.Common.{◌≡◌, ◌∙◌, inl, inr, ℕ, ◌≤◌, ◌<◌, max, List, [], ◌∷◌, ◌++◌, fold, map, take, sym, ap, subst, arith, append_assoc}
use Rattle.std.specs.Prelude.{IsSome}
use Rattle.std.specs.List.{AllByRecursion}
use Rattle.dbl_record.specs.declared.record.Record.{Record}
use Rattle.dbl_model_table.specs.declared.identity.Identity.{Identity}
use Rattle.dbl_model_table.specs.declared.row.Key.{Key}
use Rattle.dbl_model_table.specs.declared.table.TableInfo.{TableInfo}
use Rattle.dbl_model_table.specs.declared.change.Commit.{Commit}
use Rattle.dbl_model_table.specs.Rows.{no_rows, moment_at}
use Rattle.dbl_model_history.specs.History.{AreRising}
use Rattle.dbl_model_history.specs.Image.{Names}
use Rattle.dbl_model_history.proofs.MomentLemmas.{lsns}
use Rattle.dbl_model_event.specs.EventJson.{envelopes}
use Rattle.dbl_consume_laws.specs.Moments.{last_moment}
use Rattle.dbl_consume_laws.specs.Ages.{held_row}
use Rattle.dbl_consume_courses.specs.Versions.{Versioned, plain_commit, AreVersionsFrom, rows_through}
use Rattle.dbl_consume_courses.specs.Courses.{Course, ticked_commit, first_course}
use Rattle.dbl_consume_courses.specs.Since.{since}
use Rattle.dbl_consume_courses.specs.AlteredTables.{course_start, IsKnownIn, position_moment, version_span_end, WasThereThrough, IsOwnAged, HasSameCells, IsTableAged}
use Rattle.dbl_consume_courses.specs.FitVersions.{AreFitVersions}
use Rattle.dbl_consume_courses.specs.Growth.{course_of, point_after, own_span_end, IsVersionAmong}
use Rattle.dbl_consume_courses.specs.CourseAges.{own_from}
use Rattle.dbl_consume_courses.specs.RowsThere.{changes_in, HasRowsThere}
use Rattle.dbl_consume_courses.specs.TableAges.{IsJustBefore, IsInCourse, PartsOfCommitsKeepTableAge, CommitsMoveTableAge, TableAgeGoesBack, TableAgeStaysAsCoursesGrow, TableAgeStaysAsHistoriesGrow}
use Rattle.dbl_consume_courses.proofs.CourseLemmas.{infos_from}
use Rattle.dbl_consume_courses.proofs.FitLemmas.{rising_end, good_of}
use Rattle.dbl_consume_courses.proofs.Alone.{all_weaker}
use Rattle.dbl_consume_courses.proofs.InfoMoves.{moment_at-most, moment_at-late}
use Rattle.dbl_consume_courses.proofs.GrowthLemmas.{lsns_append, rises_in, fit_versions_left, placed_in, parts_keep, commits_move, one_more, goes_back, all_ticked, each_late, goes, stays}
use Rattle.dbl_consume_courses.proofs.SameLemmas.{parts_keep_same, commits_move_same, same_stays}
use Rattle.dbl_consume_courses.proofs.NameLemmas.{names_after, names_before}
use Rattle.dbl_consume_courses.proofs.ThereLemmas.{parts_keep_there, commits_move_there}
use Rattle.dbl_consume_courses.proofs.ThereWindows.{ends, was_earlier, was_longer}
use Rattle.dbl_consume_courses.proofs.Positions.{le_of, le_trans, lt_le, left_most, both_below, of_lsns, all_end, past_all, moment_upto, position_upto, position_most, position_longer, moment_mono, position_mono, course_upto, le_is}

-- ---- the names of a course

-- a row that is there by the opening names is so by those of a course
pub to_there : (identity : Identity) (infos : List TableInfo) (shown versions : List Versioned) (start from table : ℕ) (records : List Record) → AreVersionsFrom infos shown → HasRowsThere identity infos versions records from table
    → (topic text : List ℕ) (key : Key) → Names identity (course_of infos start table shown).infos topic text table key → IsSome (held_row identity records topic text)
    → WasThereThrough versions from (version_span_end versions records from) table key
to_there identity infos shown versions start from table records follow there topic text key names some =
    there.each topic text key (names_before identity infos shown topic text table key follow
    (subst (λ (l : List TableInfo). Names identity l topic text table key) (infos_from table (first_course infos start) shown) names)) some

pub from_there : (identity : Identity) (infos : List TableInfo) (shown versions : List Versioned) (start from table : ℕ) (records : List Record) → AreVersionsFrom infos shown
    → ((topic text : List ℕ) (key : Key) → Names identity (course_of infos start table shown).infos topic text table key → IsSome (held_row identity records topic text)
    → WasThereThrough versions from (version_span_end versions records from) table key)
    → HasRowsThere identity infos versions records from table
from_there identity infos shown versions start from table records follow there = record {
  each = λ topic text key names some. there topic text key
      (subst (λ (l : List TableInfo). Names identity l topic text table key) (sym (infos_from table (first_course infos start) shown)) (names_after identity infos shown topic text table key follow names)) some;
}

-- ---- a commit in a table's course

module _ (identity : Identity) (infos : List TableInfo) (versions shown : List Versioned) (start table : ℕ) (earlier : List Versioned) (v : Versioned) (later : List Versioned)
    (is_in : IsInCourse infos versions shown start table earlier v later) where
  abbrev C : Course
  C = course_of infos start table shown

  abbrev rest : List Versioned
  rest = later ++ is_in.hidden

  among : IsVersionAmong infos shown start table earlier v later
  among = is_in.among

  pub whole_is : versions ≡ earlier ++ v ∷ rest
  whole_is = is_in.parted ∙ (ap (λ (l : List Versioned). l ++ is_in.hidden) among.spelled ∙ append_assoc earlier (v ∷ later) is_in.hidden)

  pub valid : AreFitVersions infos (earlier ++ v ∷ rest)
  valid = subst (AreFitVersions infos) whole_is is_in.fit

  pub shown_valid : AreFitVersions infos (earlier ++ v ∷ later)
  shown_valid = subst (AreFitVersions infos) among.spelled among.fit

  pub first_valid : AreFitVersions infos earlier
  first_valid = fit_versions_left infos earlier (v ∷ later) shown_valid

  rise_shown : AreRising 0 (lsns (map plain_commit earlier) ++ lsns (map plain_commit (v ∷ later)))
  rise_shown = subst (AreRising 0) (lsns_append earlier (v ∷ later)) shown_valid.rise

  rise_whole : AreRising 0 (lsns (map plain_commit earlier) ++ lsns (map plain_commit (v ∷ rest)))
  rise_whole = subst (AreRising 0) (lsns_append earlier (v ∷ rest)) valid.rise

  pub rise_later : AreRising v.lsn.0 (lsns (map plain_commit later))
  rise_later = (rising_end 0 (lsns (map plain_commit earlier)) (lsns (map plain_commit (v ∷ later))) rise_shown).1

  pub rise_rest : AreRising v.lsn.0 (lsns (map plain_commit rest))
  rise_rest = (rising_end 0 (lsns (map plain_commit earlier)) (lsns (map plain_commit (v ∷ rest))) rise_whole).1

  pub earlier_below : AllByRecursion (λ e. e.lsn.0 < v.lsn.0) earlier
  earlier_below = of_lsns (λ l. l < v.lsn.0) earlier (rises_in 0 (lsns (map plain_commit earlier)) v.lsn.0 (lsns (map plain_commit later)) rise_shown)

  -- just before it
  pub own_before : (position : ℕ) → IsJustBefore position earlier v → own_from C position ≡ point_after infos start table earlier
  own_before position just =
      let placed = placed_in infos shown start table earlier v later among in
      let q : ℕ = max position C.start in
      let below : q < v.lsn.0 = both_below position C.start v.lsn.0 just.before placed.late in
      let upto : AllByRecursion (λ e. e.lsn.0 ≤ q) earlier = all_weaker (λ (e : Versioned). e.lsn.0 ≤ position) (λ (e : Versioned). e.lsn.0 ≤ q) (λ e le. le_trans e.lsn.0 position q le (left_most position C.start)) earlier just.upto in
      ap (λ (l : List Commit). moment_at l q) placed.commits
      ∙ moment_upto q (course_of infos start table earlier).commits (map (ticked_commit table) (v ∷ later)) (course_upto infos earlier start table q first_valid upto)
      (all_ticked table q (v ∷ later) (below, past_all v.lsn.0 q later (le_of q v.lsn.0 below) rise_later))

  history_before : (position : ℕ) → IsJustBefore position earlier v → position_moment versions position ≡ changes_in earlier
  history_before position just =
      ap (λ (l : List Versioned). position_moment l position) whole_is
      ∙ position_upto position earlier (v ∷ rest) just.upto (just.before, past_all v.lsn.0 position rest (le_of position v.lsn.0 just.before) rise_rest)

  -- at it
  pub own_at : own_from C v.lsn.0 ≡ point_after infos start table (earlier ++ v ∷ [])
  own_at =
      let placed = placed_in infos shown start table earlier v later among in
      let q : ℕ = max v.lsn.0 C.start in
      let q_is : q ≡ v.lsn.0 = max_left_is v.lsn.0 C.start placed.late in
      let front : List Versioned = earlier ++ v ∷ [] in
      let front_valid : AreFitVersions infos front = fit_versions_left infos front later (subst (AreFitVersions infos) (sym (append_assoc earlier (v ∷ []) later)) shown_valid) in
      let upto : AllByRecursion (λ e. e.lsn.0 ≤ q) front =
      all_end (λ e. e.lsn.0 ≤ q) earlier v (all_weaker (λ (e : Versioned). e.lsn.0 < v.lsn.0) (λ (e : Versioned). e.lsn.0 ≤ q) (λ e lt. le_trans e.lsn.0 v.lsn.0 q (le_of e.lsn.0 v.lsn.0 lt) (left_most v.lsn.0 C.start)) earlier earlier_below)
      (left_most v.lsn.0 C.start) in
      let parted : C.commits ≡ (course_of infos start table front).commits ++ map (ticked_commit table) later =
      placed.commits ∙ (sym (append_assoc (course_of infos start table earlier).commits (ticked_commit table v ∷ []) (map (ticked_commit table) later))
      ∙ ap (λ (l : List Commit). l ++ map (ticked_commit table) later) (one_more infos shown start table earlier v later among)) in
      ap (λ (l : List Commit). moment_at l q) parted
      ∙ moment_upto q (course_of infos start table front).commits (map (ticked_commit table) later) (course_upto infos front start table q front_valid upto)
      (all_ticked table q later (past_all v.lsn.0 q later (le_is q v.lsn.0 q_is) rise_later))
    where
      max_left_is : (a b : ℕ) → b < a → max a b ≡ a
      max_left_is a b lt = omega (arith, lt)

  pub history_at : position_moment versions v.lsn.0 ≡ changes_in (earlier ++ v ∷ [])
  history_at =
      ap (λ (l : List Versioned). position_moment l v.lsn.0) (whole_is ∙ sym (append_assoc earlier (v ∷ []) rest))
      ∙ position_upto v.lsn.0 (earlier ++ v ∷ []) rest
      (all_end (λ e. e.lsn.0 ≤ v.lsn.0) earlier v (all_weaker (λ (e : Versioned). e.lsn.0 < v.lsn.0) (λ (e : Versioned). e.lsn.0 ≤ v.lsn.0) (λ e lt. le_of e.lsn.0 v.lsn.0 lt) earlier earlier_below) (omega arith))
      (past_all v.lsn.0 v.lsn.0 rest (omega arith) rise_rest)

  -- rows that are there from just before it
  rows_before : (position : ℕ) (records : List Record) → IsJustBefore position earlier v → IsTableAged identity C versions records position table → HasRowsThere identity infos versions records (changes_in earlier) table
  rows_before position records just aged =
      subst (λ (m : ℕ). HasRowsThere identity infos versions records m table) (history_before position just)
      (from_there identity infos shown versions start (position_moment versions position) table records among.fit.follow aged.there)

pub parts_keep_table : PartsOfCommitsKeepTableAge
parts_keep_table identity infos versions shown start table earlier v later position records now n is_in just in_time clear aged =
    let c : Course = course_of infos start table shown in
    let more : List Record = take n (envelopes identity v.infos (plain_commit v) now) in
    let own_is : own_from c position ≡ point_after infos start table earlier = own_before identity infos versions shown start table earlier v later is_in position just in
    let pos_is : position_moment versions position ≡ changes_in earlier = history_before identity infos versions shown start table earlier v later is_in position just in
    let reached : point_after infos start table earlier ≤ own_span_end c records (own_from c position) =
    subst (λ (m : ℕ). m ≤ own_span_end c records (own_from c position)) own_is (left_most (own_from c position) (last_moment c.infos c.commits (course_start c) (since c.start records))) in
    let far : changes_in earlier ≤ version_span_end versions records (changes_in earlier) = ends versions records (changes_in earlier) in
    let rows = rows_before identity infos versions shown start table earlier v later is_in position records just aged in
    let there : HasRowsThere identity infos versions (records ++ more) (changes_in earlier) table =
    parts_keep_there identity infos versions earlier v (later ++ is_in.hidden) (changes_in earlier) records now n table is_in.fit (whole_is identity infos versions shown start table earlier v later is_in) in_time (omega arith) far rows in
    record {
      own = parts_keep identity infos shown start table earlier v later (own_from c position) records now n is_in.among in_time clear (le_is (own_from c position) (point_after infos start table earlier) own_is) reached aged.own;
      same = parts_keep_same identity infos shown start table earlier v later (own_from c position) records now n is_in.among aged.same;
      there = to_there identity infos shown versions start (position_moment versions position) table (records ++ more) is_in.among.fit.follow
          (subst (λ (m : ℕ). HasRowsThere identity infos versions (records ++ more) m table) (sym pos_is) there);
    }

pub commits_move_table : CommitsMoveTableAge
commits_move_table identity infos versions shown start table earlier v later position records now is_in just in_time clear aged =
    let c : Course = course_of infos start table shown in
    let more : List Record = envelopes identity v.infos (plain_commit v) now in
    let own_is : own_from c position ≡ point_after infos start table earlier = own_before identity infos versions shown start table earlier v later is_in position just in
    let at_is : own_from c v.lsn.0 ≡ point_after infos start table (earlier ++ v ∷ []) = own_at identity infos versions shown start table earlier v later is_in in
    let pos_is : position_moment versions v.lsn.0 ≡ changes_in (earlier ++ v ∷ []) = history_at identity infos versions shown start table earlier v later is_in in
    let there : HasRowsThere identity infos versions (records ++ more) (changes_in (earlier ++ v ∷ [])) table =
    commits_move_there identity infos versions earlier v (later ++ is_in.hidden) records now table is_in.fit (whole_is identity infos versions shown start table earlier v later is_in) in_time
    (rows_before identity infos versions shown start table earlier v later is_in position records just aged) in
    record {
      own = subst (λ (m : ℕ). IsOwnAged identity c (records ++ more) m table) (sym at_is)
          (commits_move identity infos shown start table earlier v later records now is_in.among clear in_time (subst (λ (m : ℕ). IsOwnAged identity c records m table) own_is aged.own));
      same = subst (λ (m : ℕ). HasSameCells identity c (records ++ more) m table) (sym at_is)
          (commits_move_same identity infos shown start table earlier v later records now is_in.among clear in_time (subst (λ (m : ℕ). HasSameCells identity c records m table) own_is aged.same));
      there = to_there identity infos shown versions start (position_moment versions v.lsn.0) table (records ++ more) is_in.among.fit.follow
          (subst (λ (m : ℕ). HasRowsThere identity infos versions (records ++ more) m table) (sym pos_is) there);
    }

-- ---- other positions, longer histories

known_more : (identity : Identity) (c : Course) (records : List Record) (from to table : ℕ) (key : Key) → from ≤ to → IsKnownIn identity c records from table key → IsKnownIn identity c records to table key
known_more identity c records from to table key le (inl told) = inl told
known_more identity c records from to table key le (inr touched) =
    inr (record { place = touched.place; change = touched.change; not_before = touched.not_before; before = lt_le touched.place from to touched.before le; is = touched.is; whole = touched.whole })

pub table_goes_back : TableAgeGoesBack
table_goes_back identity c versions records from to table le reached far aged =
    let low : own_from c from ≤ own_from c to = moment_mono c.commits (max from c.start) (max to c.start) (omega (arith, le)) in
    record {
      own = goes_back identity c (own_from c from) (own_from c to) table records low reached aged.own;
      same = record {
        each = λ topic text key column names known. aged.same.each topic text key column names (known_more identity c records (own_from c from) (own_from c to) table key low known);
      };
      there = λ topic text key names some.
          was_earlier versions records (position_moment versions from) (position_moment versions to) table key (position_mono versions from to le) far (aged.there topic text key names some);
    }

pub table_in_longer_courses : TableAgeStaysAsCoursesGrow
table_in_longer_courses identity infos versions shown more start table position records valid unaltered after past above aged =
    let old : Course = course_of infos start table shown in
    let new : Course = course_of infos start table (shown ++ more) in
    let is = goes identity infos shown more start table valid unaltered in
    let old_valid : AreFitVersions infos shown = fit_versions_left infos shown more valid in
    let late : AllByRecursion (λ v. old.start < v.lsn.0) more =
    each_late table old (fold rows_through no_rows shown) start (lsns (map plain_commit shown)) (good_of infos shown start table old_valid) more 0 (subst (AreRising 0) (lsns_append shown more) valid.rise) after in
    let q : ℕ = max position old.start in
    let own_is : own_from new position ≡ own_from old position =
    ap (λ (c : Course). own_from c position) is ∙ moment_at-late old.commits (map (ticked_commit table) more) q (all_ticked table q more (both_all position old.start more past late)) in
    let most : own_from old position ≤ point_after infos start table shown = moment_at-most old.commits q in
    record {
      own = subst (λ (m : ℕ). IsOwnAged identity new records m table) (sym own_is)
          (stays identity infos shown more start table (own_from old position) records valid unaltered after above most aged.own);
      same = subst (λ (m : ℕ). HasSameCells identity new records m table) (sym own_is)
          (same_stays identity infos shown more start table (own_from old position) records valid unaltered after most aged.same);
      there = to_there identity infos (shown ++ more) versions start (position_moment versions position) table records valid.follow
          (from_there identity infos shown versions start (position_moment versions position) table records old_valid.follow aged.there);
    }
  where
    both_all : (a b : ℕ) (vs : List Versioned) → AllByRecursion (λ v. a < v.lsn.0) vs → AllByRecursion (λ v. b < v.lsn.0) vs → AllByRecursion (λ v. max a b < v.lsn.0) vs
    both_all a b [] one two = tt
    both_all a b (v ∷ vs) one two = (both_below a b v.lsn.0 one.0 two.0, both_all a b vs one.1 two.1)

pub table_in_longer_histories : TableAgeStaysAsHistoriesGrow
table_in_longer_histories identity infos c versions later position table records valid past above aged =
    let from : ℕ = position_moment versions position in
    let is : position_moment (versions ++ later) position ≡ from = position_longer position versions later past in
    record {
      own = aged.own;
      same = aged.same;
      there = λ topic text key names some. subst (λ (m : ℕ). WasThereThrough (versions ++ later) m (version_span_end (versions ++ later) records m) table key) (sym is)
          (was_longer infos versions later records from table key valid above (position_most versions position) (aged.there topic text key names some));
    }
