-- The age of an altered table where an alteration is passed, and where commits before it are redelivered.
use Rattle.std.proofs.Common.{◌≡◌, ◌∙◌, ◌⊎◌, inl, inr, ℕ, ℤ, zero, suc, ◌+◌, ◌≤◌, ◌<◌, max, Option, Some, None, List, [], ◌∷◌, ◌++◌, length, map, take, flat_map, refl, sym, ap, subst, arith, append-nil, append_assoc}
use Rattle.std.proofs.lemmas.List.{take_all}
use Rattle.std.specs.Prelude.{Contains}
use Rattle.std.specs.List.{AllByRecursion}
use Rattle.dbl_record.specs.declared.record.Record.{Record}
use Rattle.dbl_model_table.specs.declared.identity.Identity.{Identity}
use Rattle.dbl_model_table.specs.declared.row.Key.{Key}
use Rattle.dbl_model_table.specs.declared.table.RawRow.{RawRow}
use Rattle.dbl_model_table.specs.declared.table.TableInfo.{TableInfo}
use Rattle.dbl_model_table.specs.declared.change.Body.{Body}
use Rattle.dbl_model_table.specs.declared.change.Body.TheVariants.{Changes, Mark}
use Rattle.dbl_model_table.specs.declared.change.Change.{Change}
use Rattle.dbl_model_table.specs.Rows.{rows, changes_of, moment_at}
use Rattle.dbl_model_history.specs.History.{AreRising}
use Rattle.dbl_model_history.proofs.MomentLemmas.{lsns}
use Rattle.dbl_model_event.specs.EventJson.{print, envelopes}
use Rattle.dbl_model_event.specs.Events.{notices, numbered}
use Rattle.dbl_consume_laws.specs.Ages.{IsAged}
use Rattle.dbl_consume_laws.proofs.Lists.{all_take}
use Rattle.dbl_consume_laws.proofs.Spans.{no_records_are_aged}
use Rattle.dbl_consume_courses.specs.Versions.{Alteration, Versioned, plain_commit, FollowsInfos, AreVersionsFrom}
use Rattle.dbl_consume_courses.specs.Courses.{Course, alteration_of, first_course}
use Rattle.dbl_consume_courses.specs.Since.{since}
use Rattle.dbl_consume_courses.specs.AlteredTables.{course_start, IsKnownIn, position_moment, IsOwnAged, HasSameCells}
use Rattle.dbl_consume_courses.specs.FitVersions.{AreFitVersions}
use Rattle.dbl_consume_courses.specs.Growth.{course_of}
use Rattle.dbl_consume_courses.specs.CourseAges.{own_from}
use Rattle.dbl_consume_courses.specs.RowsThere.{changes_in, HasRowsThere}
use Rattle.dbl_consume_courses.specs.TableAges.{IsJustBefore}
use Rattle.dbl_consume_courses.specs.TableAges.{AlterationsMoveTableAge, IsBeforeCourse, PartsOfRepeatsKeepTableAge, RepeatsMoveTableAge}
use Rattle.dbl_consume_courses.proofs.SinceLemmas.{all_early, early_more}
use Rattle.dbl_consume_courses.proofs.AgeLemmas.{no_item, own as own_whole}
use Rattle.dbl_consume_courses.proofs.CourseLemmas.{begins_anew}
use Rattle.dbl_consume_courses.proofs.FitLemmas.{rising_end}
use Rattle.dbl_consume_courses.proofs.Alone.{all_weaker}
use Rattle.dbl_consume_courses.proofs.GrowthLemmas.{lsns_append, rises_in, fit_versions_left, printed_at}
use Rattle.dbl_consume_courses.proofs.ThereLemmas.{changes_end, parts_keep_there, commits_move_there}
use Rattle.dbl_consume_courses.proofs.ThereWindows.{ends}
use Rattle.dbl_consume_courses.proofs.Positions.{le_of, le_trans, lt_le, max_right_is, of_lsns, all_end, past_all, position_upto}
use Rattle.dbl_consume_courses.proofs.TableLemmas.{to_there, from_there}

-- ---- alterations

pub silent_of : (old : List TableInfo) (v : Versioned) (o : Option Alteration) (table : ℕ) (rows : List RawRow) → FollowsInfos old v o → alteration_of table o ≡ Some rows → changes_of (plain_commit v) ≡ []
silent_of old v None table rows follows is = cc
silent_of old v (Some alteration) table rows alters is = ap (λ (b : Body). elim b as (λ x. List Change) [ Changes changes ↦ changes | Mark value ↦ [] ]) alters.silent

pub follows_at : (infos : List TableInfo) (earlier : List Versioned) (v : Versioned) (later : List Versioned) → AreVersionsFrom infos (earlier ++ v ∷ later) → (old : List TableInfo) × FollowsInfos old v v.altered
follows_at infos [] v later follow = (infos, follow.0)
follows_at infos (x ∷ earlier) v later follow = follows_at x.infos earlier v later follow.1

-- where a log has nothing since a course's start, what it has of the course is aged there, and no key is known
pub aged_none : (identity : Identity) (c : Course) (records : List Record) (table : ℕ) → since c.start records ≡ [] → IsOwnAged identity c records (course_start c) table
aged_none identity c records table none =
    own_whole identity c records (course_start c) table
    (subst (λ (l : List Record). IsAged identity c.infos c.commits (course_start c) l (course_start c)) (sym none) (no_records_are_aged identity c.infos c.commits (course_start c)))

pub same_none : (identity : Identity) (c : Course) (records : List Record) (table : ℕ) → since c.start records ≡ [] → HasSameCells identity c records (course_start c) table
same_none identity c records table none = record { each = λ topic text key column names known. absurd (unknown key known) }
  where
    unknown : (key : Key) → IsKnownIn identity c records (course_start c) table key → ⊥
    unknown key (inl told) = no_item told.item (subst (λ (l : List Record). Contains l told.item) none told.stands)
    unknown key (inr touched) = absurd (omega (arith, touched.not_before, touched.before))

pub alterations_move_table : AlterationsMoveTableAge
alterations_move_table identity infos versions start table earlier v later rows position records valid spelled just altered after early aged =
    let old : Course = course_of infos start table earlier in
    let front : List Versioned = earlier ++ v ∷ [] in
    let new : Course = course_of infos start table front in
    let new_start : new.start ≡ max old.start v.lsn.0 = ap (λ (c : Course). c.start) (begins_anew table (first_course infos start) earlier v rows [] altered tt) in
    let whole_valid : AreFitVersions infos (earlier ++ v ∷ later) = subst (AreFitVersions infos) spelled valid in
    let old_valid : AreFitVersions infos earlier = fit_versions_left infos earlier (v ∷ later) whole_valid in
    let long : front ++ later ≡ earlier ++ v ∷ later = append_assoc earlier (v ∷ []) later in
    let front_valid : AreFitVersions infos front = fit_versions_left infos front later (subst (AreFitVersions infos) (sym long) whole_valid) in
    let rise : AreRising 0 (lsns (map plain_commit earlier) ++ lsns (map plain_commit (v ∷ later))) = subst (AreRising 0) (lsns_append earlier (v ∷ later)) whole_valid.rise in
    let below_lsns = rises_in 0 (lsns (map plain_commit earlier)) v.lsn.0 (lsns (map plain_commit later)) rise in
    let below : AllByRecursion (λ e. e.lsn.0 < v.lsn.0) earlier = of_lsns (λ l. l < v.lsn.0) earlier below_lsns in
    let rise_later = (rising_end 0 (lsns (map plain_commit earlier)) (lsns (map plain_commit (v ∷ later))) rise).1 in
    let start_le : v.lsn.0 ≤ new.start = subst (λ (s : ℕ). v.lsn.0 ≤ s) (sym new_start) (right_most old.start v.lsn.0) in
    let none : since new.start records ≡ [] = all_early new.start records (all_weaker (λ (item : Record). item.position < v.lsn.0) (λ (item : Record). item.position < new.start) (λ item lt. lt_le item.position v.lsn.0 new.start lt start_le) records early) in
    let from_is : own_from new v.lsn.0 ≡ course_start new = ap (moment_at new.commits) (max_right_is v.lsn.0 new.start start_le) in
    let old_is : position_moment versions position ≡ changes_in earlier =
    ap (λ (l : List Versioned). position_moment l position) spelled ∙ position_upto position earlier (v ∷ later) just.upto (just.before, past_all v.lsn.0 position later (le_of position v.lsn.0 just.before) rise_later) in
    let new_is : position_moment versions v.lsn.0 ≡ changes_in front =
    ap (λ (l : List Versioned). position_moment l v.lsn.0) (spelled ∙ sym long)
    ∙ position_upto v.lsn.0 front later (all_end (λ e. e.lsn.0 ≤ v.lsn.0) earlier v (all_weaker (λ (e : Versioned). e.lsn.0 < v.lsn.0) (λ (e : Versioned). e.lsn.0 ≤ v.lsn.0) (λ e lt. le_of e.lsn.0 v.lsn.0 lt) earlier below) (omega arith))
    (past_all v.lsn.0 v.lsn.0 later (omega arith) rise_later) in
    let before = follows_at infos earlier v later whole_valid.follow in
    let silent : length (changes_of (plain_commit v)) ≡ 0 = ap length (silent_of before.0 v v.altered table rows before.1 altered) in
    let ended : changes_in front ≡ changes_in earlier + length (changes_of (plain_commit v)) = changes_end earlier v in
    let same_point : position_moment versions position ≡ position_moment versions v.lsn.0 = omega (arith, old_is, new_is, ended, silent) in
    record {
      own = subst (λ (m : ℕ). IsOwnAged identity new records m table) (sym from_is) (aged_none identity new records table none);
      same = subst (λ (m : ℕ). HasSameCells identity new records m table) (sym from_is) (same_none identity new records table none);
      there = to_there identity infos front versions start (position_moment versions v.lsn.0) table records front_valid.follow
          (subst (λ (m : ℕ). HasRowsThere identity infos versions records m table) same_point
          (from_there identity infos earlier versions start (position_moment versions position) table records old_valid.follow aged.there));
    }
  where
    right_most : (a b : ℕ) → b ≤ max a b
    right_most a b = omega arith

-- ---- commits that lie before a course and are redelivered

-- what is since a course's start with more records before it: what it was, or nothing
since_repeat : (start position : ℕ) (records more : List Record) → AllByRecursion (λ item. item.position ≡ position) more → (position < start) ⊎ (more ≡ []) → (more ≡ []) ⊎ (since start (records ++ more) ≡ [])
since_repeat start position records more at (inl lt) =
    early_more start records more (all_weaker (λ (item : Record). item.position ≡ position) (λ (item : Record). item.position < start) (λ item is. is_lt item.position position start is lt) more at)
  where
    is_lt : (a b n : ℕ) → a ≡ b → b < n → a < n
    is_lt a b n is lt = omega (arith, is, lt)
since_repeat start position records more at (inr none) = inl none

repeat_place : (c : Course) (v : Versioned) → IsBeforeCourse c v → v.lsn.0 ≤ c.start
repeat_place c v (inl lt) = le_of v.lsn.0 c.start lt
repeat_place c v (inr at) = omega (arith, at.0)

repeat_more : (identity : Identity) (c : Course) (v : Versioned) (now : ℤ) (n : ℕ) → IsBeforeCourse c v → (v.lsn.0 < c.start) ⊎ (take n (envelopes identity v.infos (plain_commit v) now) ≡ [])
repeat_more identity c v now n (inl lt) = inl lt
repeat_more identity c v now n (inr at) = inr (ap (λ (l : List Change). take n (map (print identity (plain_commit v) now) (numbered v.lsn.0 0 (flat_map (notices v.infos) l)))) at.1 ∙ none_taken n)
  where
    none_taken : (k : ℕ) → take {A = Record} k [] ≡ []
    none_taken zero = refl
    none_taken (suc k) = refl

repeat_own : (identity : Identity) (c : Course) (records more : List Record) (from table : ℕ) → from ≡ course_start c → (more ≡ []) ⊎ (since c.start (records ++ more) ≡ []) → IsOwnAged identity c records from table → IsOwnAged identity c (records ++ more) from table
repeat_own identity c records more from table is (inl none) aged = subst (λ (l : List Record). IsOwnAged identity c l from table) (sym (ap (λ (l : List Record). records ++ l) none ∙ append-nil records)) aged
repeat_own identity c records more from table is (inr ended) aged = subst (λ (m : ℕ). IsOwnAged identity c (records ++ more) m table) (sym is) (aged_none identity c (records ++ more) table ended)

repeat_same : (identity : Identity) (c : Course) (records more : List Record) (from table : ℕ) → from ≡ course_start c → (more ≡ []) ⊎ (since c.start (records ++ more) ≡ []) → HasSameCells identity c records from table → HasSameCells identity c (records ++ more) from table
repeat_same identity c records more from table is (inl none) same = subst (λ (l : List Record). HasSameCells identity c l from table) (sym (ap (λ (l : List Record). records ++ l) none ∙ append-nil records)) same
repeat_same identity c records more from table is (inr ended) same = subst (λ (m : ℕ). HasSameCells identity c (records ++ more) m table) (sym is) (same_none identity c (records ++ more) table ended)

-- the points before and at a commit of a history
points_at : (infos : List TableInfo) (versions earlier : List Versioned) (v : Versioned) (later : List Versioned) (position : ℕ) → AreFitVersions infos versions → versions ≡ earlier ++ v ∷ later → IsJustBefore position earlier v
    → (position_moment versions position ≡ changes_in earlier) × (position_moment versions v.lsn.0 ≡ changes_in (earlier ++ v ∷ []))
points_at infos versions earlier v later position valid spelled just =
    let whole_valid : AreFitVersions infos (earlier ++ v ∷ later) = subst (AreFitVersions infos) spelled valid in
    let rise : AreRising 0 (lsns (map plain_commit earlier) ++ lsns (map plain_commit (v ∷ later))) = subst (AreRising 0) (lsns_append earlier (v ∷ later)) whole_valid.rise in
    let rise_later = (rising_end 0 (lsns (map plain_commit earlier)) (lsns (map plain_commit (v ∷ later))) rise).1 in
    let upto : AllByRecursion (λ e. e.lsn.0 ≤ v.lsn.0) earlier =
    all_weaker (λ (e : Versioned). e.lsn.0 ≤ position) (λ (e : Versioned). e.lsn.0 ≤ v.lsn.0) (λ e le. le_trans e.lsn.0 position v.lsn.0 le (le_of position v.lsn.0 just.before)) earlier just.upto in (
      ap (λ (l : List Versioned). position_moment l position) spelled ∙ position_upto position earlier (v ∷ later) just.upto (just.before, past_all v.lsn.0 position later (le_of position v.lsn.0 just.before) rise_later),
      ap (λ (l : List Versioned). position_moment l v.lsn.0) (spelled ∙ sym (append_assoc earlier (v ∷ []) later))
          ∙ position_upto v.lsn.0 (earlier ++ v ∷ []) later (all_end (λ e. e.lsn.0 ≤ v.lsn.0) earlier v upto (omega arith)) (past_all v.lsn.0 v.lsn.0 later (omega arith) rise_later),
    )

pub repeat_parts_keep_table : PartsOfRepeatsKeepTableAge
repeat_parts_keep_table identity infos versions shown start table earlier v later position records now n valid spelled shown_valid just in_time lies aged =
    let c : Course = course_of infos start table shown in
    let more : List Record = take n (envelopes identity v.infos (plain_commit v) now) in
    let below : position ≤ c.start = le_trans position v.lsn.0 c.start (le_of position v.lsn.0 just.before) (repeat_place c v lies) in
    let from_is : own_from c position ≡ course_start c = ap (moment_at c.commits) (max_right_is position c.start below) in
    let at : AllByRecursion (λ item. item.position ≡ v.lsn.0) more =
    all_take (λ item. item.position ≡ v.lsn.0) n (envelopes identity v.infos (plain_commit v) now) (printed_at identity (plain_commit v) now v.lsn.0 0 (flat_map (notices v.infos) (changes_of (plain_commit v)))) in
    let left = since_repeat c.start v.lsn.0 records more at (repeat_more identity c v now n lies) in
    let points = points_at infos versions earlier v later position valid spelled just in
    let rows : HasRowsThere identity infos versions records (changes_in earlier) table =
    subst (λ (m : ℕ). HasRowsThere identity infos versions records m table) points.0 (from_there identity infos shown versions start (position_moment versions position) table records shown_valid.follow aged.there) in
    let there : HasRowsThere identity infos versions (records ++ more) (changes_in earlier) table =
    parts_keep_there identity infos versions earlier v later (changes_in earlier) records now n table valid spelled in_time (omega arith) (ends versions records (changes_in earlier)) rows in
    record {
      own = repeat_own identity c records more (own_from c position) table from_is left aged.own;
      same = repeat_same identity c records more (own_from c position) table from_is left aged.same;
      there = to_there identity infos shown versions start (position_moment versions position) table (records ++ more) shown_valid.follow
          (subst (λ (m : ℕ). HasRowsThere identity infos versions (records ++ more) m table) (sym points.0) there);
    }

pub repeats_move_table : RepeatsMoveTableAge
repeats_move_table identity infos versions shown start table earlier v later position records now valid spelled shown_valid just in_time lies aged =
    let c : Course = course_of infos start table shown in
    let all : List Record = envelopes identity v.infos (plain_commit v) now in
    let place : v.lsn.0 ≤ c.start = repeat_place c v lies in
    let from_is : own_from c position ≡ course_start c = ap (moment_at c.commits) (max_right_is position c.start (le_trans position v.lsn.0 c.start (le_of position v.lsn.0 just.before) place)) in
    let at_is : own_from c v.lsn.0 ≡ course_start c = ap (moment_at c.commits) (max_right_is v.lsn.0 c.start place) in
    let moved : own_from c position ≡ own_from c v.lsn.0 = from_is ∙ sym at_is in
    let at : AllByRecursion (λ item. item.position ≡ v.lsn.0) all = printed_at identity (plain_commit v) now v.lsn.0 0 (flat_map (notices v.infos) (changes_of (plain_commit v))) in
    let left = since_repeat c.start v.lsn.0 records all at (subst (λ (l : List Record). (v.lsn.0 < c.start) ⊎ (l ≡ [])) (take_all (length all) all (omega arith)) (repeat_more identity c v now (length all) lies)) in
    let points = points_at infos versions earlier v later position valid spelled just in
    let rows : HasRowsThere identity infos versions records (changes_in earlier) table =
    subst (λ (m : ℕ). HasRowsThere identity infos versions records m table) points.0 (from_there identity infos shown versions start (position_moment versions position) table records shown_valid.follow aged.there) in
    let there : HasRowsThere identity infos versions (records ++ all) (changes_in (earlier ++ v ∷ [])) table =
    commits_move_there identity infos versions earlier v later records now table valid spelled in_time rows in
    record {
      own = subst (λ (m : ℕ). IsOwnAged identity c (records ++ all) m table) moved (repeat_own identity c records all (own_from c position) table from_is left aged.own);
      same = subst (λ (m : ℕ). HasSameCells identity c (records ++ all) m table) moved (repeat_same identity c records all (own_from c position) table from_is left aged.same);
      there = to_there identity infos shown versions start (position_moment versions v.lsn.0) table (records ++ all) shown_valid.follow
          (subst (λ (m : ℕ). HasRowsThere identity infos versions (records ++ all) m table) (sym points.1) there);
    }
