-- Each point of a span of a course is one of the history's span.
use Rattle.std.proofs.Common.{◌≡◌, ◌∙◌, ◌⊎◌, inl, inr, ℕ, ◌+◌, ◌-◌, ◌≤◌, ◌<◌, max, Bool, Option, None, List, [], ◌∷◌, ◌++◌, fold, length, map, take, refl, sym, ap, subst, arith, append-nil, append_assoc, length-append}
use Rattle.std.proofs.lemmas.Bool.{cases_lt, eq-eqb}
use Rattle.std.proofs.lemmas.List.Sums.{fold-append}
use Rattle.std.specs.Prelude.{◌==◌, if◌then◌else◌, slice_get}
use Rattle.std.specs.List.{AllByRecursion}
use Rattle.dbl_value_types.specs.declared.value.Val.{Val}
use Rattle.dbl_record.specs.declared.record.Record.{Record}
use Rattle.dbl_record.specs.Places.{Place, place_of}
use Rattle.dbl_model_table.specs.declared.row.Key.{Key}
use Rattle.dbl_model_table.specs.declared.table.TableInfo.{TableInfo}
use Rattle.dbl_model_table.specs.declared.change.Change.{Change}
use Rattle.dbl_model_table.specs.declared.change.Commit.{Commit}
use Rattle.dbl_model_table.specs.Rows.{Rows, no_rows, rows, changes_of, all_changes, moment_at}
use Rattle.dbl_model_history.specs.History.{AreRising}
use Rattle.dbl_model_history.specs.PlainRows.{row_from}
use Rattle.dbl_model_history.proofs.MomentLemmas.{lsns}
use Rattle.dbl_model_history.proofs.PlainLemmas.{rows_from-row_from}
use Rattle.dbl_model_history.proofs.RowLemmas.{all_changes-append}
use Rattle.dbl_consume_laws.specs.Commits.{moment_after}
use Rattle.dbl_consume_laws.specs.Moments.{changes_through, place_moment, record_moment, last_moment}
use Rattle.dbl_consume_laws.proofs.Moments.{changes_through-most}
use Rattle.dbl_consume_courses.specs.Versions.{Versioned, plain_commit, AreVersionsFrom, rows_through, rows_upto}
use Rattle.dbl_consume_courses.specs.Courses.{Course, ticked_commit, opening, first_course, infos_after, AreUnaltered}
use Rattle.dbl_consume_courses.specs.Since.{since}
use Rattle.dbl_consume_courses.specs.AlteredTables.{course_start, version_moment, position_moment, version_span_end}
use Rattle.dbl_consume_courses.specs.FitVersions.{AreFitFrom, AreFitVersions}
use Rattle.dbl_consume_courses.specs.Growth.{course_of, own_span_end}
use Rattle.dbl_consume_courses.specs.CourseAges.{own_from}
use Rattle.dbl_consume_courses.specs.RowsThere.{changes_in}
use Rattle.dbl_consume_courses.specs.CoursePoints.{HasRowsWithin, PointsOfCoursesArePoints}
use Rattle.dbl_consume_courses.proofs.SinceLemmas.{is_since}
use Rattle.dbl_consume_courses.proofs.CourseLemmas.{goes_on, begins_anew, row_from-append, row_same}
use Rattle.dbl_consume_courses.proofs.Kin.{kin_all, same_all}
use Rattle.dbl_consume_courses.proofs.FitLemmas.{good_of}
use Rattle.dbl_consume_courses.proofs.Alone.{all_weaker}
use Rattle.dbl_consume_courses.proofs.GrowthLemmas.{lsns_append, rises_in, follow_right, fit_versions_left}
use Rattle.dbl_consume_courses.proofs.Clock.{take_past}
use Rattle.dbl_consume_courses.proofs.ThereLemmas.{changes_more, upto_past, fit_rest}
use Rattle.dbl_consume_courses.proofs.ThereWindows.{ends}
use Rattle.dbl_consume_courses.proofs.Positions.{le_of, le_trans, le_lt, upto_is, of_lsns, all_end, moment_mono}
use Rattle.dbl_consume_courses.proofs.PointLemmas.{is_lt, not_lt, IsLastAlteration, last_alteration, HaveInfo, point, point_mono, point_rows, point_at, point_place}

zero_plus : (n : ℕ) → n ≡ 0 + n
zero_plus n = omega arith

add_three : (a b c w : ℕ) → w ≡ a + b → a + (b + c) ≡ w + c
add_three a b c w is = omega (arith, is)

-- ---- lists that are put together

moment_over : (position : ℕ) (front more : List Commit) → AllByRecursion (λ c. c.lsn.0 ≤ position) front → moment_at (front ++ more) position ≡ moment_after front + moment_at more position
moment_over position [] more upto = zero_plus (moment_at more position)
moment_over position (c ∷ front) more upto =
    ap (λ (b : Bool). if b then length (changes_of c) + moment_at (front ++ more) position else 0) (upto_is c.lsn.0 position upto.0)
    ∙ (ap (λ (m : ℕ). length (changes_of c) + m) (moment_over position front more upto.1)
    ∙ add_three (length (changes_of c)) (moment_after front) (moment_at more position) (moment_after (c ∷ front)) (length-append (changes_of c) (all_changes front)))

position_over : (position : ℕ) (front more : List Versioned) → AllByRecursion (λ v. v.lsn.0 ≤ position) front → position_moment (front ++ more) position ≡ changes_in front + position_moment more position
position_over position [] more upto = zero_plus (position_moment more position)
position_over position (v ∷ front) more upto =
    ap (λ (b : Bool). if b then length (changes_of (plain_commit v)) + position_moment (front ++ more) position else 0) (upto_is v.lsn.0 position upto.0)
    ∙ (ap (λ (m : ℕ). length (changes_of (plain_commit v)) + m) (position_over position front more upto.1)
    ∙ add_three (length (changes_of (plain_commit v))) (changes_in front) (position_moment more position) (changes_in (v ∷ front)) (changes_more v front))

version_over : (place : Place) (front more : List Versioned) → AllByRecursion (λ v. v.lsn.0 < place.0) front → version_moment (front ++ more) place ≡ changes_in front + version_moment more place
version_over place [] more before = zero_plus (version_moment more place)
version_over place (v ∷ front) more before =
    ap (λ (b : Bool). if b then length (changes_of (plain_commit v)) + version_moment (front ++ more) place else (if v.lsn.0 == place.0 then changes_through v.infos (changes_of (plain_commit v)) place.1 else 0)) (is_lt v.lsn.0 place.0 before.0)
    ∙ (ap (λ (m : ℕ). length (changes_of (plain_commit v)) + m) (version_over place front more before.1)
    ∙ add_three (length (changes_of (plain_commit v))) (changes_in front) (version_moment more place) (changes_in (v ∷ front)) (changes_more v front))

-- ---- a course in its two parts: what opens it, and the commits since then

module _ (table : ℕ) where
  abbrev ticks_of : List Versioned → List Commit
  ticks_of vs = map (ticked_commit table) vs

  record IsParted (c : Course) (versions : List Versioned) : Type 0 where
    front : List Versioned
    later : List Versioned
    opens : List Commit
    is : versions ≡ front ++ later
    commits : c.commits ≡ opens ++ ticks_of later
    opened : (key : Key) → row_from c.infos table key None (all_changes opens) ≡ fold rows_through no_rows front table key
    begun : AllByRecursion (λ o. o.lsn.0 ≤ c.start) opens
    done : AllByRecursion (λ v. v.lsn.0 ≤ c.start) front
    none : AreUnaltered table later
    have : HaveInfo table c.infos later
    fit : AreFitFrom (fold rows_through no_rows front) later
    -- a place since the course's start is in what opens it, or after that
    placed : (place : Place) → c.start ≤ place.0 → (place_moment c.infos c.commits place ≤ moment_after opens)
        ⊎ ((place_moment c.infos c.commits place ≡ moment_after opens + place_moment c.infos (ticks_of later) place) × (version_moment versions place ≡ changes_in front + version_moment later place))

  have_all : (old : List TableInfo) (vs : List Versioned) → AreVersionsFrom old vs → AreUnaltered table vs → HaveInfo table (infos_after old vs) vs
  have_all old [] follow none = tt
  have_all old (v ∷ vs) follow none = ((kin_all v.infos vs follow.1, sym (same_all table v.infos vs follow.1 none.1)), have_all v.infos vs follow.1 none.1)

  parted_plain : (infos : List TableInfo) (versions : List Versioned) (start : ℕ) → AreFitVersions infos versions → AreUnaltered table versions → IsParted (course_of infos start table versions) versions
  parted_plain infos versions start valid none =
      let goes : course_of infos start table versions ≡ record { infos = infos_after infos versions; commits = ticks_of versions; start = start } = goes_on table (first_course infos start) versions none in
      subst (λ (c : Course). IsParted c versions) (sym goes) (record {
        front = [];
        later = versions;
        opens = [];
        is = refl;
        commits = refl;
        opened = λ key. refl;
        begun = tt;
        done = tt;
        none = none;
        have = have_all infos versions valid.follow none;
        fit = valid.fit;
        placed = λ place le. inr (zero_plus (place_moment (infos_after infos versions) (ticks_of versions) place), zero_plus (version_moment versions place));
      })

  parted_anew : (infos : List TableInfo) (versions : List Versioned) (start : ℕ) → AreFitVersions infos versions → IsLastAlteration table versions → IsParted (course_of infos start table versions) versions
  parted_anew infos versions start valid last =
      let v : Versioned = last.v in
      let front : List Versioned = last.before ++ v ∷ [] in
      let old : Course = course_of infos start table last.before in
      let first : Course = first_course infos start in
      let open_commit : Commit = opening table v last.rows in
      let new : Course = record { infos = infos_after v.infos last.later; commits = open_commit ∷ ticks_of last.later; start = max old.start v.lsn.0 } in
      let goes : course_of infos start table versions ≡ new = ap (course_of infos start table) last.is ∙ begins_anew table first last.before v last.rows last.later last.altered last.unaltered in
      let whole : AreFitVersions infos (last.before ++ v ∷ last.later) = subst (AreFitVersions infos) last.is valid in
      let long : front ++ last.later ≡ last.before ++ v ∷ last.later = append_assoc last.before (v ∷ []) last.later in
      let whole_front : AreFitVersions infos (front ++ last.later) = subst (AreFitVersions infos) (sym long) whole in
      let good = good_of infos front start table (fit_versions_left infos front last.later whole_front) in
      let short : course_of infos start table front ≡ record { infos = v.infos; commits = open_commit ∷ []; start = max old.start v.lsn.0 } = begins_anew table first last.before v last.rows [] last.altered tt in
      let follow : AreVersionsFrom v.infos last.later = (follow_right infos last.before (v ∷ last.later) whole.follow).1 in
      let same : slice_get new.infos table ≡ slice_get v.infos table = same_all table v.infos last.later follow last.unaltered in
      let below : AllByRecursion (λ e. e.lsn.0 < v.lsn.0) last.before =
      of_lsns (λ l. l < v.lsn.0) last.before (rises_in 0 (lsns (map plain_commit last.before)) v.lsn.0 (lsns (map plain_commit last.later)) (subst (AreRising 0) (lsns_append last.before (v ∷ last.later)) whole.rise)) in
      let start_le : v.lsn.0 ≤ new.start = right_most old.start v.lsn.0 in
      subst (λ (c : Course). IsParted c versions) (sym goes) (record {
        front = front;
        later = last.later;
        opens = open_commit ∷ [];
        is = last.is ∙ sym long;
        commits = refl;
        opened = λ key. row_same new.infos v.infos table key None (all_changes (open_commit ∷ [])) same
            ∙ (sym (ap (λ (c : Course). row_from c.infos table key None (all_changes c.commits)) short) ∙ good.shows.each key);
        begun = (start_le, tt);
        done = all_end (λ e. e.lsn.0 ≤ new.start) last.before v (all_weaker (λ (e : Versioned). e.lsn.0 < v.lsn.0) (λ (e : Versioned). e.lsn.0 ≤ new.start) (λ e lt. le_trans e.lsn.0 v.lsn.0 new.start (le_of e.lsn.0 v.lsn.0 lt) start_le) last.before below) start_le;
        none = last.unaltered;
        have = have_all v.infos last.later follow last.unaltered;
        fit = fit_rest no_rows front last.later whole_front.fit;
        placed = λ place le. elim (cases_lt v.lsn.0 place.0) [
          | inl lt ↦ inr (
            ap (λ (b : Bool). if b then length (changes_of open_commit) + place_moment new.infos (ticks_of last.later) place else (if v.lsn.0 == place.0 then changes_through new.infos (changes_of open_commit) place.1 else 0)) (is_lt v.lsn.0 place.0 lt)
                ∙ ap (λ (n : ℕ). n + place_moment new.infos (ticks_of last.later) place) (ap length (sym (append-nil (changes_of open_commit)))),
            ap (λ (l : List Versioned). version_moment l place) (last.is ∙ sym long)
                ∙ version_over place front last.later (all_end (λ e. e.lsn.0 < place.0) last.before v (all_weaker (λ (e : Versioned). e.lsn.0 < v.lsn.0) (λ (e : Versioned). e.lsn.0 < place.0) (λ e less. lt_trans e.lsn.0 v.lsn.0 place.0 less lt) last.before below) lt),
          )
          | inr ge ↦ inl (
              let at : place.0 ≡ v.lsn.0 = omega (arith, ge, le, start_le) in
              subst (λ (m : ℕ). m ≤ moment_after (open_commit ∷ []))
              (sym (ap (λ (b : Bool). if b then length (changes_of open_commit) + place_moment new.infos (ticks_of last.later) place else (if v.lsn.0 == place.0 then changes_through new.infos (changes_of open_commit) place.1 else 0)) (not_lt v.lsn.0 place.0 ge)
              ∙ ap (λ (b : Bool). if b then changes_through new.infos (changes_of open_commit) place.1 else 0) (eq-eqb v.lsn.0 place.0 (sym at))))
              (subst (λ (n : ℕ). changes_through new.infos (changes_of open_commit) place.1 ≤ n) (ap length (sym (append-nil (changes_of open_commit)))) (changes_through-most new.infos (changes_of open_commit) place.1)))
        ];
      })
    where
      right_most : (a b : ℕ) → b ≤ max a b
      right_most a b = omega arith

      lt_trans : (a b c : ℕ) → a < b → b < c → a < c
      lt_trans a b c one two = omega (arith, one, two)

  parted : (infos : List TableInfo) (versions : List Versioned) (start : ℕ) → AreFitVersions infos versions → IsParted (course_of infos start table versions) versions
  parted infos versions start valid = by (last_alteration table versions)
    where
      by : AreUnaltered table versions ⊎ IsLastAlteration table versions → IsParted (course_of infos start table versions) versions
      by (inl none) = parted_plain infos versions start valid none
      by (inr last) = parted_anew infos versions start valid last

  -- ---- its points

  module _ (c : Course) (versions : List Versioned) (P : IsParted c versions) where
    abbrev base : ℕ
    base = moment_after P.opens

    abbrev ahead : ℕ
    ahead = changes_in P.front

    abbrev at : ℕ → ℕ
    at m = ahead + point table P.later (m - base)

    same_rows : (m : ℕ) → base ≤ m → (key : Key) → rows_upto no_rows versions (at m) table key ≡ rows c.infos c.commits m table key
    same_rows m le key =
        let k : ℕ = m - base in
        let before : Rows = fold rows_through no_rows P.front in
        let opened : List Change = all_changes P.opens in
        let later : List Change = all_changes (ticks_of P.later) in
        let all_is : all_changes c.commits ≡ opened ++ later = ap all_changes P.commits ∙ all_changes-append P.opens (ticks_of P.later) in
        ap (λ (l : List Versioned). rows_upto no_rows l (at m) table key) P.is
        ∙ (ap (λ (r : Rows). r table key) (upto_past no_rows P.front P.later (point table P.later k))
        ∙ (point_rows table c.infos before P.later k key P.none P.have P.fit
        ∙ (ap (λ (r : Option (List Val)). row_from c.infos table key r (take k later)) (sym (P.opened key))
        ∙ (sym (row_from-append c.infos table key None opened (take k later))
        ∙ (ap (row_from c.infos table key None) (sym (take_past c.infos table opened later m le))
        ∙ (ap (λ (l : List Change). row_from c.infos table key None (take m l)) (sym all_is)
        ∙ sym (rows_from-row_from c.infos no_rows (take m (all_changes c.commits)) table key)))))))

    at_mono : (k m : ℕ) → k ≤ m → at k ≤ at m
    at_mono k m le = add_le ahead (point table P.later (k - base)) (point table P.later (m - base)) (point_mono table P.later (k - base) (m - base) (omega (arith, le)))
      where
        add_le : (n a b : ℕ) → a ≤ b → n + a ≤ n + b
        add_le n a b less = omega (arith, less)

    -- a position since the course's start
    position_is : (q : ℕ) → c.start ≤ q → (base ≤ moment_at c.commits q) × (at (moment_at c.commits q) ≡ position_moment versions q)
    position_is q le =
        let over : moment_at c.commits q ≡ base + moment_at (ticks_of P.later) q =
        ap (λ (l : List Commit). moment_at l q) P.commits
        ∙ moment_over q P.opens (ticks_of P.later) (all_weaker (λ (o : Commit). o.lsn.0 ≤ c.start) (λ (o : Commit). o.lsn.0 ≤ q) (λ o less. le_trans o.lsn.0 c.start q less le) P.opens P.begun) in
        let rest : moment_at c.commits q - base ≡ moment_at (ticks_of P.later) q = omega (arith, over) in
        let before : Rows = fold rows_through no_rows P.front in (
          omega (arith, over),
          ap (λ (n : ℕ). ahead + point table P.later n) rest
              ∙ (ap (λ (n : ℕ). ahead + n) (point_at table c.infos before P.later q P.fit)
              ∙ sym (ap (λ (l : List Versioned). position_moment l q) P.is
              ∙ position_over q P.front P.later (all_weaker (λ (v : Versioned). v.lsn.0 ≤ c.start) (λ (v : Versioned). v.lsn.0 ≤ q) (λ v less. le_trans v.lsn.0 c.start q less le) P.front P.done))),
        )

    -- a point after what opens the course that a record of it reaches
    place_reaches : (m : ℕ) (place : Place) → base < m → c.start ≤ place.0 → m ≤ place_moment c.infos c.commits place → at m ≤ version_moment versions place
    place_reaches m place over le reached = by (P.placed place le)
      where
        by : (place_moment c.infos c.commits place ≤ base) ⊎ ((place_moment c.infos c.commits place ≡ base + place_moment c.infos (ticks_of P.later) place) × (version_moment versions place ≡ ahead + version_moment P.later place)) → at m ≤ version_moment versions place
        by (inl low) = absurd (omega (arith, over, reached, low))
        by (inr is) =
            let more : m - base ≤ place_moment c.infos (ticks_of P.later) place = omega (arith, reached, is.0) in
            let up : point table P.later (m - base) ≤ point table P.later (place_moment c.infos (ticks_of P.later) place) = point_mono table P.later (m - base) (place_moment c.infos (ticks_of P.later) place) more in
            let there : point table P.later (place_moment c.infos (ticks_of P.later) place) ≡ version_moment P.later place = point_place table c.infos (fold rows_through no_rows P.front) P.later place P.have P.fit in
            let whole : version_moment versions place ≡ ahead + version_moment P.later place = is.1 in
            omega (arith, up, there, whole)

    records_reach : (m far : ℕ) (records : List Record) (from : ℕ) → base < m → far < m → AllByRecursion (λ item. c.start ≤ item.position) records → m ≤ last_moment c.infos c.commits far records → at m ≤ version_span_end versions records from
    records_reach m far [] from over less late reached = absurd (omega (arith, less, reached))
    records_reach m far (item ∷ records) from over less late reached = elim (cases_lt (max far (record_moment c.infos c.commits item)) m) [
      | inl under ↦ records_reach m (max far (record_moment c.infos c.commits item)) records (max from (version_moment versions (place_of item))) over under late.1 reached
      | inr ge ↦ (
          let x : ℕ = version_moment versions (place_of item) in
          let here : m ≤ record_moment c.infos c.commits item = omega (arith, ge, less) in
          let up : at m ≤ x = place_reaches m (place_of item) over late.0 here in
          max_end (at m) from x (version_span_end versions records (max from x)) up (ends versions records (max from x)))
    ]
      where
        max_end : (a f x w : ℕ) → a ≤ x → max f x ≤ w → a ≤ w
        max_end a f x w one two = omega (arith, one, two)

    not_past : (position : ℕ) (records : List Record) (m : ℕ) → base ≤ own_from c position → at (own_from c position) ≡ position_moment versions (max position c.start) → own_from c position ≤ m → m ≤ own_span_end c records (own_from c position)
        → at m ≤ version_span_end versions records (position_moment versions (max position c.start))
    not_past position records m base_le from_is low high =
        let from : ℕ = own_from c position in
        let F : ℕ = position_moment versions (max position c.start) in
        let kept : List Record = since c.start records in
        let is = is_since c.start records in
        let far : ℕ = version_span_end versions is.earlier F in
        let parted : version_span_end versions records F ≡ version_span_end versions kept far =
        ap (λ (l : List Record). version_span_end versions l F) is.is ∙ fold-append (λ (x : ℕ) (item : Record). max x (version_moment versions (place_of item))) F is.earlier kept in
        elim (cases_lt from m) [
          | inl lt ↦ (
              let begins : course_start c ≤ from = moment_mono c.commits c.start (max position c.start) (right_most position c.start) in
              let reached : m ≤ last_moment c.infos c.commits (course_start c) kept = omega (arith, high, lt) in
              subst (λ (n : ℕ). at m ≤ n) (sym parted)
              (records_reach m (course_start c) kept far (le_lt base from m base_le lt) (le_lt (course_start c) from m begins lt) is.late reached))
          | inr ge ↦ (
              let same : m ≡ from = omega (arith, low, ge) in
              subst (λ (n : ℕ). n ≤ version_span_end versions records F) (sym (ap at same ∙ from_is)) (ends versions records F))
        ]
      where
        right_most : (a b : ℕ) → b ≤ max a b
        right_most a b = omega arith

    within : (position : ℕ) (records : List Record) (m : ℕ) → own_from c position ≤ m → m ≤ own_span_end c records (own_from c position)
        → HasRowsWithin c versions table m (position_moment versions (max position c.start)) (version_span_end versions records (position_moment versions (max position c.start)))
    within position records m low high =
        let is = position_is (max position c.start) (right_most position c.start) in
        let from_is : at (own_from c position) ≡ position_moment versions (max position c.start) = is.1 in
        record {
          point = at m;
          not_before = subst (λ (n : ℕ). n ≤ at m) from_is (at_mono (own_from c position) m low);
          not_after = not_past position records m is.0 from_is low high;
          same = same_rows m (le_trans base (own_from c position) m is.0 low);
        }
      where
        right_most : (a b : ℕ) → b ≤ max a b
        right_most a b = omega arith

pub points_are : PointsOfCoursesArePoints
points_are infos versions start table position records moment valid low high =
    within table (course_of infos start table versions) versions (parted table infos versions start valid) position records moment low high
