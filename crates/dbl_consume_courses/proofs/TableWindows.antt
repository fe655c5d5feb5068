-- The age of an altered table with the records of a window; the greatest point that records reach.
use Rattle.std.proofs.Common.{◌≡◌, ◌∙◌, inl, inr, ℕ, suc, ◌+◌, ◌-◌, ◌≤◌, ◌<◌, max, Bool, true, false, Option, Some, None, List, [], ◌∷◌, ◌++◌, fold, length, map, take, refl, sym, ap, subst, arith, append-nil, append_assoc}
use Rattle.std.proofs.lemmas.Bool.{cases_lt}
use Rattle.std.proofs.lemmas.Bool.Decides.{nat_tests}
use Rattle.std.proofs.lemmas.List.Elements.{All-contains, All-from_recursion, recursion_from_All}
use Rattle.std.specs.Prelude.{◌==◌, nat_lt, if◌then◌else◌, IsSome, flat_map, slice_get}
use Rattle.std.specs.List.{AllByRecursion}
use Rattle.dbl_value_types.specs.declared.value.Val.{Val}
use Rattle.dbl_record.specs.declared.record.Record.{Record}
use Rattle.dbl_record.specs.Places.{Place, place_of, IsBefore}
use Rattle.dbl_model_table.specs.declared.identity.Identity.{Identity}
use Rattle.dbl_model_table.specs.declared.row.Key.{Key}
use Rattle.dbl_model_table.specs.declared.row.Row.{Row}
use Rattle.dbl_model_table.specs.declared.table.TableInfo.{TableInfo}
use Rattle.dbl_model_table.specs.declared.change.Body.{Body}
use Rattle.dbl_model_table.specs.declared.change.Body.TheVariants.{Changes, Mark}
use Rattle.dbl_model_table.specs.declared.change.Change.{Change}
use Rattle.dbl_model_table.specs.declared.change.Commit.{Commit}
use Rattle.dbl_model_table.specs.Rows.{Rows, no_rows, rows_from, rows_at, rows, changes_of, all_changes, moment_at}
use Rattle.dbl_model_history.proofs.PlainLemmas.{rows_from-row_from}
use Rattle.dbl_model_history.proofs.RowLemmas.{all_changes-append}
use Rattle.dbl_model_event.specs.Events.{notices}
use Rattle.dbl_consume_laws.specs.Commits.{moment_after}
use Rattle.dbl_consume_laws.specs.Moments.{changes_through, place_moment, record_moment, last_moment}
use Rattle.dbl_consume_laws.specs.Windows.{IsRightWindow}
use Rattle.dbl_consume_laws.proofs.Moments.{changes_through-most, place_moment-most, place_moment-longer, reach_under}
use Rattle.dbl_consume_courses.specs.Versions.{Versioned, plain_commit, rows_through, rows_upto}
use Rattle.dbl_consume_courses.specs.Courses.{Course, ticked, ticked_body, ticked_commit, course_from, first_course}
use Rattle.dbl_consume_courses.specs.Since.{since}
use Rattle.dbl_consume_courses.specs.AlteredTables.{course_changes, course_start, version_moment, position_moment, version_span_end, WasThereThrough, IsOwnAged, HasSameCells}
use Rattle.dbl_consume_courses.specs.FitVersions.{AreFitVersions}
use Rattle.dbl_consume_courses.specs.Growth.{course_of, point_after, own_span_end, IsVersionAmong}
use Rattle.dbl_consume_courses.specs.SameCells.{HasOnlySourceRows}
use Rattle.dbl_consume_courses.specs.CourseAges.{own_from}
use Rattle.dbl_consume_courses.specs.RowsThere.{changes_in, HasRowsThere}
use Rattle.dbl_consume_courses.specs.TableAges.{IsInCourse, PartsOfSnapshotsKeepTableAge, VersionsReachTheirTop}
use Rattle.dbl_consume_courses.proofs.SinceLemmas.{is_since}
use Rattle.dbl_consume_courses.proofs.CourseLemmas.{row_same}
use Rattle.dbl_consume_courses.proofs.FitLemmas.{good_of}
use Rattle.dbl_consume_courses.proofs.Alone.{all_weaker}
use Rattle.dbl_consume_courses.proofs.GrowthLemmas.{placed_in, one_more, snapshots_keep, all_ticked, goes, same_infos}
use Rattle.dbl_consume_courses.proofs.InfoMoves.{moment_at-most, moment_at-late}
use Rattle.dbl_consume_courses.proofs.SameLemmas.{snapshots_keep_same}
use Rattle.dbl_consume_courses.proofs.Presence.{row_mark}
use Rattle.dbl_consume_courses.proofs.ThereLemmas.{upto_past, upto_none, fit_rest, changes_end}
use Rattle.dbl_consume_courses.proofs.ThereWindows.{ends, some_by_mark, place_longer, place_most, snapshots_keep_there}
use Rattle.dbl_consume_courses.proofs.Positions.{le_of, le_trans, le_lt, left_most, past_all}
use Rattle.dbl_consume_courses.proofs.TableLemmas.{to_there, from_there, whole_is, valid, shown_valid, first_valid, rise_later, rise_rest, own_at, history_at}

-- ---- the points of places

later_step : (l p q n a b c d : ℕ) → p < q → a ≤ b → c ≤ n → (if nat_lt l p then n + a else (if l == p then c else 0)) ≤ (if nat_lt l q then n + b else (if l == q then d else 0))
later_step l p q n a b c d lt ab cn = grind (arith, nat_tests)

same_step : (x y : Bool) (a b c d : ℕ) → a ≤ b → c ≤ d → (if x then a else (if y then c else 0)) ≤ (if x then b else (if y then d else 0))
same_step true y a b c d ab cd = ab
same_step false true a b c d ab cd = cd
same_step false false a b c d ab cd = omega arith

through_step : (o q n a b : ℕ) → o ≤ q → (n ≤ o → a ≤ b) → (if nat_lt o n then 1 else suc a) ≤ (if nat_lt q n then 1 else suc b)
through_step o q n a b le more = grind (arith, nat_tests)

through_mono : (infos : List TableInfo) (cs : List Change) (o q : ℕ) → o ≤ q → changes_through infos cs o ≤ changes_through infos cs q
through_mono infos [] o q le = omega arith
through_mono infos (c ∷ cs) o q le =
    let n : ℕ = length (notices infos c) in
    through_step o q n (changes_through infos cs (o - n)) (changes_through infos cs (q - n)) le (λ high. through_mono infos cs (o - n) (q - n) (sub_le o q n le))
  where
    sub_le : (a b n : ℕ) → a ≤ b → a - n ≤ b - n
    sub_le a b n le = omega (arith, le)

add_le : (n a b : ℕ) → a ≤ b → n + a ≤ n + b
add_le n a b le = omega (arith, le)

mono_same : (versions : List Versioned) (p o q : ℕ) → o ≤ q → version_moment versions (p, o) ≤ version_moment versions (p, q)
mono_same [] p o q le = omega arith
mono_same (v ∷ versions) p o q le =
    let n : ℕ = length (changes_of (plain_commit v)) in
    same_step (nat_lt v.lsn.0 p) (v.lsn.0 == p) (n + version_moment versions (p, o)) (n + version_moment versions (p, q)) (changes_through v.infos (changes_of (plain_commit v)) o) (changes_through v.infos (changes_of (plain_commit v)) q)
    (add_le n (version_moment versions (p, o)) (version_moment versions (p, q)) (mono_same versions p o q le)) (through_mono v.infos (changes_of (plain_commit v)) o q le)

mono_later : (versions : List Versioned) (p o r q : ℕ) → p < r → version_moment versions (p, o) ≤ version_moment versions (r, q)
mono_later [] p o r q lt = omega arith
mono_later (v ∷ versions) p o r q lt =
    later_step v.lsn.0 p r (length (changes_of (plain_commit v))) (version_moment versions (p, o)) (version_moment versions (r, q)) (changes_through v.infos (changes_of (plain_commit v)) o) (changes_through v.infos (changes_of (plain_commit v)) q)
    lt (mono_later versions p o r q lt) (changes_through-most v.infos (changes_of (plain_commit v)) o)

not_after : (versions : List Versioned) (top place : Place) → (IsBefore top place → ⊥) → version_moment versions place ≤ version_moment versions top
not_after versions top place none = elim (cases_lt top.0 place.0) [
  | inl later ↦ absurd (none (inl later))
  | inr not_later ↦ elim (cases_lt place.0 top.0) [
    | inl earlier ↦ mono_later versions place.0 place.1 top.0 top.1 earlier
    | inr not_earlier ↦ (
        let same : top.0 ≡ place.0 = omega (arith, not_later, not_earlier) in
        elim (cases_lt top.1 place.1) [
          | inl subsequent ↦ absurd (none (inr (same, subsequent)))
          | inr le ↦ subst (λ (p : ℕ). version_moment versions (p, place.1) ≤ version_moment versions (top.0, top.1)) same (mono_same versions top.0 place.1 top.1 le)
        ])
  ]
]

max_step : (a x m w : ℕ) → w ≤ max (max a x) m → x ≤ m → w ≤ max a m
max_step a x m w le under = omega (arith, le, under)

span_under : (versions : List Versioned) (records : List Record) (from moment : ℕ) → AllByRecursion (λ item. version_moment versions (place_of item) ≤ moment) records → version_span_end versions records from ≤ max from moment
span_under versions [] from moment under = left_most from moment
span_under versions (item ∷ records) from moment under =
    let x : ℕ = version_moment versions (place_of item) in
    max_step from x moment (version_span_end versions records (max from x)) (span_under versions records (max from x) moment under.1) under.0

in_reach : (versions : List Versioned) (records : List Record) (from : ℕ) → AllByRecursion (λ place. version_moment versions place ≤ version_span_end versions records from) (map place_of records)
in_reach versions [] from = tt
in_reach versions (item ∷ records) from =
    let x : ℕ = version_moment versions (place_of item) in
    (right_le from x (version_span_end versions records (max from x)) (ends versions records (max from x)), in_reach versions records (max from x))
  where
    right_le : (a b n : ℕ) → max a b ≤ n → b ≤ n
    right_le a b n le = omega (arith, le)

none_after : (versions : List Versioned) (top : Place) (records : List Record) → AllByRecursion (λ place. IsBefore top place → ⊥) (map place_of records) → AllByRecursion (λ item. version_moment versions (place_of item) ≤ version_moment versions top) records
none_after versions top [] none = tt
none_after versions top (item ∷ records) none = (not_after versions top (place_of item) none.0, none_after versions top records none.1)

both_ways : (a b w : ℕ) → w ≤ max a b → b ≤ w → a ≤ w → w ≡ max a b
both_ways a b w le one two = omega (arith, le, one, two)

pub versions_reach : VersionsReachTheirTop
versions_reach versions from records top is =
    let low : version_span_end versions records from ≤ max from (version_moment versions top) =
    span_under versions records from (version_moment versions top) (none_after versions top records (recursion_from_All (λ place. IsBefore top place → ⊥) (map place_of records) is.greatest)) in
    let high : version_moment versions top ≤ version_span_end versions records from =
    All-contains (λ place. version_moment versions place ≤ version_span_end versions records from) (map place_of records) top (All-from_recursion (λ place. version_moment versions place ≤ version_span_end versions records from) (map place_of records) (in_reach versions records from)) is.taken in
    both_ways from (version_moment versions top) (version_span_end versions records from) low high (ends versions records from)

-- ---- the rows of a course at a commit, and those of the history

items_back : (P : Record → Type 0) (l m : List Record) → AllByRecursion P (l ++ m) → AllByRecursion P m
items_back P [] m all = all
items_back P (x ∷ l) m all = items_back P l m all.1

-- a place that isn't after a position is in the commits up to it
place_upto : (front more : List Versioned) (position : ℕ) (place : Place) → AllByRecursion (λ v. position < v.lsn.0) more → place.0 ≤ position → version_moment (front ++ more) place ≤ changes_in front
place_upto front more position place past le =
    subst (λ (m : ℕ). m ≤ changes_in front) (sym (place_longer front more place (all_weaker (λ (v : Versioned). position < v.lsn.0) (λ (v : Versioned). place.0 < v.lsn.0) (λ v lt. le_lt place.0 position v.lsn.0 le lt) more past))) (place_most front place)

module _ (identity : Identity) (infos : List TableInfo) (versions shown : List Versioned) (start table : ℕ) (earlier : List Versioned) (v : Versioned) (later : List Versioned)
    (is_in : IsInCourse infos versions shown start table earlier v later) where
  abbrev C : Course
  C = course_of infos start table shown

  abbrev E : Course
  E = course_of infos start table earlier

  among : IsVersionAmong infos shown start table earlier v later
  among = is_in.among

  fit_shown : AreFitVersions infos (earlier ++ v ∷ later)
  fit_shown = shown_valid identity infos versions shown start table earlier v later is_in

  -- the course's rows before the commit
  own_row : (key : Key) → rows C.infos C.commits (point_after infos start table earlier) table key ≡ fold rows_through no_rows earlier table key
  own_row key =
      let placed = placed_in infos shown start table earlier v later among in
      let good = good_of infos earlier start table (first_valid identity infos versions shown start table earlier v later is_in) in
      let cs : List Change = all_changes E.commits in
      let parted : course_changes C ≡ cs ++ all_changes (map (ticked_commit table) (v ∷ later)) = ap all_changes placed.commits ∙ all_changes-append E.commits (map (ticked_commit table) (v ∷ later)) in
      let front : take (length cs) (course_changes C) ≡ cs = ap (take (length cs)) parted ∙ take_front cs (all_changes (map (ticked_commit table) (v ∷ later))) in
      let same : slice_get E.infos table ≡ slice_get C.infos table =
      same_infos identity infos earlier (v ∷ later) start table fit_shown among.unaltered
      ∙ ap (λ (c : Course). slice_get c.infos table) (sym (ap (course_from table (first_course infos start)) among.spelled ∙ goes identity infos earlier (v ∷ later) start table fit_shown among.unaltered)) in
      ap (λ (l : List Change). rows_from C.infos no_rows l table key) front
      ∙ (rows_from-row_from C.infos no_rows cs table key ∙ (row_same C.infos E.infos table key None cs (sym same) ∙ good.shows.each key))
    where
      take_front : (xs ys : List Change) → take (length xs) (xs ++ ys) ≡ xs
      take_front [] ys = refl
      take_front (x ∷ xs) ys = ap (λ (l : List Change). x ∷ l) (take_front xs ys)

  -- the history has a row there exactly if they do
  history_row : (key : Key) → row_mark (rows_upto no_rows versions (changes_in earlier) table key) ≡ row_mark (fold rows_through no_rows earlier table key)
  history_row key =
      let rest : List Versioned = v ∷ (later ++ is_in.hidden) in
      let spelled : versions ≡ earlier ++ rest = whole_is identity infos versions shown start table earlier v later is_in in
      let fit_rest_is = fit_rest no_rows earlier rest (valid identity infos versions shown start table earlier v later is_in).fit in
      let none : changes_in earlier ≡ changes_in earlier + 0 = omega arith in
      ap (λ (l : List Versioned). row_mark (rows_upto no_rows l (changes_in earlier) table key)) spelled
      ∙ (ap (λ (m : ℕ). row_mark (rows_upto no_rows (earlier ++ rest) m table key)) none
      ∙ (ap (λ (r : Rows). row_mark (r table key)) (upto_past no_rows earlier rest 0)
      ∙ upto_none (fold rows_through no_rows earlier) rest table key fit_rest_is))

  pub both_rows : (key : Key) → row_mark (rows_upto no_rows versions (changes_in earlier) table key) ≡ row_mark (rows C.infos C.commits (point_after infos start table earlier) table key)
  both_rows key = history_row key ∙ ap row_mark (sym (own_row key))

  -- records that aren't after the commit reach no point after it
  pub own_reach : (records : List Record) → AllByRecursion (λ item. item.position ≤ v.lsn.0) records → own_span_end C records (point_after infos start table (earlier ++ v ∷ [])) ≤ point_after infos start table (earlier ++ v ∷ [])
  own_reach records upto =
      let front : List Commit = (course_of infos start table (earlier ++ v ∷ [])).commits in
      let placed = placed_in infos shown start table earlier v later among in
      let more : List Commit = map (ticked_commit table) later in
      let parted : C.commits ≡ front ++ more =
      placed.commits ∙ (sym (append_assoc E.commits (ticked_commit table v ∷ []) more) ∙ ap (λ (l : List Commit). l ++ more) (one_more infos shown start table earlier v later among)) in
      let point : ℕ = moment_after front in
      let rise = rise_later identity infos versions shown start table earlier v later is_in in
      let since_is = is_since C.start records in
      let kept : AllByRecursion (λ item. item.position ≤ v.lsn.0) (since C.start records) = items_back (λ item. item.position ≤ v.lsn.0) since_is.earlier (since C.start records) (subst (AllByRecursion (λ item. item.position ≤ v.lsn.0)) since_is.is upto) in
      let past : (p : ℕ) → p ≤ v.lsn.0 → AllByRecursion (λ c. p < c.lsn.0) more = λ p le. all_ticked table p later (past_all v.lsn.0 p later le rise) in
      let each : AllByRecursion (λ item. record_moment C.infos C.commits item ≤ point) (since C.start records) =
      all_weaker (λ (item : Record). item.position ≤ v.lsn.0) (λ (item : Record). record_moment C.infos C.commits item ≤ point)
      (λ item le. subst (λ (l : List Commit). place_moment C.infos l (place_of item) ≤ point) (sym parted)
      (subst (λ (m : ℕ). m ≤ point) (sym (place_moment-longer C.infos front more (place_of item) (past item.position le))) (place_moment-most C.infos front (place_of item)))) (since C.start records) kept in
      let start_le : course_start C ≤ point =
      subst (λ (l : List Commit). moment_at l C.start ≤ point) (sym parted) (subst (λ (m : ℕ). m ≤ point) (sym (moment_at-late front more C.start (past C.start (le_of C.start v.lsn.0 placed.late)))) (moment_at-most front C.start)) in
      span_least point (last_moment C.infos C.commits (course_start C) (since C.start records)) (course_start C) (reach_under C.infos C.commits point (course_start C) (since C.start records) each) start_le
    where
      span_least : (point last begin : ℕ) → last ≤ max begin point → begin ≤ point → max point last ≤ point
      span_least point last begin le low = omega (arith, le, low)

  pub history_reach : (records : List Record) → AllByRecursion (λ item. item.position ≤ v.lsn.0) records → version_span_end versions records (changes_in (earlier ++ v ∷ [])) ≤ changes_in (earlier ++ v ∷ [])
  history_reach records upto =
      let front : List Versioned = earlier ++ v ∷ [] in
      let rest : List Versioned = later ++ is_in.hidden in
      let point : ℕ = changes_in front in
      let spelled : versions ≡ front ++ rest = whole_is identity infos versions shown start table earlier v later is_in ∙ sym (append_assoc earlier (v ∷ []) rest) in
      let past = past_all v.lsn.0 v.lsn.0 rest (omega arith) (rise_rest identity infos versions shown start table earlier v later is_in) in
      let each : AllByRecursion (λ item. version_moment versions (place_of item) ≤ point) records =
      all_weaker (λ (item : Record). item.position ≤ v.lsn.0) (λ (item : Record). version_moment versions (place_of item) ≤ point)
      (λ item le. subst (λ (l : List Versioned). version_moment l (place_of item) ≤ point) (sym spelled) (place_upto front rest v.lsn.0 (place_of item) past le)) records upto in
      le_trans (version_span_end versions records point) (max point point) point (span_under versions records point point each) (omega arith)

-- ---- the window's records

-- a row that was there through a span that is one point is there at it
there_at : (versions : List Versioned) (from to table : ℕ) (key : Key) → to ≤ from → WasThereThrough versions from to table key → IsSome (rows_upto no_rows versions from table key)
there_at versions from to table key le w =
    let is : w.moment ≡ from = omega (arith, le, w.not_before, w.not_after) in
    subst (λ (m : ℕ). IsSome (rows_upto no_rows versions m table key)) is w.present

some_row : (o : Option (List Val)) (row : List Val) → o ≡ Some row → IsSome o
some_row None row is = cc
some_row (Some x) row is = refl

pub silent_tick : (table : ℕ) (v : Versioned) (body : Body) → v.body ≡ body → changes_of (plain_commit v) ≡ [] → changes_of (ticked_commit table v) ≡ []
silent_tick table v (Changes changes) is none =
    let gone : changes ≡ [] = ap (λ (b : Body). elim b [ Changes changes ↦ changes | Mark value ↦ [] ]) (sym is) ∙ none in
    ap (λ (b : Body). elim (ticked_body v.infos table b) [ Changes changes ↦ changes | Mark value ↦ [] ]) is ∙ ap (flat_map (ticked v.infos table)) gone
silent_tick table v (Mark value) is none = ap (λ (b : Body). elim (ticked_body v.infos table b) [ Changes changes ↦ changes | Mark value ↦ [] ]) is

pub snapshots_keep_table : PartsOfSnapshotsKeepTableAge
snapshots_keep_table identity infos versions shown start earlier mark later low above closed records listed now n is_in silent in_time is clear right after told upto aged =
    let table : ℕ = closed.table in
    let c : Course = course_of infos start table shown in
    let point : ℕ = point_after infos start table earlier in
    let ahead : ℕ = changes_in earlier in
    let more : List Record = take n listed in
    let size : length (changes_of (plain_commit mark)) ≡ 0 = ap length silent in
    let ended : changes_in (earlier ++ mark ∷ []) ≡ ahead + length (changes_of (plain_commit mark)) = changes_end earlier mark in
    let ahead_is : changes_in (earlier ++ mark ∷ []) ≡ ahead = omega (arith, ended, size) in
    let pos_is : position_moment versions mark.lsn.0 ≡ ahead = history_at identity infos versions shown start table earlier mark later is_in ∙ ahead_is in
    let point_is : point_after infos start table (earlier ++ mark ∷ []) ≡ point =
    sym (ap moment_after (one_more infos shown start table earlier mark later is_in.among)) ∙ quiet_end (course_of infos start table earlier).commits (ticked_commit table mark) (silent_tick table mark mark.body refl silent) in
    let own_is : own_from c mark.lsn.0 ≡ point = own_at identity infos versions shown start table earlier mark later is_in ∙ point_is in
    let right_here : IsRightWindow c.infos (course_changes c) low point above closed = subst (λ (m : ℕ). IsRightWindow c.infos (course_changes c) low m above closed) own_is right in
    let reach : own_span_end c records point ≤ point = subst (λ (m : ℕ). own_span_end c records m ≤ m) point_is (own_reach identity infos versions shown start table earlier mark later is_in records upto) in
    let far : version_span_end versions records ahead ≤ ahead = subst (λ (m : ℕ). version_span_end versions records m ≤ m) ahead_is (history_reach identity infos versions shown start table earlier mark later is_in records upto) in
    let own : IsOwnAged identity c records point table = subst (λ (m : ℕ). IsOwnAged identity c records m table) own_is aged.own in
    let same : HasSameCells identity c records point table = subst (λ (m : ℕ). HasSameCells identity c records m table) own_is aged.same in
    let there : HasRowsThere identity infos versions records ahead table =
    subst (λ (m : ℕ). HasRowsThere identity infos versions records m table) pos_is (from_there identity infos shown versions start (position_moment versions mark.lsn.0) table records is_in.among.fit.follow aged.there) in
    let both = both_rows identity infos versions shown start table earlier mark later is_in in
    let only : HasOnlySourceRows identity c records point table = record {
      each = λ topic text key names some. some_by_mark (rows c.infos c.commits point table key) (rows_upto no_rows versions ahead table key) (sym (both key))
          (there_at versions ahead (version_span_end versions records ahead) table key far (to_there identity infos shown versions start ahead table records is_in.among.fit.follow there topic text key names some));
    } in
    let present : AllByRecursion (λ entry. IsSome (rows_upto no_rows versions ahead table entry.0)) closed.rows =
    all_weaker (λ (entry : Key × Row). rows_at c.infos (course_changes c) point table entry.0 ≡ Some entry.1.cells) (λ (entry : Key × Row). IsSome (rows_upto no_rows versions ahead table entry.0))
    (λ entry listed_is. some_by_mark (rows_upto no_rows versions ahead table entry.0) (rows c.infos c.commits point table entry.0) (both entry.0) (some_row (rows c.infos c.commits point table entry.0) entry.1.cells listed_is)) closed.rows right_here.right in
    let rows_are : HasRowsThere identity infos versions (records ++ more) ahead table =
    snapshots_keep_there identity infos versions earlier mark (later ++ is_in.hidden) closed records listed now n is_in.fit (whole_is identity infos versions shown start table earlier mark later is_in) in_time is present there in
    record {
      own = subst (λ (m : ℕ). IsOwnAged identity c (records ++ more) m table) (sym own_is)
          (snapshots_keep identity infos shown start earlier mark later low above closed records listed now n is_in.among silent in_time is clear right_here after told own);
      same = subst (λ (m : ℕ). HasSameCells identity c (records ++ more) m table) (sym own_is)
          (snapshots_keep_same identity infos shown start earlier mark later low above closed records listed now n is_in.among silent in_time is clear right_here after told reach own only same);
      there = to_there identity infos shown versions start (position_moment versions mark.lsn.0) table (records ++ more) is_in.among.fit.follow
          (subst (λ (m : ℕ). HasRowsThere identity infos versions (records ++ more) m table) (sym pos_is) rows_are);
    }
  where
    quiet_end : (commits : List Commit) (commit : Commit) → changes_of commit ≡ [] → moment_after (commits ++ commit ∷ []) ≡ moment_after commits
    quiet_end commits commit none =
        ap length (all_changes-append commits (commit ∷ []))
        ∙ (ap (λ (l : List Change). length (all_changes commits ++ (l ++ []))) none ∙ ap length (append-nil (all_changes commits)))
