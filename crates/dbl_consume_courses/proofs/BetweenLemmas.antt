-- A log of tables that may be altered is aged between two positions as commits are delivered, for the first time or again.
use Rattle.std.proofs.Common.{◌≡◌, ◌∙◌, ◌⊎◌, inl, inr, ℕ, ℤ, zero, suc, ◌+◌, ◌≤◌, ◌<◌, max, Bool, true, false, Option, Some, None, List, [], ◌∷◌, ◌++◌, length, map, take, flat_map, refl, sym, ap, subst, arith, append-nil, append_assoc}
use Rattle.std.proofs.lemmas.Bool.{cases_lt}
use Rattle.std.proofs.lemmas.Bool.Decides.{nat_tests}
use Rattle.std.proofs.lemmas.List.{take_all, length-map}
use Rattle.std.proofs.lemmas.List.Sums.{fold-append}
use Rattle.std.specs.Prelude.{◌==◌, nat_lt, nat_le, if◌then◌else◌, slice_get}
use Rattle.std.specs.List.{AllByRecursion}
use Rattle.dbl_record.specs.declared.record.Record.{Record}
use Rattle.dbl_record.specs.Places.{Place, place_of}
use Rattle.dbl_model_table.specs.declared.identity.Identity.{Identity}
use Rattle.dbl_model_table.specs.declared.table.RawRow.{RawRow}
use Rattle.dbl_model_table.specs.declared.table.TableInfo.{TableInfo}
use Rattle.dbl_model_table.specs.declared.change.Change.{Change}
use Rattle.dbl_model_table.specs.declared.change.Commit.{Commit}
use Rattle.dbl_model_table.specs.Rows.{changes_of, moment_at}
use Rattle.dbl_model_history.specs.History.{AreRising}
use Rattle.dbl_model_history.specs.Ranges.{IsMomentInRange}
use Rattle.dbl_model_history.proofs.MomentLemmas.{lsns}
use Rattle.dbl_model_event.specs.Clashes.{notice_clash, first_found, clash_of}
use Rattle.dbl_model_event.specs.Events.{Notice, notices, numbered}
use Rattle.dbl_model_event.specs.EventJson.{print, envelopes}
use Rattle.dbl_consume_laws.specs.Moments.{changes_through, record_moment, place_moment, last_moment}
use Rattle.dbl_consume_laws.proofs.Moments.{last_moment-append, reach_grows}
use Rattle.dbl_consume_laws.proofs.Lists.{all_take}
use Rattle.dbl_consume_courses.specs.Versions.{Versioned, plain_commit, versions_to}
use Rattle.dbl_consume_courses.specs.Courses.{Course, alteration_of, course_by, course_after, course_from, first_course, course, AreUnaltered}
use Rattle.dbl_consume_courses.specs.Since.{since}
use Rattle.dbl_consume_courses.specs.AlteredTables.{course_start, version_moment, position_moment, version_span_end, last_position, IsOwnAged, HasSameCells, IsTableAged, IsAgedFrom}
use Rattle.dbl_consume_courses.specs.FitVersions.{AreFitVersions}
use Rattle.dbl_consume_courses.specs.Growth.{course_of, own_span_end}
use Rattle.dbl_consume_courses.specs.CourseAges.{own_from}
use Rattle.dbl_consume_courses.specs.TableAges.{IsJustBefore, IsInCourse}
use Rattle.dbl_consume_courses.specs.AgesBetween.{IsLsnOf, AreAgedBetween, EmptyLogsAreAged, PartsOfCommitsKeepAgesBetween, CommitsMoveAgesBetween, AgesBetweenStayAsHistoriesGrow}
use Rattle.dbl_consume_courses.proofs.Alone.{all_weaker}
use Rattle.dbl_consume_courses.proofs.FitLemmas.{rising_end}
use Rattle.dbl_consume_courses.proofs.GrowthLemmas.{lsns_append, fit_versions_left, printed_at, late_items}
use Rattle.dbl_consume_courses.proofs.Positions.{le_of, le_trans, le_lt, left_most, both_below, max_right_is, upto_is, all_end, past_all}
use Rattle.dbl_consume_courses.proofs.TableLemmas.{parts_keep_table, commits_move_table, table_goes_back, table_in_longer_courses, table_in_longer_histories}
use Rattle.dbl_consume_courses.proofs.TableRepeats.{silent_of, follows_at, aged_none, same_none, alterations_move_table, repeat_parts_keep_table, repeats_move_table}
use Rattle.dbl_consume_courses.proofs.SinceLemmas.{appended}
use Rattle.dbl_consume_courses.proofs.ThereWindows.{ends}
use Rattle.dbl_consume_courses.proofs.VersionLemmas.{all_to, none_to}

-- ---- the greatest position

pub last_le : (position : ℕ) (records : List Record) → position ≤ last_position position records
last_le position [] = omega arith
last_le position (item ∷ records) = max_left_le position item.position (last_position (max position item.position) records) (last_le (max position item.position) records)
  where
    max_left_le : (a b n : ℕ) → max a b ≤ n → a ≤ n
    max_left_le a b n le = omega (arith, le)

last_append : (position : ℕ) (records more : List Record) → last_position position (records ++ more) ≡ last_position (last_position position records) more
last_append position records more = fold-append (λ (far : ℕ) (item : Record). max far item.position) position records more

-- from the greater of two positions
last_max : (a b : ℕ) (records : List Record) → last_position (max a b) records ≡ max a (last_position b records)
last_max a b [] = refl
last_max a b (item ∷ records) = ap (λ (m : ℕ). last_position m records) (assoc a b item.position) ∙ last_max a (max b item.position) records
  where
    assoc : (x y z : ℕ) → max (max x y) z ≡ max x (max y z)
    assoc x y z = omega arith

last_up : (a b : ℕ) (records : List Record) → b ≤ a → last_position a records ≡ max a (last_position b records)
last_up a b records le = ap (λ (m : ℕ). last_position m records) (is_max a b le) ∙ last_max a b records
  where
    is_max : (x y : ℕ) → y ≤ x → x ≡ max x y
    is_max x y less = omega (arith, less)

-- with some records of one position more
last_none : (far at : ℕ) (more : List Record) → AllByRecursion (λ item. item.position ≡ at) more → at ≤ far → last_position far more ≡ far
last_none far at [] all le = refl
last_none far at (item ∷ more) all le =
    let same : max far item.position ≡ far = max_is far item.position at all.0 le in
    ap (λ (m : ℕ). last_position m more) same ∙ last_none far at more all.1 le
  where
    max_is : (a b c : ℕ) → b ≡ c → c ≤ a → max a b ≡ a
    max_is a b c is less = omega (arith, is, less)

pub last_more : (position at : ℕ) (records : List Record) (item : Record) (more : List Record) → AllByRecursion (λ x. x.position ≡ at) (item ∷ more)
    → last_position position (records ++ item ∷ more) ≡ max (last_position position records) at
last_more position at records item more all =
    last_append position records (item ∷ more)
    ∙ (ap (λ (m : ℕ). last_position (max (last_position position records) m) more) all.0
    ∙ last_none (max (last_position position records) at) at more all.1 (right_most (last_position position records) at))
  where
    right_most : (a b : ℕ) → b ≤ max a b
    right_most a b = omega arith

-- records of a log that doesn't go so far
each_below : (position at : ℕ) (records : List Record) → last_position position records < at → AllByRecursion (λ item. item.position < at) records
each_below position at [] less = tt
each_below position at (item ∷ records) less =
    let low : max position item.position ≤ last_position (max position item.position) records = last_le (max position item.position) records in
    (omega (arith, less, low), each_below (max position item.position) at records less)

-- ---- the commits up to a position

pub record IsCut (position : ℕ) (versions : List Versioned) : Type 0 where
  pub rest : List Versioned
  pub is : versions ≡ versions_to position versions ++ rest
  pub past : AllByRecursion (λ v. position < v.lsn.0) rest

one_to : (position : ℕ) (v : Versioned) (vs : List Versioned) → v.lsn.0 ≤ position → versions_to position (v ∷ vs) ≡ v ∷ versions_to position vs
one_to position v vs le = ap (λ (b : Bool). if b then v ∷ versions_to position vs else versions_to position vs) (upto_is v.lsn.0 position le)

pub cut : (position low : ℕ) (vs : List Versioned) → AreRising low (lsns (map plain_commit vs)) → IsCut position vs
cut position low [] rise = record { rest = []; is = refl; past = tt }
cut position low (v ∷ vs) rise = elim (cases_lt position v.lsn.0) [
  | inl lt ↦ (
      let past : AllByRecursion (λ w. position < w.lsn.0) (v ∷ vs) = (lt, past_all v.lsn.0 position vs (le_of position v.lsn.0 lt) rise.1) in
      record { rest = v ∷ vs; is = ap (λ (l : List Versioned). l ++ v ∷ vs) (sym (none_to position (v ∷ vs) past)); past = past })
  | inr le ↦ (
      let more = cut position v.lsn.0 vs rise.1 in
      record { rest = more.rest; is = ap (λ (l : List Versioned). v ∷ l) more.is ∙ ap (λ (l : List Versioned). l ++ more.rest) (sym (one_to position v vs le)); past = more.past })
]

front_to : (position : ℕ) (front rest : List Versioned) → AllByRecursion (λ v. v.lsn.0 ≤ position) front → versions_to position (front ++ rest) ≡ front ++ versions_to position rest
front_to position [] rest upto = refl
front_to position (v ∷ front) rest upto = one_to position v (front ++ rest) upto.0 ∙ ap (λ (l : List Versioned). v ∷ l) (front_to position front rest upto.1)

pub to_append : (position : ℕ) (xs ys : List Versioned) → versions_to position (xs ++ ys) ≡ versions_to position xs ++ versions_to position ys
to_append position [] ys = refl
to_append position (v ∷ xs) ys = by (nat_le v.lsn.0 position) (to_append position xs ys)
  where
    by : (b : Bool) → versions_to position (xs ++ ys) ≡ versions_to position xs ++ versions_to position ys
        → (if b then v ∷ versions_to position (xs ++ ys) else versions_to position (xs ++ ys)) ≡ (if b then v ∷ versions_to position xs else versions_to position xs) ++ versions_to position ys
    by true rest = ap (λ (l : List Versioned). v ∷ l) rest
    by false rest = rest

all_left : (P : Versioned → Type 0) (xs ys : List Versioned) → AllByRecursion P (xs ++ ys) → AllByRecursion P xs
all_left P [] ys all = tt
all_left P (x ∷ xs) ys all = (all.0, all_left P xs ys all.1)

-- ---- courses

starts_later : (table : ℕ) (old : Course) (vs : List Versioned) → old.start ≤ (course_from table old vs).start
starts_later table old [] = omega arith
starts_later table old (v ∷ vs) = le_trans old.start (course_after table old v).start (course_from table (course_after table old v) vs).start (by (alteration_of table v.altered)) (starts_later table (course_after table old v) vs)
  where
    by : (o : Option (List RawRow)) → old.start ≤ (course_by table old v o).start
    by None = omega arith
    by (Some rows) = left_most old.start v.lsn.0

-- a course starts at no earlier position than any alteration of its table
covers : (table position : ℕ) (old : Course) (vs : List Versioned) → (course_from table old vs).start ≤ position → AllByRecursion (λ v. position < v.lsn.0) vs → AreUnaltered table vs
covers table position old [] le past = tt
covers table position old (v ∷ vs) le past = (by (alteration_of table v.altered) refl, covers table position (course_after table old v) vs le past.1)
  where
    by : (o : Option (List RawRow)) → alteration_of table v.altered ≡ o → alteration_of table v.altered ≡ None
    by None is = is
    by (Some rows) is =
        let here : (course_after table old v).start ≡ max old.start v.lsn.0 = ap (λ (o : Option (List RawRow)). (course_by table old v o).start) is in
        let more : (course_after table old v).start ≤ (course_from table (course_after table old v) vs).start = starts_later table (course_after table old v) vs in
        absurd (omega (arith, here, more, le, past.0))

-- ---- the points of a place after a position

place_past : (infos : List TableInfo) (commits : List Commit) (position : ℕ) (place : Place) → position < place.0 → moment_at commits position ≤ place_moment infos commits place
place_past infos [] position place lt = omega arith
place_past infos (c ∷ commits) position place lt =
    step c.lsn.0 position place.0 (length (changes_of c)) (moment_at commits position) (place_moment infos commits place) (changes_through infos (changes_of c) place.1) lt (place_past infos commits position place lt)
  where
    step : (l p q n a b c : ℕ) → p < q → a ≤ b → (if nat_le l p then n + a else 0) ≤ (if nat_lt l q then n + b else (if l == q then c else 0))
    step l p q n a b c less le = grind (arith, nat_tests)

version_past : (versions : List Versioned) (position : ℕ) (place : Place) → position < place.0 → position_moment versions position ≤ version_moment versions place
version_past [] position place lt = omega arith
version_past (v ∷ versions) position place lt =
    step v.lsn.0 position place.0 (length (changes_of (plain_commit v))) (position_moment versions position) (version_moment versions place) (changes_through v.infos (changes_of (plain_commit v)) place.1) lt (version_past versions position place lt)
  where
    step : (l p q n a b c : ℕ) → p < q → a ≤ b → (if nat_le l p then n + a else 0) ≤ (if nat_lt l q then n + b else (if l == q then c else 0))
    step l p q n a b c less le = grind (arith, nat_tests)

pub reach_item : (infos : List TableInfo) (commits : List Commit) (far : ℕ) (xs : List Record) (item : Record) (ys : List Record) → record_moment infos commits item ≤ last_moment infos commits far (xs ++ item ∷ ys)
reach_item infos commits far xs item ys =
    let parted : last_moment infos commits far (xs ++ item ∷ ys) ≡ last_moment infos commits (last_moment infos commits far xs) (item ∷ ys) = last_moment-append infos commits far xs (item ∷ ys) in
    let more : max (last_moment infos commits far xs) (record_moment infos commits item) ≤ last_moment infos commits (last_moment infos commits far xs) (item ∷ ys) = reach_grows infos commits (max (last_moment infos commits far xs) (record_moment infos commits item)) ys in
    omega (arith, parted, more)

pub span_item : (versions : List Versioned) (from : ℕ) (xs : List Record) (item : Record) (ys : List Record) → version_moment versions (place_of item) ≤ version_span_end versions (xs ++ item ∷ ys) from
span_item versions from xs item ys =
    let parted : version_span_end versions (xs ++ item ∷ ys) from ≡ version_span_end versions (item ∷ ys) (version_span_end versions xs from) =
    fold-append (λ (x : ℕ) (r : Record). max x (version_moment versions (place_of r))) from xs (item ∷ ys) in
    let more : max (version_span_end versions xs from) (version_moment versions (place_of item)) ≤ version_span_end versions (item ∷ ys) (version_span_end versions xs from) = ends versions ys (max (version_span_end versions xs from) (version_moment versions (place_of item))) in
    omega (arith, parted, more)

-- ---- a commit of a valid history

module _ (identity : Identity) (infos : List TableInfo) (start low high : ℕ) (earlier : List Versioned) (v : Versioned) (later : List Versioned)
    (valid : AreFitVersions infos (earlier ++ v ∷ later)) (just : IsJustBefore high earlier v) (start_low : start ≤ low) (low_high : low ≤ high) (now : ℤ) (in_time : IsMomentInRange now) (table : ℕ) (records : List Record) where
  abbrev W : List Versioned
  W = earlier ++ v ∷ later

  abbrev front : List Versioned
  front = earlier ++ v ∷ []

  abbrev top : ℕ
  top = last_position high records

  rise : AreRising 0 (lsns (map plain_commit earlier) ++ lsns (map plain_commit (v ∷ later)))
  rise = subst (AreRising 0) (lsns_append earlier (v ∷ later)) valid.rise

  rise_later : AreRising v.lsn.0 (lsns (map plain_commit later))
  rise_later = (rising_end 0 (lsns (map plain_commit earlier)) (lsns (map plain_commit (v ∷ later))) rise).1

  long : front ++ later ≡ W
  long = append_assoc earlier (v ∷ []) later

  front_valid : AreFitVersions infos front
  front_valid = fit_versions_left infos front later (subst (AreFitVersions infos) (sym long) valid)

  start_v : start < v.lsn.0
  start_v = omega (arith, just.before, start_low, low_high)

  top_le : high ≤ top
  top_le = last_le high records

  upto_at : (q : ℕ) → high ≤ q → AllByRecursion (λ e. e.lsn.0 ≤ q) earlier
  upto_at q le = all_weaker (λ (e : Versioned). e.lsn.0 ≤ high) (λ (e : Versioned). e.lsn.0 ≤ q) (λ e less. le_trans e.lsn.0 high q less le) earlier just.upto

  past_at : (q : ℕ) → q ≤ v.lsn.0 → AllByRecursion (λ w. q < w.lsn.0) later
  past_at q le = past_all v.lsn.0 q later le rise_later

  -- up to just before the commit, and up to it
  to_before : (q : ℕ) → high ≤ q → q < v.lsn.0 → versions_to q W ≡ earlier
  to_before q le lt = all_to q earlier (v ∷ later) (upto_at q le) (lt, past_at q (le_of q v.lsn.0 lt))

  to_v : versions_to v.lsn.0 W ≡ front
  to_v =
      ap (versions_to v.lsn.0) (sym long)
      ∙ all_to v.lsn.0 front later (all_end (λ e. e.lsn.0 ≤ v.lsn.0) earlier v (upto_at v.lsn.0 (le_of high v.lsn.0 just.before)) (omega arith)) (past_at v.lsn.0 (omega arith))

  -- up to a position since the commit
  to_since : (q : ℕ) → v.lsn.0 ≤ q → versions_to q W ≡ earlier ++ v ∷ versions_to q later
  to_since q le = front_to q earlier (v ∷ later) (upto_at q (le_trans high v.lsn.0 q (le_of high v.lsn.0 just.before) le)) ∙ ap (λ (l : List Versioned). earlier ++ l) (one_to q v later le)

  abbrev Aged : List Record → ℕ → Type 0
  Aged items position = IsAgedFrom identity infos W start items position table

  abbrev AgedIn : List Versioned → List Record → ℕ → Type 0
  AgedIn shown items position = IsTableAged identity (course_of infos start table shown) W items position table

  opened : (items : List Record) (position : ℕ) (shown : List Versioned) → versions_to (last_position position items) W ≡ shown → Aged items position → AgedIn shown items position
  opened items position shown is aged = subst (λ (l : List Versioned). IsTableAged identity (course_of infos start table l) W items position table) is aged

  closed : (items : List Record) (position : ℕ) (shown : List Versioned) → versions_to (last_position position items) W ≡ shown → AgedIn shown items position → Aged items position
  closed items position shown is aged = subst (λ (l : List Versioned). IsTableAged identity (course_of infos start table l) W items position table) (sym is) aged

  shown_valid : (q : ℕ) → AreFitVersions infos (earlier ++ v ∷ versions_to q later)
  shown_valid q =
      let parts = cut q v.lsn.0 later rise_later in
      let whole_is : W ≡ (earlier ++ v ∷ versions_to q later) ++ parts.rest = ap (λ (l : List Versioned). earlier ++ v ∷ l) parts.is ∙ sym (append_assoc earlier (v ∷ versions_to q later) parts.rest) in
      fit_versions_left infos (earlier ++ v ∷ versions_to q later) parts.rest (subst (AreFitVersions infos) whole_is valid)

  shown_course : (q : ℕ) → course_of infos start table (earlier ++ v ∷ versions_to q later) ≡ course_from table (course_of infos start table front) (versions_to q later)
  shown_course q =
      ap (course_from table (first_course infos start)) (sym (append_assoc earlier (v ∷ []) (versions_to q later)))
      ∙ fold-append (course_after table) (first_course infos start) front (versions_to q later)

  in_course : (q : ℕ) → alteration_of table v.altered ≡ None → (course_of infos start table (earlier ++ v ∷ versions_to q later)).start ≤ v.lsn.0
      → IsInCourse infos W (earlier ++ v ∷ versions_to q later) start table earlier v (versions_to q later)
  in_course q none begins =
      let parts = cut q v.lsn.0 later rise_later in
      let whole_is : W ≡ (earlier ++ v ∷ versions_to q later) ++ parts.rest = ap (λ (l : List Versioned). earlier ++ v ∷ l) parts.is ∙ sym (append_assoc earlier (v ∷ versions_to q later) parts.rest) in
      let past : AllByRecursion (λ w. v.lsn.0 < w.lsn.0) (versions_to q later) =
      all_left (λ w. v.lsn.0 < w.lsn.0) (versions_to q later) parts.rest (subst (AllByRecursion (λ w. v.lsn.0 < w.lsn.0)) parts.is (past_at v.lsn.0 (omega arith))) in
      let unaltered : AreUnaltered table (versions_to q later) =
      covers table v.lsn.0 (course_of infos start table front) (versions_to q later) (subst (λ (c : Course). c.start ≤ v.lsn.0) (shown_course q) begins) past in
      record { fit = valid; hidden = parts.rest; parted = whole_is; among = record { fit = shown_valid q; spelled = refl; unaltered = (none, unaltered); after = start_v } }

  front_in : alteration_of table v.altered ≡ None → IsInCourse infos W front start table earlier v []
  front_in none = record { fit = valid; hidden = later; parted = sym long; among = record { fit = front_valid; spelled = refl; unaltered = (none, tt); after = start_v } }

  -- before the commit, where the log doesn't reach it
  grown : alteration_of table v.altered ≡ None → top < v.lsn.0 → Aged records high → AgedIn front records high
  grown none lt aged =
      table_in_longer_courses identity infos W earlier (v ∷ []) start table high records front_valid (none, tt) (start_v, tt) (just.before, tt)
      (all_weaker (λ (item : Record). item.position < v.lsn.0) (λ (item : Record). AllByRecursion (λ w. item.position < w.lsn.0) (v ∷ [])) (λ item less. (less, tt)) records (each_below high v.lsn.0 records lt))
      (opened records high earlier (to_before top top_le lt) aged)

  -- ---- its records

  all_at : (n : ℕ) → AllByRecursion (λ item. item.position ≡ v.lsn.0) (take n (envelopes identity v.infos (plain_commit v) now))
  all_at n = all_take (λ item. item.position ≡ v.lsn.0) n (envelopes identity v.infos (plain_commit v) now) (printed_at identity (plain_commit v) now v.lsn.0 0 (flat_map (notices v.infos) (changes_of (plain_commit v))))

  silent : (rows : List RawRow) → alteration_of table v.altered ≡ Some rows → changes_of (plain_commit v) ≡ []
  silent rows is = let before = follows_at infos earlier v later valid.follow in silent_of before.0 v v.altered table rows before.1 is

  no_envelopes : (rows : List RawRow) → alteration_of table v.altered ≡ Some rows → envelopes identity v.infos (plain_commit v) now ≡ []
  no_envelopes rows is = ap (λ (l : List Change). map (print identity (plain_commit v) now) (numbered v.lsn.0 0 (flat_map (notices v.infos) l))) (silent rows is)

  unaltered_by : (n : ℕ) (item : Record) (more : List Record) → take n (envelopes identity v.infos (plain_commit v) now) ≡ item ∷ more → alteration_of table v.altered ≡ None
  unaltered_by n item more is = by (alteration_of table v.altered) refl
    where
      none_taken : (k : ℕ) → take {A = Record} k [] ≡ []
      none_taken zero = refl
      none_taken (suc k) = refl

      by : (o : Option (List RawRow)) → alteration_of table v.altered ≡ o → alteration_of table v.altered ≡ None
      by None at = at
      by (Some rows) at = let gone : [] ≡ item ∷ more = sym (ap (take n) (no_envelopes rows at) ∙ none_taken n) ∙ is in cc

  parts_high : (n : ℕ) (item : Record) (more : List Record) → take n (envelopes identity v.infos (plain_commit v) now) ≡ item ∷ more
      → first_found (notice_clash identity.placeholder) (take n (flat_map (notices v.infos) (changes_of (plain_commit v)))) ≡ None → Aged records high → Aged (records ++ take n (envelopes identity v.infos (plain_commit v) now)) high
  parts_high n item more is clear aged = elim (cases_lt top v.lsn.0) [
    | inl lt ↦ (
        let items : List Record = take n (envelopes identity v.infos (plain_commit v) now) in
        let none = unaltered_by n item more is in
        closed (records ++ items) high front (ap (λ (q : ℕ). versions_to q W) (last_is ∙ max_right_is top v.lsn.0 (le_of top v.lsn.0 lt)) ∙ to_v)
        (parts_keep_table identity infos W front start table earlier v [] high records now n (front_in none) just in_time clear (grown none lt aged)))
    | inr ge ↦ (
        let items : List Record = take n (envelopes identity v.infos (plain_commit v) now) in
        let none = unaltered_by n item more is in
        let shown : List Versioned = earlier ++ v ∷ versions_to top later in
        let here : AgedIn shown records high = opened records high shown (to_since top ge) aged in
        closed (records ++ items) high shown (ap (λ (q : ℕ). versions_to q W) (last_is ∙ max_left_is top v.lsn.0 ge) ∙ to_since top ge)
        (elim (cases_lt v.lsn.0 (course_of infos start table shown).start) [
          | inl early ↦ repeat_parts_keep_table identity infos W shown start table earlier v later high records now n valid refl (shown_valid top) just in_time (inl early) here
          | inr late ↦ parts_keep_table identity infos W shown start table earlier v (versions_to top later) high records now n (in_course top none late) just in_time clear here
        ]))
  ]
    where
      max_left_is : (a b : ℕ) → b ≤ a → max a b ≡ a
      max_left_is a b le = omega (arith, le)

      last_is : last_position high (records ++ take n (envelopes identity v.infos (plain_commit v) now)) ≡ max top v.lsn.0
      last_is =
          ap (λ (l : List Record). last_position high (records ++ l)) is
          ∙ last_more high v.lsn.0 records item more (subst (AllByRecursion (λ x. x.position ≡ v.lsn.0)) is (all_at n))

  -- from an earlier position, where some record of the commit is there
  back : (position : ℕ) (item : Record) (more : List Record) → position ≤ high → AllByRecursion (λ x. x.position ≡ v.lsn.0) (item ∷ more) → Aged (records ++ item ∷ more) high → Aged (records ++ item ∷ more) position
  back position item more le at aged =
      let items : List Record = records ++ item ∷ more in
      let q : ℕ = last_position high items in
      let c : Course = course infos W start table q in
      let same : last_position position items ≡ q =
      same_last (last_position position items) q (last_position position records) top v.lsn.0 high (last_more position v.lsn.0 records item more at) (last_more high v.lsn.0 records item more at) (last_up high position records le) just.before in
      let past : high < (place_of item).0 = lt_is high v.lsn.0 item.position just.before at.0 in
      let far : position_moment W high ≤ version_span_end W items (position_moment W position) =
      le_trans (position_moment W high) (version_moment W (place_of item)) (version_span_end W items (position_moment W position)) (version_past W high (place_of item) past) (span_item W (position_moment W position) records item more) in
      subst (λ (p : ℕ). IsTableAged identity (course infos W start table p) W items position table) (sym same)
      (table_goes_back identity c W items position high table le (reach c (cases_lt c.start v.lsn.0)) far aged)
    where
      same_last : (a b x t w h : ℕ) → a ≡ max x w → b ≡ max t w → t ≡ max h x → h < w → a ≡ b
      same_last a b x t w h one two three lt = omega (arith, one, two, three, lt)

      lt_is : (a b x : ℕ) → a < b → x ≡ b → a < x
      lt_is a b x lt is = omega (arith, lt, is)

      reach : (c : Course) → (c.start < v.lsn.0) ⊎ (v.lsn.0 ≤ c.start) → own_from c high ≤ own_span_end c (records ++ item ∷ more) (own_from c position)
      reach c (inl lt) =
          let late : AllByRecursion (λ x. c.start ≤ x.position) (item ∷ more) = late_items c.start v.lsn.0 (item ∷ more) (le_of c.start v.lsn.0 lt) at in
          let kept : since c.start (records ++ item ∷ more) ≡ since c.start records ++ item ∷ more = appended c.start records (item ∷ more) late in
          let there : own_from c high ≤ record_moment c.infos c.commits item =
          place_past c.infos c.commits (max high c.start) (place_of item) (lt_is (max high c.start) v.lsn.0 item.position (both_below high c.start v.lsn.0 just.before lt) at.0) in
          let last : record_moment c.infos c.commits item ≤ last_moment c.infos c.commits (course_start c) (since c.start (records ++ item ∷ more)) =
          subst (λ (l : List Record). record_moment c.infos c.commits item ≤ last_moment c.infos c.commits (course_start c) l) (sym kept) (reach_item c.infos c.commits (course_start c) (since c.start records) item more) in
          right_le (own_from c high) (record_moment c.infos c.commits item) (own_from c position) (last_moment c.infos c.commits (course_start c) (since c.start (records ++ item ∷ more))) there last
        where
          right_le : (a b f l : ℕ) → a ≤ b → b ≤ l → a ≤ max f l
          right_le a b f l one two = omega (arith, one, two)
      reach c (inr ge) =
          let high_is : own_from c high ≡ course_start c = ap (moment_at c.commits) (max_right_is high c.start (le_trans high v.lsn.0 c.start (le_of high v.lsn.0 just.before) ge)) in
          let low_is : own_from c position ≡ course_start c = ap (moment_at c.commits) (max_right_is position c.start (le_trans position high c.start le (le_trans high v.lsn.0 c.start (le_of high v.lsn.0 just.before) ge))) in
          left_is (own_from c high) (course_start c) (own_from c position) (last_moment c.infos c.commits (course_start c) (since c.start (records ++ item ∷ more))) high_is low_is
        where
          left_is : (a b f l : ℕ) → a ≡ b → f ≡ b → a ≤ max f l
          left_is a b f l one two = omega (arith, one, two)

  parts_at : (position n : ℕ) → position ≤ high → first_found (notice_clash identity.placeholder) (take n (flat_map (notices v.infos) (changes_of (plain_commit v)))) ≡ None
      → Aged records position → Aged records high → Aged (records ++ take n (envelopes identity v.infos (plain_commit v) now)) position
  parts_at position n le clear own aged = by (take n (envelopes identity v.infos (plain_commit v) now)) refl
    where
      by : (items : List Record) → take n (envelopes identity v.infos (plain_commit v) now) ≡ items → Aged (records ++ take n (envelopes identity v.infos (plain_commit v) now)) position
      by [] is = subst (λ (l : List Record). Aged l position) (sym (ap (λ (l : List Record). records ++ l) is ∙ append-nil records)) own
      by (item ∷ more) is =
          subst (λ (l : List Record). Aged (records ++ l) position) (sym is)
          (back position item more le (subst (AllByRecursion (λ x. x.position ≡ v.lsn.0)) is (all_at n)) (subst (λ (l : List Record). Aged (records ++ l) high) is (parts_high n item more is clear aged)))

  -- all of them, from the commit on
  commit_at : clash_of identity v.infos (plain_commit v) ≡ None → Aged records high → Aged (records ++ envelopes identity v.infos (plain_commit v) now) v.lsn.0
  commit_at clear aged = elim (cases_lt top v.lsn.0) [
    | inl lt ↦ closed (records ++ all) v.lsn.0 front (ap (λ (q : ℕ). versions_to q W) (last_is ∙ max_left_is v.lsn.0 top (le_of top v.lsn.0 lt)) ∙ to_v) (fresh lt (alteration_of table v.altered) refl)
    | inr ge ↦ (
        let shown : List Versioned = earlier ++ v ∷ versions_to top later in
        closed (records ++ all) v.lsn.0 shown (ap (λ (q : ℕ). versions_to q W) (last_is ∙ max_right_is v.lsn.0 top ge) ∙ to_since top ge)
        (again ge (opened records high shown (to_since top ge) aged) (cases_lt v.lsn.0 (course_of infos start table shown).start) (alteration_of table v.altered) refl))
  ]
    where
      all : List Record
      all = envelopes identity v.infos (plain_commit v) now

      max_left_is : (a b : ℕ) → b ≤ a → max a b ≡ a
      max_left_is a b le = omega (arith, le)

      last_is : last_position v.lsn.0 (records ++ envelopes identity v.infos (plain_commit v) now) ≡ max v.lsn.0 top
      last_is =
          last_append v.lsn.0 records (envelopes identity v.infos (plain_commit v) now)
          ∙ (last_none (last_position v.lsn.0 records) v.lsn.0 (envelopes identity v.infos (plain_commit v) now) (printed_at identity (plain_commit v) now v.lsn.0 0 (flat_map (notices v.infos) (changes_of (plain_commit v)))) (last_le v.lsn.0 records)
          ∙ last_up v.lsn.0 high records (le_of high v.lsn.0 just.before))

      fresh : top < v.lsn.0 → (o : Option (List RawRow)) → alteration_of table v.altered ≡ o → AgedIn front (records ++ envelopes identity v.infos (plain_commit v) now) v.lsn.0
      fresh lt None is = commits_move_table identity infos W front start table earlier v [] high records now (front_in is) just in_time clear (grown is lt aged)
      fresh lt (Some rows) is =
          subst (λ (l : List Record). AgedIn front l v.lsn.0) (sym (ap (λ (l : List Record). records ++ l) (no_envelopes rows is) ∙ append-nil records))
          (alterations_move_table identity infos W start table earlier v later rows high records valid refl just is start_v (each_below high v.lsn.0 records lt) (opened records high earlier (to_before top top_le lt) aged))

      again : (ge : v.lsn.0 ≤ top) → AgedIn (earlier ++ v ∷ versions_to top later) records high
          → (v.lsn.0 < (course_of infos start table (earlier ++ v ∷ versions_to top later)).start) ⊎ ((course_of infos start table (earlier ++ v ∷ versions_to top later)).start ≤ v.lsn.0)
          → (o : Option (List RawRow)) → alteration_of table v.altered ≡ o → AgedIn (earlier ++ v ∷ versions_to top later) (records ++ envelopes identity v.infos (plain_commit v) now) v.lsn.0
      again ge here (inl early) o is = repeats_move_table identity infos W (earlier ++ v ∷ versions_to top later) start table earlier v later high records now valid refl (shown_valid top) just in_time (inl early) here
      again ge here (inr late) None is = commits_move_table identity infos W (earlier ++ v ∷ versions_to top later) start table earlier v (versions_to top later) high records now (in_course top is late) just in_time clear here
      again ge here (inr late) (Some rows) is =
          let old : Course = course_of infos start table earlier in
          let at : Course = course_of infos start table front in
          let at_is : at ≡ course_by table old v (Some rows) = fold-append (course_after table) (first_course infos start) earlier (v ∷ []) ∙ ap (course_by table old v) is in
          let begun : v.lsn.0 ≤ at.start = subst (λ (c : Course). v.lsn.0 ≤ c.start) (sym at_is) (right_most old.start v.lsn.0) in
          let more : at.start ≤ (course_of infos start table (earlier ++ v ∷ versions_to top later)).start =
          subst (λ (c : Course). at.start ≤ c.start) (sym (shown_course top)) (starts_later table at (versions_to top later)) in
          let same : v.lsn.0 ≡ (course_of infos start table (earlier ++ v ∷ versions_to top later)).start = omega (arith, late, begun, more) in
          repeats_move_table identity infos W (earlier ++ v ∷ versions_to top later) start table earlier v later high records now valid refl (shown_valid top) just in_time (inr (same, silent rows is)) here
        where
          right_most : (a b : ℕ) → b ≤ max a b
          right_most a b = omega arith

-- ---- positions at which an offset may be

all_get : (P : ℕ → Type 0) (xs : List ℕ) (i x : ℕ) → AllByRecursion P xs → slice_get xs i ≡ Some x → P x
all_get P [] i x all at = cc
all_get P (y ∷ xs) zero x all at = let same : y ≡ x = cc in subst P same all.0
all_get P (y ∷ xs) (suc i) x all at = all_get P xs i x all.1 at

lsns_all : (P : ℕ → Type 0) (vs : List Versioned) → AllByRecursion (λ v. P v.lsn.0) vs → AllByRecursion P (map (λ v. v.lsn.0) vs)
lsns_all P [] all = tt
lsns_all P (v ∷ vs) all = (all.0, lsns_all P vs all.1)

all_both : (P : Versioned → Type 0) (xs ys : List Versioned) → AllByRecursion P xs → AllByRecursion P ys → AllByRecursion P (xs ++ ys)
all_both P [] ys one two = two
all_both P (x ∷ xs) ys one two = (one.0, all_both P xs ys one.1 two)

-- none is between a position just before a commit and the commit's own
lsn_next : (high position : ℕ) (earlier : List Versioned) (v : Versioned) (later : List Versioned) → IsJustBefore high earlier v → AreRising v.lsn.0 (lsns (map plain_commit later)) → IsLsnOf (earlier ++ v ∷ later) position → high < position → position ≤ v.lsn.0 → position ≡ v.lsn.0
lsn_next high position earlier v later just rise is lt le =
    let all : AllByRecursion (λ w. (w.lsn.0 ≤ high) ⊎ (v.lsn.0 ≤ w.lsn.0)) (earlier ++ v ∷ later) =
    all_both (λ w. (w.lsn.0 ≤ high) ⊎ (v.lsn.0 ≤ w.lsn.0)) earlier (v ∷ later)
    (all_weaker (λ (w : Versioned). w.lsn.0 ≤ high) (λ (w : Versioned). (w.lsn.0 ≤ high) ⊎ (v.lsn.0 ≤ w.lsn.0)) (λ w less. inl less) earlier just.upto)
    (inr (omega arith), all_weaker (λ (w : Versioned). v.lsn.0 < w.lsn.0) (λ (w : Versioned). (w.lsn.0 ≤ high) ⊎ (v.lsn.0 ≤ w.lsn.0)) (λ w less. inr (le_of v.lsn.0 w.lsn.0 less)) later (past_all v.lsn.0 v.lsn.0 later (omega arith) rise)) in
    by (all_get (λ l. (l ≤ high) ⊎ (v.lsn.0 ≤ l)) (map (λ w. w.lsn.0) (earlier ++ v ∷ later)) is.0 position (lsns_all (λ l. (l ≤ high) ⊎ (v.lsn.0 ≤ l)) (earlier ++ v ∷ later) all) is.1)
  where
    by : (position ≤ high) ⊎ (v.lsn.0 ≤ position) → position ≡ v.lsn.0
    by (inl less) = absurd (omega (arith, lt, less))
    by (inr more) = omega (arith, le, more)

lsn_front : (high position : ℕ) (xs more : List Versioned) → AllByRecursion (λ v. high < v.lsn.0) more → position ≤ high → IsLsnOf (xs ++ more) position → IsLsnOf xs position
lsn_front high position [] more past le is =
    absurd (omega (arith, le, all_get (λ l. high < l) (map (λ v. v.lsn.0) more) is.0 position (lsns_all (λ l. high < l) more past) is.1))
lsn_front high position (x ∷ xs) more past le (zero, is) = (0, is)
lsn_front high position (x ∷ xs) more past le (suc i, is) = let there = lsn_front high position xs more past le (i, is) in (suc there.0, there.1)

-- ---- the laws

numbered_size : (position ordinal : ℕ) (ns : List Notice) → length (numbered position ordinal ns) ≡ length ns
numbered_size position ordinal [] = refl
numbered_size position ordinal (n ∷ ns) = ap suc (numbered_size position (ordinal + 1) ns)

envelopes_few : (identity : Identity) (infos : List TableInfo) (commit : Commit) (now : ℤ) → length (envelopes identity infos commit now) ≤ length (flat_map (notices infos) (changes_of commit))
envelopes_few identity infos commit now =
    let one : length (envelopes identity infos commit now) ≡ length (numbered commit.lsn.0 0 (flat_map (notices infos) (changes_of commit))) = length-map (numbered commit.lsn.0 0 (flat_map (notices infos) (changes_of commit))) (print identity commit now) in
    let two : length (numbered commit.lsn.0 0 (flat_map (notices infos) (changes_of commit))) ≡ length (flat_map (notices infos) (changes_of commit)) = numbered_size commit.lsn.0 0 (flat_map (notices infos) (changes_of commit)) in
    omega (arith, one, two)

pub empty_aged : EmptyLogsAreAged
empty_aged identity infos versions start valid table position at low high =
    let same : position ≡ start = omega (arith, low, high) in
    subst (λ (p : ℕ). IsAgedFrom identity infos versions start [] p table) (sym same)
    (let c : Course = course infos versions start table start in
    let begins : start ≤ c.start = starts_later table (first_course infos start) (versions_to start versions) in
    let from_is : own_from c start ≡ course_start c = ap (moment_at c.commits) (max_right_is start c.start begins) in
    record {
      own = subst (λ (m : ℕ). IsOwnAged identity c [] m table) (sym from_is) (aged_none identity c [] table refl);
      same = subst (λ (m : ℕ). HasSameCells identity c [] m table) (sym from_is) (same_none identity c [] table refl);
      there = λ topic text key names some. cc;
    })

pub parts_between : PartsOfCommitsKeepAgesBetween
parts_between identity infos versions start low high earlier v later records now n valid spelled just start_low low_high ends in_time clear aged =
    subst (λ (l : List Versioned). AreAgedBetween identity infos l start (records ++ take n (envelopes identity v.infos (plain_commit v) now)) low high) (sym spelled)
    (λ table position at above below.
    parts_at identity infos start low high earlier v later (subst (AreFitVersions infos) spelled valid) just start_low low_high now in_time table records position n below clear
    (here table position at above below) (here table high (subst (λ (l : List Versioned). (high ≡ low) ⊎ IsLsnOf l high) spelled ends) low_high (omega arith)))
  where
    here : AreAgedBetween identity infos (earlier ++ v ∷ later) start records low high
    here = subst (λ (l : List Versioned). AreAgedBetween identity infos l start records low high) spelled aged

pub commits_between : CommitsMoveAgesBetween
commits_between identity infos versions start low high earlier v later records now valid spelled just start_low low_high ends in_time clear aged =
    subst (λ (l : List Versioned). AreAgedBetween identity infos l start (records ++ all) low v.lsn.0) (sym spelled)
    (λ table position at above below. by table position at above below (cases_lt high position))
  where
    all : List Record
    all = envelopes identity v.infos (plain_commit v) now

    whole_valid : AreFitVersions infos (earlier ++ v ∷ later)
    whole_valid = subst (AreFitVersions infos) spelled valid

    here : AreAgedBetween identity infos (earlier ++ v ∷ later) start records low high
    here = subst (λ (l : List Versioned). AreAgedBetween identity infos l start records low high) spelled aged

    last : (table : ℕ) → IsAgedFrom identity infos (earlier ++ v ∷ later) start records high table
    last table = here table high (subst (λ (l : List Versioned). (high ≡ low) ⊎ IsLsnOf l high) spelled ends) low_high (omega arith)

    rise_later : AreRising v.lsn.0 (lsns (map plain_commit later))
    rise_later = (rising_end 0 (lsns (map plain_commit earlier)) (lsns (map plain_commit (v ∷ later))) (subst (AreRising 0) (lsns_append earlier (v ∷ later)) whole_valid.rise)).1

    whole_clear : first_found (notice_clash identity.placeholder) (take (length (flat_map (notices v.infos) (changes_of (plain_commit v)))) (flat_map (notices v.infos) (changes_of (plain_commit v)))) ≡ None
    whole_clear = ap (first_found (notice_clash identity.placeholder)) (take_all (length (flat_map (notices v.infos) (changes_of (plain_commit v)))) (flat_map (notices v.infos) (changes_of (plain_commit v))) (omega arith)) ∙ clear

    by : (table position : ℕ) → (position ≡ low) ⊎ IsLsnOf (earlier ++ v ∷ later) position → low ≤ position → position ≤ v.lsn.0 → (high < position) ⊎ (position ≤ high) → IsAgedFrom identity infos (earlier ++ v ∷ later) start (records ++ envelopes identity v.infos (plain_commit v) now) position table
    by table position at above below (inr le) =
        let n : ℕ = length (flat_map (notices v.infos) (changes_of (plain_commit v))) in
        let size : length (envelopes identity v.infos (plain_commit v) now) ≤ n = envelopes_few identity v.infos (plain_commit v) now in
        subst (λ (l : List Record). IsAgedFrom identity infos (earlier ++ v ∷ later) start (records ++ l) position table) (take_all n (envelopes identity v.infos (plain_commit v) now) size)
        (parts_at identity infos start low high earlier v later whole_valid just start_low low_high now in_time table records position n le whole_clear (here table position at above le) (last table))
    by table position (inl first) above below (inl lt) = absurd (omega (arith, first, low_high, lt))
    by table position (inr is) above below (inl lt) =
        let same : position ≡ v.lsn.0 = lsn_next high position earlier v later just rise_later is lt below in
        subst (λ (p : ℕ). IsAgedFrom identity infos (earlier ++ v ∷ later) start (records ++ envelopes identity v.infos (plain_commit v) now) p table) (sym same)
        (commit_at identity infos start low high earlier v later whole_valid just start_low low_high now in_time table records clear (last table))

last_below : (position : ℕ) (records : List Record) (more : List Versioned) → AllByRecursion (λ v. position < v.lsn.0) more → AllByRecursion (λ item. AllByRecursion (λ v. item.position < v.lsn.0) more) records
    → AllByRecursion (λ v. last_position position records < v.lsn.0) more
last_below position [] more past above = past
last_below position (item ∷ records) more past above = last_below (max position item.position) records more (both position item.position more past above.0) above.1
  where
    both : (a b : ℕ) (vs : List Versioned) → AllByRecursion (λ v. a < v.lsn.0) vs → AllByRecursion (λ v. b < v.lsn.0) vs → AllByRecursion (λ v. max a b < v.lsn.0) vs
    both a b [] one two = tt
    both a b (v ∷ vs) one two = (both_below a b v.lsn.0 one.0 two.0, both a b vs one.1 two.1)

pub histories_between : AgesBetweenStayAsHistoriesGrow
histories_between identity infos versions more start low high records valid past above aged table position at lower upper =
    let here : (position ≡ low) ⊎ IsLsnOf versions position = old at in
    let past_position : AllByRecursion (λ v. position < v.lsn.0) more = all_weaker (λ (v : Versioned). high < v.lsn.0) (λ (v : Versioned). position < v.lsn.0) (λ v less. le_lt position high v.lsn.0 upper less) more past in
    let q : ℕ = last_position position records in
    let same : versions_to q (versions ++ more) ≡ versions_to q versions =
    to_append q versions more ∙ (ap (λ (l : List Versioned). versions_to q versions ++ l) (none_to q more (last_below position records more past_position above)) ∙ append-nil (versions_to q versions)) in
    subst (λ (l : List Versioned). IsTableAged identity (course_of infos start table l) (versions ++ more) records position table) (sym same)
    (table_in_longer_histories identity infos (course infos versions start table q) versions more position table records valid past_position above (aged table position here lower upper))
  where
    old : (position ≡ low) ⊎ IsLsnOf (versions ++ more) position → (position ≡ low) ⊎ IsLsnOf versions position
    old (inl first) = inl first
    old (inr is) = inr (lsn_front high position versions more past upper is)
