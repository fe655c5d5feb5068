-- Windows and progress where tables may be altered.
use Rattle.std.proofs.Common.{◌≡◌, ◌∙◌, inl, inr, ℕ, suc, ◌+◌, ◌≤◌, ◌<◌, max, Bool, true, false, Option, Some, None, List, [], ◌∷◌, ◌++◌, fold, length, map, refl, sym, ap, subst, arith, append_assoc}
use Rattle.std.proofs.lemmas.Bool.{cases_lt}
use Rattle.std.proofs.lemmas.Bool.Decides.{nat_tests}
use Rattle.std.proofs.lemmas.List.{take_all}
use Rattle.std.proofs.lemmas.List.Elements.{Contains-append_right}
use Rattle.std.specs.Prelude.{nat_le, if◌then◌else◌, is_some, Contains}
use Rattle.std.specs.List.{AllByRecursion}
use Rattle.dbl_record.specs.declared.record.Record.{Record}
use Rattle.dbl_model_table.specs.declared.row.Key.{Key}
use Rattle.dbl_model_table.specs.declared.row.Row.{Row}
use Rattle.dbl_model_table.specs.declared.table.RawRow.{RawRow}
use Rattle.dbl_model_table.specs.declared.table.TableInfo.{TableInfo}
use Rattle.dbl_model_table.specs.declared.change.Change.{Change}
use Rattle.dbl_model_table.specs.Rows.{Rows, no_rows, rows_from, rows, changes_of, all_changes}
use Rattle.dbl_model_history.specs.History.{AreRising}
use Rattle.dbl_model_history.proofs.MomentLemmas.{lsns}
use Rattle.dbl_model_history.proofs.RowLemmas.{rows_from-append}
use Rattle.dbl_consume_laws.specs.Commits.{moment_after}
use Rattle.dbl_consume_courses.specs.Versions.{Alteration, Versioned, plain_commit, FollowsInfos, AreVersionsFrom, altered_rows, rows_through, version_rows, versions_to}
use Rattle.dbl_consume_courses.specs.Courses.{Course, alteration_of, course_by, course_after, course_from, first_course, course, AreUnaltered}
use Rattle.dbl_consume_courses.specs.Since.{since}
use Rattle.dbl_consume_courses.specs.FitVersions.{AreFitVersions}
use Rattle.dbl_consume_courses.specs.PlainAges.{ArePlain}
use Rattle.dbl_consume_courses.specs.VersionStores.{WindowsAreOfCourses, PlainVersionsHavePlainRows, alterations_of, version_to, CursorsAreOfCourses, UnalteredTablesHaveVersionOne}
use Rattle.dbl_consume_courses.proofs.SinceLemmas.{appended}
use Rattle.dbl_consume_courses.proofs.CourseLemmas.{shows_rows}
use Rattle.dbl_consume_courses.proofs.FitLemmas.{rising_end}
use Rattle.dbl_consume_courses.proofs.Alone.{all_weaker}
use Rattle.dbl_consume_courses.proofs.GrowthLemmas.{lsns_append, rises_in, follow_left}
use Rattle.dbl_consume_courses.proofs.Positions.{le_of, le_is, le_trans, upto_is, past_is, of_lsns, all_end, past_all}

-- ---- commits up to a position

pub none_to : (position : ℕ) (vs : List Versioned) → AllByRecursion (λ v. position < v.lsn.0) vs → versions_to position vs ≡ []
none_to position [] past = refl
none_to position (v ∷ vs) past =
    ap (λ (b : Bool). if b then v ∷ versions_to position vs else versions_to position vs) (past_is v.lsn.0 position past.0) ∙ none_to position vs past.1

pub all_to : (position : ℕ) (front later : List Versioned) → AllByRecursion (λ v. v.lsn.0 ≤ position) front → AllByRecursion (λ v. position < v.lsn.0) later → versions_to position (front ++ later) ≡ front
all_to position [] later upto past = none_to position later past
all_to position (v ∷ front) later upto past =
    ap (λ (b : Bool). if b then v ∷ versions_to position (front ++ later) else versions_to position (front ++ later)) (upto_is v.lsn.0 position upto.0)
    ∙ ap (λ (l : List Versioned). v ∷ l) (all_to position front later upto.1 past)

-- ---- windows

pub windows_are : WindowsAreOfCourses
windows_are identity infos versions start position records valid w =
    let table : ℕ = w.closed.table in
    let front : List Versioned = w.before ++ w.mark ∷ [] in
    let whole : AreFitVersions infos (w.before ++ w.mark ∷ w.later) = subst (AreFitVersions infos) w.spelled valid in
    let rise : AreRising 0 (lsns (map plain_commit w.before) ++ lsns (map plain_commit (w.mark ∷ w.later))) = subst (AreRising 0) (lsns_append w.before (w.mark ∷ w.later)) whole.rise in
    let rise_later = (rising_end 0 (lsns (map plain_commit w.before)) (lsns (map plain_commit (w.mark ∷ w.later))) rise).1 in
    let below : AllByRecursion (λ e. e.lsn.0 < w.mark.lsn.0) w.before = of_lsns (λ l. l < w.mark.lsn.0) w.before (rises_in 0 (lsns (map plain_commit w.before)) w.mark.lsn.0 (lsns (map plain_commit w.later)) rise) in
    let at : w.mark.lsn.0 ≤ position = le_is w.mark.lsn.0 position w.position_is in
    let upto : AllByRecursion (λ e. e.lsn.0 ≤ position) front =
    all_end (λ e. e.lsn.0 ≤ position) w.before w.mark (all_weaker (λ (e : Versioned). e.lsn.0 < w.mark.lsn.0) (λ (e : Versioned). e.lsn.0 ≤ position) (λ e lt. le_trans e.lsn.0 w.mark.lsn.0 position (le_of e.lsn.0 w.mark.lsn.0 lt) at) w.before below) at in
    let past : AllByRecursion (λ e. position < e.lsn.0) w.later = past_all w.mark.lsn.0 position w.later (le_is position w.mark.lsn.0 (sym w.position_is)) rise_later in
    let to_is : versions_to position versions ≡ front =
    ap (versions_to position) (w.spelled ∙ sym (append_assoc w.before (w.mark ∷ []) w.later)) ∙ all_to position front w.later upto past in
    let follow : AreVersionsFrom infos front = follow_left infos front w.later (subst (AreVersionsFrom infos) (sym (append_assoc w.before (w.mark ∷ []) w.later)) whole.follow) in
    all_weaker (λ (entry : Key × Row). version_rows front table entry.0 ≡ Some entry.1.cells)
    (λ (entry : Key × Row). rows (course infos versions start table position).infos (course infos versions start table position).commits (moment_after (course infos versions start table position).commits) table entry.0 ≡ Some entry.1.cells)
    (λ entry right. subst (λ (l : List Versioned). rows (course_from table (first_course infos start) l).infos (course_from table (first_course infos start) l).commits (moment_after (course_from table (first_course infos start) l).commits) table entry.0 ≡ Some entry.1.cells) (sym to_is)
    (shows_rows infos front start table entry.0 follow ∙ right)) w.closed.rows w.right

plain_from : (infos : List TableInfo) (at : Rows) (versions : List Versioned) → AreVersionsFrom infos versions → ArePlain versions → fold rows_through at versions ≡ rows_from infos at (all_changes (map plain_commit versions))
plain_from infos at [] follow plain = refl
plain_from infos at (v ∷ versions) follow plain =
    let same : v.infos ≡ infos = subst (FollowsInfos infos v) plain.0 follow.0 in
    let one : rows_through at v ≡ rows_from infos at (changes_of (plain_commit v)) =
    ap (λ (o : Option Alteration). altered_rows v.infos o (rows_from v.infos at (changes_of (plain_commit v)))) plain.0 ∙ ap (λ (l : List TableInfo). rows_from l at (changes_of (plain_commit v))) same in
    ap (λ (r : Rows). fold rows_through r versions) one
    ∙ (plain_from infos (rows_from infos at (changes_of (plain_commit v))) versions (subst (λ (l : List TableInfo). AreVersionsFrom l versions) same follow.1) plain.1
    ∙ sym (rows_from-append infos at (changes_of (plain_commit v)) (all_changes (map plain_commit versions))))

pub plain_rows_are : PlainVersionsHavePlainRows
plain_rows_are infos versions table key valid plain =
    let cs : List Change = all_changes (map plain_commit versions) in
    ap (λ (r : Rows). r table key) (plain_from infos no_rows versions valid.follow plain)
    ∙ ap (λ (l : List Change). rows_from infos no_rows l table key) (sym (take_all (length cs) cs (omega arith)))

-- ---- versions

le_imp : (x a b : ℕ) → a ≤ b → nat_le x a ≡ true → nat_le x b ≡ true
le_imp x a b le is = grind (arith, nat_tests)

module _ (table : ℕ) where
  abbrev alters : Versioned → Bool
  alters v = is_some (alteration_of table v.altered)

  abbrev count : ℕ → List Versioned → ℕ
  count position vs = alterations_of table (versions_to position vs)

  -- the number with one commit more
  abbrev counted : Bool → Bool → ℕ → ℕ
  counted x z n = if x then (if z then suc n else n) else n

  count_next : (position : ℕ) (v : Versioned) (vs : List Versioned) → count position (v ∷ vs) ≡ counted (nat_le v.lsn.0 position) (alters v) (count position vs)
  count_next position v vs = by (nat_le v.lsn.0 position)
    where
      by : (b : Bool) → alterations_of table (if b then v ∷ versions_to position vs else versions_to position vs) ≡ counted b (alters v) (count position vs)
      by true = refl
      by false = refl

  counted_le : (x y z : Bool) (a b : ℕ) → a ≤ b → (x ≡ true → y ≡ true) → counted x z a ≤ counted y z b
  counted_le true true true a b le so = omega (arith, le)
  counted_le true true false a b le so = le
  counted_le true false z a b le so = let no : false ≡ true = so refl in cc
  counted_le false true true a b le so = omega (arith, le)
  counted_le false true false a b le so = le
  counted_le false false z a b le so = le

  counted_same : (x y z : Bool) (a b : ℕ) → a ≤ b → (x ≡ true → y ≡ true) → counted x z a ≡ counted y z b → (a ≡ b) × (x ≡ false → y ≡ true → z ≡ false)
  counted_same true true true a b le so same = (omega (arith, same), λ no yes. cc)
  counted_same true true false a b le so same = (same, λ no yes. cc)
  counted_same true false z a b le so same = let no : false ≡ true = so refl in cc
  counted_same false true true a b le so same = absurd (omega (arith, le, same))
  counted_same false true false a b le so same = (same, λ no yes. refl)
  counted_same false false z a b le so same = (same, λ no yes. cc)

  count_le : (q lsn : ℕ) (vs : List Versioned) → q ≤ lsn → count q vs ≤ count lsn vs
  count_le q lsn [] le = omega arith
  count_le q lsn (v ∷ vs) le =
      subst (λ (n : ℕ). n ≤ count lsn (v ∷ vs)) (sym (count_next q v vs))
      (subst (λ (n : ℕ). counted (nat_le v.lsn.0 q) (alters v) (count q vs) ≤ n) (sym (count_next lsn v vs))
      (counted_le (nat_le v.lsn.0 q) (nat_le v.lsn.0 lsn) (alters v) (count q vs) (count lsn vs) (count_le q lsn vs le) (le_imp v.lsn.0 q lsn le)))

  -- a course begins at no alteration after a position from which its table's version stays
  start_upto : (q lsn : ℕ) (old : Course) (vs : List Versioned) → q ≤ lsn → old.start ≤ q → count q vs ≡ count lsn vs → (course_from table old (versions_to lsn vs)).start ≤ q
  start_upto q lsn old [] le begins same = begins
  start_upto q lsn old (v ∷ vs) le begins same = by (λ (o : Course) (first : o.start ≤ q). start_upto q lsn o vs le first parts.0) (nat_le v.lsn.0 lsn) refl
    where
      parts : (count q vs ≡ count lsn vs) × (nat_le v.lsn.0 q ≡ false → nat_le v.lsn.0 lsn ≡ true → alters v ≡ false)
      parts = counted_same (nat_le v.lsn.0 q) (nat_le v.lsn.0 lsn) (alters v) (count q vs) (count lsn vs) (count_le q lsn vs le) (le_imp v.lsn.0 q lsn le) (sym (count_next q v vs) ∙ (same ∙ count_next lsn v vs))

      after : (nat_le v.lsn.0 lsn ≡ true) → (o : Option (List RawRow)) → alteration_of table v.altered ≡ o → (course_by table old v o).start ≤ q
      after in_it None is = begins
      after in_it (Some rows) is = elim (cases_lt q v.lsn.0) [
        | inl lt ↦ (
            let none : alters v ≡ false = parts.1 (past_is v.lsn.0 q lt) in_it in
            let some : alters v ≡ true = ap (λ (o : Option (List RawRow)). is_some o) is in
            let no : true ≡ false = sym some ∙ none in
            cc)
        | inr upto ↦ max_upto old.start v.lsn.0 q begins upto
      ]
        where
          max_upto : (a b n : ℕ) → a ≤ n → b ≤ n → max a b ≤ n
          max_upto a b n one two = omega (arith, one, two)

      by : ((o : Course) → o.start ≤ q → (course_from table o (versions_to lsn vs)).start ≤ q) → (b : Bool) → nat_le v.lsn.0 lsn ≡ b → (course_from table old (versions_to lsn (v ∷ vs))).start ≤ q
      by rest true is =
          subst (λ (l : List Versioned). (course_from table old l).start ≤ q) (sym (ap (λ (b : Bool). if b then v ∷ versions_to lsn vs else versions_to lsn vs) is))
          (rest (course_after table old v) (after is (alteration_of table v.altered) refl))
      by rest false is =
          subst (λ (l : List Versioned). (course_from table old l).start ≤ q) (sym (ap (λ (b : Bool). if b then v ∷ versions_to lsn vs else versions_to lsn vs) is))
          (rest old begins)

first_item : (item : Record) (later : List Record) → Contains (item ∷ later) item
first_item item later = (0, omega arith, refl)

pub cursors_are : CursorsAreOfCourses
cursors_are identity infos versions records start lsn table info version cursor key told captured begins version_is covers =
    let q : ℕ = told.item.position in
    let c : Course = course infos versions start table lsn in
    let both : version_to versions table q ≡ version_to versions table lsn = sym told.version_is ∙ version_is in
    let same : alterations_of table (versions_to q versions) ≡ alterations_of table (versions_to lsn versions) = omega (arith, both) in
    let start_le : c.start ≤ q = start_upto table q lsn (first_course infos start) versions told.not_after begins same in
    let late : AllByRecursion (λ next. c.start ≤ next.position) (told.item ∷ told.later) =
    (start_le, all_weaker (λ (next : Record). q ≤ next.position) (λ (next : Record). c.start ≤ next.position) (λ next le. le_trans c.start q next.position start_le le) told.later told.settled) in
    let kept : since c.start records ≡ since c.start told.earlier ++ told.item ∷ told.later = ap (since c.start) told.spelled ∙ appended c.start told.earlier (told.item ∷ told.later) late in
    record {
      info = info;
      captured = captured;
      item = told.item;
      stands = subst (λ (l : List Record). Contains l told.item) (sym kept) (Contains-append_right (since c.start told.earlier) (told.item ∷ told.later) told.item (first_item told.item told.later));
      through = cursor.last;
      done = cursor.done;
      tells = told.reports;
      covers = covers;
    }

pub version_one : UnalteredTablesHaveVersionOne
version_one versions table position none = ap suc (by versions none)
  where
    by : (vs : List Versioned) → AreUnaltered table vs → alterations_of table (versions_to position vs) ≡ 0
    by [] none = refl
    by (v ∷ vs) none = one (nat_le v.lsn.0 position) refl (by vs none.1)
      where
        one : (b : Bool) → nat_le v.lsn.0 position ≡ b → alterations_of table (versions_to position vs) ≡ 0 → alterations_of table (versions_to position (v ∷ vs)) ≡ 0
        one true is rest =
            ap (λ (b : Bool). alterations_of table (if b then v ∷ versions_to position vs else versions_to position vs)) is
            ∙ (ap (λ (o : Option (List RawRow)). if is_some o then suc (alterations_of table (versions_to position vs)) else alterations_of table (versions_to position vs)) none.0 ∙ rest)
        one false is rest = ap (λ (b : Bool). alterations_of table (if b then v ∷ versions_to position vs else versions_to position vs)) is ∙ rest
