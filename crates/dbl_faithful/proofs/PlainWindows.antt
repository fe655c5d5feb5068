-- Where no table is altered, a window that is right in the history is right in its table's course.
use Rattle.std.proofs.Common.{◌≡◌, ◌∙◌, inl, inr, ℕ, zero, suc, ◌+◌, ◌-◌, ◌≤◌, ◌<◌, Bool, true, Option, Some, None, List, [], ◌∷◌, ◌++◌, length, map, flat_map, refl, sym, ap, subst, arith, append_assoc, append-nil, length-append, le_refl}
use Rattle.std.specs.Prelude.{◌==◌, if◌then◌else◌, slice_get}
use Rattle.std.specs.List.{AllByRecursion}
use Rattle.std.proofs.lemmas.Bool.{cases_eq}
use Rattle.std.proofs.lemmas.Bool.Decides.{Decides-eqb}
use Rattle.dbl_model_table.specs.declared.identity.Identity.{Identity}
use Rattle.dbl_model_table.specs.declared.row.Key.{Key}
use Rattle.dbl_model_table.specs.declared.row.Row.{Row}
use Rattle.dbl_model_table.specs.declared.table.TableInfo.{TableInfo}
use Rattle.dbl_model_table.specs.declared.change.Body.{Body}
use Rattle.dbl_model_table.specs.declared.change.Body.TheVariants.{Changes, Mark}
use Rattle.dbl_model_table.specs.declared.change.Change.{Change}
use Rattle.dbl_model_table.specs.declared.change.Change.TheVariants.{Clear}
use Rattle.dbl_model_table.specs.declared.change.Commit.{Commit}
use Rattle.dbl_model_table.specs.Rows.{IsWholeEffect, IsWholeFor, table_of, changes_of, rows_at, all_changes, rows, moment_at}
use Rattle.dbl_model_table.proofs.Lists.{slice_get-lt}
use Rattle.dbl_consume_laws.specs.ModelHistory.WholeChanges.{IsTouched}
use Rattle.dbl_consume_laws.proofs.ModelHistoryRowLemmas.{all_changes-append, rows_at-longer, effect_of-other_table}
use Rattle.dbl_consume_laws.specs.ModelEvent.Events.{notices}
use Rattle.dbl_consume_laws.specs.ModelEvent.declared.closed.Closed.{Closed}
use Rattle.dbl_consume_laws.specs.Commits.{moment_after}
use Rattle.dbl_consume_laws.specs.Windows.{IsRightWindow}
use Rattle.dbl_consume_laws.proofs.Lists.{slice_get-front, slice_get-subsequent}
use Rattle.dbl_consume_courses.specs.Versions.{Alteration, Versioned, plain_commit, FollowsInfos, AreVersionsFrom, version_rows}
use Rattle.dbl_consume_courses.specs.Courses.{ticked, ticked_body, ticked_commit, Course, alteration_of, course, first_course, AreUnaltered, infos_after}
use Rattle.dbl_consume_courses.specs.CourseAges.{own_from}
use Rattle.dbl_consume_courses.specs.AlteredTables.{course_changes, course_start}
use Rattle.dbl_consume_courses.specs.FitVersions.{AreFitVersions}
use Rattle.dbl_consume_courses.specs.Growth.{course_of, point_after}
use Rattle.dbl_consume_courses.specs.PlainAges.{ArePlain}
use Rattle.dbl_consume_courses.specs.TableAges.{IsInCourse}
use Rattle.dbl_consume_courses.proofs.CourseLemmas.{goes_on, shows_rows}
use Rattle.dbl_consume_courses.proofs.GrowthLemmas.{fit_versions_left}
use Rattle.dbl_consume_courses.proofs.Positions.{moment_mono, moment_upto}
use Rattle.dbl_consume_courses.proofs.TableLemmas.{own_at}
use Rattle.dbl_consume_courses.proofs.VersionLemmas.{plain_rows_are}
use Rattle.dbl_faithful.proofs.CaughtUp.{shown_to}
use Rattle.dbl_faithful.proofs.Items.{first_some, at_left, at_right, at_cases, all_weaker}

-- ---- histories in which no table is altered

pub one_infos : (infos : List TableInfo) (v : Versioned) (o : Option Alteration) → FollowsInfos infos v o → o ≡ None → v.infos ≡ infos
one_infos infos v None follows none = follows
one_infos infos v (Some alteration) follows none = cc

pub plain_infos : (infos : List TableInfo) (versions : List Versioned) → AreVersionsFrom infos versions → ArePlain versions → infos_after infos versions ≡ infos
plain_infos infos [] follow plain = refl
plain_infos infos (v ∷ versions) follow plain =
    let here : v.infos ≡ infos = one_infos infos v v.altered follow.0 plain.0 in
    ap (λ (l : List TableInfo). infos_after l versions) here ∙ plain_infos infos versions (subst (λ (l : List TableInfo). AreVersionsFrom l versions) here follow.1) plain.1

pub none_altered : (table : ℕ) (versions : List Versioned) → ArePlain versions → AreUnaltered table versions
none_altered table [] plain = tt
none_altered table (v ∷ versions) plain = (ap (alteration_of table) plain.0, none_altered table versions plain.1)

pub plain_left : (xs ys : List Versioned) → ArePlain (xs ++ ys) → ArePlain xs
plain_left [] ys plain = tt
plain_left (x ∷ xs) ys plain = (plain.0, plain_left xs ys plain.1)

-- such a course has the table's changes and ticks
pub plain_course : (infos : List TableInfo) (start table : ℕ) (versions : List Versioned) → AreVersionsFrom infos versions → ArePlain versions
    → course_of infos start table versions ≡ record { infos = infos; commits = map (ticked_commit table) versions; start = start }
plain_course infos start table versions follow plain =
    goes_on table (first_course infos start) versions (none_altered table versions plain)
    ∙ ap (λ (l : List TableInfo). let c : Course = record { infos = l; commits = map (ticked_commit table) versions; start = start } in c) (plain_infos infos versions follow plain)

-- ---- a change of the table is in its course

flat_has : (infos : List TableInfo) (table : ℕ) (cs : List Change) (j : ℕ) (c : Change) → slice_get cs j ≡ Some c → table_of c ≡ table → (q : ℕ) × (slice_get (flat_map (ticked infos table) cs) q ≡ Some c)
flat_has infos table [] j c at own = cc
flat_has infos table (d ∷ cs) zero c at own =
    let same : d ≡ c = first_some d c at in
    let test : (table_of d == table) ≡ true = (Decides-eqb (table_of d) table).1 (ap table_of same ∙ own) in
    (0, ap (λ (b : Bool). slice_get ((if b then d ∷ [] else map (λ n. Clear (table_of d)) (notices infos d)) ++ flat_map (ticked infos table) cs) 0) test ∙ ap Some same)
flat_has infos table (d ∷ cs) (suc j) c at own =
    let rest = flat_has infos table cs j c at own in
    (length (ticked infos table d) + rest.0, at_right (ticked infos table d) (flat_map (ticked infos table) cs) rest.0 c rest.1)

body_has : (table : ℕ) (v : Versioned) (b : Body) → v.body ≡ b → (j : ℕ) (c : Change) → slice_get (changes_of (plain_commit v)) j ≡ Some c → table_of c ≡ table → (q : ℕ) × (slice_get (changes_of (ticked_commit table v)) q ≡ Some c)
body_has table v (Changes cs) is j c at own =
    let there : slice_get cs j ≡ Some c = ap (λ (b : Body). slice_get (elim b as (λ x. List Change) [ Changes changes ↦ changes | Mark value ↦ [] ]) j) (sym is) ∙ at in
    let has = flat_has v.infos table cs j c there own in
    (has.0, ap (λ (b : Body). slice_get (elim (ticked_body v.infos table b) as (λ x. List Change) [ Changes changes ↦ changes | Mark value ↦ [] ]) has.0) is ∙ has.1)
body_has table v (Mark value) is j c at own =
    let none : slice_get [] j ≡ Some c = ap (λ (b : Body). slice_get (elim b as (λ x. List Change) [ Changes changes ↦ changes | Mark value ↦ [] ]) j) (sym is) ∙ at in
    cc

tick_has : (table : ℕ) (vs : List Versioned) (j : ℕ) (c : Change) → slice_get (all_changes (map plain_commit vs)) j ≡ Some c → table_of c ≡ table → (q : ℕ) × (slice_get (all_changes (map (ticked_commit table) vs)) q ≡ Some c)
tick_has table [] j c at own = cc
tick_has table (v ∷ vs) j c at own = elim (at_cases (changes_of (plain_commit v)) (all_changes (map plain_commit vs)) j c at) [
  | inl here ↦ (
      let has = body_has table v v.body refl j c here own in
      (has.0, at_left (changes_of (ticked_commit table v)) (all_changes (map (ticked_commit table) vs)) has.0 c has.1))
  | inr later ↦ (
      let rest = tick_has table vs later.0 c later.1 own in
      (length (changes_of (ticked_commit table v)) + rest.0, at_right (changes_of (ticked_commit table v)) (all_changes (map (ticked_commit table) vs)) rest.0 c rest.1))
]

-- a change that is whole for a key of a table is of the table
own_whole : (infos : List TableInfo) (c : Change) (table : ℕ) (key : Key) → IsWholeFor infos c table key → table_of c ≡ table
own_whole infos c table key whole = elim (cases_eq (table_of c) table) [
  | inl same ↦ same
  | inr other ↦ absurd (subst IsWholeEffect (effect_of-other_table infos c table key other) whole)
]

map_both : {X Y : Type 0} (f : X → Y) (xs ys : List X) → map f (xs ++ ys) ≡ map f xs ++ map f ys
map_both f [] ys = refl
map_both f (x ∷ xs) ys = ap (λ (l : List _). f x ∷ l) (map_both f xs ys)

-- ---- numbers

from_front : (p a b : ℕ) → a ≤ p → p < a + b → p - a < b
from_front p a b le lt = omega (arith, le, lt)

not_less : (a q : ℕ) → a ≤ a + q
not_less a q = omega arith

before_end : (a q b m n : ℕ) → q < b → n ≡ a + (b + m) → a + q < n
before_end a q b m n lt size = omega (arith, lt, size)

-- ---- a window between two of its commits

module _ (identity : Identity) (infos : List TableInfo) (versions lows mids : List Versioned) (mark : Versioned) (later : List Versioned) (start : ℕ) (above : Option Key) (closed : Closed) (valid : AreFitVersions infos versions) (plain : ArePlain versions) (spelled : versions ≡ (lows ++ mids) ++ mark ∷ later) (silent : changes_of (plain_commit mark) ≡ []) (after : start < mark.lsn.0) where
  abbrev table : ℕ
  table = closed.table

  abbrev before : List Versioned
  before = lows ++ mids

  abbrev front : List Versioned
  front = before ++ mark ∷ []

  long : versions ≡ front ++ later
  long = spelled ∙ sym (append_assoc before (mark ∷ []) later)

  front_fit : AreFitVersions infos front
  front_fit = fit_versions_left infos front later (subst (AreFitVersions infos) long valid)

  front_plain : ArePlain front
  front_plain = plain_left front later (subst ArePlain long plain)

  -- its changes, and those of its course
  abbrev changes : List Versioned → List Change
  changes vs = all_changes (map plain_commit vs)

  abbrev ticks : List Versioned → List Change
  ticks vs = all_changes (map (ticked_commit table) vs)

  changes_parts : (xs ys : List Versioned) → changes (xs ++ ys) ≡ changes xs ++ changes ys
  changes_parts xs ys = ap all_changes (map_both plain_commit xs ys) ∙ all_changes-append (map plain_commit xs) (map plain_commit ys)

  ticks_parts : (xs ys : List Versioned) → ticks (xs ++ ys) ≡ ticks xs ++ ticks ys
  ticks_parts xs ys = ap all_changes (map_both (ticked_commit table) xs ys) ∙ all_changes-append (map (ticked_commit table) xs) (map (ticked_commit table) ys)

  course_is : course_of infos start table front ≡ record { infos = infos; commits = map (ticked_commit table) front; start = start }
  course_is = plain_course infos start table front front_fit.follow front_plain

  -- the watermark adds no change
  front_changes : changes front ≡ changes before
  front_changes = changes_parts before (mark ∷ []) ∙ (ap (λ (l : List Change). changes before ++ (l ++ [])) silent ∙ append-nil (changes before))

  -- a key has one row at the watermark
  row_same : (key : Key) → rows_at infos (ticks front) (length (ticks front)) table key ≡ rows_at infos (changes versions) (length (changes before)) table key
  row_same key =
      let shows : rows infos (map (ticked_commit table) front) (length (ticks front)) table key ≡ version_rows front table key =
      subst (λ (c : Course). rows c.infos c.commits (moment_after c.commits) table key ≡ version_rows front table key) course_is (shows_rows infos front start table key front_fit.follow) in
      let here : version_rows front table key ≡ rows_at infos (changes front) (length (changes front)) table key = plain_rows_are infos front table key front_fit front_plain in
      let size : length (changes front) ≡ length (changes before) = ap length front_changes in
      let in_all : rows_at infos (changes versions) (length (changes front)) table key ≡ rows_at infos (changes front) (length (changes front)) table key =
      ap (λ (l : List Change). rows_at infos l (length (changes front)) table key) (ap changes long ∙ changes_parts front later)
      ∙ ap (λ (r : ℕ → Key → Option (List _)). r table key) (rows_at-longer infos (changes front) (changes later) (length (changes front)) (le_refl (length (changes front)))) in
      shows ∙ (here ∙ (sym in_all ∙ ap (λ (n : ℕ). rows_at infos (changes versions) n table key) size))

  touched_there : (key : Key) → IsTouched infos (changes versions) (length (changes lows)) (length (changes before)) table key → IsTouched infos (ticks front) (length (ticks lows)) (length (ticks front)) table key
  touched_there key touched =
      let split : changes versions ≡ changes lows ++ (changes mids ++ changes (mark ∷ later)) =
      ap changes spelled ∙ (changes_parts before (mark ∷ later) ∙ (ap (λ (l : List Change). l ++ changes (mark ∷ later)) (changes_parts lows mids) ∙ append_assoc (changes lows) (changes mids) (changes (mark ∷ later)))) in
      let size : length (changes before) ≡ length (changes lows) + length (changes mids) = ap length (changes_parts lows mids) ∙ length-append (changes lows) (changes mids) in
      let j : ℕ = touched.place - length (changes lows) in
      let lt : j < length (changes mids) = from_front touched.place (length (changes lows)) (length (changes mids)) touched.not_before (subst (λ (n : ℕ). touched.place < n) size touched.before) in
      let at : slice_get (changes mids) j ≡ Some touched.change =
      sym (slice_get-front (changes mids) (changes (mark ∷ later)) j lt)
      ∙ (sym (slice_get-subsequent (changes lows) (changes mids ++ changes (mark ∷ later)) touched.place touched.not_before)
      ∙ (ap (λ (l : List Change). slice_get l touched.place) (sym split) ∙ touched.is)) in
      let has = tick_has table mids j touched.change at (own_whole infos touched.change table key touched.whole) in
      let parts : ticks front ≡ ticks lows ++ (ticks mids ++ ticks (mark ∷ [])) =
      ticks_parts before (mark ∷ []) ∙ (ap (λ (l : List Change). l ++ ticks (mark ∷ [])) (ticks_parts lows mids) ∙ append_assoc (ticks lows) (ticks mids) (ticks (mark ∷ []))) in
      let whole_size : length (ticks front) ≡ length (ticks lows) + (length (ticks mids) + length (ticks (mark ∷ []))) =
      ap length parts ∙ (length-append (ticks lows) (ticks mids ++ ticks (mark ∷ [])) ∙ ap (λ (n : ℕ). length (ticks lows) + n) (length-append (ticks mids) (ticks (mark ∷ [])))) in
      record {
        place = length (ticks lows) + has.0;
        change = touched.change;
        not_before = not_less (length (ticks lows)) has.0;
        before = before_end (length (ticks lows)) has.0 (length (ticks mids)) (length (ticks (mark ∷ []))) (length (ticks front)) (slice_get-lt (ticks mids) has.0 touched.change has.1) whole_size;
        is = ap (λ (l : List Change). slice_get l (length (ticks lows) + has.0)) parts
            ∙ at_right (ticks lows) (ticks mids ++ ticks (mark ∷ [])) has.0 touched.change (at_left (ticks mids) (ticks (mark ∷ [])) has.0 touched.change has.1);
        whole = touched.whole;
      }

  in_front : IsRightWindow infos (changes versions) (length (changes lows)) (length (changes before)) above closed → IsRightWindow infos (ticks front) (length (ticks lows)) (length (ticks front)) above closed
  in_front right = record {
    right = all_weaker (λ (entry : Key × Row). rows_at infos (changes versions) (length (changes before)) table entry.0 ≡ Some entry.1.cells) (λ (entry : Key × Row). rows_at infos (ticks front) (length (ticks front)) table entry.0 ≡ Some entry.1.cells) closed.rows
        (λ entry is. row_same entry.0 ∙ is) right.right;
    missing = λ info key captured is_key beyond reached none. elim (right.missing info key captured is_key beyond reached none) [
      | inl touched ↦ inl (touched_there key touched)
      | inr gone ↦ inr (row_same key ∙ gone)
    ];
  }

  shown : course infos versions start table mark.lsn.0 ≡ course_of infos start table front
  shown = ap (course_of infos start table) (shown_to versions before mark later valid.rise spelled)

  in_course : IsInCourse infos versions front start table before mark []
  in_course = record {
    fit = valid;
    hidden = later;
    parted = long;
    among = record { fit = front_fit; spelled = refl; unaltered = none_altered table (mark ∷ []) (last_plain before front_plain); after = after };
  }
    where
      last_plain : (xs : List Versioned) → ArePlain (xs ++ mark ∷ []) → ArePlain (mark ∷ [])
      last_plain [] all = all
      last_plain (x ∷ xs) all = last_plain xs all.1

  -- its low watermark in the course
  lows_point : point_after infos start table lows ≡ length (ticks lows)
  lows_point =
      ap (λ (c : Course). moment_after c.commits)
      (plain_course infos start table lows (fit_versions_left infos lows (mids ++ mark ∷ []) (subst (AreFitVersions infos) (append_assoc lows mids (mark ∷ [])) front_fit)).follow (plain_left lows (mids ++ mark ∷ []) (subst ArePlain (append_assoc lows mids (mark ∷ [])) front_plain)))

  pub window_in_course : IsRightWindow infos (all_changes (map plain_commit versions)) (moment_after (map plain_commit lows)) (moment_after (map plain_commit (lows ++ mids))) above closed
      → IsRightWindow (course infos versions start closed.table mark.lsn.0).infos (course_changes (course infos versions start closed.table mark.lsn.0)) (point_after infos start closed.table lows) (own_from (course infos versions start closed.table mark.lsn.0) mark.lsn.0) above closed
  window_in_course right =
      let high : own_from (course_of infos start table front) mark.lsn.0 ≡ moment_after (course_of infos start table front).commits = own_at identity infos versions front start table before mark [] in_course in
      subst (λ (c : Course). IsRightWindow c.infos (course_changes c) (point_after infos start table lows) (own_from c mark.lsn.0) above closed) (sym shown)
      (subst (λ (m : ℕ). IsRightWindow (course_of infos start table front).infos (course_changes (course_of infos start table front)) (point_after infos start table lows) m above closed) (sym high)
      (subst (λ (m : ℕ). IsRightWindow (course_of infos start table front).infos (course_changes (course_of infos start table front)) m (moment_after (course_of infos start table front).commits) above closed) (sym lows_point)
      (subst (λ (c : Course). IsRightWindow c.infos (course_changes c) (length (ticks lows)) (moment_after c.commits) above closed) (sym course_is) (in_front right))))

-- the course's start isn't after a position from which on the later commits are
all_ticked : (P : ℕ → Type 0) (t : ℕ) (vs : List Versioned) → AllByRecursion (λ v. P v.lsn.0) vs → AllByRecursion (λ c. P c.lsn.0) (map (ticked_commit t) vs)
all_ticked P t [] all = tt
all_ticked P t (v ∷ vs) all = (all.0, all_ticked P t vs all.1)

pub window_begins : (infos : List TableInfo) (versions lows mids : List Versioned) (mark : Versioned) (later : List Versioned) (start position t : ℕ) → AreFitVersions infos versions → ArePlain versions → versions ≡ (lows ++ mids) ++ mark ∷ later
    → start ≤ position → AllByRecursion (λ v. v.lsn.0 ≤ position) lows → AllByRecursion (λ v. position < v.lsn.0) (mids ++ mark ∷ [])
    → course_start (course infos versions start t mark.lsn.0) ≤ point_after infos start t lows
window_begins infos versions lows mids mark later start position t valid plain spelled order upto past =
    let front : List Versioned = (lows ++ mids) ++ mark ∷ [] in
    let long : versions ≡ front ++ later = spelled ∙ sym (append_assoc (lows ++ mids) (mark ∷ []) later) in
    let front_fit : AreFitVersions infos front = fit_versions_left infos front later (subst (AreFitVersions infos) long valid) in
    let front_plain : ArePlain front = plain_left front later (subst ArePlain long plain) in
    let parted : front ≡ lows ++ (mids ++ mark ∷ []) = append_assoc lows mids (mark ∷ []) in
    let course_is : course infos versions start t mark.lsn.0 ≡ record { infos = infos; commits = map (ticked_commit t) front; start = start } =
    ap (course_of infos start t) (shown_to versions (lows ++ mids) mark later valid.rise spelled) ∙ plain_course infos start t front front_fit.follow front_plain in
    let lows_is : course_of infos start t lows ≡ record { infos = infos; commits = map (ticked_commit t) lows; start = start } =
    plain_course infos start t lows (fit_versions_left infos lows (mids ++ mark ∷ []) (subst (AreFitVersions infos) parted front_fit)).follow (plain_left lows (mids ++ mark ∷ []) (subst ArePlain parted front_plain)) in
    let at_position : moment_at (map (ticked_commit t) front) position ≡ moment_after (map (ticked_commit t) lows) =
    ap (λ (l : List Commit). moment_at l position) (ap (map (ticked_commit t)) parted ∙ map_both (ticked_commit t) lows (mids ++ mark ∷ []))
    ∙ moment_upto position (map (ticked_commit t) lows) (map (ticked_commit t) (mids ++ mark ∷ [])) (all_ticked (λ l. l ≤ position) t lows upto) (all_ticked (λ l. position < l) t (mids ++ mark ∷ []) past) in
    subst (λ (c : Course). course_start c ≤ point_after infos start t lows) (sym course_is)
    (subst (λ (c : Course). moment_at (map (ticked_commit t) front) start ≤ moment_after c.commits) (sym lows_is)
    (subst (λ (m : ℕ). moment_at (map (ticked_commit t) front) start ≤ m) at_position (moment_mono (map (ticked_commit t) front) start position order)))
