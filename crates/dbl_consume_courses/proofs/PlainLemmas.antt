-- The age in the courses of tables that aren't altered.
use Rattle.std.proofs.Common.{◌≡◌, ◌∙◌, ◌⊎◌, inl, inr, ℕ, suc, ◌+◌, ◌-◌, ◌≤◌, ◌<◌, max, Bool, true, false, Option, Some, None, List, [], ◌∷◌, ◌++◌, length, map, take, refl, sym, ap, subst, arith}
use Rattle.std.proofs.lemmas.Bool.{cases_lt, eqb-true}
use Rattle.std.proofs.lemmas.Grind.{flat_map-append}
use Rattle.std.specs.Prelude.{◌==◌, nat_lt, nat_le, if◌then◌else◌, option_map, option_and_then}
use Rattle.std.specs.List.{AllByRecursion}
use Rattle.dbl_value_types.specs.declared.value.Val.{Val}
use Rattle.dbl_record.specs.declared.acts.HeldCell.{HeldCell}
use Rattle.dbl_record.specs.declared.acts.HeldCell.TheVariants.{Known, Unknown}
use Rattle.dbl_record.specs.declared.record.Record.{Record}
use Rattle.dbl_record.specs.Places.{Place, place_of}
use Rattle.dbl_model_table.specs.declared.identity.Identity.{Identity}
use Rattle.dbl_model_table.specs.declared.row.Key.{Key}
use Rattle.dbl_model_table.specs.declared.table.TableInfo.{TableInfo}
use Rattle.dbl_model_table.specs.declared.change.Body.{Body}
use Rattle.dbl_model_table.specs.declared.change.Body.TheVariants.{Changes, Mark}
use Rattle.dbl_model_table.specs.declared.change.Change.{Change}
use Rattle.dbl_model_table.specs.declared.change.Commit.{Commit}
use Rattle.dbl_model_table.specs.Infos.{columns_of}
use Rattle.dbl_model_table.specs.Rows.{IsWholeEffect, IsWholeFor, Rows, no_rows, rows_at, table_of, changes_of, all_changes, moment_at}
use Rattle.dbl_model_history.specs.Fit.{AreFit}
use Rattle.dbl_model_history.specs.Image.{Names, row_json_texts}
use Rattle.dbl_model_history.specs.WholeChanges.{IsTouched}
use Rattle.dbl_model_history.proofs.PlainLemmas.{rows_from-row_from}
use Rattle.dbl_model_history.proofs.RowLemmas.{effect_of-other_table}
use Rattle.dbl_consume_laws.specs.Moments.{changes_through, place_moment, record_moment, last_moment, span_end}
use Rattle.dbl_consume_laws.specs.KnownKeys.{IsKnown}
use Rattle.dbl_consume_laws.specs.Ages.{held_cell, source_cell, HadValueWithin, IsAgedCell, IsAged}
use Rattle.dbl_consume_laws.proofs.Moments.{changes_through-most}
use Rattle.dbl_consume_courses.specs.Versions.{Alteration, Versioned, plain_commit, FollowsInfos, AreVersionsFrom, rows_through}
use Rattle.dbl_consume_courses.specs.Courses.{Course, alteration_of, ticked, ticked_body, ticked_commit, first_course, infos_after, AreUnaltered}
use Rattle.dbl_consume_courses.specs.Since.{since}
use Rattle.dbl_consume_courses.specs.AlteredTables.{IsOwnAged}
use Rattle.dbl_consume_courses.specs.FitVersions.{AreFitFrom, AreFitVersions}
use Rattle.dbl_consume_courses.specs.Growth.{course_of}
use Rattle.dbl_consume_courses.specs.CourseAges.{own_from}
use Rattle.dbl_consume_courses.specs.PlainAges.{ArePlain, PlainTablesAge}
use Rattle.dbl_consume_courses.proofs.SinceLemmas.{whole as whole_log}
use Rattle.dbl_consume_courses.proofs.CourseLemmas.{goes_on, not_same}
use Rattle.dbl_consume_courses.proofs.Clock.{ticks, clock, HaveTicks, have_ticks, clock_none, clock_mono, between, rows_clock, through_clock, clock_right, clock_left, tick_change, change_tick}

-- ---- a history whose tables are the same all along

abbrev AreAll : List TableInfo → List Versioned → Type 0
AreAll infos versions = AllByRecursion (λ v. v.infos ≡ infos) versions

one_infos : (infos : List TableInfo) (v : Versioned) (o : Option Alteration) → FollowsInfos infos v o → o ≡ None → v.infos ≡ infos
one_infos infos v None follows none = follows
one_infos infos v (Some alteration) follows none = cc

all_infos : (infos : List TableInfo) (versions : List Versioned) → AreVersionsFrom infos versions → ArePlain versions → AreAll infos versions
all_infos infos [] follow plain = tt
all_infos infos (v ∷ versions) follow plain =
    let here : v.infos ≡ infos = one_infos infos v v.altered follow.0 plain.0 in
    (here, all_infos infos versions (subst (λ (l : List TableInfo). AreVersionsFrom l versions) here follow.1) plain.1)

last_infos : (infos : List TableInfo) (versions : List Versioned) → AreAll infos versions → infos_after infos versions ≡ infos
last_infos infos [] all = refl
last_infos infos (v ∷ versions) all = ap (λ (l : List TableInfo). infos_after l versions) all.0 ∙ last_infos infos versions all.1

none_altered : (table : ℕ) (versions : List Versioned) → ArePlain versions → AreUnaltered table versions
none_altered table [] plain = tt
none_altered table (v ∷ versions) plain = (ap (alteration_of table) plain.0, none_altered table versions plain.1)

module _ (infos : List TableInfo) (table : ℕ) where
  abbrev plain_list : List Versioned → List Change
  plain_list versions = all_changes (map plain_commit versions)

  abbrev tick_list : List Versioned → List Change
  tick_list versions = all_changes (map (ticked_commit table) versions)

  body_ticks : (body : Body) → (elim (ticked_body infos table body) [ Changes changes ↦ changes | Mark value ↦ [] ]) ≡ ticks infos table (elim body [ Changes changes ↦ changes | Mark value ↦ [] ])
  body_ticks (Changes changes) = refl
  body_ticks (Mark value) = refl

  commit_ticks : (v : Versioned) → v.infos ≡ infos → changes_of (ticked_commit table v) ≡ ticks infos table (changes_of (plain_commit v))
  commit_ticks v is = ap (λ (l : List TableInfo). elim (ticked_body l table v.body) [ Changes changes ↦ changes | Mark value ↦ [] ]) is ∙ body_ticks v.body

  list_ticks : (versions : List Versioned) → AreAll infos versions → tick_list versions ≡ ticks infos table (plain_list versions)
  list_ticks [] all = refl
  list_ticks (v ∷ versions) all =
      ap (λ (l : List Change). l ++ tick_list versions) (commit_ticks v all.0)
      ∙ (ap (λ (l : List Change). ticks infos table (changes_of (plain_commit v)) ++ l) (list_ticks versions all.1)
      ∙ sym (flat_map-append (ticked infos table) (changes_of (plain_commit v)) (plain_list versions)))

  have_left : (cs ds : List Change) → HaveTicks infos table (cs ++ ds) → HaveTicks infos table cs
  have_left [] ds have = tt
  have_left (c ∷ cs) ds have = (have.0, have_left cs ds have.1)

  have_right : (cs ds : List Change) → HaveTicks infos table (cs ++ ds) → HaveTicks infos table ds
  have_right [] ds have = have
  have_right (c ∷ cs) ds have = have_right cs ds have.1

  -- the moment of a place, and of a position

  pick : (b : Bool) (f : ℕ → ℕ) (x y z w : ℕ) → (b ≡ true → f x ≡ z) → (b ≡ false → f y ≡ w) → f (if b then x else y) ≡ (if b then z else w)
  pick true f x y z w one two = one refl
  pick false f x y z w one two = two refl

  places_clock : (versions : List Versioned) (place : Place) → AreAll infos versions → HaveTicks infos table (plain_list versions)
      → clock infos table (plain_list versions) (place_moment infos (map (ticked_commit table) versions) place) ≡ place_moment infos (map plain_commit versions) place
  places_clock [] place all have = refl
  places_clock (v ∷ versions) place all have =
      pick (nat_lt v.lsn.0 place.0) (clock infos table (changes_of (plain_commit v) ++ plain_list versions)) _ _ _ _ (λ before. later (places_clock versions place all.1 (have_right (changes_of (plain_commit v)) (plain_list versions) have))) (λ not.
      pick (v.lsn.0 == place.0) (clock infos table (changes_of (plain_commit v) ++ plain_list versions)) _ _ _ _ (λ at. here) (λ not_at. clock_none infos table (changes_of (plain_commit v) ++ plain_list versions)))
    where
      later : clock infos table (plain_list versions) (place_moment infos (map (ticked_commit table) versions) place) ≡ place_moment infos (map plain_commit versions) place
          → clock infos table (changes_of (plain_commit v) ++ plain_list versions) (length (changes_of (ticked_commit table v)) + place_moment infos (map (ticked_commit table) versions) place)
          ≡ length (changes_of (plain_commit v)) + place_moment infos (map plain_commit versions) place
      later before =
          ap (λ (l : List Change). clock infos table (changes_of (plain_commit v) ++ plain_list versions) (length l + place_moment infos (map (ticked_commit table) versions) place)) (commit_ticks v all.0)
          ∙ (clock_right infos table (changes_of (plain_commit v)) (plain_list versions) (place_moment infos (map (ticked_commit table) versions) place) (have_left (changes_of (plain_commit v)) (plain_list versions) have)
          ∙ ap (λ (n : ℕ). length (changes_of (plain_commit v)) + n) before)

      here : clock infos table (changes_of (plain_commit v) ++ plain_list versions) (changes_through infos (changes_of (ticked_commit table v)) place.1) ≡ changes_through infos (changes_of (plain_commit v)) place.1
      here =
          ap (λ (l : List Change). clock infos table (changes_of (plain_commit v) ++ plain_list versions) (changes_through infos l place.1)) (commit_ticks v all.0)
          ∙ (clock_left infos table (changes_of (plain_commit v)) (plain_list versions) (changes_through infos (ticks infos table (changes_of (plain_commit v))) place.1) (changes_through-most infos (ticks infos table (changes_of (plain_commit v))) place.1)
          ∙ through_clock infos table (changes_of (plain_commit v)) place.1 (have_left (changes_of (plain_commit v)) (plain_list versions) have))

  positions_clock : (versions : List Versioned) (position : ℕ) → AreAll infos versions → HaveTicks infos table (plain_list versions)
      → clock infos table (plain_list versions) (moment_at (map (ticked_commit table) versions) position) ≡ moment_at (map plain_commit versions) position
  positions_clock [] position all have = refl
  positions_clock (v ∷ versions) position all have =
      pick (nat_le v.lsn.0 position) (clock infos table (changes_of (plain_commit v) ++ plain_list versions)) _ _ _ _ (λ up_to. later (positions_clock versions position all.1 (have_right (changes_of (plain_commit v)) (plain_list versions) have))) (λ not. clock_none infos table (changes_of (plain_commit v) ++ plain_list versions))
    where
      later : clock infos table (plain_list versions) (moment_at (map (ticked_commit table) versions) position) ≡ moment_at (map plain_commit versions) position
          → clock infos table (changes_of (plain_commit v) ++ plain_list versions) (length (changes_of (ticked_commit table v)) + moment_at (map (ticked_commit table) versions) position)
          ≡ length (changes_of (plain_commit v)) + moment_at (map plain_commit versions) position
      later before =
          ap (λ (l : List Change). clock infos table (changes_of (plain_commit v) ++ plain_list versions) (length l + moment_at (map (ticked_commit table) versions) position)) (commit_ticks v all.0)
          ∙ (clock_right infos table (changes_of (plain_commit v)) (plain_list versions) (moment_at (map (ticked_commit table) versions) position) (have_left (changes_of (plain_commit v)) (plain_list versions) have)
          ∙ ap (λ (n : ℕ). length (changes_of (plain_commit v)) + n) before)

  max_clock : (cs : List Change) (a b : ℕ) → clock infos table cs (max a b) ≡ max (clock infos table cs a) (clock infos table cs b)
  max_clock cs a b = elim (cases_lt a b) [
    | inl lt ↦ (
        let one : max a b ≡ b = omega (arith, lt) in
        let le : clock infos table cs a ≤ clock infos table cs b = clock_mono infos table cs a b (omega (arith, lt)) in
        ap (clock infos table cs) one ∙ right (clock infos table cs a) (clock infos table cs b) le)
    | inr ge ↦ (
        let one : max a b ≡ a = omega (arith, ge) in
        let le : clock infos table cs b ≤ clock infos table cs a = clock_mono infos table cs b a ge in
        ap (clock infos table cs) one ∙ left (clock infos table cs a) (clock infos table cs b) le)
  ]
    where
      right : (x y : ℕ) → x ≤ y → y ≡ max x y
      right x y le = omega (arith, le)

      left : (x y : ℕ) → y ≤ x → x ≡ max x y
      left x y le = omega (arith, le)

  last_clock : (versions : List Versioned) (far : ℕ) (records : List Record) → AreAll infos versions → HaveTicks infos table (plain_list versions)
      → clock infos table (plain_list versions) (last_moment infos (map (ticked_commit table) versions) far records) ≡ last_moment infos (map plain_commit versions) (clock infos table (plain_list versions) far) records
  last_clock versions far [] all have = refl
  last_clock versions far (item ∷ records) all have =
      last_clock versions (max far (record_moment infos (map (ticked_commit table) versions) item)) records all have
      ∙ ap (λ (n : ℕ). last_moment infos (map plain_commit versions) n records)
      (max_clock (plain_list versions) far (record_moment infos (map (ticked_commit table) versions) item)
      ∙ ap (max (clock infos table (plain_list versions) far)) (places_clock versions (place_of item) all have))

  -- ---- cells, and known keys

  cell_clock : (cs : List Change) (key : Key) (column : List ℕ) (k : ℕ) → HaveTicks infos table cs → source_cell infos cs table key column (clock infos table cs k) ≡ source_cell infos (ticks infos table cs) table key column k
  cell_clock cs key column k have =
      let rows : rows_at infos cs (clock infos table cs k) table key ≡ rows_at infos (ticks infos table cs) k table key =
      rows_from-row_from infos no_rows (take (clock infos table cs k) cs) table key
      ∙ (sym (rows_clock infos table key cs k None have) ∙ sym (rows_from-row_from infos no_rows (take k (ticks infos table cs)) table key)) in
      ap (λ (r : Option (List Val)). option_and_then (λ texts. texts column) (option_map (row_json_texts (columns_of infos table)) r)) rows

  own_whole : (c : Change) (key : Key) → IsWholeFor infos c table key → table_of c ≡ table
  own_whole c key whole = elim (eq_or_not (table_of c) table) [
    | inl own ↦ own
    | inr other ↦ absurd (subst IsWholeEffect (effect_of-other_table infos c table key other) whole)
  ]
    where
      eq_or_not : (a b : ℕ) → (a ≡ b) ⊎ ((a ≡ b) → ⊥)
      eq_or_not a b = by (a == b) refl
        where
          by : (t : Bool) → (a == b) ≡ t → (a ≡ b) ⊎ ((a ≡ b) → ⊥)
          by true is = inl (eqb-true a b is)
          by false is = inr (not_same a b is)

  touched_back : (cs : List Change) (s e : ℕ) (key : Key) → HaveTicks infos table cs → IsTouched infos (ticks infos table cs) s e table key → IsTouched infos cs (clock infos table cs s) (clock infos table cs e) table key
  touched_back cs s e key have t =
      let at = tick_change infos table cs t.place t.change have t.is (own_whole t.change key t.whole) in
      let low : clock infos table cs s ≤ clock infos table cs t.place = clock_mono infos table cs s t.place t.not_before in
      let high : clock infos table cs (suc t.place) ≤ clock infos table cs e = clock_mono infos table cs (suc t.place) e (omega (arith, t.before)) in
      let next : clock infos table cs (suc t.place) ≡ suc (clock infos table cs t.place) = at.1 in
      record { place = clock infos table cs t.place; change = t.change; not_before = low; before = omega (arith, high, next); is = at.0; whole = t.whole }

  touched_on : (cs : List Change) (s e : ℕ) (key : Key) → HaveTicks infos table cs → IsTouched infos cs (clock infos table cs s) (clock infos table cs e) table key → IsTouched infos (ticks infos table cs) s e table key
  touched_on cs s e key have t =
      let at = change_tick infos table cs t.place t.change have t.is (own_whole t.change key t.whole) in
      record { place = at.0; change = t.change; not_before = low at.0 at.2 at.3; before = high at.0 at.2; is = at.1; whole = t.whole }
    where
      low : (q : ℕ) → clock infos table cs q ≡ t.place → clock infos table cs (suc q) ≡ suc t.place → s ≤ q
      low q is next = elim (cases_lt q s) [
        | inl lt ↦ (
            let le : clock infos table cs (suc q) ≤ clock infos table cs s = clock_mono infos table cs (suc q) s (omega (arith, lt)) in
            absurd (omega (arith, le, next, t.not_before)))
        | inr le ↦ le
      ]

      high : (q : ℕ) → clock infos table cs q ≡ t.place → q < e
      high q is = elim (cases_lt q e) [
        | inl lt ↦ lt
        | inr le ↦ (
            let more : clock infos table cs e ≤ clock infos table cs q = clock_mono infos table cs e q le in
            absurd (omega (arith, more, is, t.before)))
      ]

  -- ---- aged cells

  value_back : (cs : List Change) (life own : ℕ → Option (List ℕ)) (from to : ℕ) (o : Option (List ℕ)) → ((k : ℕ) → life (clock infos table cs k) ≡ own k) → HadValueWithin own from to o → HadValueWithin life (clock infos table cs from) (clock infos table cs to) o
  value_back cs life own from to o same w = record {
    moment = clock infos table cs w.moment;
    not_before = clock_mono infos table cs from w.moment w.not_before;
    not_after = clock_mono infos table cs w.moment to w.not_after;
    is = same w.moment ∙ w.is;
  }

  value_on : (cs : List Change) (life own : ℕ → Option (List ℕ)) (from to : ℕ) (o : Option (List ℕ)) → HaveTicks infos table cs → from ≤ to → ((k : ℕ) → life (clock infos table cs k) ≡ own k) → HadValueWithin life (clock infos table cs from) (clock infos table cs to) o → HadValueWithin own from to o
  value_on cs life own from to o have le same w =
      let d : ℕ = to - from in
      let e : from + d ≡ to = omega (arith, le) in
      let found = between infos table cs from d w.moment have w.not_before (subst (λ (x : ℕ). w.moment ≤ clock infos table cs x) (sym e) w.not_after) in
      record { moment = found.0; not_before = found.1; not_after = subst (λ (x : ℕ). found.0 ≤ x) e found.2; is = sym (same found.0) ∙ (ap life found.3 ∙ w.is) }

  aged_back : (cs : List Change) (K L : Type 0) (life own : ℕ → Option (List ℕ)) (from to : ℕ) (h : Option HeldCell) → (L → K) → ((k : ℕ) → life (clock infos table cs k) ≡ own k) → IsAgedCell K own from to h → IsAgedCell L life (clock infos table cs from) (clock infos table cs to) h
  aged_back cs K L life own from to None less same aged = λ l. value_back cs life own from to None same (aged (less l))
  aged_back cs K L life own from to (Some (Known text)) less same aged = value_back cs life own from to (Some text) same aged
  aged_back cs K L life own from to (Some Unknown) less same aged = ((aged.0.0, value_back cs life own from to (Some aged.0.0) same aged.0.1), λ l. value_back cs life own from to None same (aged.1 (less l)))

  aged_on : (cs : List Change) (K L : Type 0) (life own : ℕ → Option (List ℕ)) (from to : ℕ) (h : Option HeldCell) → HaveTicks infos table cs → from ≤ to → (L → K) → ((k : ℕ) → life (clock infos table cs k) ≡ own k)
      → IsAgedCell K life (clock infos table cs from) (clock infos table cs to) h → IsAgedCell L own from to h
  aged_on cs K L life own from to None have le less same aged = λ l. value_on cs life own from to None have le same (aged (less l))
  aged_on cs K L life own from to (Some (Known text)) have le less same aged = value_on cs life own from to (Some text) have le same aged
  aged_on cs K L life own from to (Some Unknown) have le less same aged = ((aged.0.0, value_on cs life own from to (Some aged.0.0) have le same aged.0.1), λ l. value_on cs life own from to None have le same (aged.1 (less l)))

-- ---- the whole history

plain_fit : (infos : List TableInfo) (at : Rows) (versions : List Versioned) → AreAll infos versions → ArePlain versions → AreFitFrom at versions → (table : ℕ) → HaveTicks infos table (all_changes (map plain_commit versions))
plain_fit infos at [] all plain fit table = tt
plain_fit infos at (v ∷ versions) all plain fit table =
    have_append (changes_of (plain_commit v)) (all_changes (map plain_commit versions)) (have_ticks infos table at (changes_of (plain_commit v)) (subst (λ (l : List TableInfo). AreFit l at (changes_of (plain_commit v))) all.0 fit.0.changes))
    (plain_fit infos (rows_through at v) versions all.1 plain.1 fit.1 table)
  where
    have_append : (cs ds : List Change) → HaveTicks infos table cs → HaveTicks infos table ds → HaveTicks infos table (cs ++ ds)
    have_append [] ds one two = two
    have_append (c ∷ cs) ds one two = (one.0, have_append cs ds one.1 two)

module _ (identity : Identity) (infos : List TableInfo) (versions : List Versioned) (start position : ℕ) (records : List Record) (valid : AreFitVersions infos versions) (plain : ArePlain versions)
    (late : AllByRecursion (λ item. start ≤ item.position) records) (subsequent : start ≤ position) where
  all : AreAll infos versions
  all = all_infos infos versions valid.follow plain

  abbrev P : List Commit
  P = map plain_commit versions

  abbrev cs : List Change
  cs = all_changes P

  have : (table : ℕ) → HaveTicks infos table (all_changes (map plain_commit versions))
  have table = plain_fit infos no_rows versions all plain valid.fit table

  abbrev T : ℕ → List Commit
  T table = map (ticked_commit table) versions

  abbrev course_here : ℕ → Course
  course_here table = record { infos = infos; commits = map (ticked_commit table) versions; start = start }

  course_is : (table : ℕ) → course_of infos start table versions ≡ course_here table
  course_is table =
      goes_on table (first_course infos start) versions (none_altered table versions plain)
      ∙ ap (λ (l : List TableInfo). let c : Course = record { infos = l; commits = map (ticked_commit table) versions; start = start } in c) (last_infos infos versions all)

  kept : since start records ≡ records
  kept = whole_log start records late

  from_is : max position start ≡ position
  from_is = omega (arith, subsequent)

  abbrev own_point : ℕ → ℕ
  own_point table = moment_at (T table) position

  abbrev own_begin : ℕ → ℕ
  own_begin table = moment_at (T table) start

  abbrev own_end : ℕ → ℕ
  own_end table = span_end infos (T table) (own_begin table) records (own_point table)

  abbrev OwnHere : ℕ → Type 0
  OwnHere table = (topic text : List ℕ) (key : Key) (column : List ℕ) → Names identity infos topic text table key
      → IsAgedCell (IsKnown identity infos (all_changes (T table)) (own_begin table) records (own_end table) table key) (source_cell infos (all_changes (T table)) table key column) (own_point table) (own_end table) (held_cell identity records topic text column)

  end_is : (table : ℕ) → clock infos table cs (own_end table) ≡ span_end infos P (moment_at P start) records (moment_at P position)
  end_is table =
      max_clock infos table cs (own_point table) (last_moment infos (T table) (own_begin table) records)
      ∙ (ap (λ (n : ℕ). max n (clock infos table cs (last_moment infos (T table) (own_begin table) records))) (positions_clock infos table versions position all (have table))
      ∙ ap (max (moment_at P position)) (last_clock infos table versions (own_begin table) records all (have table)
      ∙ ap (λ (n : ℕ). last_moment infos P n records) (positions_clock infos table versions start all (have table))))

  life_is : (table : ℕ) (key : Key) (column : List ℕ) (k : ℕ) → source_cell infos cs table key column (clock infos table cs k) ≡ source_cell infos (all_changes (T table)) table key column k
  life_is table key column k =
      cell_clock infos table cs key column k (have table)
      ∙ ap (λ (l : List Change). source_cell infos l table key column k) (sym (list_ticks infos table versions all))

  -- what is known in the history is what is known in the course
  known_back : (table : ℕ) (key : Key) → IsKnown identity infos (all_changes (T table)) (own_begin table) records (own_end table) table key
      → IsKnown identity infos cs (clock infos table cs (own_begin table)) records (clock infos table cs (own_end table)) table key
  known_back table key (inl told) = inl told
  known_back table key (inr touched) =
      inr (touched_back infos table cs (own_begin table) (own_end table) key (have table) (subst (λ (l : List Change). IsTouched infos l (own_begin table) (own_end table) table key) (list_ticks infos table versions all) touched))

  known_on : (table : ℕ) (key : Key) → IsKnown identity infos cs (clock infos table cs (own_begin table)) records (clock infos table cs (own_end table)) table key
      → IsKnown identity infos (all_changes (T table)) (own_begin table) records (own_end table) table key
  known_on table key (inl told) = inl told
  known_on table key (inr touched) =
      inr (subst (λ (l : List Change). IsTouched infos l (own_begin table) (own_end table) table key) (sym (list_ticks infos table versions all)) (touched_on infos table cs (own_begin table) (own_end table) key (have table) touched))

  abbrev PlainCell : List ℕ → List ℕ → ℕ → Key → List ℕ → ℕ → ℕ → ℕ → Type 0
  PlainCell topic text table key column begin from to = IsAgedCell (IsKnown identity infos cs begin records to table key) (source_cell infos cs table key column) from to (held_cell identity records topic text column)

  begin_le : (a b : ℕ) → a ≤ max a b
  begin_le a b = omega arith

  to_plain : ((table : ℕ) → OwnHere table) → IsAged identity infos P (moment_at P start) records (moment_at P position)
  to_plain own = record {
    each = λ topic text table key column names. (
        let held = held_cell identity records topic text column in
        let here : PlainCell topic text table key column (clock infos table cs (own_begin table)) (clock infos table cs (own_point table)) (clock infos table cs (own_end table)) =
        aged_back infos table cs (IsKnown identity infos (all_changes (T table)) (own_begin table) records (own_end table) table key)
        (IsKnown identity infos cs (clock infos table cs (own_begin table)) records (clock infos table cs (own_end table)) table key)
        (source_cell infos cs table key column) (source_cell infos (all_changes (T table)) table key column) (own_point table) (own_end table) held (known_on table key) (life_is table key column) (own table topic text key column names) in
        subst (λ (b : ℕ). PlainCell topic text table key column b (moment_at P position) (span_end infos P (moment_at P start) records (moment_at P position))) (positions_clock infos table versions start all (have table))
        (subst (λ (f : ℕ). PlainCell topic text table key column (clock infos table cs (own_begin table)) f (span_end infos P (moment_at P start) records (moment_at P position))) (positions_clock infos table versions position all (have table))
        (subst (PlainCell topic text table key column (clock infos table cs (own_begin table)) (clock infos table cs (own_point table))) (end_is table) here)));
  }

  to_own : IsAged identity infos P (moment_at P start) records (moment_at P position) → (table : ℕ) → OwnHere table
  to_own aged table topic text key column names =
      let held = held_cell identity records topic text column in
      let here : PlainCell topic text table key column (clock infos table cs (own_begin table)) (clock infos table cs (own_point table)) (clock infos table cs (own_end table)) =
      subst (λ (b : ℕ). PlainCell topic text table key column b (clock infos table cs (own_point table)) (clock infos table cs (own_end table))) (sym (positions_clock infos table versions start all (have table)))
      (subst (λ (f : ℕ). PlainCell topic text table key column (moment_at P start) f (clock infos table cs (own_end table))) (sym (positions_clock infos table versions position all (have table)))
      (subst (PlainCell topic text table key column (moment_at P start) (moment_at P position)) (sym (end_is table)) (aged.each topic text table key column names))) in
      aged_on infos table cs (IsKnown identity infos cs (clock infos table cs (own_begin table)) records (clock infos table cs (own_end table)) table key)
      (IsKnown identity infos (all_changes (T table)) (own_begin table) records (own_end table) table key)
      (source_cell infos cs table key column) (source_cell infos (all_changes (T table)) table key column) (own_point table) (own_end table) held (have table) (begin_le (own_point table) (last_moment infos (T table) (own_begin table) records))
      (known_back table key) (life_is table key column) here

  own_record : (table : ℕ) → OwnHere table → IsOwnAged identity (course_of infos start table versions) records (own_from (course_of infos start table versions) position) table
  own_record table own =
      subst (λ (c : Course). IsOwnAged identity c records (own_from c position) table) (sym (course_is table))
      (subst (λ (p : ℕ). IsOwnAged identity (course_here table) records (moment_at (T table) p) table) (sym from_is)
      (record { each = λ topic text key column names. subst (λ (l : List Record). IsAgedCell (IsKnown identity infos (all_changes (T table)) (own_begin table) l (span_end infos (T table) (own_begin table) l (own_point table)) table key) (source_cell infos (all_changes (T table)) table key column) (own_point table) (span_end infos (T table) (own_begin table) l (own_point table)) (held_cell identity l topic text column)) (sym kept) (own topic text key column names) }))

  own_cells : (table : ℕ) → IsOwnAged identity (course_of infos start table versions) records (own_from (course_of infos start table versions) position) table → OwnHere table
  own_cells table aged topic text key column names =
      let one : IsOwnAged identity (course_here table) records (own_from (course_here table) position) table = subst (λ (c : Course). IsOwnAged identity c records (own_from c position) table) (course_is table) aged in
      let two : IsOwnAged identity (course_here table) records (moment_at (T table) position) table = subst (λ (p : ℕ). IsOwnAged identity (course_here table) records (moment_at (T table) p) table) from_is one in
      subst (λ (l : List Record). IsAgedCell (IsKnown identity infos (all_changes (T table)) (own_begin table) l (span_end infos (T table) (own_begin table) l (own_point table)) table key) (source_cell infos (all_changes (T table)) table key column) (own_point table) (span_end infos (T table) (own_begin table) l (own_point table)) (held_cell identity l topic text column)) kept (two.each topic text key column names)

pub plain_age : PlainTablesAge
plain_age identity infos versions start position records valid plain late subsequent = (
  λ aged table. own_record identity infos versions start position records valid plain late subsequent table (to_own identity infos versions start position records valid plain late subsequent aged table),
  λ own. to_plain identity infos versions start position records valid plain late subsequent (λ table. own_cells identity infos versions start position records valid plain late subsequent table (own table)),
)
