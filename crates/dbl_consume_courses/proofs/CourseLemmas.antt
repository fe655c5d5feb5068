-- Courses, commit by commit, and their rows.
use Rattle.std.proofs.Common.{◌≡◌, ◌≢◌, ◌∙◌, ℕ, Bool, true, false, Option, Some, None, List, [], ◌∷◌, ◌++◌, length, map, refl, sym, ap, subst, arith, append_assoc}
use Rattle.std.proofs.lemmas.Bool.{eq-eqb, eqb-true}
use Rattle.std.proofs.lemmas.List.{append-nil, take_all}
use Rattle.std.proofs.lemmas.List.Sums.{fold-append}
use Rattle.std.specs.Prelude.{◌==◌, if◌then◌else◌, fold, flat_map, max, option_map, unwrap_or, slice_get}
use Rattle.dbl_value_types.specs.declared.value.Val.{Val}
use Rattle.dbl_model_table.specs.declared.row.Key.{Key}
use Rattle.dbl_model_table.specs.declared.table.RawRow.{RawRow}
use Rattle.dbl_model_table.specs.declared.table.TableInfo.{TableInfo}
use Rattle.dbl_model_table.specs.declared.change.Change.{Change}
use Rattle.dbl_model_table.specs.declared.change.Change.TheVariants.{Insert, Update, Delete, Clear}
use Rattle.dbl_model_table.specs.declared.change.Body.{Body}
use Rattle.dbl_model_table.specs.declared.change.Body.TheVariants.{Changes, Mark}
use Rattle.dbl_model_table.specs.declared.change.Commit.{Commit}
use Rattle.dbl_model_table.specs.Infos.{key_places}
use Rattle.dbl_model_table.specs.Keys.{same_key, key_at, given_or_null}
use Rattle.dbl_model_table.specs.Rows.{Effect, all_given, updated, at_key, at_keys, effect_of, row_after, Rows, no_rows, rows_from, rows, table_of, changes_of, all_changes}
use Rattle.dbl_model_table.specs.Rows.Effect.{Whole}
use Rattle.dbl_model_history.specs.PlainRows.{row_from}
use Rattle.dbl_model_event.specs.Events.{Notice, notices}
use Rattle.dbl_model_history.proofs.PlainLemmas.{rows_from-row_from}
use Rattle.dbl_model_history.proofs.RowLemmas.{all_changes-append, effect_of-other_table}
use Rattle.dbl_consume_courses.specs.Versions.{Alteration, Versioned, plain_commit, FollowsInfos, AreVersionsFrom, inserts, altered_rows, rows_through}
use Rattle.dbl_consume_courses.specs.Courses.{ticked, ticked_commit, opening, Course, alteration_of, course_by, course_after, course_from, first_course, infos_after, CoursesGoOn, CoursesBeginAnew, CoursesShowRows, CoursesHaveInfos}

-- ---- commits

pub goes_on : CoursesGoOn
goes_on table old [] unaltered =
    ap (λ (l : List Commit). let c : Course = record { infos = old.infos; commits = l; start = old.start } in c) (sym (append-nil old.commits))
goes_on table old (v ∷ versions) unaltered =
    let next : Course = record { infos = v.infos; commits = old.commits ++ ticked_commit table v ∷ []; start = old.start } in
    ap (λ (o : Option (List RawRow)). course_from table (course_by table old v o) versions) unaltered.0
    ∙ (goes_on table next versions unaltered.1
    ∙ ap (λ (l : List Commit). let c : Course = record { infos = infos_after v.infos versions; commits = l; start = old.start } in c)
    (append_assoc old.commits (ticked_commit table v ∷ []) (map (ticked_commit table) versions)))

pub begins_anew : CoursesBeginAnew
begins_anew table old before v rows later altered unaltered =
    let mid = course_from table old before in
    let next : Course = record { infos = v.infos; commits = opening table v rows ∷ []; start = max mid.start v.lsn.0 } in
    fold-append (course_after table) old before (v ∷ later)
    ∙ (ap (λ (o : Option (List RawRow)). course_from table (course_by table mid v o) later) altered ∙ goes_on table next later unaltered)

pub infos_by : (table : ℕ) (c : Course) (v : Versioned) (o : Option (List RawRow)) → (course_by table c v o).infos ≡ v.infos
infos_by table c v None = refl
infos_by table c v (Some rows) = refl

pub infos_from : (table : ℕ) (c : Course) (versions : List Versioned) → (course_from table c versions).infos ≡ infos_after c.infos versions
infos_from table c [] = refl
infos_from table c (v ∷ versions) =
    infos_from table (course_after table c v) versions
    ∙ ap (λ (l : List TableInfo). infos_after l versions) (infos_by table c v (alteration_of table v.altered))

pub has_infos : CoursesHaveInfos
has_infos infos versions start table = infos_from table (first_course infos start) versions

-- ---- rows of one table

pub row_from-append : (infos : List TableInfo) (table : ℕ) (key : Key) (row : Option (List Val)) (cs ds : List Change)
    → row_from infos table key row (cs ++ ds) ≡ row_from infos table key (row_from infos table key row cs) ds
row_from-append infos table key row [] ds = refl
row_from-append infos table key row (c ∷ cs) ds = row_from-append infos table key (row_after (effect_of infos c table key) row) cs ds

-- changes of other tables leave a row as it is
pub silent_change : (infos : List TableInfo) (table : ℕ) (key : Key) (row : Option (List Val)) (c : Change) → table_of c ≢ table
    → row_after (effect_of infos c table key) row ≡ row
silent_change infos table key row c other = ap (λ (e : Effect). row_after e row) (effect_of-other_table infos c table key other)

silent_ticks : (infos : List TableInfo) (table t : ℕ) (key : Key) (row : Option (List Val)) (ns : List Notice) → t ≢ table
    → row_from infos table key row (map (λ n. Clear t) ns) ≡ row
silent_ticks infos table t key row [] other = refl
silent_ticks infos table t key row (n ∷ ns) other =
    ap (λ (r : Option (List Val)). row_from infos table key r (map (λ m. Clear t) ns)) (silent_change infos table key row (Clear t) other)
    ∙ silent_ticks infos table t key row ns other

pub not_same : (t u : ℕ) → (t == u) ≡ false → t ≢ u
not_same t u is same = let equal : (t == u) ≡ true = eq-eqb t u same in cc

pub tick_row : (infos : List TableInfo) (table : ℕ) (key : Key) (row : Option (List Val)) (c : Change)
    → row_from infos table key row (ticked infos table c) ≡ row_after (effect_of infos c table key) row
tick_row infos table key row c = by (table_of c == table) refl
  where
    by : (b : Bool) → (table_of c == table) ≡ b → row_from infos table key row (ticked infos table c) ≡ row_after (effect_of infos c table key) row
    by true is = ap (λ (b : Bool). row_from infos table key row (if b then c ∷ [] else map (λ n. Clear (table_of c)) (notices infos c))) is
    by false is =
        let other : table_of c ≢ table = not_same (table_of c) table is in
        ap (λ (b : Bool). row_from infos table key row (if b then c ∷ [] else map (λ n. Clear (table_of c)) (notices infos c))) is
        ∙ (silent_ticks infos table (table_of c) key row (notices infos c) other ∙ sym (silent_change infos table key row c other))

tick_rows : (infos : List TableInfo) (table : ℕ) (key : Key) (row : Option (List Val)) (cs : List Change)
    → row_from infos table key row (flat_map (ticked infos table) cs) ≡ row_from infos table key row cs
tick_rows infos table key row [] = refl
tick_rows infos table key row (c ∷ cs) =
    row_from-append infos table key row (ticked infos table c) (flat_map (ticked infos table) cs)
    ∙ (ap (λ (r : Option (List Val)). row_from infos table key r (flat_map (ticked infos table) cs)) (tick_row infos table key row c)
    ∙ tick_rows infos table key (row_after (effect_of infos c table key) row) cs)

tick_body : (v : Versioned) (table : ℕ) (key : Key) (row : Option (List Val)) (body : Body) → v.body ≡ body
    → row_from v.infos table key row (changes_of (ticked_commit table v)) ≡ row_from v.infos table key row (changes_of (plain_commit v))
tick_body v table key row (Changes changes) is = rw is (tick_rows v.infos table key row changes)
tick_body v table key row (Mark value) is = rw is refl

-- the row depends on the description of its own table only
pub effect_same : (a b : List TableInfo) (table : ℕ) (key : Key) (c : Change) → slice_get a table ≡ slice_get b table
    → effect_of a c table key ≡ effect_of b c table key
effect_same a b table key c same = by (table_of c == table) refl
  where
    by : (t : Bool) → (table_of c == table) ≡ t → effect_of a c table key ≡ effect_of b c table key
    by false is =
        let other : table_of c ≢ table = not_same (table_of c) table is in
        effect_of-other_table a c table key other ∙ sym (effect_of-other_table b c table key other)
    by true is =
        let own : table_of c ≡ table = eqb-true (table_of c) table is in
        of_own c own
      where
        places : (t : ℕ) → t ≡ table → key_places a t ≡ key_places b t
        places t own =
            let at : slice_get a t ≡ slice_get b t = ap (slice_get a) own ∙ (same ∙ sym (ap (slice_get b) own)) in
            ap (λ (o : Option TableInfo). unwrap_or (option_map (λ info. info.key) o) []) at

        of_own : (d : Change) → table_of d ≡ table → effect_of a d table key ≡ effect_of b d table key
        of_own (Insert t row) own =
            ap (λ (l : List ℕ). at_key (t == table) (same_key (key_at l row.cells) key) (Whole row.cells)) (places t own)
        of_own (Update t from old cells) own =
            ap (λ (l : List ℕ). at_keys (t == table) (same_key (key_at l (map given_or_null cells)) key) (same_key from key)
            (updated (all_given cells) cells)) (places t own)
        of_own (Delete t from old) own = refl
        of_own (Clear t) own = refl

pub row_same : (a b : List TableInfo) (table : ℕ) (key : Key) (row : Option (List Val)) (cs : List Change) → slice_get a table ≡ slice_get b table
    → row_from a table key row cs ≡ row_from b table key row cs
row_same a b table key row [] same = refl
row_same a b table key row (c ∷ cs) same =
    ap (λ (e : Effect). row_from a table key (row_after e row) cs) (effect_same a b table key c same)
    ∙ row_same a b table key (row_after (effect_of b c table key) row) cs same

-- ---- rows of courses

-- the course shows these rows of its table
pub record Shows (table : ℕ) (c : Course) (at : Rows) : Type 0 where
  pub each : (key : Key) → row_from c.infos table key None (all_changes c.commits) ≡ at table key

all_one : (commit : Commit) → all_changes (commit ∷ []) ≡ changes_of commit
all_one commit = append-nil (changes_of commit)

-- one more commit that leaves the table's description as it is
shows_more : (table : ℕ) (c : Course) (v : Versioned) (at : Rows) → Shows table c at → slice_get v.infos table ≡ slice_get c.infos table
    → Shows table (record { infos = v.infos; commits = c.commits ++ ticked_commit table v ∷ []; start = c.start })
    (rows_from v.infos at (changes_of (plain_commit v)))
shows_more table c v at shows same = record {
  each = λ key.
      ap (row_from v.infos table key None) (all_changes-append c.commits (ticked_commit table v ∷ [])
      ∙ ap (λ (l : List Change). all_changes c.commits ++ l) (all_one (ticked_commit table v)))
      ∙ (row_from-append v.infos table key None (all_changes c.commits) (changes_of (ticked_commit table v))
      ∙ (ap (λ (r : Option (List Val)). row_from v.infos table key r (changes_of (ticked_commit table v)))
      (row_same v.infos c.infos table key None (all_changes c.commits) same ∙ shows.each key)
      ∙ (tick_body v table key (at table key) v.body refl
      ∙ sym (rows_from-row_from v.infos at (changes_of (plain_commit v)) table key))));
}

shows_anew : (table start : ℕ) (v : Versioned) (rows : List RawRow)
    → Shows table (record { infos = v.infos; commits = opening table v rows ∷ []; start = start })
    (λ t key. rows_from v.infos no_rows (inserts v.infos t rows) t key)
shows_anew table start v rows = record {
  each = λ key. ap (row_from v.infos table key None) (all_one (opening table v rows))
      ∙ sym (rows_from-row_from v.infos no_rows (inserts v.infos table rows) table key);
}

shows_at : (table : ℕ) (c : Course) (a b : Rows) → Shows table c a → ((key : Key) → a table key ≡ b table key) → Shows table c b
shows_at table c a b shows same = record { each = λ key. shows.each key ∙ same key }

pub shows_next : (table : ℕ) (c : Course) (v : Versioned) (at : Rows) (o : Option Alteration) → v.altered ≡ o → Shows table c at
    → FollowsInfos c.infos v o
    → Shows table (course_by table c v (alteration_of table o)) (altered_rows v.infos o (rows_from v.infos at (changes_of (plain_commit v))))
shows_next table c v at None is shows follows = shows_more table c v at shows (ap (λ (l : List TableInfo). slice_get l table) follows)
shows_next table c v at (Some alteration) is shows alters = by (alteration.table == table) refl
  where
    after : Rows
    after = rows_from v.infos at (changes_of (plain_commit v))

    by : (b : Bool) → (alteration.table == table) ≡ b
        → Shows table (course_by table c v (alteration_of table (Some alteration))) (altered_rows v.infos (Some alteration) after)
    by true same =
        subst (λ (o : Option (List RawRow)). Shows table (course_by table c v o) (altered_rows v.infos (Some alteration) after))
        (sym (ap (λ (b : Bool). if b then Some alteration.rows else None) same))
        (shows_at table _ _ _ (shows_anew table (max c.start v.lsn.0) v alteration.rows)
        (λ key. sym (ap (λ (b : Bool). if b then rows_from v.infos no_rows (inserts v.infos table alteration.rows) table key else after table key) same)))
    by false other =
        let apart : table ≢ alteration.table = λ e. not_same alteration.table table other (sym e) in
        subst (λ (o : Option (List RawRow)). Shows table (course_by table c v o) (altered_rows v.infos (Some alteration) after))
        (sym (ap (λ (b : Bool). if b then Some alteration.rows else None) other))
        (shows_at table _ _ _ (shows_more table c v at shows (alters.others table apart))
        (λ key. sym (ap (λ (b : Bool). if b then rows_from v.infos no_rows (inserts v.infos table alteration.rows) table key else after table key) other)))

shows_from : (table : ℕ) (c : Course) (versions : List Versioned) (at : Rows) → Shows table c at → AreVersionsFrom c.infos versions
    → Shows table (course_from table c versions) (fold rows_through at versions)
shows_from table c [] at shows follow = shows
shows_from table c (v ∷ versions) at shows follow =
    shows_from table (course_after table c v) versions (rows_through at v)
    (shows_next table c v at v.altered refl shows follow.0)
    (subst (λ (l : List TableInfo). AreVersionsFrom l versions) (sym (infos_by table c v (alteration_of table v.altered))) follow.1)

pub shows_none : (table : ℕ) (infos : List TableInfo) (start : ℕ) → Shows table (first_course infos start) no_rows
shows_none table infos start = record { each = λ key. refl }

pub shows_rows : CoursesShowRows
shows_rows infos versions start table key follow =
    let c = course_from table (first_course infos start) versions in
    let shows = shows_from table (first_course infos start) versions no_rows (shows_none table infos start) follow in
    ap (λ (l : List Change). rows_from c.infos no_rows l table key) (take_all (length (all_changes c.commits)) (all_changes c.commits) (omega arith))
    ∙ (rows_from-row_from c.infos no_rows (all_changes c.commits) table key ∙ shows.each key)
