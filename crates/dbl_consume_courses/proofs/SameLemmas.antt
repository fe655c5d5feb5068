-- A whole log and the log since a table's last alteration: the same cells at the keys known there.
use Rattle.std.proofs.Common.{◌≡◌, ◌≢◌, ◌∙◌, ◌⊎◌, inl, inr, ℕ, ℤ, zero, suc, ◌+◌, ◌-◌, ◌≤◌, ◌<◌, Bool, true, false, Option, Some, None, List, [], ◌∷◌, ◌++◌, length, map, take, fold, refl, sym, ap, subst, arith, append-nil, append_assoc, length-append}
use Rattle.std.proofs.lemmas.Bool.{cases_lt}
use Rattle.std.proofs.lemmas.List.Sums.{fold-append}
use Rattle.std.specs.Prelude.{◌==◌, if◌then◌else◌, flat_map, IsSome, IsSomeAnd, IfSome, IsTrue, option_map, option_and_then, unwrap_or, slice_get}
use Rattle.std.specs.List.{AllByRecursion}
use Rattle.std.specs.Str.{bytes_eq}
use Rattle.dbl_value_types.specs.declared.value.Val.{Val}
use Rattle.dbl_record.specs.declared.acts.HeldCell.{HeldCell}
use Rattle.dbl_record.specs.declared.acts.HeldCell.TheVariants.{Known, Unknown}
use Rattle.dbl_record.specs.declared.record.Record.{Record}
use Rattle.dbl_record.specs.Consumers.{HeldCells, held_at}
use Rattle.dbl_model_table.specs.declared.identity.Identity.{Identity}
use Rattle.dbl_model_table.specs.declared.row.Key.{Key}
use Rattle.dbl_model_table.specs.declared.row.Row.{Row}
use Rattle.dbl_model_table.specs.declared.table.TableInfo.{TableInfo}
use Rattle.dbl_model_table.specs.declared.change.Cell.TheVariants.{Given}
use Rattle.dbl_model_table.specs.declared.change.Change.{Change}
use Rattle.dbl_model_table.specs.declared.change.Change.TheVariants.{Clear}
use Rattle.dbl_model_table.specs.declared.change.Body.{Body}
use Rattle.dbl_model_table.specs.declared.change.Body.TheVariants.{Changes, Mark}
use Rattle.dbl_model_table.specs.declared.change.Commit.{Commit}
use Rattle.dbl_model_table.specs.Infos.{column_types, columns_of, topic_of}
use Rattle.dbl_model_table.specs.Keys.{key_of, same_key}
use Rattle.dbl_model_table.proofs.KeyLemmas.{same_key-is}
use Rattle.dbl_model_table.proofs.Lists.{bool_case, text_itself}
use Rattle.dbl_model_table.specs.Rows.{Effect, effect_of, IsWholeEffect, IsWholeFor, Rows, no_rows, rows_after, rows, table_of, changes_of, all_changes}
use Rattle.dbl_model_table.specs.Rows.Effect.{Stays, Whole, Part, Ends}
use Rattle.dbl_model_history.specs.Fit.{AreFit, IsKeyOf}
use Rattle.dbl_model_history.specs.FitsInfos.{AreCellsOf}
use Rattle.dbl_model_history.specs.KeyBounds.{IsUpTo}
use Rattle.dbl_model_history.specs.KeyedRows.{row_in}
use Rattle.dbl_model_history.proofs.BoundLemmas.{bounds_part}
use Rattle.dbl_model_history.specs.Image.{Names, key_text, row_json_texts}
use Rattle.dbl_model_history.specs.Laws.{AreDistinctTables}
use Rattle.dbl_model_history.specs.Ranges.{IsCommitInRange, IsMomentInRange}
use Rattle.dbl_model_history.specs.WholeChanges.{IsTouched}
use Rattle.dbl_model_event.specs.declared.closed.Closed.{Closed}
use Rattle.dbl_model_event.specs.Events.{Created, Notice, notice, notices, numbered}
use Rattle.dbl_model_event.specs.Snapshots.{read_record, read_records, progress_record, chunk_records, FitsChunk}
use Rattle.dbl_model_event.specs.SnapshotLists.{IsSnapshot}
use Rattle.dbl_model_event.specs.EventJson.{print, envelopes}
use Rattle.dbl_model_event.specs.Clashes.{clash_of, snapshot_clash}
use Rattle.dbl_model_history.proofs.RowLemmas.{all_changes-append, effect_of-other_table}
use Rattle.dbl_consume_laws.specs.Cells.{Op, Stay, cell_after, cell_op, named_column_cell, content_op, notice_op}
use Rattle.dbl_consume_laws.specs.Laws.{IsNotPlaceholder}
use Rattle.dbl_consume_laws.specs.Prints.{ReportsProgress}
use Rattle.dbl_consume_laws.specs.Snapshots.{IsReadInRange}
use Rattle.dbl_consume_laws.specs.Windows.{IsRightWindow}
use Rattle.dbl_consume_laws.specs.Commits.{moment_after}
use Rattle.dbl_consume_laws.specs.Effects.{effect_op, after_notices}
use Rattle.dbl_consume_laws.specs.KnownKeys.{IsTold, IsKnown, AreToldUpTo}
use Rattle.dbl_consume_laws.specs.Ages.{held_row, held_cell, source_cell, HadValueWithin, IsAgedCell}
use Rattle.dbl_consume_laws.proofs.AgeingRows.{item_op, held_from, held-more, held-one, DoesAsTold}
use Rattle.dbl_consume_laws.proofs.Clashes.{snapshots_lack_placeholders}
use Rattle.dbl_consume_laws.proofs.Prints.{through_in_range, progress_is_read_once, progress_records_tell, table_topics_tell_none}
use Rattle.dbl_consume_laws.proofs.ReadRows.{read_rows_change_cells}
use Rattle.dbl_consume_laws.proofs.Snapshot.{cells_in_range}
use Rattle.dbl_consume_laws.proofs.CellEffects.{changes_change_cells}
use Rattle.dbl_consume_laws.proofs.CellEvents.{events_change_cells}
use Rattle.dbl_consume_laws.proofs.Events.{all_quiet}
use Rattle.dbl_consume_laws.proofs.KnownKeys.{IsQuiet, told_cases, told_one, untold, known_quiet}
use Rattle.dbl_consume_laws.proofs.Lists.{slice_get-front, slice_get-subsequent, all_take}
use Rattle.dbl_consume_courses.specs.Versions.{Versioned, plain_commit, AreVersionsFrom, rows_through}
use Rattle.dbl_consume_courses.specs.Courses.{Course, ticked, ticked_body, ticked_commit, infos_after}
use Rattle.dbl_consume_courses.specs.Since.{since}
use Rattle.dbl_consume_courses.specs.AlteredTables.{course_changes, course_start, IsKnownIn, IsOwnAged, HasSameCells}
use Rattle.dbl_consume_courses.specs.FitVersions.{IsFitVersion, AreFitFrom, AreFitVersions}
use Rattle.dbl_consume_courses.specs.Growth.{course_of, own_span_end, IsVersionAmong}
use Rattle.dbl_consume_courses.specs.SameCells.{HasOnlySourceRows, NewCoursesHaveSameCells, PartsOfCommitsKeepSameCells, CommitsMoveSameCells, PartsOfSnapshotsKeepSameCells, SameCellsStayAsHistoriesGrow}
use Rattle.dbl_consume_courses.proofs.SinceLemmas.{appended}
use Rattle.dbl_consume_courses.proofs.AgeLemmas.{none_known}
use Rattle.dbl_consume_courses.proofs.CourseLemmas.{not_same, effect_same}
use Rattle.dbl_consume_courses.proofs.Kin.{kin_all, kin_distinct}
use Rattle.dbl_consume_courses.proofs.FitLemmas.{are_fit}
use Rattle.dbl_consume_courses.proofs.GrowthLemmas.{IsPlaced, placed_in, late_items, printed_at, read_at, one_more, goes, same_infos, known_old}

pub new_same : NewCoursesHaveSameCells
new_same identity c records item table early =
    record { each = λ topic text key column names known. absurd (none_known identity c records item table key early known) }

-- ---- equal cells stay so with more records

held_both : (identity : Identity) (topic text column : List ℕ) (xs ys more : List Record) → held_cell identity xs topic text column ≡ held_cell identity ys topic text column
    → held_cell identity (xs ++ more) topic text column ≡ held_cell identity (ys ++ more) topic text column
held_both identity topic text column xs ys more same =
    held-more identity topic text column xs more
    ∙ (ap (λ (h : Option HeldCell). held_from identity topic text column h more) same ∙ sym (held-more identity topic text column ys more))

-- records of one position, which is not before the course's start
module _ (identity : Identity) (c : Course) (table : ℕ) (records more : List Record) (position : ℕ) (late : c.start ≤ position) (at : AllByRecursion (λ item. item.position ≡ position) more) where
  pub kept : since c.start (records ++ more) ≡ since c.start records ++ more
  kept = appended c.start records more (late_items c.start position more late at)

  pub same_kept : (topic text column : List ℕ) → held_cell identity records topic text column ≡ held_cell identity (since c.start records) topic text column
      → held_cell identity (records ++ more) topic text column ≡ held_cell identity (since c.start (records ++ more)) topic text column
  same_kept topic text column same = held_both identity topic text column records (since c.start records) more same ∙ ap (λ (l : List Record). held_cell identity l topic text column) (sym kept)

  pub known_kept : (moment : ℕ) (key : Key) → AllByRecursion (IsQuiet identity) more → IsKnownIn identity c (records ++ more) moment table key → IsKnownIn identity c records moment table key
  known_kept moment key quiet known = known_quiet identity c.infos table key (course_changes c) (course_start c) (since c.start records) more moment quiet
      (subst (λ (l : List Record). IsKnown identity c.infos (course_changes c) (course_start c) l moment table key) kept known)

  pub parts_same : (moment : ℕ) → AllByRecursion (IsQuiet identity) more → HasSameCells identity c records moment table → HasSameCells identity c (records ++ more) moment table
  parts_same moment quiet same = record {
    each = λ topic text key column names known. same_kept topic text column (same.each topic text key column names (known_kept moment key quiet known));
  }

le_of : (a b : ℕ) → a < b → a ≤ b
le_of a b lt = omega (arith, lt)

pub parts_keep_same : PartsOfCommitsKeepSameCells
parts_keep_same identity infos versions start table earlier v later moment records now n among same =
    let placed = placed_in infos versions start table earlier v later among in
    let all : List Record = envelopes identity v.infos (plain_commit v) now in
    parts_same identity (course_of infos start table versions) table records (take n all) v.lsn.0 (le_of (course_of infos start table versions).start v.lsn.0 placed.late)
    (all_take (λ item. item.position ≡ v.lsn.0) n all (printed_at identity (plain_commit v) now v.lsn.0 0 (flat_map (notices v.infos) (changes_of (plain_commit v)))))
    moment (all_take (IsQuiet identity) n all (all_quiet identity (plain_commit v) now (numbered v.lsn.0 0 (flat_map (notices v.infos) (changes_of (plain_commit v)))))) same

-- ---- a whole change sets a cell whatever it was

whole_op : (o : Option Val) (x y : Option HeldCell) → cell_after (cell_op (option_map Given o)) x ≡ cell_after (cell_op (option_map Given o)) y
whole_op None x y = refl
whole_op (Some v) x y = refl

whole_cell : (info : TableInfo) (e : Effect) (column : List ℕ) (x y : Option HeldCell) → IsWholeEffect e → cell_after (effect_op info e column) x ≡ cell_after (effect_op info e column) y
whole_cell info Stays column x y whole = elim whole [ ]
whole_cell info (Whole row) column x y whole = whole_op (named_column_cell info.columns row column) x y
whole_cell info (Part cells) column x y whole = elim whole [ ]
whole_cell info Ends column x y whole = refl

-- whether one of the changes is whole for a key
abbrev AnyWhole : List TableInfo → ℕ → Key → List Change → Type 0
AnyWhole infos table key [] = ⊥
AnyWhole infos table key (c ∷ cs) = IsWholeFor infos c table key ⊎ AnyWhole infos table key cs

any_at : (infos : List TableInfo) (table : ℕ) (key : Key) (cs : List Change) (i : ℕ) (c : Change) → slice_get cs i ≡ Some c → IsWholeFor infos c table key → AnyWhole infos table key cs
any_at infos table key [] i c at whole = cc
any_at infos table key (d ∷ cs) zero c at whole = let same : d ≡ c = cc in inl (subst (λ (x : Change). IsWholeFor infos x table key) (sym same) whole)
any_at infos table key (d ∷ cs) (suc i) c at whole = inr (any_at infos table key cs i c at whole)

any_append : (infos : List TableInfo) (table : ℕ) (key : Key) (cs ds : List Change) → AnyWhole infos table key (cs ++ ds) → AnyWhole infos table key cs ⊎ AnyWhole infos table key ds
any_append infos table key [] ds any = inr any
any_append infos table key (c ∷ cs) ds (inl whole) = inl (inl whole)
any_append infos table key (c ∷ cs) ds (inr any) = elim (any_append infos table key cs ds any) [ inl one ↦ inl (inr one) | inr two ↦ inr two ]

module _ (a b : List TableInfo) (table : ℕ) (key : Key) (same : slice_get a table ≡ slice_get b table) where
  none_clear : (t : ℕ) (ns : List Notice) → t ≢ table → AnyWhole b table key (map (λ n. Clear t) ns) → ⊥
  none_clear t [] other any = any
  none_clear t (n ∷ ns) other (inl whole) = subst IsWholeEffect (effect_of-other_table b (Clear t) table key other) whole
  none_clear t (n ∷ ns) other (inr any) = none_clear t ns other any

  any_tick : (c : Change) → AnyWhole b table key (ticked a table c) → IsWholeFor a c table key
  any_tick c any = by (table_of c == table) refl
    where
      own : AnyWhole b table key (c ∷ []) → IsWholeFor a c table key
      own (inl whole) = subst IsWholeEffect (effect_same b a table key c (sym same)) whole
      own (inr none) = elim none [ ]

      by : (t : Bool) → (table_of c == table) ≡ t → IsWholeFor a c table key
      by true is = own (subst (AnyWhole b table key) (ap (λ (t : Bool). if t then c ∷ [] else map (λ n. Clear (table_of c)) (notices a c)) is) any)
      by false is = absurd (none_clear (table_of c) (notices a c) (not_same (table_of c) table is)
          (subst (AnyWhole b table key) (ap (λ (t : Bool). if t then c ∷ [] else map (λ n. Clear (table_of c)) (notices a c)) is) any))

  any_ticks : (cs : List Change) → AnyWhole b table key (flat_map (ticked a table) cs) → AnyWhole a table key cs
  any_ticks [] any = any
  any_ticks (c ∷ cs) any = elim (any_append b table key (ticked a table c) (flat_map (ticked a table) cs) any) [ inl one ↦ inl (any_tick c one) | inr rest ↦ inr (any_ticks cs rest) ]

  any_body : (body : Body) → AnyWhole b table key (elim (ticked_body a table body) [ Changes changes ↦ changes | Mark value ↦ [] ]) → AnyWhole a table key (elim body [ Changes changes ↦ changes | Mark value ↦ [] ])
  any_body (Changes changes) any = any_ticks changes any
  any_body (Mark value) any = any

-- ---- the records of a commit do to a cell what its changes do

module _ (identity : Identity) (infos : List TableInfo) (commit : Commit) (now : ℤ) (topic text : List ℕ) (table : ℕ) (key : Key) (names : Names identity infos topic text table key) (column : List ℕ) (apart : AreDistinctTables infos) where
  abbrev cells_from : Option HeldCell → List Change → Option HeldCell
  cells_from held cs = fold (λ h c. cell_after (effect_op names.info (effect_of infos c table key) column) h) held cs

  told_cells : (position ordinal : ℕ) (ns : List Notice) (held : Option HeldCell) → AllByRecursion (DoesAsTold identity commit now) (numbered position ordinal ns)
      → held_from identity topic text column held (map (print identity commit now) (numbered position ordinal ns)) ≡ after_notices identity ns topic text column held
  told_cells position ordinal [] held does = refl
  told_cells position ordinal (n ∷ ns) held does =
      told_cells position (ordinal + 1) ns _ does.1
      ∙ ap (λ (op : Op). after_notices identity ns topic text column (cell_after op held)) (does.0 topic text column)

  change_cells : (at : Rows) (cs : List Change) (held : Option HeldCell) → AreFit infos at cs → after_notices identity (flat_map (notices infos) cs) topic text column held ≡ cells_from held cs
  change_cells at [] held fit = refl
  change_cells at (c ∷ cs) held fit =
      fold-append (λ (h : Option HeldCell) (n : Notice). cell_after (notice_op identity n topic text column) h) held (notices infos c) (flat_map (notices infos) cs)
      ∙ (change_cells (rows_after infos c at) cs (after_notices identity (notices infos c) topic text column held) fit.1
      ∙ ap (λ (h : Option HeldCell). cells_from h cs) (changes_change_cells identity infos at c topic text table key names column held apart fit.0))

  same_or_set : (cs : List Change) (x y : Option HeldCell) → AnyWhole infos table key cs ⊎ (x ≡ y) → cells_from x cs ≡ cells_from y cs
  same_or_set [] x y (inl none) = elim none [ ]
  same_or_set [] x y (inr same) = same
  same_or_set (c ∷ cs) x y (inr same) = ap (λ (h : Option HeldCell). cells_from h (c ∷ cs)) same
  same_or_set (c ∷ cs) x y (inl (inl whole)) = same_or_set cs _ _ (inr (whole_cell names.info (effect_of infos c table key) column x y whole))
  same_or_set (c ∷ cs) x y (inl (inr rest)) = same_or_set cs _ _ (inl rest)

  -- a commit with a change that is whole for the key sets the cell
  pub commit_sets : (at : Rows) → IsCommitInRange commit → IsMomentInRange now → clash_of identity infos commit ≡ None → AreFit infos at (changes_of commit) → AnyWhole infos table key (changes_of commit)
      → (xs ys : List Record) → held_cell identity (xs ++ envelopes identity infos commit now) topic text column ≡ held_cell identity (ys ++ envelopes identity infos commit now) topic text column
  commit_sets at range moment clear fit any xs ys =
      let ns : List Notice = flat_map (notices infos) (changes_of commit) in
      let does = events_change_cells identity infos commit now range moment clear in
      let x : Option HeldCell = held_cell identity xs topic text column in
      let y : Option HeldCell = held_cell identity ys topic text column in
      held-more identity topic text column xs (envelopes identity infos commit now)
      ∙ (told_cells commit.lsn.0 0 ns x does
      ∙ (change_cells at (changes_of commit) x fit
      ∙ (same_or_set (changes_of commit) x y (inl any)
      ∙ (sym (change_cells at (changes_of commit) y fit)
      ∙ (sym (told_cells commit.lsn.0 0 ns y does)
      ∙ sym (held-more identity topic text column ys (envelopes identity infos commit now)))))))

-- ---- the commit of a course

pub fit_at : (at : Rows) (earlier : List Versioned) (v : Versioned) (later : List Versioned) → AreFitFrom at (earlier ++ v ∷ later) → IsFitVersion (fold rows_through at earlier) v
fit_at at [] v later fit = fit.0
fit_at at (x ∷ earlier) v later fit = fit_at (rows_through at x) earlier v later fit.1

follow_one : (infos : List TableInfo) (earlier : List Versioned) (v : Versioned) (later : List Versioned) → AreVersionsFrom infos (earlier ++ v ∷ later) → AreVersionsFrom infos (earlier ++ v ∷ [])
follow_one infos [] v later follow = (follow.0, tt)
follow_one infos (x ∷ earlier) v later follow = (follow.0, follow_one x.infos earlier v later follow.1)

last_infos : (infos : List TableInfo) (earlier : List Versioned) (v : Versioned) → infos_after infos (earlier ++ v ∷ []) ≡ v.infos
last_infos infos [] v = refl
last_infos infos (x ∷ earlier) v = last_infos x.infos earlier v

pub infos_distinct : (infos : List TableInfo) (earlier : List Versioned) (v : Versioned) (later : List Versioned) → AreFitVersions infos (earlier ++ v ∷ later) → AreDistinctTables v.infos
infos_distinct infos earlier v later valid =
    subst AreDistinctTables (last_infos infos earlier v)
    (kin_distinct infos (infos_after infos (earlier ++ v ∷ [])) (kin_all infos (earlier ++ v ∷ []) (follow_one infos earlier v later valid.follow)) valid.distinct)

sub_lt : (a b n p : ℕ) → b ≤ p → p < n → n ≡ b + a → p - b < a
sub_lt a b n p low high size = omega (arith, low, high, size)

-- a key that is touched in the course up to the end of a commit was touched before it, or one of its changes is whole for it
touched_cases : (b : List TableInfo) (front ticks back : List Change) (start table : ℕ) (key : Key) → IsTouched b (front ++ (ticks ++ back)) start (length (front ++ ticks)) table key
    → IsTouched b (front ++ (ticks ++ back)) start (length front) table key ⊎ AnyWhole b table key ticks
touched_cases b front ticks back start table key touched = elim (cases_lt touched.place (length front)) [
  | inl lt ↦ inl (record { place = touched.place; change = touched.change; not_before = touched.not_before; before = lt; is = touched.is; whole = touched.whole })
  | inr le ↦ (
      let lt : touched.place - length front < length ticks = sub_lt (length ticks) (length front) (length (front ++ ticks)) touched.place le touched.before (length-append front ticks) in
      let at : slice_get ticks (touched.place - length front) ≡ Some touched.change =
      sym (slice_get-front ticks back (touched.place - length front) lt) ∙ (sym (slice_get-subsequent front (ticks ++ back) touched.place le) ∙ touched.is) in
      inr (any_at b table key ticks (touched.place - length front) touched.change at touched.whole))
]

module _ (identity : Identity) (infos : List TableInfo) (versions : List Versioned) (start table : ℕ) (earlier : List Versioned) (v : Versioned) (later : List Versioned) (among : IsVersionAmong infos versions start table earlier v later) where
  abbrev whole_course : Course
  whole_course = course_of infos start table versions

  abbrev commits_before : List Commit
  commits_before = (course_of infos start table earlier).commits

  place : IsPlaced infos start table versions earlier v later
  place = placed_in infos versions start table earlier v later among

  valid : AreFitVersions infos (earlier ++ v ∷ later)
  valid = subst (AreFitVersions infos) among.spelled among.fit

  abbrev back : List Change
  back = all_changes (map (ticked_commit table) later)

  changes_are : course_changes whole_course ≡ all_changes commits_before ++ (changes_of (ticked_commit table v) ++ back)
  changes_are = ap all_changes place.commits ∙ all_changes-append commits_before (ticked_commit table v ∷ map (ticked_commit table) later)

  to_is : moment_after (commits_before ++ ticked_commit table v ∷ []) ≡ length (all_changes commits_before ++ changes_of (ticked_commit table v))
  to_is = ap length (all_changes-append commits_before (ticked_commit table v ∷ []) ∙ ap (λ (l : List Change). all_changes commits_before ++ l) (append-nil (changes_of (ticked_commit table v))))

  cases : (key : Key) → IsTouched whole_course.infos (course_changes whole_course) (course_start whole_course) (moment_after (commits_before ++ ticked_commit table v ∷ [])) table key
      → IsTouched whole_course.infos (course_changes whole_course) (course_start whole_course) (moment_after commits_before) table key ⊎ AnyWhole v.infos table key (changes_of (plain_commit v))
  cases key touched =
      let here : IsTouched whole_course.infos (all_changes commits_before ++ (changes_of (ticked_commit table v) ++ back)) (course_start whole_course) (length (all_changes commits_before ++ changes_of (ticked_commit table v))) table key =
      subst (λ (m : ℕ). IsTouched whole_course.infos (all_changes commits_before ++ (changes_of (ticked_commit table v) ++ back)) (course_start whole_course) m table key) to_is
      (subst (λ (l : List Change). IsTouched whole_course.infos l (course_start whole_course) (moment_after (commits_before ++ ticked_commit table v ∷ [])) table key) changes_are touched) in
      elim (touched_cases whole_course.infos (all_changes commits_before) (changes_of (ticked_commit table v)) back (course_start whole_course) table key here) [
        | inl before ↦ inl (subst (λ (l : List Change). IsTouched whole_course.infos l (course_start whole_course) (moment_after commits_before) table key) (sym changes_are) before)
        | inr any ↦ inr (any_body v.infos whole_course.infos table key place.same v.body any)
      ]

  pub moved : (records : List Record) (now : ℤ) → clash_of identity v.infos (plain_commit v) ≡ None → IsMomentInRange now → HasSameCells identity whole_course records (moment_after commits_before) table
      → HasSameCells identity whole_course (records ++ envelopes identity v.infos (plain_commit v) now) (moment_after (commits_before ++ ticked_commit table v ∷ [])) table
  moved records now clear in_time same = record { each = λ topic text key column names known. by topic text key column names (by_known key known) }
    where
      late : whole_course.start ≤ v.lsn.0
      late = le_of whole_course.start v.lsn.0 place.late

      at : AllByRecursion (λ item. item.position ≡ v.lsn.0) (envelopes identity v.infos (plain_commit v) now)
      at = printed_at identity (plain_commit v) now v.lsn.0 0 (flat_map (notices v.infos) (changes_of (plain_commit v)))

      quiet : AllByRecursion (IsQuiet identity) (envelopes identity v.infos (plain_commit v) now)
      quiet = all_quiet identity (plain_commit v) now (numbered v.lsn.0 0 (flat_map (notices v.infos) (changes_of (plain_commit v))))

      by_known : (key : Key) → IsKnownIn identity whole_course (records ++ envelopes identity v.infos (plain_commit v) now) (moment_after (commits_before ++ ticked_commit table v ∷ [])) table key
          → IsKnownIn identity whole_course records (moment_after commits_before) table key ⊎ AnyWhole v.infos table key (changes_of (plain_commit v))
      by_known key known = old (known_kept identity whole_course table records (envelopes identity v.infos (plain_commit v) now) v.lsn.0 late at (moment_after (commits_before ++ ticked_commit table v ∷ [])) key quiet known)
        where
          old : IsKnownIn identity whole_course records (moment_after (commits_before ++ ticked_commit table v ∷ [])) table key
              → IsKnownIn identity whole_course records (moment_after commits_before) table key ⊎ AnyWhole v.infos table key (changes_of (plain_commit v))
          old (inl told) = inl (inl told)
          old (inr touched) = elim (cases key touched) [ inl before ↦ inl (inr before) | inr any ↦ inr any ]

      by : (topic text : List ℕ) (key : Key) (column : List ℕ) → Names identity whole_course.infos topic text table key
          → IsKnownIn identity whole_course records (moment_after commits_before) table key ⊎ AnyWhole v.infos table key (changes_of (plain_commit v))
          → held_cell identity (records ++ envelopes identity v.infos (plain_commit v) now) topic text column ≡ held_cell identity (since whole_course.start (records ++ envelopes identity v.infos (plain_commit v) now)) topic text column
      by topic text key column names (inl known) =
          same_kept identity whole_course table records (envelopes identity v.infos (plain_commit v) now) v.lsn.0 late at topic text column (same.each topic text key column names known)
      by topic text key column names (inr any) =
          let own : Names identity v.infos topic text table key = record { info = names.info; captured = place.same ∙ names.captured; is_key = names.is_key; topic_is = names.topic_is; text_is = names.text_is } in
          let fit = fit_at no_rows earlier v later valid.fit in
          commit_sets identity v.infos (plain_commit v) now topic text table key own column (infos_distinct infos earlier v later valid) (fold rows_through no_rows earlier) fit.in_range in_time clear fit.changes any records (since whole_course.start records)
          ∙ ap (λ (l : List Record). held_cell identity l topic text column) (sym (kept identity whole_course table records (envelopes identity v.infos (plain_commit v) now) v.lsn.0 late at))

pub commits_move_same : CommitsMoveSameCells
commits_move_same identity infos versions start table earlier v later records now among clear in_time same =
    subst (λ (l : List Commit). HasSameCells identity (course_of infos start table versions) (records ++ envelopes identity v.infos (plain_commit v) now) (moment_after l) table) (one_more infos versions start table earlier v later among)
    (moved identity infos versions start table earlier v later among records now clear in_time same)

-- ---- a window

-- a cell of a row that the source doesn't have isn't held, in a span of one point
aged_gone : (K : Type 0) (life : ℕ → Option (List ℕ)) (m end : ℕ) (h : Option HeldCell) → end ≤ m → life m ≡ None → IsAgedCell K life m end h → h ≡ None
aged_gone K life m end None only gone aged = refl
aged_gone K life m end (Some (Known text)) only gone aged =
    let e : m ≡ aged.moment = omega (arith, aged.not_before, aged.not_after, only) in
    let no : None ≡ Some text = sym gone ∙ (ap life e ∙ aged.is) in
    cc
aged_gone K life m end (Some Unknown) only gone aged =
    let there : HadValueWithin life m end (Some aged.0.0) = aged.0.1 in
    let e : m ≡ there.moment = omega (arith, there.not_before, there.not_after, only) in
    let no : None ≡ Some aged.0.0 = sym gone ∙ (ap life e ∙ there.is) in
    cc

none_or_some : {X : Type 0} (o : Option X) → IsSome o ⊎ (o ≡ None)
none_or_some None = inr refl
none_or_some (Some x) = inl refl

not_some : {X : Type 0} (o : Option X) → o ≡ None → IsSome o → ⊥
not_some None none some = cc
not_some (Some x) none some = cc

no_item : (identity : Identity) (infos : List TableInfo) (table : ℕ) (key : Key) → IsTold identity infos [] table key → ⊥
no_item identity infos table key told = let none : told.stands.0 < 0 = told.stands.1 in omega (arith, none)

true_false : true ≡ false → ⊥
true_false e = cc

module _ (identity : Identity) (infos : List TableInfo) (apart : AreDistinctTables infos) (t : ℕ) (info : TableInfo) (captured : slice_get infos t ≡ Some info) (mark : Commit) (range : IsCommitInRange mark) (now : ℤ) (in_time : IsMomentInRange now)
    (topic text : List ℕ) (key : Key) (column : List ℕ) (topic_is : topic_of identity info ≡ topic) (text_is : key_text info key ≡ text) where
  abbrev IsGoodEntry : Key × Row → Type 0
  IsGoodEntry entry = IsReadInRange entry mark now × AllByRecursion (IsNotPlaceholder identity.placeholder) entry.1.cells

  read_quiet : (ordinal : ℕ) (entry : Key × Row) → IsQuiet identity (read_record identity info mark now ordinal entry)
  read_quiet ordinal entry = λ other through done tells. table_topics_tell_none identity info other (read_record identity info mark now ordinal entry) through done refl tells

  -- a row at the key sets the cell
  own_row : (ordinal : ℕ) (entry : Key × Row) → IsGoodEntry entry → entry.0 ≡ key → (xs ys : List Record)
      → held_cell identity (xs ++ read_record identity info mark now ordinal entry ∷ []) topic text column ≡ held_cell identity (ys ++ read_record identity info mark now ordinal entry ∷ []) topic text column
  own_row ordinal entry good own xs ys =
      let item : Record = read_record identity info mark now ordinal entry in
      let x : Option HeldCell = held_cell identity xs topic text column in
      let y : Option HeldCell = held_cell identity ys topic text column in
      let op_is : item_op identity item topic text column ≡ notice_op identity (notice t info (Some entry.0) (Created entry.1)) topic text column =
      read_rows_change_cells identity t info mark now ordinal entry topic text column good.0 good.1 in
      let on_topic : bytes_eq (topic_of identity info) topic ≡ true = ap (bytes_eq (topic_of identity info)) (sym topic_is) ∙ text_itself (topic_of identity info) in
      let on_text : bytes_eq (key_text info entry.0) text ≡ true = ap (bytes_eq (key_text info entry.0)) (sym (ap (key_text info) own ∙ text_is)) ∙ text_itself (key_text info entry.0) in
      let set : notice_op identity (notice t info (Some entry.0) (Created entry.1)) topic text column ≡ cell_op (option_map Given (named_column_cell info.columns entry.1.cells column)) =
      ap (λ (b : Bool). if b then (if bytes_eq (key_text info entry.0) text then content_op info (Created entry.1) column else Stay) else Stay) on_topic
      ∙ ap (λ (b : Bool). if b then content_op info (Created entry.1) column else Stay) on_text in
      let op_set = op_is ∙ set in
      held-one identity topic text column xs item
      ∙ (ap (λ (op : Op). cell_after op x) op_set
      ∙ (whole_op (named_column_cell info.columns entry.1.cells column) x y
      ∙ (ap (λ (op : Op). cell_after op y) (sym op_set) ∙ sym (held-one identity topic text column ys item))))

  module _ (through : Option Key) (done : Bool) (of_table : IfSome through (IsKeyOf info)) (last : ℕ) where
    abbrev report : Record
    report = progress_record identity info mark last through done

    abbrev IsCovered : Type 0
    IsCovered = IsTrue done ⊎ IsUpTo through key

    covered : IsTold identity infos (report ∷ []) t key → IsCovered
    covered told =
        let item_is : told.item ≡ report = told_one identity infos t key report told in
        let tells : ReportsProgress identity told.info report told.through told.done = subst (λ (r : Record). ReportsProgress identity told.info r told.through told.done) item_is told.tells in
        let one = progress_is_read_once identity infos t t told.info info report told.through through told.done done apart told.captured captured tells (progress_records_tell identity info mark last through done of_table) in
        subst (λ (d : Bool). IsTrue d ⊎ IsUpTo through key) one.2 (subst (λ (k : Option Key). IsTrue told.done ⊎ IsUpTo k key) one.1 told.covers)

    same_report : (xs ys : List Record) → (IsCovered → held_cell identity xs topic text column ≡ held_cell identity ys topic text column) → IsTold identity infos (report ∷ []) t key
        → held_cell identity (xs ++ report ∷ []) topic text column ≡ held_cell identity (ys ++ report ∷ []) topic text column
    same_report xs ys cover told = held_both identity topic text column xs ys (report ∷ []) (cover (covered told))

    -- where a record of some first ones covers the key, the logs with these have the same cell
    pub chunk_cells : (rows : List (Key × Row)) → AllByRecursion IsGoodEntry rows → (ordinal : ℕ) (xs ys : List Record) (n : ℕ)
        → (IsCovered → IsSome (row_in rows key) ⊎ (held_cell identity xs topic text column ≡ held_cell identity ys topic text column))
        → IsTold identity infos (take n (read_records identity info mark now ordinal rows ++ report ∷ [])) t key
        → held_cell identity (xs ++ take n (read_records identity info mark now ordinal rows ++ report ∷ [])) topic text column ≡ held_cell identity (ys ++ take n (read_records identity info mark now ordinal rows ++ report ∷ [])) topic text column
    chunk_cells rows good ordinal xs ys zero cover told = absurd (no_item identity infos t key told)
    chunk_cells [] good ordinal xs ys (suc zero) cover told = same_report xs ys (λ c. elim (cover c) [ inl some ↦ absurd (not_some {X = List Val} None refl some) | inr same ↦ same ]) told
    chunk_cells [] good ordinal xs ys (suc (suc n)) cover told = same_report xs ys (λ c. elim (cover c) [ inl some ↦ absurd (not_some {X = List Val} None refl some) | inr same ↦ same ]) told
    chunk_cells (entry ∷ rows) good ordinal xs ys (suc n) cover told =
        let item : Record = read_record identity info mark now ordinal entry in
        let rest : List Record = take n (read_records identity info mark now (ordinal + 1) rows ++ report ∷ []) in
        let told_rest : IsTold identity infos rest t key = elim (told_cases identity infos t key (item ∷ []) rest told) [ inl own ↦ absurd (untold identity infos t key (item ∷ []) (read_quiet ordinal entry, tt) own) | inr later ↦ later ] in
        let next : IsCovered → IsSome (row_in rows key) ⊎ (held_cell identity (xs ++ item ∷ []) topic text column ≡ held_cell identity (ys ++ item ∷ []) topic text column) =
        (λ c. elim (cover c) [
          | inl some ↦ elim (bool_case (same_key entry.0 key)) [
            | inl own ↦ inr (own_row ordinal entry good.0 (same_key-is entry.0 key own) xs ys)
            | inr other ↦ inl (subst (λ (b : Bool). IsSome (if b then Some entry.1.cells else row_in rows key)) other some)
          ]
          | inr same ↦ inr (held_both identity topic text column xs ys (item ∷ []) same)
        ]) in
        ap (λ (l : List Record). held_cell identity l topic text column) (sym (append_assoc xs (item ∷ []) rest))
        ∙ (chunk_cells rows good.1 (ordinal + 1) (xs ++ item ∷ []) (ys ++ item ∷ []) n next told_rest
        ∙ ap (λ (l : List Record). held_cell identity l topic text column) (append_assoc ys (item ∷ []) rest))

good_entries : (identity : Identity) (info : TableInfo) (mark : Commit) (range : IsCommitInRange mark) (now : ℤ) (in_time : IsMomentInRange now) (rows : List (Key × Row))
    → AllByRecursion (λ e. AreCellsOf (column_types info) e.1.cells × (key_of info e.1.cells ≡ e.0)) rows → AllByRecursion (λ e. IsKeyOf info e.0) rows
    → AllByRecursion (λ e. AllByRecursion (IsNotPlaceholder identity.placeholder) e.1.cells) rows
    → AllByRecursion (λ e. IsReadInRange e mark now × AllByRecursion (IsNotPlaceholder identity.placeholder) e.1.cells) rows
good_entries identity info mark range now in_time [] fits keys lacks = tt
good_entries identity info mark range now in_time (entry ∷ rows) fits keys lacks = (
  (
    record { key_fits = through_in_range info (Some entry.0) keys.0; row_fits = cells_in_range (column_types info) entry.1.cells fits.0.0; commit_fits = range; moment_fits = in_time },
    lacks.0,
  ),
  good_entries identity info mark range now in_time rows fits.1 keys.1 lacks.1,
)

module _ (identity : Identity) (infos : List TableInfo) (versions : List Versioned) (start : ℕ) (earlier : List Versioned) (mark : Versioned) (later : List Versioned) (closed : Closed)
    (among : IsVersionAmong infos versions start closed.table earlier mark later) where
  abbrev W : Course
  W = course_of infos start closed.table versions

  abbrev high_point : ℕ
  high_point = moment_after (course_of infos start closed.table earlier).commits

  spot : IsPlaced infos start closed.table versions earlier mark later
  spot = placed_in infos versions start closed.table earlier mark later among

  pub window_same : (low : ℕ) (above : Option Key) (records listed : List Record) (now : ℤ) (n : ℕ) → IsMomentInRange now → IsSnapshot identity mark.infos closed (plain_commit mark) now listed
      → snapshot_clash identity mark.infos closed ≡ None → IsRightWindow W.infos (course_changes W) low high_point above closed → course_start W ≤ low
      → AreToldUpTo identity W.infos (since W.start records) closed.table above → own_span_end W records high_point ≤ high_point
      → IsOwnAged identity W records high_point closed.table → HasOnlySourceRows identity W records high_point closed.table
      → HasSameCells identity W records high_point closed.table → HasSameCells identity W (records ++ take n listed) high_point closed.table
  window_same low above records listed now n in_time is clear right after told only aged sourced same = record {
    each = λ topic text key column names known. by topic text key column names (subst (λ (l : List Record). IsKnown identity W.infos (course_changes W) (course_start W) l high_point closed.table key) (kept_here n) known);
  }
    where
      t : ℕ
      t = closed.table

      S : List Record
      S = since W.start records

      chunk : List Record
      chunk = chunk_records identity is.info closed.rows closed.through closed.done (plain_commit mark) now

      listed_is : listed ≡ chunk_records identity is.info closed.rows closed.through closed.done (plain_commit mark) now
      listed_is = is.records_are ∙ ap (λ (o : Option TableInfo). unwrap_or (option_map (λ i. chunk_records identity i closed.rows closed.through closed.done (plain_commit mark) now) o) []) is.captured

      late : W.start ≤ mark.lsn.0
      late = le_of W.start mark.lsn.0 spot.late

      at : (k : ℕ) → AllByRecursion (λ item. item.position ≡ mark.lsn.0) (take k listed)
      at k = all_take (λ item. item.position ≡ mark.lsn.0) k listed
          (subst (AllByRecursion (λ item. item.position ≡ mark.lsn.0)) (sym listed_is) (read_at identity is.info (plain_commit mark) now 0 closed.rows (progress_record identity is.info (plain_commit mark) (length closed.rows) closed.through closed.done) refl))

      kept_here : (k : ℕ) → since W.start (records ++ take k listed) ≡ since W.start records ++ take k listed
      kept_here k = kept identity W closed.table records (take k listed) mark.lsn.0 late (at k)

      captured : slice_get W.infos closed.table ≡ Some is.info
      captured = sym spot.same ∙ is.captured

      apart : AreDistinctTables W.infos
      apart = (are_fit infos versions start closed.table among.fit).distinct

      range : IsCommitInRange (plain_commit mark)
      range = (fit_at no_rows earlier mark later (subst (AreFitVersions infos) among.spelled among.fit).fit).in_range

      good : AllByRecursion (λ e. IsReadInRange e (plain_commit mark) now × AllByRecursion (IsNotPlaceholder identity.placeholder) e.1.cells) closed.rows
      good = good_entries identity is.info (plain_commit mark) range now in_time closed.rows is.fits.rows is.keys
          (snapshots_lack_placeholders identity mark.infos closed (subst (λ (o : Option TableInfo). IsSomeAnd o (λ i. FitsChunk i closed)) (sym is.captured) is.fits) clear)

      cell_gone : (key : Key) (column : List ℕ) → rows W.infos W.commits high_point closed.table key ≡ None → source_cell W.infos (course_changes W) closed.table key column high_point ≡ None
      cell_gone key column gone = ap (λ (r : Option (List Val)). option_and_then (λ texts. texts column) (option_map (row_json_texts (columns_of W.infos closed.table)) r)) gone

      -- a key that the source has no row at has no cell in either log
      both_gone : (topic text : List ℕ) (key : Key) (column : List ℕ) → Names identity W.infos topic text closed.table key → rows W.infos W.commits high_point closed.table key ≡ None
          → held_cell identity records topic text column ≡ held_cell identity (since W.start records) topic text column
      both_gone topic text key column names gone =
          let none : held_row identity records topic text ≡ None = elim (none_or_some (held_row identity records topic text)) [
            | inl some ↦ absurd (not_some (rows W.infos W.commits high_point closed.table key) gone (sourced.each topic text key names some))
            | inr none ↦ none
          ] in
          ap (λ (r : Option HeldCells). held_at r column) none
          ∙ sym (aged_gone (IsKnownIn identity W records (own_span_end W records high_point) closed.table key) (source_cell W.infos (course_changes W) closed.table key column) high_point (own_span_end W records high_point)
          (held_cell identity (since W.start records) topic text column) only (cell_gone key column gone) (aged.each topic text key column names))

      -- a key that the progress record covers is listed, or has the same cells already
      cover : (topic text : List ℕ) (key : Key) (column : List ℕ) → Names identity W.infos topic text closed.table key → IsTrue closed.done ⊎ IsUpTo closed.through key
          → IsSome (row_in closed.rows key) ⊎ (held_cell identity records topic text column ≡ held_cell identity (since W.start records) topic text column)
      cover topic text key column names covers = elim (none_or_some (row_in closed.rows key)) [
        | inl some ↦ inl some
        | inr lacking ↦ (let parted = bounds_part above key in elim parted.either [
          | inl above_it ↦ elim (right.missing names.info key names.captured names.is_key above_it covers lacking) [
            | inl touched ↦ inr (same.each topic text key column names (inr (record { place = touched.place; change = touched.change; not_before = omega (arith, touched.not_before, after); before = touched.before; is = touched.is; whole = touched.whole })))
            | inr gone ↦ inr (both_gone topic text key column names gone)
          ]
          | inr up_to ↦ inr (same.each topic text key column names (inl (told key up_to)))
        ])
      ]

      by : (topic text : List ℕ) (key : Key) (column : List ℕ) → Names identity W.infos topic text closed.table key
          → IsKnown identity W.infos (course_changes W) (course_start W) (since W.start records ++ take n listed) high_point closed.table key
          → held_cell identity (records ++ take n listed) topic text column ≡ held_cell identity (since W.start (records ++ take n listed)) topic text column
      by topic text key column names (inr touched) = same_kept identity W closed.table records (take n listed) mark.lsn.0 late (at n) topic text column (same.each topic text key column names (inr touched))
      by topic text key column names (inl reported) = elim (told_cases identity W.infos closed.table key (since W.start records) (take n listed) reported) [
        | inl old ↦ same_kept identity W closed.table records (take n listed) mark.lsn.0 late (at n) topic text column (same.each topic text key column names (inl old))
        | inr new ↦ (
            let one : Some names.info ≡ Some is.info = sym names.captured ∙ captured in
            let info_is : names.info ≡ is.info = cc in
            ap (λ (l : List Record). held_cell identity (records ++ take n l) topic text column) listed_is
            ∙ (chunk_cells identity W.infos apart closed.table is.info captured (plain_commit mark) range now in_time topic text key column
            (ap (topic_of identity) (sym info_is) ∙ names.topic_is) (ap (λ (i : TableInfo). key_text i key) (sym info_is) ∙ names.text_is)
            closed.through closed.done is.fits.through (length closed.rows) closed.rows good 0 records (since W.start records) n (cover topic text key column names)
            (subst (λ (l : List Record). IsTold identity W.infos (take n l) closed.table key) listed_is new)
            ∙ (ap (λ (l : List Record). held_cell identity (since W.start records ++ take n l) topic text column) (sym listed_is)
            ∙ ap (λ (l : List Record). held_cell identity l topic text column) (sym (kept_here n)))))
      ]

pub snapshots_keep_same : PartsOfSnapshotsKeepSameCells
snapshots_keep_same identity infos versions start earlier mark later low above closed records listed now n among none in_time is clear right after told only aged sourced same =
    window_same identity infos versions start earlier mark later closed among low above records listed now n in_time is clear right after told only aged sourced same

-- ---- a longer history

pub same_stays : SameCellsStayAsHistoriesGrow
same_stays identity infos versions later start table moment records valid unaltered after low same =
    subst (λ (c : Course). HasSameCells identity c records moment table) (sym (goes identity infos versions later start table valid unaltered)) (record {
      each = λ topic text key column names known. same.each topic text key column
          (record { info = names.info; captured = same_infos identity infos versions later start table valid unaltered ∙ names.captured; is_key = names.is_key; topic_is = names.topic_is; text_is = names.text_is })
          (known_old identity infos versions later start table valid unaltered moment records key after low known);
    })
