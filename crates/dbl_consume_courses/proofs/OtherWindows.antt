-- The records of a window leave the age of every table.
use Rattle.std.proofs.Common.{◌≡◌, ◌≢◌, ◌∙◌, inl, inr, ℕ, ℤ, ◌+◌, ◌≤◌, max, Bool, false, Option, Some, List, [], ◌∷◌, ◌++◌, fold, length, map, take, refl, sym, ap, subst, arith}
use Rattle.std.proofs.lemmas.List.Sums.{fold-append}
use Rattle.std.specs.Prelude.{if◌then◌else◌, IsSome, IfSome, option_map, unwrap_or, slice_get}
use Rattle.std.specs.List.{AllByRecursion}
use Rattle.std.specs.Str.{bytes_eq}
use Rattle.dbl_record.specs.declared.acts.HeldCell.{HeldCell}
use Rattle.dbl_record.specs.declared.record.Record.{Record}
use Rattle.dbl_record.specs.Acts.{reading_of, act_of}
use Rattle.dbl_record.specs.Consumers.{HeldCells, held_at, row_after_result, row_after as reading_after}
use Rattle.dbl_record.specs.Places.{place_of}
use Rattle.dbl_record.specs.Reading.{as_line}
use Rattle.dbl_model_table.specs.declared.identity.Identity.{Identity}
use Rattle.dbl_model_table.specs.declared.row.Key.{Key}
use Rattle.dbl_model_table.specs.declared.row.Row.{Row}
use Rattle.dbl_model_table.specs.declared.table.TableInfo.{TableInfo}
use Rattle.dbl_model_table.specs.declared.change.Commit.{Commit}
use Rattle.dbl_model_table.specs.Infos.{topic_of}
use Rattle.dbl_model_table.specs.Rows.{changes_of}
use Rattle.dbl_model_history.specs.Fit.{IsKeyOf}
use Rattle.dbl_model_history.specs.Image.{Names}
use Rattle.dbl_model_history.specs.Laws.{AreDistinctTables}
use Rattle.dbl_model_event.specs.declared.closed.Closed.{Closed}
use Rattle.dbl_model_event.specs.Snapshots.{progress_topic, read_record, read_records, progress_record, chunk_records}
use Rattle.dbl_model_event.specs.SnapshotLists.{IsSnapshot}
use Rattle.dbl_consume_laws.specs.KnownKeys.{IsTold}
use Rattle.dbl_consume_laws.specs.Moments.{last_moment}
use Rattle.dbl_consume_laws.specs.Prints.{ReportsProgress}
use Rattle.dbl_consume_laws.specs.Ages.{held_row, held_cell, source_cell, IsAgedCell}
use Rattle.dbl_consume_laws.proofs.AgeingCells.{aged_same}
use Rattle.dbl_consume_laws.proofs.KnownKeys.{told_cases}
use Rattle.dbl_consume_laws.proofs.Lists.{all_take}
use Rattle.dbl_consume_laws.proofs.Prints.{progress_is_read_once, progress_records_tell, table_topics_tell_none}
use Rattle.std.proofs.lemmas.List.Elements.{All-contains, All-from_recursion}
use Rattle.dbl_consume_courses.specs.Versions.{Versioned, plain_commit}
use Rattle.dbl_consume_courses.specs.Courses.{Course}
use Rattle.dbl_consume_courses.specs.Since.{since}
use Rattle.dbl_consume_courses.specs.AlteredTables.{course_changes, course_start, IsKnownIn, version_moment, position_moment, version_span_end, IsTableAged}
use Rattle.dbl_consume_courses.specs.Growth.{course_of, own_span_end}
use Rattle.dbl_consume_courses.specs.CourseAges.{own_from}
use Rattle.dbl_consume_courses.specs.TableAges.{IsInCourse}
use Rattle.dbl_consume_courses.specs.OtherWindows.{OtherWindowsKeepTableAge}
use Rattle.dbl_consume_courses.proofs.SinceLemmas.{appended}
use Rattle.dbl_consume_courses.proofs.Alone.{all_weaker, not_of_table, topics_apart, flip_apart}
use Rattle.dbl_consume_courses.proofs.GrowthLemmas.{IsPlaced, placed_in, late_items, read_at}
use Rattle.dbl_consume_courses.proofs.KeyRowLemmas.{held_parts}
use Rattle.dbl_consume_courses.proofs.Positions.{le_of, le_is, le_trans, left_most}
use Rattle.dbl_consume_courses.proofs.SameLemmas.{infos_distinct}
use Rattle.dbl_consume_courses.proofs.TableLemmas.{own_at, shown_valid}
use Rattle.dbl_consume_courses.proofs.TableWindows.{own_reach}
use Rattle.dbl_consume_courses.proofs.ThereWindows.{ends}

-- ---- records of other topics

other_topics : (identity : Identity) (topic text : List ℕ) (more : List Record) → AllByRecursion (λ item. bytes_eq item.topic topic ≡ false) more → (held : Option HeldCells)
    → fold (reading_after identity.placeholder topic text) held (map reading_of (map as_line more)) ≡ held
other_topics identity topic text [] other held = refl
other_topics identity topic text (item ∷ more) other held =
    ap (λ (h : Option HeldCells). fold (reading_after identity.placeholder topic text) h (map reading_of (map as_line more)))
    (ap (λ (b : Bool). if b then row_after_result (act_of identity.placeholder (reading_of (as_line item))) text held else held) other.0)
    ∙ other_topics identity topic text more other.1 held

row_stays : (identity : Identity) (topic text : List ℕ) (records more : List Record) → AllByRecursion (λ item. bytes_eq item.topic topic ≡ false) more → held_row identity (records ++ more) topic text ≡ held_row identity records topic text
row_stays identity topic text records more other = held_parts identity topic text records more ∙ other_topics identity topic text more other (held_row identity records topic text)

-- ---- a window of one table, and another table

module _ (identity : Identity) (infos : List TableInfo) (apart : AreDistinctTables infos) (closed : Closed) (t : ℕ) (other : closed.table ≢ t) (x y : TableInfo) (at_x : slice_get infos closed.table ≡ Some x) (at_y : slice_get infos t ≡ Some y)
    (mark : Commit) (now : ℤ) (of_table : IfSome closed.through (IsKeyOf x)) where
  -- a record that isn't in the table's topic, and reports no progress of the table
  abbrev IsOther : Record → Type 0
  IsOther item = (bytes_eq item.topic (topic_of identity y) ≡ false) × ((through : Option Key) (done : Bool) → ReportsProgress identity y item through done → ⊥)

  read_other : (ordinal : ℕ) (entry : Key × Row) → IsOther (read_record identity x mark now ordinal entry)
  read_other ordinal entry = (
    topics_apart identity infos closed.table t x y apart at_x at_y other,
    λ through done tells. table_topics_tell_none identity x y (read_record identity x mark now ordinal entry) through done refl tells,
  )

  progress_other : (last : ℕ) → IsOther (progress_record identity x mark last closed.through closed.done)
  progress_other last = (
    flip_apart identity y (topic_of identity y) (progress_topic identity) (not_of_table identity y),
    λ through done tells. other (progress_is_read_once identity infos closed.table t x y (progress_record identity x mark last closed.through closed.done) closed.through through closed.done done apart at_x at_y
        (progress_records_tell identity x mark last closed.through closed.done of_table) tells).0,
  )

  chunk_other : (ordinal last : ℕ) (rows : List (Key × Row)) → AllByRecursion IsOther (read_records identity x mark now ordinal rows ++ progress_record identity x mark last closed.through closed.done ∷ [])
  chunk_other ordinal last [] = (progress_other last, tt)
  chunk_other ordinal last (entry ∷ rows) = (read_other ordinal entry, chunk_other (ordinal + 1) last rows)

-- ---- the age

module _ (identity : Identity) (infos : List TableInfo) (versions shown : List Versioned) (start table : ℕ) (earlier : List Versioned) (mark : Versioned) (later : List Versioned) (closed : Closed) (records listed : List Record) (now : ℤ) (n : ℕ)
    (is_in : IsInCourse infos versions shown start table earlier mark later) (silent : changes_of (plain_commit mark) ≡ []) (is : IsSnapshot identity mark.infos closed (plain_commit mark) now listed) (other : closed.table ≢ table)
    (upto : AllByRecursion (λ item. item.position ≤ mark.lsn.0) records) where
  abbrev C : Course
  C = course_of infos start table shown

  abbrev more : List Record
  more = take n listed

  abbrev from : ℕ
  from = own_from C mark.lsn.0

  placed : IsPlaced infos start table shown earlier mark later
  placed = placed_in infos shown start table earlier mark later is_in.among

  chunk_is : listed ≡ chunk_records identity is.info closed.rows closed.through closed.done (plain_commit mark) now
  chunk_is = is.records_are ∙ ap (λ (o : Option TableInfo). unwrap_or (option_map (λ i. chunk_records identity i closed.rows closed.through closed.done (plain_commit mark) now) o) []) is.captured

  at_mark : AllByRecursion (λ item. item.position ≡ mark.lsn.0) more
  at_mark = all_take (λ item. item.position ≡ mark.lsn.0) n listed
      (subst (AllByRecursion (λ item. item.position ≡ mark.lsn.0)) (sym chunk_is) (read_at identity is.info (plain_commit mark) now 0 closed.rows (progress_record identity is.info (plain_commit mark) (length closed.rows) closed.through closed.done) refl))

  apart_mark : AreDistinctTables mark.infos
  apart_mark = infos_distinct infos earlier mark later (shown_valid identity infos versions shown start table earlier mark later is_in)

  -- of the table as the course ends with it
  others : (y : TableInfo) → slice_get C.infos table ≡ Some y → AllByRecursion (λ item. (bytes_eq item.topic (topic_of identity y) ≡ false) × ((through : Option Key) (done : Bool) → ReportsProgress identity y item through done → ⊥)) more
  others y at_y =
      let here : slice_get mark.infos table ≡ Some y = placed.same ∙ at_y in
      all_take (λ item. (bytes_eq item.topic (topic_of identity y) ≡ false) × ((through : Option Key) (done : Bool) → ReportsProgress identity y item through done → ⊥)) n listed
      (subst (AllByRecursion (λ item. (bytes_eq item.topic (topic_of identity y) ≡ false) × ((through : Option Key) (done : Bool) → ReportsProgress identity y item through done → ⊥))) (sym chunk_is)
      (chunk_other identity mark.infos apart_mark closed table other is.info y is.captured here (plain_commit mark) now is.fits.through 0 (length closed.rows) closed.rows))

  kept : since C.start (records ++ more) ≡ since C.start records ++ more
  kept = appended C.start records more (late_items C.start mark.lsn.0 more (le_of C.start mark.lsn.0 placed.late) at_mark)

  -- a held row at a name of the table
  same_row : (items : List Record) (topic text : List ℕ) (key : Key) (names : Names identity C.infos topic text table key) → held_row identity (items ++ more) topic text ≡ held_row identity items topic text
  same_row items topic text key names =
      row_stays identity topic text items more (all_weaker (λ (item : Record). (bytes_eq item.topic (topic_of identity names.info) ≡ false) × ((through : Option Key) (done : Bool) → ReportsProgress identity names.info item through done → ⊥))
      (λ (item : Record). bytes_eq item.topic topic ≡ false) (λ item both. subst (λ (t : List ℕ). bytes_eq item.topic t ≡ false) names.topic_is both.0) more (others names.info names.captured))

  -- what is known of the table
  same_known : (moment : ℕ) (topic text : List ℕ) (key : Key) (names : Names identity C.infos topic text table key) → IsKnownIn identity C (records ++ more) moment table key → IsKnownIn identity C records moment table key
  same_known moment topic text key names (inr touched) = inr touched
  same_known moment topic text key names (inl told) = elim (told_cases identity C.infos table key (since C.start records) more (subst (λ (l : List Record). IsTold identity C.infos l table key) kept told)) [
    | inl old ↦ inl old
    | inr new ↦ (
        let one : Some names.info ≡ Some new.info = sym names.captured ∙ new.captured in
        let info_is : names.info ≡ new.info = cc in
        let found = All-contains (λ item. (bytes_eq item.topic (topic_of identity names.info) ≡ false) × ((through : Option Key) (done : Bool) → ReportsProgress identity names.info item through done → ⊥)) more new.item
        (All-from_recursion (λ item. (bytes_eq item.topic (topic_of identity names.info) ≡ false) × ((through : Option Key) (done : Bool) → ReportsProgress identity names.info item through done → ⊥)) more (others names.info names.captured)) new.stands in
        absurd (found.1 new.through new.done (subst (λ (i : TableInfo). ReportsProgress identity i new.item new.through new.done) (sym info_is) new.tells)))
  ]

  -- the span ends at the watermark, with the records and without
  at_mark_le : AllByRecursion (λ item. item.position ≤ mark.lsn.0) more
  at_mark_le = all_weaker (λ (item : Record). item.position ≡ mark.lsn.0) (λ (item : Record). item.position ≤ mark.lsn.0) (λ item same. le_is item.position mark.lsn.0 same) more at_mark

  end_is : (items : List Record) → AllByRecursion (λ item. item.position ≤ mark.lsn.0) items → own_span_end C items from ≡ from
  end_is items under =
      let at = own_at identity infos versions shown start table earlier mark later is_in in
      let reach : own_span_end C items from ≤ from = subst (λ (m : ℕ). own_span_end C items m ≤ m) (sym at) (own_reach identity infos versions shown start table earlier mark later is_in items under) in
      le_both (own_span_end C items from) from reach (left_most from (last_moment C.infos C.commits (course_start C) (since C.start items)))
    where
      le_both : (a b : ℕ) → a ≤ b → b ≤ a → a ≡ b
      le_both a b one two = omega (arith, one, two)

  pub aged : IsTableAged identity C versions records mark.lsn.0 table → IsTableAged identity C versions (records ++ more) mark.lsn.0 table
  aged before =
      let one : own_span_end C records from ≡ from = end_is records upto in
      let two : own_span_end C (records ++ more) from ≡ from = end_is (records ++ more) (all_append records more upto at_mark_le) in
      record {
        own = record {
          each = λ topic text key column names. (
              let life = source_cell C.infos (course_changes C) table key column in
              let was : IsAgedCell (IsKnownIn identity C records from table key) life from from (held_cell identity (since C.start records) topic text column) =
              subst (λ (e : ℕ). IsAgedCell (IsKnownIn identity C records e table key) life from e (held_cell identity (since C.start records) topic text column)) one (before.own.each topic text key column names) in
              let moved : IsAgedCell (IsKnownIn identity C (records ++ more) from table key) life from from (held_cell identity (since C.start records) topic text column) =
              aged_same (IsKnownIn identity C records from table key) (IsKnownIn identity C (records ++ more) from table key) life life from from (held_cell identity (since C.start records) topic text column) (λ i low. refl) (same_known from topic text key names) was in
              let cell : held_cell identity (since C.start (records ++ more)) topic text column ≡ held_cell identity (since C.start records) topic text column =
              ap (λ (l : List Record). held_cell identity l topic text column) kept ∙ ap (λ (h : Option HeldCells). held_at h column) (same_row (since C.start records) topic text key names) in
              subst (λ (e : ℕ). IsAgedCell (IsKnownIn identity C (records ++ more) e table key) life from e (held_cell identity (since C.start (records ++ more)) topic text column)) (sym two)
              (subst (λ (h : Option HeldCell). IsAgedCell (IsKnownIn identity C (records ++ more) from table key) life from from h) (sym cell) moved));
        };
        same = record {
          each = λ topic text key column names known.
              ap (λ (h : Option HeldCells). held_at h column) (same_row records topic text key names)
              ∙ (before.same.each topic text key column names (same_known from topic text key names known)
              ∙ sym (ap (λ (l : List Record). held_cell identity l topic text column) kept ∙ ap (λ (h : Option HeldCells). held_at h column) (same_row (since C.start records) topic text key names)));
        };
        there = λ topic text key names some. (
            let was = before.there topic text key names (subst (λ (h : Option HeldCells). IsSome h) (same_row records topic text key names) some) in
            let farther : version_span_end versions records (position_moment versions mark.lsn.0) ≤ version_span_end versions (records ++ more) (position_moment versions mark.lsn.0) =
            subst (λ (m : ℕ). version_span_end versions records (position_moment versions mark.lsn.0) ≤ m)
            (sym (fold-append (λ (far : ℕ) (item : Record). max far (version_moment versions (place_of item))) (position_moment versions mark.lsn.0) records more)) (ends versions more (version_span_end versions records (position_moment versions mark.lsn.0))) in
            record { moment = was.moment; not_before = was.not_before; not_after = le_trans was.moment (version_span_end versions records (position_moment versions mark.lsn.0)) (version_span_end versions (records ++ more) (position_moment versions mark.lsn.0)) was.not_after farther; present = was.present });
      }
    where
      all_append : (xs ys : List Record) → AllByRecursion (λ item. item.position ≤ mark.lsn.0) xs → AllByRecursion (λ item. item.position ≤ mark.lsn.0) ys → AllByRecursion (λ item. item.position ≤ mark.lsn.0) (xs ++ ys)
      all_append [] ys one two = two
      all_append (x ∷ xs) ys one two = (one.0, all_append xs ys one.1 two)

pub other_windows : OtherWindowsKeepTableAge
other_windows identity infos versions shown start table earlier mark later closed records listed now n is_in silent is other upto before =
    aged identity infos versions shown start table earlier mark later closed records listed now n is_in silent is other upto before
