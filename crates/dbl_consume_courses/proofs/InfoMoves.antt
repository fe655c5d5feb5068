-- What is aged of a table where other tables are described in other columns, and in a longer history.
use Rattle.std.proofs.Common.{◌≡◌, ◌∙◌, inl, inr, ℕ, suc, ◌+◌, ◌-◌, ◌≤◌, ◌<◌, max, Bool, true, false, Option, Some, None, List, [], ◌∷◌, ◌++◌, length, take, refl, sym, ap, subst, arith, length-append}
use Rattle.std.proofs.lemmas.Bool.Decides.{nat_tests}
use Rattle.std.specs.Prelude.{◌==◌, nat_lt, nat_le, if◌then◌else◌, option_map, option_and_then, unwrap_or, slice_get}
use Rattle.std.specs.List.{AllByRecursion}
use Rattle.dbl_value_types.specs.declared.value.Val.{Val}
use Rattle.dbl_record.specs.declared.record.Record.{Record}
use Rattle.dbl_record.specs.Places.{Place, place_of}
use Rattle.dbl_model_table.specs.declared.identity.Identity.{Identity}
use Rattle.dbl_model_table.specs.declared.row.Key.{Key}
use Rattle.dbl_model_table.specs.declared.table.Column.{Column}
use Rattle.dbl_model_table.specs.declared.table.TableInfo.{TableInfo}
use Rattle.dbl_model_table.specs.declared.change.Change.{Change}
use Rattle.dbl_model_table.specs.declared.change.Change.TheVariants.{Clear}
use Rattle.dbl_model_table.specs.declared.change.Commit.{Commit}
use Rattle.dbl_model_table.specs.Infos.{columns_of}
use Rattle.dbl_model_table.specs.Rows.{IsWholeEffect, no_rows, rows_at, table_of, changes_of, all_changes, moment_at}
use Rattle.dbl_model_history.specs.Image.{Names, row_json_texts}
use Rattle.dbl_model_event.specs.Events.{change_notices, notices}
use Rattle.dbl_model_history.proofs.PlainLemmas.{rows_from-row_from}
use Rattle.dbl_consume_laws.specs.Moments.{changes_through, place_moment, record_moment, last_moment, span_end}
use Rattle.dbl_consume_laws.specs.KnownKeys.{IsKnown}
use Rattle.dbl_consume_laws.specs.Ages.{held_cell, source_cell, IsAgedCell}
use Rattle.dbl_consume_laws.proofs.AgeingCells.{aged_same}
use Rattle.dbl_consume_courses.proofs.CourseLemmas.{effect_same, row_same}
use Rattle.dbl_consume_courses.proofs.Kin.{AreKin, kin_at, kin_back}
use Rattle.dbl_consume_courses.proofs.FitLemmas.{IsTick, AreTicks}
use Rattle.dbl_consume_courses.proofs.Alone.{Own}

module _ (a b : List TableInfo) (table : ℕ) (kin : AreKin a b) (same : slice_get a table ≡ slice_get b table) where
  -- a change has as many events
  clear_notices : (x y : Option TableInfo) (t : ℕ) → ((i : TableInfo) → x ≡ Some i → (j : TableInfo) × (y ≡ Some j)) → ((j : TableInfo) → y ≡ Some j → (i : TableInfo) × (x ≡ Some i))
      → length (unwrap_or (option_map (λ i. change_notices t i (Clear t)) x) []) ≡ length (unwrap_or (option_map (λ i. change_notices t i (Clear t)) y) [])
  clear_notices None None t left right = refl
  clear_notices None (Some j) t left right = let there = right j refl in let no : None ≡ Some there.0 = there.1 in cc
  clear_notices (Some i) None t left right = let there = left i refl in let no : None ≡ Some there.0 = there.1 in cc
  clear_notices (Some i) (Some j) t left right = refl

  counts : (c : Change) → IsTick table c → length (notices a c) ≡ length (notices b c)
  counts c (inl own) =
      let at : slice_get a (table_of c) ≡ slice_get b (table_of c) = ap (slice_get a) own ∙ (same ∙ sym (ap (slice_get b) own)) in
      ap (λ (o : Option TableInfo). length (unwrap_or (option_map (λ i. change_notices (table_of c) i c) o) [])) at
  counts c (inr clear) =
      subst (λ (d : Change). length (notices a d) ≡ length (notices b d)) (sym clear.1)
      (clear_notices (slice_get a clear.0) (slice_get b clear.0) clear.0
      (λ i at. let there = kin_at a b kin clear.0 i at in (there.0, there.1))
      (λ j at. let there = kin_at b a (kin_back a b kin) clear.0 j at in (there.0, there.1)))

  pub through : (cs : List Change) (o : ℕ) → AreTicks table cs → changes_through a cs o ≡ changes_through b cs o
  through [] o ticks = refl
  through (c ∷ cs) o ticks =
      ap (λ (n : ℕ). if nat_lt o n then 1 else suc (changes_through a cs (o - n))) (counts c ticks.0)
      ∙ ap (λ (m : ℕ). if nat_lt o (length (notices b c)) then 1 else suc m) (through cs (o - length (notices b c)) ticks.1)

  left_part : (cs ds : List Change) → AreTicks table (cs ++ ds) → AreTicks table cs
  left_part [] ds ticks = tt
  left_part (c ∷ cs) ds ticks = (ticks.0, left_part cs ds ticks.1)

  right_part : (cs ds : List Change) → AreTicks table (cs ++ ds) → AreTicks table ds
  right_part [] ds ticks = ticks
  right_part (c ∷ cs) ds ticks = right_part cs ds ticks.1

  places_same : (commits : List Commit) (place : Place) → AreTicks table (all_changes commits) → place_moment a commits place ≡ place_moment b commits place
  places_same [] place ticks = refl
  places_same (c ∷ commits) place ticks =
      ap (λ (m : ℕ). if nat_lt c.lsn.0 place.0 then length (changes_of c) + m else (if c.lsn.0 == place.0 then changes_through a (changes_of c) place.1 else 0)) (places_same commits place (right_part (changes_of c) (all_changes commits) ticks))
      ∙ ap (λ (m : ℕ). if nat_lt c.lsn.0 place.0 then length (changes_of c) + place_moment b commits place else (if c.lsn.0 == place.0 then m else 0)) (through (changes_of c) place.1 (left_part (changes_of c) (all_changes commits) ticks))

  last_same : (commits : List Commit) (far : ℕ) (records : List Record) → AreTicks table (all_changes commits) → last_moment a commits far records ≡ last_moment b commits far records
  last_same commits far [] ticks = refl
  last_same commits far (item ∷ records) ticks =
      last_same commits (max far (record_moment a commits item)) records ticks
      ∙ ap (λ (m : ℕ). last_moment b commits (max far m) records) (places_same commits (place_of item) ticks)

  columns_same : columns_of a table ≡ columns_of b table
  columns_same = ap (λ (o : Option TableInfo). unwrap_or (option_map (λ i. i.columns) o) []) same

  cell_same : (cs : List Change) (key : Key) (column : List ℕ) (m : ℕ) → source_cell b cs table key column m ≡ source_cell a cs table key column m
  cell_same cs key column m =
      let rows : rows_at b cs m table key ≡ rows_at a cs m table key =
      rows_from-row_from b no_rows (take m cs) table key ∙ (row_same b a table key None (take m cs) (sym same) ∙ sym (rows_from-row_from a no_rows (take m cs) table key)) in
      ap (λ (l : List Column). option_and_then (λ texts. texts column) (option_map (row_json_texts l) (rows_at b cs m table key))) (sym columns_same)
      ∙ ap (λ (r : Option (List Val)). option_and_then (λ texts. texts column) (option_map (row_json_texts (columns_of a table)) r)) rows

  pub known_same : (identity : Identity) (cs : List Change) (start to : ℕ) (records : List Record) (key : Key) → IsKnown identity b cs start records to table key → IsKnown identity a cs start records to table key
  known_same identity cs start to records key (inl told) = inl (record {
    info = told.info;
    captured = same ∙ told.captured;
    item = told.item;
    stands = told.stands;
    through = told.through;
    done = told.done;
    tells = told.tells;
    covers = told.covers;
  })
  known_same identity cs start to records key (inr touched) = inr (record {
    place = touched.place;
    change = touched.change;
    not_before = touched.not_before;
    before = touched.before;
    is = touched.is;
    whole = subst IsWholeEffect (effect_same b a table key touched.change (sym same)) touched.whole;
  })

  pub own_moves : (identity : Identity) (info : TableInfo) (commits : List Commit) (start from : ℕ) (records : List Record) → AreTicks table (all_changes commits)
      → Own identity info a commits start from table records → Own identity info b commits start from table records
  own_moves identity info commits start from records ticks own topic text key column names =
      let one : ℕ = span_end a commits start records from in
      let two : ℕ = span_end b commits start records from in
      let ends : one ≡ two = ap (max from) (last_same commits start records ticks) in
      let held = held_cell identity records topic text column in
      let K : Type 0 = IsKnown identity a (all_changes commits) start records one table key in
      let L : Type 0 = IsKnown identity b (all_changes commits) start records one table key in
      let old : Names identity a topic text table key = record { info = names.info; captured = same ∙ names.captured; is_key = names.is_key; topic_is = names.topic_is; text_is = names.text_is } in
      let here : IsAgedCell L (source_cell b (all_changes commits) table key column) from one held =
      aged_same K L (source_cell a (all_changes commits) table key column) (source_cell b (all_changes commits) table key column) from one held (λ i low. cell_same (all_changes commits) key column i)
      (known_same identity (all_changes commits) start one records key) (own topic text key column old) in
      subst (λ (e : ℕ). IsAgedCell (IsKnown identity b (all_changes commits) start records e table key) (source_cell b (all_changes commits) table key column) from e held) ends here

-- ---- positions in a longer history

pub moment_at-most : (commits : List Commit) (position : ℕ) → moment_at commits position ≤ length (all_changes commits)
moment_at-most [] position = omega arith
moment_at-most (c ∷ commits) position =
    let size : length (changes_of c ++ all_changes commits) ≡ length (changes_of c) + length (all_changes commits) = length-append (changes_of c) (all_changes commits) in
    by (nat_le c.lsn.0 position) (length (changes_of c)) (moment_at commits position) (length (all_changes commits)) (length (changes_of c ++ all_changes commits)) (moment_at-most commits position) size
  where
    by : (b : Bool) (n m l w : ℕ) → m ≤ l → w ≡ n + l → (if b then n + m else 0) ≤ w
    by true n m l w le is = omega (arith, le, is)
    by false n m l w le is = omega arith

above_le : (a b : ℕ) → b < a → nat_le a b ≡ false
above_le a b lt = grind (arith, nat_tests)

pub none_at : (more : List Commit) (position : ℕ) → AllByRecursion (λ commit. position < commit.lsn.0) more → moment_at more position ≡ 0
none_at [] position late = refl
none_at (c ∷ more) position late = ap (λ (b : Bool). if b then length (changes_of c) + moment_at more position else 0) (above_le c.lsn.0 position late.0)

pub moment_at-late : (commits more : List Commit) (position : ℕ) → AllByRecursion (λ commit. position < commit.lsn.0) more → moment_at (commits ++ more) position ≡ moment_at commits position
moment_at-late [] more position late = none_at more position late
moment_at-late (c ∷ commits) more position late = ap (λ (m : ℕ). if nat_le c.lsn.0 position then length (changes_of c) + m else 0) (moment_at-late commits more position late)
