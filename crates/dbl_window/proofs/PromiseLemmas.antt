-- A window that was given the changes between its watermarks is right at its high watermark.
use Rattle.std.proofs.Common.{◌≡◌, ◌∙◌, ◌+◌, ◌-◌, ◌<◌, ◌≤◌, ◌⊎◌, inl, inr, ℕ, Option, Some, None, List, ◌++◌, length, take, drop, refl, sym, ap, ap₂, subst, arith, length-append, append_assoc}
use Rattle.std.specs.Prelude.{option_map, slice_get, IsTrue}
use Rattle.std.proofs.lemmas.List.{take-append-drop, take-take, take_at, drop-drop, drop-take}
use Rattle.dbl_value_types.specs.declared.value.Val.{Val}
use Rattle.dbl_model_table.specs.declared.row.Key.{Key}
use Rattle.dbl_model_table.specs.declared.row.Row.{Row}
use Rattle.dbl_model_table.specs.declared.change.Change.{Change}
use Rattle.dbl_model_table.specs.declared.change.Commit.{Commit}
use Rattle.dbl_model_table.specs.declared.table.TableInfo.{TableInfo}
use Rattle.dbl_model_table.specs.Rows.{Rows, no_rows, rows_from, rows_at, all_changes, overlay}
use Rattle.dbl_model_history.specs.Fit.{IsKeyOf}
use Rattle.dbl_model_history.specs.KeyBounds.{IsAbove, IsUpTo}
use Rattle.dbl_model_history.specs.KeyedRows.{row_in, last_key}
use Rattle.dbl_model_history.specs.PlainRows.{row_from}
use Rattle.dbl_model_history.specs.WholeChanges.{IsTouched}
use Rattle.dbl_model_history.proofs.RowLemmas.{rows_from-append, all_changes-append}
use Rattle.dbl_model_history.proofs.PlainLemmas.{rows_from-row_from}
use Rattle.dbl_model_event.specs.declared.closed.Closed.{Closed}
use Rattle.dbl_model_event.specs.Snapshots.{AreInKeyOrder}
use Rattle.dbl_consume_laws.specs.Windows.{IsRightWindow}
use Rattle.dbl_window.specs.Plans.{Chunk}
use Rattle.dbl_window.specs.Changing.{left_from}
use Rattle.dbl_window.specs.Promise.{rows_after_first, moment_after_first, WasGiven, IsClosedOf, KeepsPromise}
use Rattle.dbl_window.proofs.Overlays.{again}
use Rattle.dbl_window.proofs.LeftLemmas.{HasWhole, ArePart, left-None, left-append, parts, whole_left, whole_front, whole_after, touched}
use Rattle.dbl_window.proofs.OrderLemmas.{within, each_row}

-- ---- changes between places of a history

pub parted : (commits : List Commit) (from to : ℕ) → from ≤ to → take to commits ≡ take from commits ++ drop from (take to commits)
parted commits from to le =
    sym (take-append-drop from (take to commits)) ∙ ap (λ (l : List Commit). l ++ drop from (take to commits)) (take-take from to commits le)

pub changes_parted : (commits : List Commit) (from to : ℕ) → from ≤ to
    → all_changes (take to commits) ≡ all_changes (take from commits) ++ all_changes (drop from (take to commits))
changes_parted commits from to le =
    ap all_changes (parted commits from to le) ∙ all_changes-append (take from commits) (drop from (take to commits))

-- the rows at a later place are those at an earlier one, and then the changes between
pub rows_between : (infos : List TableInfo) (commits : List Commit) (from to : ℕ) → from ≤ to → (table : ℕ) (key : Key)
    → rows_after_first infos commits to table key ≡ row_from infos table key (rows_after_first infos commits from table key) (all_changes (drop from (take to commits)))
rows_between infos commits from to le table key =
    ap (λ (l : List Change). rows_from infos no_rows l table key) (changes_parted commits from to le)
    ∙ (ap (λ (r : Rows). r table key) (rows_from-append infos no_rows (all_changes (take from commits)) (all_changes (drop from (take to commits))))
    ∙ rows_from-row_from infos (rows_from infos no_rows (all_changes (take from commits))) (all_changes (drop from (take to commits))) table key)

-- changes between two places are those up to a place in between, and those from there on
pub between_parted : (commits : List Commit) (low place high : ℕ) → low ≤ place → place ≤ high
    → all_changes (drop low (take high commits)) ≡ all_changes (drop low (take place commits)) ++ all_changes (drop place (take high commits))
between_parted commits low place high not_before not_after =
    ap all_changes (sym (take-append-drop (place - low) (drop low (take high commits))))
    ∙ (all_changes-append (take (place - low) (drop low (take high commits))) (drop (place - low) (drop low (take high commits)))
    ∙ ap₂ (λ (a b : List Commit). all_changes a ++ all_changes b) front back)
  where
    sum : low + (place - low) ≡ place
    sum = omega (arith, not_before)

    front : take (place - low) (drop low (take high commits)) ≡ drop low (take place commits)
    front =
        sym (drop-take low (place - low) (take high commits))
        ∙ (ap (λ (n : ℕ). drop low (take n (take high commits))) sum
        ∙ ap (drop low) (take-take place high commits not_after))

    back : drop (place - low) (drop low (take high commits)) ≡ drop place (take high commits)
    back = drop-drop (place - low) low (take high commits) ∙ ap (λ (n : ℕ). drop n (take high commits)) sum

-- all changes are those before two places, between them, and after them
pub spelled : (commits : List Commit) (low high : ℕ) → low ≤ high
    → all_changes commits ≡ all_changes (take low commits) ++ (all_changes (drop low (take high commits)) ++ all_changes (drop high commits))
spelled commits low high le =
    ap all_changes (sym (take-append-drop high commits))
    ∙ (all_changes-append (take high commits) (drop high commits)
    ∙ (ap (λ (l : List Change). l ++ all_changes (drop high commits)) (changes_parted commits low high le)
    ∙ append_assoc (all_changes (take low commits)) (all_changes (drop low (take high commits))) (all_changes (drop high commits))))

-- the moment after some first commits has their rows
pub rows_then : (infos : List TableInfo) (commits : List Commit) (place table : ℕ) (key : Key)
    → rows_at infos (all_changes commits) (moment_after_first commits place) table key ≡ rows_after_first infos commits place table key
rows_then infos commits place table key = ap (λ (l : List Change). rows_from infos no_rows l table key) taken
  where
    taken : take (length (all_changes (take place commits))) (all_changes commits) ≡ all_changes (take place commits)
    taken =
        ap (take (length (all_changes (take place commits)))) (ap all_changes (sym (take-append-drop place commits)) ∙ all_changes-append (take place commits) (drop place commits))
        ∙ take_at (all_changes (take place commits)) (all_changes (drop place commits)) (length (all_changes (take place commits))) refl

-- ---- one key

-- Where a row that was read is the table's at its place, either some change between the watermarks is whole for its key, or what the
-- changes leave of it is the table's row at the high watermark: updates that it had already seen change nothing.
pub settled : (infos : List TableInfo) (commits : List Commit) (low place high : ℕ) (table : ℕ) (key : Key) (row : Option (List Val)) → low ≤ place → place ≤ high
    → row ≡ rows_after_first infos commits place table key
    → HasWhole infos table key (all_changes (drop low (take high commits)))
    ⊎ (left_from infos table key row (all_changes (drop low (take high commits))) ≡ rows_after_first infos commits high table key)
settled infos commits low place high table key row not_before not_after same = elim (parts infos table key (all_changes (drop low (take place commits)))) [
  | inl whole ↦ inl (subst (HasWhole infos table key) (sym given_is) (whole_front infos table key (all_changes (drop low (take place commits))) (all_changes (drop place (take high commits))) whole))
  | inr first ↦ elim (parts infos table key (all_changes (drop place (take high commits)))) [
    | inl whole ↦ inl (subst (HasWhole infos table key) (sym given_is) (whole_after infos table key (all_changes (drop low (take place commits))) (all_changes (drop place (take high commits))) whole))
    | inr last ↦ inr (kept first last)
  ]
]
  where
    given_is : all_changes (drop low (take high commits)) ≡ (all_changes (drop low (take place commits))) ++ (all_changes (drop place (take high commits)))
    given_is = between_parted commits low place high not_before not_after

    -- the row had seen the earlier changes
    seen : (first : ArePart infos table key (all_changes (drop low (take place commits)))) → option_map (overlay first.cells) row ≡ rows_after_first infos commits place table key
    seen first =
        let place_is : rows_after_first infos commits place table key ≡ option_map (overlay first.cells) (rows_after_first infos commits low table key) =
        rows_between infos commits low place not_before table key ∙ first.after (rows_after_first infos commits low table key) in
        ap (option_map (overlay first.cells)) (same ∙ place_is) ∙ (again first.cells (rows_after_first infos commits low table key) ∙ sym place_is)

    kept : (first : ArePart infos table key (all_changes (drop low (take place commits)))) (last : ArePart infos table key (all_changes (drop place (take high commits))))
        → left_from infos table key row (all_changes (drop low (take high commits))) ≡ rows_after_first infos commits high table key
    kept first last =
        ap (left_from infos table key row) given_is
        ∙ (left-append infos table key row (all_changes (drop low (take place commits))) (all_changes (drop place (take high commits)))
        ∙ (ap (λ (r : Option (List Val)). left_from infos table key r (all_changes (drop place (take high commits)))) (first.left row)
        ∙ (last.left (option_map (overlay first.cells) row)
        ∙ (ap (option_map (overlay last.cells)) (seen first)
        ∙ (sym (last.after (rows_after_first infos commits place table key))
        ∙ sym (rows_between infos commits place high not_after table key))))))

-- ---- all keys

module _ (infos : List TableInfo) (commits : List Commit) (low high : ℕ) (chunk : Chunk) (closed : Closed)
    (captured : slice_get infos chunk.plan.table ≡ Some chunk.plan.info) (was : WasGiven infos commits low high chunk)
    (is : IsClosedOf chunk closed) where
  in_order : low ≤ high
  in_order = (let a : low ≤ was.place = was.not_before in let b : was.place ≤ high = was.not_after in omega (arith, a, b))

  high_rows : (key : Key) → rows_at infos (all_changes commits) (moment_after_first commits high) closed.table key ≡ rows_after_first infos commits high chunk.plan.table key
  high_rows key =
      ap (λ (t : ℕ). rows_at infos (all_changes commits) (moment_after_first commits high) t key) is.table
      ∙ rows_then infos commits high chunk.plan.table key

  settled_at : (key : Key) → row_in was.selected key ≡ rows_after_first infos commits was.place chunk.plan.table key
      → HasWhole infos chunk.plan.table key (all_changes (drop low (take high commits)))
      ⊎ (left_from infos chunk.plan.table key (row_in was.selected key) (all_changes (drop low (take high commits))) ≡ rows_after_first infos commits high chunk.plan.table key)
  settled_at key same = settled infos commits low was.place high chunk.plan.table key (row_in was.selected key) was.not_before was.not_after same

  pub right_at : (key : Key) (cells : List Val) → row_in chunk.rows key ≡ Some cells → rows_after_first infos commits high chunk.plan.table key ≡ Some cells
  right_at key cells there = by (row_in was.selected key) refl
    where
      left_is : left_from infos chunk.plan.table key (row_in was.selected key) (all_changes (drop low (take high commits))) ≡ Some cells
      left_is = sym (was.left key) ∙ there

      by : (o : Option (List Val)) → row_in was.selected key ≡ o → rows_after_first infos commits high chunk.plan.table key ≡ Some cells
      by None none =
          let gone : left_from infos chunk.plan.table key (row_in was.selected key) (all_changes (drop low (take high commits))) ≡ None =
          ap (λ (r : Option (List Val)). left_from infos chunk.plan.table key r (all_changes (drop low (take high commits)))) none
          ∙ left-None infos chunk.plan.table key (all_changes (drop low (take high commits))) in
          let contra : None ≡ Some cells = sym gone ∙ left_is in
          cc
      by (Some row) found =
          let range = within chunk.plan.info chunk.plan.above was.selected key row was.first.ordered was.first.keys found in
          let same : row_in was.selected key ≡ rows_after_first infos commits was.place chunk.plan.table key = was.first.right key range.is_key range.above (inr range.up_to) in
          elim (settled_at key same) [
            | inl whole ↦ (
                let gone : left_from infos chunk.plan.table key (row_in was.selected key) (all_changes (drop low (take high commits))) ≡ None =
                whole_left infos chunk.plan.table key (all_changes (drop low (take high commits))) whole (row_in was.selected key) in
                let contra : None ≡ Some cells = sym gone ∙ left_is in
                absurd (cc)
                )
            | inr kept ↦ sym kept ∙ left_is
          ]

  touched_at : (key : Key) → HasWhole infos chunk.plan.table key (all_changes (drop low (take high commits)))
      → IsTouched infos (all_changes commits) (moment_after_first commits low) (moment_after_first commits high) closed.table key
  touched_at key whole =
      let longer : length (all_changes (take high commits)) ≡ length (all_changes (take low commits)) + length (all_changes (drop low (take high commits))) =
      ap length (changes_parted commits low high in_order) ∙ length-append (all_changes (take low commits)) (all_changes (drop low (take high commits))) in
      subst (λ (t : ℕ). IsTouched infos (all_changes commits) (moment_after_first commits low) (moment_after_first commits high) t key) (sym is.table)
      (touched infos chunk.plan.table key (all_changes commits) (all_changes (take low commits)) (all_changes (drop low (take high commits))) (all_changes (drop high commits))
      (moment_after_first commits low) (moment_after_first commits high) (spelled commits low high in_order) refl longer whole)

  missing_at : (info : TableInfo) (key : Key) → slice_get infos closed.table ≡ Some info → IsKeyOf info key → IsAbove chunk.plan.above key
      → IsTrue closed.done ⊎ IsUpTo closed.through key → row_in closed.rows key ≡ None
      → IsTouched infos (all_changes commits) (moment_after_first commits low) (moment_after_first commits high) closed.table key
      ⊎ (rows_at infos (all_changes commits) (moment_after_first commits high) closed.table key ≡ None)
  missing_at info key at is_key above range none =
      let both : Some info ≡ Some chunk.plan.info = sym at ∙ (ap (slice_get infos) is.table ∙ captured) in
      let info_is : info ≡ chunk.plan.info = cc in
      let same : row_in was.selected key ≡ rows_after_first infos commits was.place chunk.plan.table key =
      was.first.right key (subst (λ (i : TableInfo). IsKeyOf i key) info_is is_key) above reach in
      elim (settled_at key same) [
        | inl whole ↦ inl (touched_at key whole)
        | inr kept ↦ inr (high_rows key ∙ (sym kept ∙ (sym (was.left key) ∙ (ap (λ (l : List (Key × Row)). row_in l key) (sym is.rows) ∙ none))))
      ]
    where
      reach : (length was.selected < chunk.plan.limit) ⊎ IsUpTo (last_key chunk.plan.above was.selected) key
      reach = elim range [
        | inl done ↦ inl (was.done_is (sym is.done ∙ done))
        | inr up ↦ inr (subst (λ (o : Option Key). IsUpTo o key) (is.through ∙ was.through_is) up)
      ]

  pub right_window : AreInKeyOrder closed.rows → IsRightWindow infos (all_changes commits) (moment_after_first commits low) (moment_after_first commits high) chunk.plan.above closed
  right_window ordered = record {
    right = each_row (λ key cells. rows_at infos (all_changes commits) (moment_after_first commits high) closed.table key ≡ Some cells) closed.rows ordered
        (λ key cells there. high_rows key ∙ right_at key cells (ap (λ (l : List (Key × Row)). row_in l key) (sym is.rows) ∙ there));
    missing = missing_at;
  }

pub kept_promise : (chunk : Chunk) (closed : Closed) → IsClosedOf chunk closed → AreInKeyOrder closed.rows → KeepsPromise chunk closed
kept_promise chunk closed is ordered infos commits low high captured was = right_window infos commits low high chunk closed captured was is ordered
