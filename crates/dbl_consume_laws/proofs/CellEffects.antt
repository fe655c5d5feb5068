-- What the events of a change do together to one cell.
use Rattle.std.proofs.Common.{◌≡◌, ◌≢◌, ◌∙◌, inl, inr, ℕ, List, [], ◌∷◌, Bool, true, false, cond, Option, Some, None, map, refl, sym, ap, ap₂, subst}
use Rattle.std.specs.Prelude.{◌==◌, IsSome, IsSomeAnd, option_map, unwrap_or, slice_get}
use Rattle.std.specs.List.{AllByRecursion, position_from}
use Rattle.std.specs.Str.{bytes_eq}
use Rattle.std.proofs.lemmas.Bool.Decides.{Decides-eqb}
use Rattle.dbl_value_types.specs.declared.value.Val.{Val}
use Rattle.dbl_record.specs.declared.acts.HeldCell.{HeldCell}
use Rattle.dbl_model_table.specs.declared.identity.Identity.{Identity}
use Rattle.dbl_model_table.specs.declared.row.Key.{Key}
use Rattle.dbl_model_table.specs.declared.row.Row.{Row}
use Rattle.dbl_model_table.specs.declared.table.TableInfo.{TableInfo}
use Rattle.dbl_model_table.specs.declared.change.Cell.{Cell}
use Rattle.dbl_model_table.specs.declared.change.Cell.TheVariants.{Given, Unchanged}
use Rattle.dbl_model_table.specs.declared.change.Change.{Change}
use Rattle.dbl_model_table.specs.declared.change.Change.TheVariants.{Insert, Update, Delete, Clear}
use Rattle.dbl_model_table.specs.Tables.{column_names}
use Rattle.dbl_model_table.specs.Infos.{key_places, topic_of}
use Rattle.dbl_model_table.specs.Keys.{key_at, key_of, new_key_of, given_or_null, same_key}
use Rattle.dbl_model_table.specs.Rows.{Rows, Effect, all_given, updated, at_key, at_keys, effect_of, table_of}
use Rattle.dbl_model_table.specs.Rows.Effect.{Whole, Ends}
use Rattle.dbl_model_history.specs.Fit.{IsKeyOf, IsFitInsert, IsFitUpdate, IsFitDelete, IsFit}
use Rattle.dbl_model_history.specs.Image.{key_text}
use Rattle.dbl_model_event.specs.Events.{Created, Updated, Notice, move_notices, change_notices, notices}
use Rattle.dbl_model_history.specs.Laws.{AreDistinctTables}
use Rattle.dbl_model_table.proofs.Lists.{bool_case, text_itself, same_text}
use Rattle.dbl_model_table.proofs.InfoLemmas.{topic_one}
use Rattle.dbl_model_history.proofs.ImageLemmas.{table_one}
use Rattle.dbl_model_table.proofs.KeyLemmas.{same_key-is, same_key-itself}
use Rattle.dbl_model_history.proofs.RowKeys.{is_some_value, given_row}
use Rattle.dbl_model_history.proofs.RowLemmas.{effect_of-other_table}
use Rattle.dbl_consume_laws.specs.Cells.{Op, Stay, End, cell_after, cell_op, named_column_cell, content_op, is_about, notice_op}
use Rattle.dbl_consume_laws.specs.Effects.{effect_op, after_notices, ChangesChangeCells}
use Rattle.dbl_consume_laws.proofs.Steps.{keys_by_text}
use Rattle.dbl_consume_laws.proofs.CellEvents.{item_mapped}

-- ---- cells

all_are_given : (cells : List Cell) (row : List Val) → all_given cells ≡ Some row → cells ≡ map Given row
all_are_given [] row h = let e : [] ≡ row = cc in ap (map Given) e
all_are_given (Given v ∷ cells) row h = step (all_given cells) h (all_are_given cells)
  where
    step : (o : Option (List Val)) → option_map (λ r. v ∷ r) o ≡ Some row → ((r : List Val) → o ≡ Some r → cells ≡ map Given r) → Given v ∷ cells ≡ map Given row
    step None e same = cc
    step (Some r) e same = let f : v ∷ r ≡ row = cc in ap (λ (l : List Cell). Given v ∷ l) (same r refl) ∙ ap (map Given) f
all_are_given (Unchanged ∷ cells) row h = cc

-- a row that is given whole leaves nothing of what was held
settled : (o : Option Val) (c d : Option HeldCell) → cell_after (cell_op (option_map Given o)) c ≡ cell_after (cell_op (option_map Given o)) d
settled None c d = refl
settled (Some v) c d = refl

-- ---- one captured table and key

module _ (identity : Identity) (infos : List TableInfo) (table : ℕ) (info : TableInfo) (captured : slice_get infos table ≡ Some info) (apart : AreDistinctTables infos) (key : Key) (is_key : IsKeyOf info key) (column : List ℕ) where
  abbrev after_all : List Notice → Option HeldCell → Option HeldCell
  after_all ns cell = after_notices identity ns (topic_of identity info) (key_text info key) column cell

  abbrev does : Notice → Op
  does n = notice_op identity n (topic_of identity info) (key_text info key) column

  -- ---- other tables

  abbrev IsOther : Notice → Type 0
  IsOther n = bytes_eq (topic_of identity n.info) (topic_of identity info) ≡ false

  all_stay : (ns : List Notice) → AllByRecursion IsOther ns → (cell : Option HeldCell) → after_all ns cell ≡ cell
  all_stay [] others cell = refl
  all_stay (n ∷ ns) others cell =
      let stays : does n ≡ Stay = ap (λ b. cond b (cond (is_about n.info n.key (key_text info key)) (content_op n.info n.content column) Stay) Stay) others.0 in
      ap (λ op. after_all ns (cell_after op cell)) stays ∙ all_stay ns others.1 cell

  update_other : (other : TableInfo) (t : ℕ) (from to : Key) (old : Option Row) (cells : List Cell) (stays : Bool) → bytes_eq (topic_of identity other) (topic_of identity info) ≡ false
      → AllByRecursion IsOther (cond stays (record { table = t; info = other; key = Some from; content = Updated old cells; newkey = None; oldkey = None } ∷ []) (move_notices t other from to old (record { cells = map given_or_null cells })))
  update_other other t from to old cells true h = (h, tt)
  update_other other t from to old cells false h = (h, (h, (h, tt)))

  change_other : (other : TableInfo) (t : ℕ) (c : Change) → bytes_eq (topic_of identity other) (topic_of identity info) ≡ false → AllByRecursion IsOther (change_notices t other c)
  change_other other t (Insert u row) h = (h, tt)
  change_other other t (Update u from old cells) h = update_other other t from (new_key_of other cells) old cells (same_key from (new_key_of other cells)) h
  change_other other t (Delete u from old) h = (h, (h, tt))
  change_other other t (Clear u) h = (h, tt)

  topics_apart : (t : ℕ) (other : TableInfo) → slice_get infos t ≡ Some other → t ≢ table → bytes_eq (topic_of identity other) (topic_of identity info) ≡ false
  topics_apart t other at differs = elim (bool_case (bytes_eq (topic_of identity other) (topic_of identity info))) [
    | inl same ↦ absurd (differs (table_one infos t table other info apart at captured (topic_one identity other info (same_text (topic_of identity other) (topic_of identity info) same))))
    | inr not ↦ not
  ]

  abbrev Agree : Change → Option HeldCell → Type 0
  Agree c cell = after_all (notices infos c) cell ≡ cell_after (effect_op info (effect_of infos c table key) column) cell

  elsewhere : (c : Change) (cell : Option HeldCell) → table_of c ≢ table → Agree c cell
  elsewhere c cell differs = step (slice_get infos (table_of c)) refl ∙ sym (ap (λ e. cell_after (effect_op info e column) cell) (effect_of-other_table infos c table key differs))
    where
      step : (o : Option TableInfo) → slice_get infos (table_of c) ≡ o → after_all (unwrap_or (option_map (λ i. change_notices (table_of c) i c) o) []) cell ≡ cell
      step None at = refl
      step (Some other) at = all_stay (change_notices (table_of c) other c) (change_other other (table_of c) c (topics_apart (table_of c) other at differs)) cell

  -- ---- this table

  here : (table == table) ≡ true
  here = (Decides-eqb table table).1 refl

  places : key_places infos table ≡ info.key
  places = ap (λ (o : Option TableInfo). unwrap_or (option_map (λ (i : TableInfo). i.key) o) []) captured

  tells : (c : Change) → table_of c ≡ table → notices infos c ≡ change_notices table info c
  tells c e =
      ap (λ t. unwrap_or (option_map (λ i. change_notices t i c) (slice_get infos t)) []) e ∙ ap (λ o. unwrap_or (option_map (λ i. change_notices table i c) o) []) captured

  -- what an event of this table about a key does
  at_key_op : (k : Key) (op : Op) → IsKeyOf info k → cond (bytes_eq (topic_of identity info) (topic_of identity info)) (cond (bytes_eq (key_text info k) (key_text info key)) op Stay) Stay ≡ cond (same_key k key) op Stay
  at_key_op k op of_k =
      ap (λ b. cond b (cond (bytes_eq (key_text info k) (key_text info key)) op Stay) Stay) (text_itself (topic_of identity info))
      ∙ ap (λ b. cond b op Stay) (keys_by_text info k key of_k is_key)

  joined : (c : Change) (cell : Option HeldCell) (effect : Effect) → table_of c ≡ table → effect_of infos c table key ≡ effect
      → after_all (change_notices table info c) cell ≡ cell_after (effect_op info effect column) cell → Agree c cell
  joined c cell effect of_table is same = ap (λ ns. after_all ns cell) (tells c of_table) ∙ same ∙ sym (ap (λ e. cell_after (effect_op info e column) cell) is)

  insert_here : (at : Rows) (row : Row) (cell : Option HeldCell) → IsFit infos at (Insert table row) → Agree (Insert table row) cell
  insert_here at row cell fit =
      let f : IsFitInsert info (at table) row = subst (λ o. IsSomeAnd o (λ i. IsFitInsert i (at table) row)) captured fit in
      let op : Op = content_op info (Created row) column in
      joined (Insert table row) cell (at_key true (same_key (key_of info row.cells) key) (Whole row.cells)) refl
      (ap₂ (λ b ps. at_key b (same_key (key_at ps row.cells) key) (Whole row.cells)) here places)
      (ap (λ o. cell_after o cell) (at_key_op (key_of info row.cells) op f.key) ∙ by (same_key (key_of info row.cells) key))
    where
      by : (b : Bool) → cell_after (cond b (content_op info (Created row) column) Stay) cell ≡ cell_after (effect_op info (at_key true b (Whole row.cells)) column) cell
      by true = refl
      by false = refl

  delete_here : (at : Rows) (from : Key) (old : Row) (cell : Option HeldCell) → IsFit infos at (Delete table from old) → Agree (Delete table from old) cell
  delete_here at from old cell fit =
      let f : IsFitDelete info (at table) from old = subst (λ o. IsSomeAnd o (λ i. IsFitDelete i (at table) from old)) captured fit in
      joined (Delete table from old) cell (at_key true (same_key from key) Ends) refl
      (ap (λ b. at_key b (same_key from key) Ends) here)
      (ap₂ (λ first second. cell_after second (cell_after first cell)) (at_key_op from End f.old_key) (at_key_op from Stay f.old_key) ∙ by (same_key from key))
    where
      by : (b : Bool) → cell_after (cond b Stay Stay) (cell_after (cond b End Stay) cell) ≡ cell_after (effect_op info (at_key true b Ends) column) cell
      by true = refl
      by false = refl

  clear_here : (cell : Option HeldCell) → Agree (Clear table) cell
  clear_here cell = joined (Clear table) cell Ends refl (ap (λ b. at_key b true Ends) here) (ap (λ b. cell_after (cond b End Stay) cell) (text_itself (topic_of identity info)))

  -- an update in place, or a move
  module _ (at : Rows) (from : Key) (old : Option Row) (cells : List Cell) (cell : Option HeldCell) (fit : IsFitUpdate info (at table) from old cells) where
    abbrev to : Key
    to = new_key_of info cells

    abbrev effect : Effect
    effect = at_keys true (same_key to key) (same_key from key) (updated (all_given cells) cells)

    abbrev told_by : Bool → List Notice
    told_by stays = cond stays (record { table = table; info = info; key = Some from; content = Updated old cells; newkey = None; oldkey = None } ∷ []) (move_notices table info from to old (record { cells = map given_or_null cells }))

    -- an update whose cells are all given gives a whole row
    given_here : (o : Option (List Val)) → all_given cells ≡ o → content_op info (Updated old cells) column ≡ effect_op info (updated o cells) column
    given_here None is = refl
    given_here (Some row) is =
        ap (λ l. cell_op (named_column_cell info.columns l column)) (all_are_given cells row is) ∙ ap cell_op (item_mapped Given row (position_from (bytes_eq column) 0 (column_names info.columns)))

    in_place : from ≡ to → after_all (told_by true) cell ≡ cell_after (effect_op info effect column) cell
    in_place e =
        ap (λ o. cell_after o cell) (at_key_op from (content_op info (Updated old cells) column) fit.old_key)
        ∙ by (same_key from key)
        ∙ ap (λ k. cell_after (effect_op info (at_keys true (same_key k key) (same_key from key) (updated (all_given cells) cells)) column) cell) e
      where
        by : (b : Bool) → cell_after (cond b (content_op info (Updated old cells) column) Stay) cell ≡ cell_after (effect_op info (at_keys true b b (updated (all_given cells) cells)) column) cell
        by true = ap (λ o. cell_after o cell) (given_here (all_given cells) refl)
        by false = refl

    moved : (new : List Val) (to_here from_here : Bool)
        → cell_after (cond to_here (cell_op (option_map Given (named_column_cell info.columns new column))) Stay) (cell_after (cond from_here Stay Stay) (cell_after (cond from_here End Stay) cell))
        ≡ cell_after (effect_op info (at_keys true to_here from_here (Whole new)) column) cell
    moved new true from_here = settled (named_column_cell info.columns new column) (cell_after (cond from_here Stay Stay) (cell_after (cond from_here End Stay) cell)) cell
    moved new false true = refl
    moved new false false = refl

    in_move : IsSome (all_given cells) → after_all (told_by false) cell ≡ cell_after (effect_op info effect column) cell
    in_move all =
        let new = is_some_value (all_given cells) all in
        let same : map given_or_null cells ≡ new.0 = given_row cells new.0 new.1 in
        let created : Op = content_op info (Created (record { cells = map given_or_null cells })) column in
        ap₂ (λ first second. cell_after (cond (bytes_eq (topic_of identity info) (topic_of identity info)) (cond (bytes_eq (key_text info to) (key_text info key)) created Stay) Stay) (cell_after second (cell_after first cell))) (at_key_op from End fit.old_key) (at_key_op from Stay fit.old_key)
        ∙ ap (λ third. cell_after third (cell_after (cond (same_key from key) Stay Stay) (cell_after (cond (same_key from key) End Stay) cell))) (at_key_op to created fit.new_key)
        ∙ ap (λ l. cell_after (cond (same_key to key) (cell_op (option_map Given (named_column_cell info.columns l column))) Stay) (cell_after (cond (same_key from key) Stay Stay) (cell_after (cond (same_key from key) End Stay) cell))) same
        ∙ moved new.0 (same_key to key) (same_key from key)
        ∙ sym (ap (λ o. cell_after (effect_op info (at_keys true (same_key to key) (same_key from key) (updated o cells)) column) cell) new.1)

    all_if_moved : same_key from to ≡ false → IsSome (all_given cells)
    all_if_moved moves = elim fit.stays_or_moves [
      | inl e ↦ (let same : same_key from to ≡ true = ap (same_key from) (sym e) ∙ same_key-itself from in absurd (let contra : true ≡ false = sym same ∙ moves in cc))
      | inr all ↦ all.1
    ]

    update_here : Agree (Update table from old cells) cell
    update_here = joined (Update table from old cells) cell effect refl
        (ap₂ (λ b ps. at_keys b (same_key (key_at ps (map given_or_null cells)) key) (same_key from key) (updated (all_given cells) cells)) here places)
        (elim (bool_case (same_key from to)) [
          | inl stays ↦ ap (λ b. after_all (told_by b) cell) stays ∙ in_place (same_key-is from to stays)
          | inr moves ↦ ap (λ b. after_all (told_by b) cell) moves ∙ in_move (all_if_moved moves)
        ])

  tables_apart : (t : ℕ) → (t == table) ≡ false → t ≢ table
  tables_apart t other e = let same : (t == table) ≡ true = (Decides-eqb t table).1 e in let contra : true ≡ false = sym same ∙ other in cc

  pub change_op : (c : Change) (at : Rows) (cell : Option HeldCell) → IsFit infos at c → Agree c cell
  change_op (Insert t row) at cell fit = elim (bool_case (t == table)) [
    | inl same ↦ (let e : t ≡ table = (Decides-eqb t table).0 same in subst (λ u. Agree (Insert u row) cell) (sym e) (insert_here at row cell (subst (λ u. IsFit infos at (Insert u row)) e fit)))
    | inr other ↦ elsewhere (Insert t row) cell (tables_apart t other)
  ]
  change_op (Update t from old cells) at cell fit = elim (bool_case (t == table)) [
    | inl same ↦ (
        let e : t ≡ table = (Decides-eqb t table).0 same in
        let f : IsFitUpdate info (at table) from old cells = subst (λ o. IsSomeAnd o (λ i. IsFitUpdate i (at table) from old cells)) captured (subst (λ u. IsFit infos at (Update u from old cells)) e fit) in
        subst (λ u. Agree (Update u from old cells) cell) (sym e) (update_here at from old cells cell f))
    | inr other ↦ elsewhere (Update t from old cells) cell (tables_apart t other)
  ]
  change_op (Delete t from old) at cell fit = elim (bool_case (t == table)) [
    | inl same ↦ (let e : t ≡ table = (Decides-eqb t table).0 same in subst (λ u. Agree (Delete u from old) cell) (sym e) (delete_here at from old cell (subst (λ u. IsFit infos at (Delete u from old)) e fit)))
    | inr other ↦ elsewhere (Delete t from old) cell (tables_apart t other)
  ]
  change_op (Clear t) at cell fit = elim (bool_case (t == table)) [
    | inl same ↦ (let e : t ≡ table = (Decides-eqb t table).0 same in subst (λ u. Agree (Clear u) cell) (sym e) (clear_here cell))
    | inr other ↦ elsewhere (Clear t) cell (tables_apart t other)
  ]

pub changes_change_cells : ChangesChangeCells
changes_change_cells identity infos at change topic text table key names column cell apart fit =
    subst (λ t. after_notices identity (notices infos change) t text column cell ≡ cell_after (effect_op names.info (effect_of infos change table key) column) cell) names.topic_is
    (subst (λ t. after_notices identity (notices infos change) (topic_of identity names.info) t column cell ≡ cell_after (effect_op names.info (effect_of infos change table key) column) cell) names.text_is
    (change_op identity infos table names.info names.captured apart key names.is_key column change at cell fit))
