-- What each event of a change does to one cell, beside what the change does: it does the same, or leaves the cell, and then, if
-- the change is whole for the key, there is no row before the change or after it.
use Rattle.std.proofs.Common.{◌≡◌, ◌≢◌, ◌∙◌, ◌⊎◌, inl, inr, ℕ, List, [], ◌∷◌, Bool, true, false, cond, Option, Some, None, map, refl, sym, ap, ap₂, subst}
use Rattle.std.specs.Prelude.{◌==◌, IsSome, IsSomeAnd, option_map, unwrap_or, slice_get}
use Rattle.std.specs.List.{AllByRecursion, position_from}
use Rattle.std.specs.Str.{bytes_eq}
use Rattle.std.proofs.lemmas.Bool.Decides.{Decides-eqb}
use Rattle.dbl_value_types.specs.declared.value.Val.{Val}
use Rattle.dbl_model_table.specs.declared.identity.Identity.{Identity}
use Rattle.dbl_model_table.specs.declared.row.Key.{Key}
use Rattle.dbl_model_table.specs.declared.row.Row.{Row}
use Rattle.dbl_model_table.specs.declared.table.TableInfo.{TableInfo}
use Rattle.dbl_model_table.specs.declared.change.Cell.{Cell}
use Rattle.dbl_model_table.specs.declared.change.Cell.TheVariants.{Given, Unchanged}
use Rattle.dbl_model_table.specs.declared.change.Change.{Change}
use Rattle.dbl_model_table.specs.declared.change.Change.TheVariants.{Insert, Update, Delete, Clear}
use Rattle.dbl_model_table.specs.Tables.{column_names}
use Rattle.dbl_model_table.specs.Infos.{key_places, topic_of}
use Rattle.dbl_model_table.specs.Keys.{same_key, key_at, key_of, new_key_of, given_or_null}
use Rattle.dbl_model_table.specs.Rows.{Effect, Rows, all_given, updated, at_key, at_keys, effect_of, IsWholeEffect, row_after, table_of}
use Rattle.dbl_model_table.specs.Rows.Effect.{Stays, Whole, Ends}
use Rattle.dbl_model_history.specs.Fit.{IsKeyOf, IsFitInsert, IsFitUpdate, IsFitDelete, IsFit}
use Rattle.dbl_model_history.specs.Image.{Names, key_text}
use Rattle.dbl_model_history.specs.Laws.{AreDistinctTables}
use Rattle.dbl_model_event.specs.Events.{Created, Updated, Deleted, Tombstone, Truncated, Notice, move_notices, change_notices, notices}
use Rattle.dbl_model_table.proofs.Lists.{bool_case, text_itself, same_text}
use Rattle.dbl_model_table.proofs.InfoLemmas.{topic_one}
use Rattle.dbl_model_table.proofs.KeyLemmas.{same_key-is, same_key-itself}
use Rattle.dbl_model_history.proofs.ImageLemmas.{table_one}
use Rattle.dbl_model_history.proofs.RowKeys.{is_some_value, given_row}
use Rattle.dbl_model_history.proofs.RowLemmas.{effect_of-other_table}
use Rattle.dbl_consume_laws.specs.Cells.{Op, Stay, End, cell_op, named_column_cell, content_op, is_about, notice_op}
use Rattle.dbl_consume_laws.specs.Effects.{effect_op}
use Rattle.dbl_consume_laws.proofs.Steps.{keys_by_text}
use Rattle.dbl_consume_laws.proofs.CellEvents.{item_mapped}

-- where the effect is whole there is no row before it or after it
abbrev pub IsGone : Effect → Option (List Val) → Type 0
IsGone effect row = IsWholeEffect effect → (row ≡ None) ⊎ (row_after effect row ≡ None)

-- an operation that leaves the cell, or does what the effect does
abbrev pub IsPartOf : TableInfo → List ℕ → Effect → Option (List Val) → Op → Type 0
IsPartOf info column effect row op = ((op ≡ Stay) × IsGone effect row) ⊎ (op ≡ effect_op info effect column)

-- ---- by tests of the table and the keys

module _ (info : TableInfo) (column : List ℕ) (row : Option (List Val)) where
  part_created : (new : List Val) (k : Bool) → IsPartOf info column (at_key true k (Whole new)) row (cond k (cell_op (option_map Given (named_column_cell info.columns new column))) Stay)
  part_created new true = inr refl
  part_created new false = inr refl

  part_deleted : (k : Bool) → IsPartOf info column (at_key true k Ends) row (cond k End Stay)
  part_deleted true = inr refl
  part_deleted false = inr refl

  gone_at : (k : Bool) → IsGone (at_key true k Ends) row
  gone_at true w = inr refl
  gone_at false w = elim w [ ]

  stays_twice : (b : Bool) → cond b Stay Stay ≡ Stay
  stays_twice true = refl
  stays_twice false = refl

  -- an update in place
  part_updated : (k : Bool) (effect : Effect) (op : Op) → op ≡ effect_op info effect column → IsPartOf info column (at_keys true k k effect) row (cond k op Stay)
  part_updated true effect op same = inr same
  part_updated false effect op same = inr refl

  -- a moved key, at the new key (to) and the old one (from), which aren't the same
  module _ (new : List Val) (to from : Bool) (apart : to ≡ true → from ≡ true → ⊥) (absent : to ≡ true → row ≡ None) where
    first_part : (t f : Bool) → to ≡ t → from ≡ f → IsPartOf info column (at_keys true t f (Whole new)) row (cond f End Stay)
    first_part true true is_to is_from = absurd (apart is_to is_from)
    first_part true false is_to is_from = inl (refl, λ w. inl (absent is_to))
    first_part false true is_to is_from = inr refl
    first_part false false is_to is_from = inr refl

    second_gone : (t f : Bool) → to ≡ t → IsGone (at_keys true t f (Whole new)) row
    second_gone true f is_to w = inl (absent is_to)
    second_gone false true is_to w = inr refl
    second_gone false false is_to w = elim w [ ]

    third_part : (t f : Bool) → IsPartOf info column (at_keys true t f (Whole new)) row (cond t (cell_op (option_map Given (named_column_cell info.columns new column))) Stay)
    third_part true f = inr refl
    third_part false true = inl (refl, λ w. inr refl)
    third_part false false = inr refl

-- ---- cells

all_are_given : (cells : List Cell) (row : List Val) → all_given cells ≡ Some row → cells ≡ map Given row
all_are_given [] row h = let e : [] ≡ row = cc in ap (map Given) e
all_are_given (Given v ∷ cells) row h = step (all_given cells) h (all_are_given cells)
  where
    step : (o : Option (List Val)) → option_map (λ r. v ∷ r) o ≡ Some row → ((r : List Val) → o ≡ Some r → cells ≡ map Given r) → Given v ∷ cells ≡ map Given row
    step None e same = cc
    step (Some r) e same = let f : v ∷ r ≡ row = cc in ap (λ (l : List Cell). Given v ∷ l) (same r refl) ∙ ap (map Given) f
all_are_given (Unchanged ∷ cells) row h = cc

-- ---- one captured table and key

module _ (identity : Identity) (infos : List TableInfo) (table : ℕ) (info : TableInfo) (captured : slice_get infos table ≡ Some info) (apart : AreDistinctTables infos) (key : Key) (is_key : IsKeyOf info key) (column : List ℕ) where
  abbrev does : Notice → Op
  does n = notice_op identity n (topic_of identity info) (key_text info key) column

  -- the notice is a part of the change
  abbrev IsPartHere : Rows → Change → Notice → Type 0
  IsPartHere at c n = IsPartOf info column (effect_of infos c table key) (at table key) (does n)

  -- ---- other tables

  abbrev IsOther : Notice → Type 0
  IsOther n = bytes_eq (topic_of identity n.info) (topic_of identity info) ≡ false

  update_other : (other : TableInfo) (t : ℕ) (from to : Key) (old : Option Row) (cells : List Cell) (stays : Bool) → bytes_eq (topic_of identity other) (topic_of identity info) ≡ false
      → AllByRecursion IsOther (cond stays (record { table = t; info = other; key = Some from; content = Updated old cells; newkey = None; oldkey = None } ∷ []) (move_notices t other from to old (record { cells = map given_or_null cells })))
  update_other other t from to old cells true h = (h, tt)
  update_other other t from to old cells false h = (h, (h, (h, tt)))

  change_other : (other : TableInfo) (t : ℕ) (c : Change) → bytes_eq (topic_of identity other) (topic_of identity info) ≡ false → AllByRecursion IsOther (change_notices t other c)
  change_other other t (Insert u row) h = (h, tt)
  change_other other t (Update u from old cells) h = update_other other t from (new_key_of other cells) old cells (same_key from (new_key_of other cells)) h
  change_other other t (Delete u from old) h = (h, (h, tt))
  change_other other t (Clear u) h = (h, tt)

  topics_apart : (t : ℕ) (other : TableInfo) → slice_get infos t ≡ Some other → t ≢ table → bytes_eq (topic_of identity other) (topic_of identity info) ≡ false
  topics_apart t other at differs = elim (bool_case (bytes_eq (topic_of identity other) (topic_of identity info))) [
    | inl same ↦ absurd (differs (table_one infos t table other info apart at captured (topic_one identity other info (same_text (topic_of identity other) (topic_of identity info) same))))
    | inr not ↦ not
  ]

  others_stay : (at : Rows) (c : Change) (ns : List Notice) → effect_of infos c table key ≡ Stays → AllByRecursion IsOther ns → AllByRecursion (IsPartHere at c) ns
  others_stay at c [] none others = tt
  others_stay at c (n ∷ ns) none others =
      let stays : does n ≡ Stay = ap (λ b. cond b (cond (is_about n.info n.key (key_text info key)) (content_op n.info n.content column) Stay) Stay) others.0 in
      (inr (stays ∙ sym (ap (λ e. effect_op info e column) none)), others_stay at c ns none others.1)

  elsewhere : (at : Rows) (c : Change) → table_of c ≢ table → AllByRecursion (IsPartHere at c) (notices infos c)
  elsewhere at c differs = step (slice_get infos (table_of c)) refl
    where
      step : (o : Option TableInfo) → slice_get infos (table_of c) ≡ o → AllByRecursion (IsPartHere at c) (unwrap_or (option_map (λ i. change_notices (table_of c) i c) o) [])
      step None at_c = tt
      step (Some other) at_c = others_stay at c (change_notices (table_of c) other c) (effect_of-other_table infos c table key differs) (change_other other (table_of c) c (topics_apart (table_of c) other at_c differs))

  -- ---- this table

  here : (table == table) ≡ true
  here = (Decides-eqb table table).1 refl

  places : key_places infos table ≡ info.key
  places = ap (λ (o : Option TableInfo). unwrap_or (option_map (λ (i : TableInfo). i.key) o) []) captured

  tells : (c : Change) → table_of c ≡ table → notices infos c ≡ change_notices table info c
  tells c e =
      ap (λ t. unwrap_or (option_map (λ i. change_notices t i c) (slice_get infos t)) []) e ∙ ap (λ o. unwrap_or (option_map (λ i. change_notices table i c) o) []) captured

  -- what an event of this table about a key does
  at_key_op : (k : Key) (op : Op) → IsKeyOf info k → cond (bytes_eq (topic_of identity info) (topic_of identity info)) (cond (bytes_eq (key_text info k) (key_text info key)) op Stay) Stay ≡ cond (same_key k key) op Stay
  at_key_op k op of_k =
      ap (λ b. cond b (cond (bytes_eq (key_text info k) (key_text info key)) op Stay) Stay) (text_itself (topic_of identity info))
      ∙ ap (λ b. cond b op Stay) (keys_by_text info k key of_k is_key)

  -- a part by the operation that it is and the effect that the change has
  shown : (at : Rows) (c : Change) (n : Notice) (effect : Effect) (op : Op) → effect_of infos c table key ≡ effect → does n ≡ op → IsPartOf info column effect (at table key) op → IsPartHere at c n
  shown at c n effect op is same part =
      subst (λ e. IsPartOf info column e (at table key) (does n)) (sym is) (subst (λ o. IsPartOf info column effect (at table key) o) (sym same) part)

  told_as : (at : Rows) (c : Change) → table_of c ≡ table → AllByRecursion (IsPartHere at c) (change_notices table info c) → AllByRecursion (IsPartHere at c) (notices infos c)
  told_as at c of_table parts = subst (AllByRecursion (IsPartHere at c)) (sym (tells c of_table)) parts

  insert_parts : (at : Rows) (row : Row) → IsFit infos at (Insert table row) → AllByRecursion (IsPartHere at (Insert table row)) (notices infos (Insert table row))
  insert_parts at row fit =
      let f : IsFitInsert info (at table) row = subst (λ o. IsSomeAnd o (λ i. IsFitInsert i (at table) row)) captured fit in
      told_as at (Insert table row) refl (
        shown at (Insert table row) (record { table = table; info = info; key = Some (key_of info row.cells); content = Created row; newkey = None; oldkey = None }) (at_key true (same_key (key_of info row.cells) key) (Whole row.cells)) _
            (ap₂ (λ b ps. at_key b (same_key (key_at ps row.cells) key) (Whole row.cells)) here places)
            (at_key_op (key_of info row.cells) (content_op info (Created row) column) f.key)
            (part_created info column (at table key) row.cells (same_key (key_of info row.cells) key)),
        tt,
      )

  delete_parts : (at : Rows) (from : Key) (old : Row) → IsFit infos at (Delete table from old) → AllByRecursion (IsPartHere at (Delete table from old)) (notices infos (Delete table from old))
  delete_parts at from old fit =
      let f : IsFitDelete info (at table) from old = subst (λ o. IsSomeAnd o (λ i. IsFitDelete i (at table) from old)) captured fit in
      let effect : effect_of infos (Delete table from old) table key ≡ at_key true (same_key from key) Ends = ap (λ b. at_key b (same_key from key) Ends) here in
      told_as at (Delete table from old) refl (
        shown at (Delete table from old) (record { table = table; info = info; key = Some from; content = Deleted (Some old); newkey = None; oldkey = None }) (at_key true (same_key from key) Ends) _
            effect (at_key_op from End f.old_key) (part_deleted info column (at table key) (same_key from key)),
        (
          shown at (Delete table from old) (record { table = table; info = info; key = Some from; content = Tombstone; newkey = None; oldkey = None }) (at_key true (same_key from key) Ends) Stay
              effect (at_key_op from Stay f.old_key ∙ stays_twice info column (at table key) (same_key from key)) (inl (refl, gone_at info column (at table key) (same_key from key))),
          tt,
        ),
      )

  clear_parts : (at : Rows) → AllByRecursion (IsPartHere at (Clear table)) (notices infos (Clear table))
  clear_parts at = told_as at (Clear table) refl (
    shown at (Clear table) (record { table = table; info = info; key = None; content = Truncated; newkey = None; oldkey = None }) Ends End
        (ap (λ b. at_key b true Ends) here) (ap (λ b. cond b End Stay) (text_itself (topic_of identity info))) (inr refl),
    tt,
  )

  -- an update in place, or a move
  module _ (at : Rows) (from : Key) (old : Option Row) (cells : List Cell) (fit : IsFitUpdate info (at table) from old cells) where
    abbrev to : Key
    to = new_key_of info cells

    abbrev change : Change
    change = Update table from old cells

    abbrev told_by : Bool → List Notice
    told_by stays = cond stays (record { table = table; info = info; key = Some from; content = Updated old cells; newkey = None; oldkey = None } ∷ []) (move_notices table info from to old (record { cells = map given_or_null cells }))

    update_effect : effect_of infos change table key ≡ at_keys true (same_key to key) (same_key from key) (updated (all_given cells) cells)
    update_effect = ap₂ (λ b ps. at_keys b (same_key (key_at ps (map given_or_null cells)) key) (same_key from key) (updated (all_given cells) cells)) here places

    -- an update whose cells are all given gives a whole row
    given_here : (o : Option (List Val)) → all_given cells ≡ o → content_op info (Updated old cells) column ≡ effect_op info (updated o cells) column
    given_here None is = refl
    given_here (Some row) is =
        ap (λ l. cell_op (named_column_cell info.columns l column)) (all_are_given cells row is) ∙ ap cell_op (item_mapped Given row (position_from (bytes_eq column) 0 (column_names info.columns)))

    in_place : from ≡ to → AllByRecursion (IsPartHere at change) (told_by true)
    in_place e = (
      shown at change (record { table = table; info = info; key = Some from; content = Updated old cells; newkey = None; oldkey = None }) (at_keys true (same_key from key) (same_key from key) (updated (all_given cells) cells)) _
          (update_effect ∙ ap (λ k. at_keys true (same_key k key) (same_key from key) (updated (all_given cells) cells)) (sym e))
          (at_key_op from (content_op info (Updated old cells) column) fit.old_key)
          (part_updated info column (at table key) (same_key from key) (updated (all_given cells) cells) (content_op info (Updated old cells) column) (given_here (all_given cells) refl)),
      tt,
    )

    in_move : same_key from to ≡ false → (at table to ≡ None) × IsSome (all_given cells) → AllByRecursion (IsPartHere at change) (told_by false)
    in_move moves free =
        let new = is_some_value (all_given cells) free.1 in
        let row : Row = record { cells = map given_or_null cells } in
        let effect : effect_of infos change table key ≡ at_keys true (same_key to key) (same_key from key) (Whole new.0) =
        update_effect ∙ ap (λ o. at_keys true (same_key to key) (same_key from key) (updated o cells)) new.1 in
        let both : same_key to key ≡ true → same_key from key ≡ true → ⊥ = (λ at_to at_from.
        let same : same_key from to ≡ true = ap (same_key from) (same_key-is to key at_to ∙ sym (same_key-is from key at_from)) ∙ same_key-itself from in
        let contra : true ≡ false = sym same ∙ moves in
        cc) in
        let absent : same_key to key ≡ true → at table key ≡ None = (λ at_to. ap (at table) (sym (same_key-is to key at_to)) ∙ free.0) in
        let created : cond (same_key to key) (content_op info (Created row) column) Stay ≡ cond (same_key to key) (cell_op (option_map Given (named_column_cell info.columns new.0 column))) Stay =
        ap (λ l. cond (same_key to key) (cell_op (option_map Given (named_column_cell info.columns l column))) Stay) (given_row cells new.0 new.1) in (
          shown at change (record { table = table; info = info; key = Some from; content = Deleted old; newkey = Some to; oldkey = None }) (at_keys true (same_key to key) (same_key from key) (Whole new.0)) _
              effect (at_key_op from End fit.old_key)
              (first_part info column (at table key) new.0 (same_key to key) (same_key from key) both absent (same_key to key) (same_key from key) refl refl),
          (
            shown at change (record { table = table; info = info; key = Some from; content = Tombstone; newkey = None; oldkey = None }) (at_keys true (same_key to key) (same_key from key) (Whole new.0)) Stay
                effect (at_key_op from Stay fit.old_key ∙ stays_twice info column (at table key) (same_key from key))
                (inl (refl, second_gone info column (at table key) new.0 (same_key to key) (same_key from key) both absent (same_key to key) (same_key from key) refl)),
            (
              shown at change (record { table = table; info = info; key = Some to; content = Created row; newkey = None; oldkey = Some from }) (at_keys true (same_key to key) (same_key from key) (Whole new.0)) _
                  effect (at_key_op to (content_op info (Created row) column) fit.new_key ∙ created)
                  (third_part info column (at table key) new.0 (same_key to key) (same_key from key) both absent (same_key to key) (same_key from key)),
              tt,
            ),
          ),
        )

    free_if_moved : same_key from to ≡ false → (at table to ≡ None) × IsSome (all_given cells)
    free_if_moved moves = elim fit.stays_or_moves [
      | inl e ↦ (let same : same_key from to ≡ true = ap (same_key from) (sym e) ∙ same_key-itself from in absurd (let contra : true ≡ false = sym same ∙ moves in cc))
      | inr free ↦ free
    ]

    update_parts : AllByRecursion (IsPartHere at change) (notices infos change)
    update_parts = told_as at change refl
        (elim (bool_case (same_key from to)) [
          | inl stays ↦ subst (λ b. AllByRecursion (IsPartHere at change) (told_by b)) (sym stays) (in_place (same_key-is from to stays))
          | inr moves ↦ subst (λ b. AllByRecursion (IsPartHere at change) (told_by b)) (sym moves) (in_move moves (free_if_moved moves))
        ])

  tables_apart : (t : ℕ) → (t == table) ≡ false → t ≢ table
  tables_apart t other e = let same : (t == table) ≡ true = (Decides-eqb t table).1 e in let contra : true ≡ false = sym same ∙ other in cc

  abbrev AreParts : Rows → Change → Type 0
  AreParts at c = AllByRecursion (IsPartHere at c) (notices infos c)

  pub change_parts : (c : Change) (at : Rows) → IsFit infos at c → AreParts at c
  change_parts (Insert t row) at fit = elim (bool_case (t == table)) [
    | inl same ↦ (let e : t ≡ table = (Decides-eqb t table).0 same in subst (λ u. AreParts at (Insert u row)) (sym e) (insert_parts at row (subst (λ u. IsFit infos at (Insert u row)) e fit)))
    | inr other ↦ elsewhere at (Insert t row) (tables_apart t other)
  ]
  change_parts (Update t from old cells) at fit = elim (bool_case (t == table)) [
    | inl same ↦ (
        let e : t ≡ table = (Decides-eqb t table).0 same in
        let f : IsFitUpdate info (at table) from old cells = subst (λ o. IsSomeAnd o (λ i. IsFitUpdate i (at table) from old cells)) captured (subst (λ u. IsFit infos at (Update u from old cells)) e fit) in
        subst (λ u. AreParts at (Update u from old cells)) (sym e) (update_parts at from old cells f))
    | inr other ↦ elsewhere at (Update t from old cells) (tables_apart t other)
  ]
  change_parts (Delete t from old) at fit = elim (bool_case (t == table)) [
    | inl same ↦ (let e : t ≡ table = (Decides-eqb t table).0 same in subst (λ u. AreParts at (Delete u from old)) (sym e) (delete_parts at from old (subst (λ u. IsFit infos at (Delete u from old)) e fit)))
    | inr other ↦ elsewhere at (Delete t from old) (tables_apart t other)
  ]
  change_parts (Clear t) at fit = elim (bool_case (t == table)) [
    | inl same ↦ (let e : t ≡ table = (Decides-eqb t table).0 same in subst (λ u. AreParts at (Clear u)) (sym e) (clear_parts at))
    | inr other ↦ elsewhere at (Clear t) (tables_apart t other)
  ]

-- Each event of a change that fits is a part of it, at each topic and text that name a table and a key.
pub parts_named : (identity : Identity) (infos : List TableInfo) (at : Rows) (c : Change) (topic text : List ℕ) (table : ℕ) (key : Key) (names : Names identity infos topic text table key) (column : List ℕ) → AreDistinctTables infos → IsFit infos at c
    → AllByRecursion (λ n. IsPartOf names.info column (effect_of infos c table key) (at table key) (notice_op identity n topic text column)) (notices infos c)
parts_named identity infos at c topic text table key names column apart fit =
    subst (λ t. AllByRecursion (λ n. IsPartOf names.info column (effect_of infos c table key) (at table key) (notice_op identity n t text column)) (notices infos c)) names.topic_is
    (subst (λ t. AllByRecursion (λ n. IsPartOf names.info column (effect_of infos c table key) (at table key) (notice_op identity n (topic_of identity names.info) t column)) (notices infos c)) names.text_is
    (change_parts identity infos table names.info names.captured apart key names.is_key column c at fit))
