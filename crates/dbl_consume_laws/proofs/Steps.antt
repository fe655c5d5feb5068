-- What one change does to what a consumer holds at one table and key.
use Rattle.std.proofs.Common.{◌≡◌, ◌≢◌, ◌∙◌, inl, inr, ℕ, ℤ, List, [], ◌∷◌, Bool, true, false, cond, Option, Some, None, fold, length, map, refl, sym, ap, ap₂, subst}
use Rattle.std.specs.Prelude.{◌==◌, IsSome, IfSome, IsSomeAnd, option_map, unwrap_or, slice_get}
use Rattle.std.specs.List.{AllByRecursion}
use Rattle.std.specs.Str.{bytes_eq}
use Rattle.std.proofs.lemmas.Bool.Decides.{Decides-eqb}
use Rattle.dbl_value_types.specs.declared.value.Val.{Val}
use Rattle.dbl_record.specs.declared.reading.Line.{Line}
use Rattle.dbl_record.specs.Acts.{reading_of, cells_of}
use Rattle.dbl_record.specs.Consumers.{HeldCells, row_of, row_after as reading_after}
use Rattle.dbl_model_table.specs.declared.identity.Identity.{Identity}
use Rattle.dbl_model_table.specs.declared.row.Key.{Key}
use Rattle.dbl_model_table.specs.declared.row.Row.{Row}
use Rattle.dbl_model_table.specs.declared.table.TableInfo.{TableInfo}
use Rattle.dbl_model_table.specs.declared.change.Cell.{Cell}
use Rattle.dbl_model_table.specs.declared.change.Cell.TheVariants.{Given, Unchanged}
use Rattle.dbl_model_table.specs.declared.change.Change.{Change}
use Rattle.dbl_model_table.specs.declared.change.Change.TheVariants.{Insert, Update, Delete, Clear}
use Rattle.dbl_model_table.specs.declared.change.Commit.{Commit}
use Rattle.dbl_model_table.specs.Tables.{column_names}
use Rattle.dbl_model_table.specs.Infos.{key_places, topic_of, width}
use Rattle.dbl_model_table.specs.Keys.{key_at, key_of, new_key_of, given_or_null, same_key}
use Rattle.dbl_model_table.specs.Rows.{Effect, all_given, updated, at_key, at_keys, effect_of, overlay, row_after, Rows, rows_after, table_of}
use Rattle.dbl_model_table.specs.Rows.Effect.{Whole, Ends}
use Rattle.dbl_model_history.specs.Fit.{IsKeyOf, IsFitInsert, IsFitUpdate, IsFitDelete, IsFit}
use Rattle.dbl_model_history.specs.Ranges.{IsChangeInRange, IsCommitInRange, IsMomentInRange}
use Rattle.dbl_model_history.specs.Image.{members_of, key_text, row_json_texts}
use Rattle.dbl_model_event.specs.Events.{Created, Updated, Deleted, Tombstone, Truncated, Notice, move_notices, change_notices, notices}
use Rattle.dbl_model_event.specs.EventJson.{sent}
use Rattle.dbl_model_history.specs.Laws.{AreDistinctTables}
use Rattle.dbl_model_table.proofs.Lists.{bool_case, text_itself, same_text}
use Rattle.dbl_model_table.proofs.InfoLemmas.{topic_one}
use Rattle.dbl_model_history.proofs.ImageLemmas.{key_one, table_one}
use Rattle.dbl_model_table.proofs.KeyLemmas.{same_key-is, same_key-itself}
use Rattle.dbl_model_history.proofs.RowKeys.{AreKeyed, is_some_value, given_row}
use Rattle.dbl_model_history.proofs.RowLemmas.{effect_of-other_table}
use Rattle.dbl_consume_laws.specs.Laws.{IsNotPlaceholder, IsNoPlaceholderCell, LacksPlaceholder, HoldsTexts, HoldsJsonTexts}
use Rattle.dbl_consume_laws.proofs.Wholes.{AllFit, row_of_values, all_fit_in_range}
use Rattle.dbl_consume_laws.proofs.Notices.{CellFits, key_fits, cells_in_range, given_fit, old_fits}
use Rattle.dbl_consume_laws.proofs.Lines.{sent_fit}
use Rattle.dbl_consume_laws.proofs.Acts.{line_of_event, act_created, act_updated, act_deleted, act_tombstone, act_truncated}
use Rattle.dbl_consume_laws.proofs.Held.{whole_set, part_set}

-- what is held at a topic and a key's text after a record's line
abbrev pub held_after : List ℕ → List ℕ → List ℕ → Option HeldCells → Line → Option HeldCells
held_after placeholder topic text held line = reading_after placeholder topic text held (reading_of line)

abbrev pub line_of_notice : Identity → Commit → ℤ → Notice → Line
line_of_notice identity commit now n = line_of_event identity commit now n.info n.key n.content

-- ---- texts of keys, cells that are all given

pub keys_by_text : (info : TableInfo) (a b : Key) → IsKeyOf info a → IsKeyOf info b → bytes_eq (key_text info a) (key_text info b) ≡ same_key a b
keys_by_text info a b of_a of_b = elim (bool_case (same_key a b)) [
  | inl same ↦ (ap (bytes_eq (key_text info a)) (ap (key_text info) (sym (same_key-is a b same))) ∙ text_itself (key_text info a)) ∙ sym same
  | inr other ↦ elim (bool_case (bytes_eq (key_text info a) (key_text info b))) [
    | inl texts ↦ (
        let e : a ≡ b = key_one info a b of_a of_b (same_text (key_text info a) (key_text info b) texts) in
        let same : same_key a b ≡ true = ap (same_key a) (sym e) ∙ same_key-itself a in
        absurd (let contra : true ≡ false = sym same ∙ other in cc))
    | inr texts ↦ texts ∙ sym other
  ]
]

sent_row : (placeholder : List ℕ) (cells : List Cell) (row : List Val) → all_given cells ≡ Some row → map (sent placeholder) cells ≡ row
sent_row placeholder [] row h = cc
sent_row placeholder (Given v ∷ cells) row h = step (all_given cells) h (sent_row placeholder cells)
  where
    step : (o : Option (List Val)) → option_map (λ r. v ∷ r) o ≡ Some row → ((r : List Val) → o ≡ Some r → map (sent placeholder) cells ≡ r) → v ∷ map (sent placeholder) cells ≡ row
    step None e same = cc
    step (Some r) e same = let f : v ∷ r ≡ row = cc in ap (λ (l : List Val). v ∷ l) (same r refl) ∙ f
sent_row placeholder (Unchanged ∷ cells) row h = cc

given_row_lacks : (placeholder : List ℕ) (cells : List Cell) (row : List Val) → all_given cells ≡ Some row → AllByRecursion (IsNoPlaceholderCell placeholder) cells → AllByRecursion (IsNotPlaceholder placeholder) row
given_row_lacks placeholder [] row h lacks = let e : [] ≡ row = cc in subst (AllByRecursion (IsNotPlaceholder placeholder)) e tt
given_row_lacks placeholder (Given v ∷ cells) row h lacks = step (all_given cells) h (λ r e. given_row_lacks placeholder cells r e lacks.1)
  where
    step : (o : Option (List Val)) → option_map (λ r. v ∷ r) o ≡ Some row → ((r : List Val) → o ≡ Some r → AllByRecursion (IsNotPlaceholder placeholder) r) → AllByRecursion (IsNotPlaceholder placeholder) row
    step None e each = cc
    step (Some r) e each = let f : v ∷ r ≡ row = cc in subst (AllByRecursion (IsNotPlaceholder placeholder)) f (lacks.0, each r refl)
given_row_lacks placeholder (Unchanged ∷ cells) row h lacks = cc

-- ---- one table and key

module _ (identity : Identity) (infos : List TableInfo) (commit : Commit) (now : ℤ) (range : IsCommitInRange commit) (moment : IsMomentInRange now)
    (table : ℕ) (info : TableInfo) (captured : slice_get infos table ≡ Some info) (apart : AreDistinctTables infos) (key : Key) (is_key : IsKeyOf info key) where
  abbrev placeholder : List ℕ
  placeholder = identity.placeholder

  -- what is held here after a line, and after those of some notices
  abbrev after : Option HeldCells → Line → Option HeldCells
  after held line = held_after placeholder (topic_of identity info) (key_text info key) held line

  abbrev after_all : Option HeldCells → List Notice → Option HeldCells
  after_all held ns = fold after held (map (line_of_notice identity commit now) ns)

  abbrev texts : Option (List Val) → Option (List ℕ → Option (List ℕ))
  texts row = option_map (row_json_texts info.columns) row

  -- ---- changes of other tables

  abbrev pub AreOf : TableInfo → List Notice → Type 0
  AreOf other ns = AllByRecursion (λ n. n.info ≡ other) ns

  of_update : (other : TableInfo) (t : ℕ) (from to : Key) (old : Option Row) (cells : List Cell) (stays : Bool)
      → AreOf other (cond stays (record { table = t; info = other; key = Some from; content = Updated old cells; newkey = None; oldkey = None } ∷ []) (move_notices t other from to old (record { cells = map given_or_null cells })))
  of_update other t from to old cells true = (refl, tt)
  of_update other t from to old cells false = (refl, (refl, (refl, tt)))

  of_change : (other : TableInfo) (t : ℕ) (c : Change) → AreOf other (change_notices t other c)
  of_change other t (Insert u row) = (refl, tt)
  of_change other t (Update u from old cells) = of_update other t from (new_key_of other cells) old cells (same_key from (new_key_of other cells))
  of_change other t (Delete u from old) = (refl, (refl, tt))
  of_change other t (Clear u) = (refl, tt)

  pub other_topic : (other : TableInfo) → bytes_eq (topic_of identity other) (topic_of identity info) ≡ false → (ns : List Notice) → AreOf other ns → (held : Option HeldCells) → after_all held ns ≡ held
  other_topic other differs [] are held = refl
  other_topic other differs (n ∷ ns) are held =
      let passed : after held (line_of_notice identity commit now n) ≡ held = rw (ap (λ (i : TableInfo). bytes_eq (topic_of identity i) (topic_of identity info)) are.0 ∙ differs) refl in
      ap (λ h. after_all h ns) passed ∙ other_topic other differs ns are.1 held

  pub elsewhere : (t : ℕ) (other : TableInfo) → slice_get infos t ≡ Some other → t ≢ table → bytes_eq (topic_of identity other) (topic_of identity info) ≡ false
  elsewhere t other at differs = elim (bool_case (bytes_eq (topic_of identity other) (topic_of identity info))) [
    | inl same ↦ absurd (differs (table_one infos t table other info apart at captured (topic_one identity other info (same_text (topic_of identity other) (topic_of identity info) same))))
    | inr not ↦ not
  ]

  pub step_elsewhere : (c : Change) (held : Option HeldCells) → table_of c ≢ table → after_all held (notices infos c) ≡ held
  step_elsewhere c held differs = step (slice_get infos (table_of c)) refl
    where
      step : (o : Option TableInfo) → slice_get infos (table_of c) ≡ o → after_all held (unwrap_or (option_map (λ i. change_notices (table_of c) i c) o) []) ≡ held
      step None at = refl
      step (Some other) at = other_topic other (elsewhere (table_of c) other at differs) (change_notices (table_of c) other c) (of_change other (table_of c) c) held

  -- ---- lines of this table

  same_topic : bytes_eq (topic_of identity info) (topic_of identity info) ≡ true
  same_topic = text_itself (topic_of identity info)

  pub after_created : (to : Key) (row : Row) (held : Option HeldCells) → IsKeyOf info to → AllFit to.cells → AllFit row.cells
      → after held (line_of_event identity commit now info (Some to) (Created row)) ≡ cond (same_key to key) (Some (row_of held (cells_of placeholder (members_of (column_names info.columns) row.cells)))) held
  after_created to row held of_to k r =
      rw (same_topic, act_created identity commit now range moment info to row k r)
      (ap (λ b. cond b (Some (row_of held (cells_of placeholder (members_of (column_names info.columns) row.cells)))) held) (keys_by_text info to key of_to is_key))

  pub after_updated : (from : Key) (old : Option Row) (cells : List Cell) (held : Option HeldCells) → IsKeyOf info from → AllFit from.cells → IfSome old (λ row. AllFit row.cells) → AllByRecursion CellFits cells
      → after held (line_of_event identity commit now info (Some from) (Updated old cells))
      ≡ cond (same_key from key) (Some (row_of held (cells_of placeholder (members_of (column_names info.columns) (map (sent placeholder) cells))))) held
  after_updated from old cells held of_from k o c =
      rw (same_topic, act_updated identity commit now range moment info from old cells k o c)
      (ap (λ b. cond b (Some (row_of held (cells_of placeholder (members_of (column_names info.columns) (map (sent placeholder) cells))))) held) (keys_by_text info from key of_from is_key))

  pub after_deleted : (from : Key) (old : Option Row) (held : Option HeldCells) → IsKeyOf info from → AllFit from.cells → IfSome old (λ row. AllFit row.cells)
      → after held (line_of_event identity commit now info (Some from) (Deleted old)) ≡ cond (same_key from key) None held
  after_deleted from old held of_from k o =
      rw (same_topic, act_deleted identity commit now range moment info from old k o) (ap (λ b. cond b None held) (keys_by_text info from key of_from is_key))

  pub after_tombstone : (from : Key) (held : Option HeldCells) → AllFit from.cells → after held (line_of_event identity commit now info (Some from) Tombstone) ≡ held
  after_tombstone from held k = rw (same_topic, act_tombstone identity commit now range moment info from k) refl

  pub after_truncated : (held : Option HeldCells) → after held (line_of_event identity commit now info None Truncated) ≡ None
  after_truncated held = rw (same_topic, act_truncated identity commit now range moment info) refl

  -- ---- changes of this table

  here : (table == table) ≡ true
  here = (Decides-eqb table table).1 refl

  places : key_places infos table ≡ info.key
  places = ap (λ (o : Option TableInfo). unwrap_or (option_map (λ (i : TableInfo). i.key) o) []) captured

  tells : (c : Change) → table_of c ≡ table → notices infos c ≡ change_notices table info c
  tells c e =
      ap (λ t. unwrap_or (option_map (λ i. change_notices t i c) (slice_get infos t)) []) e ∙ ap (λ o. unwrap_or (option_map (λ i. change_notices table i c) o) []) captured

  pub insert_effect : (row : Row) → effect_of infos (Insert table row) table key ≡ at_key true (same_key (key_of info row.cells) key) (Whole row.cells)
  insert_effect row = ap₂ (λ b ps. at_key b (same_key (key_at ps row.cells) key) (Whole row.cells)) here places

  pub update_effect : (from : Key) (old : Option Row) (cells : List Cell)
      → effect_of infos (Update table from old cells) table key ≡ at_keys true (same_key (new_key_of info cells) key) (same_key from key) (updated (all_given cells) cells)
  update_effect from old cells = ap₂ (λ b ps. at_keys b (same_key (key_at ps (map given_or_null cells)) key) (same_key from key) (updated (all_given cells) cells)) here places

  pub delete_effect : (from : Key) (old : Row) → effect_of infos (Delete table from old) table key ≡ at_key true (same_key from key) Ends
  delete_effect from old = ap (λ b. at_key b (same_key from key) Ends) here

  pub clear_effect : effect_of infos (Clear table) table key ≡ Ends
  clear_effect = ap (λ b. at_key b true Ends) here

  module _ (held : Option HeldCells) (row : Option (List Val)) (was : HoldsJsonTexts held (texts row)) where
    inserted : (new : Row) → AllByRecursion (IsNotPlaceholder placeholder) new.cells → AllFit new.cells → (b : Bool)
        → HoldsJsonTexts (cond b (Some (row_of held (cells_of placeholder (members_of (column_names info.columns) new.cells)))) held) (texts (row_after (at_key true b (Whole new.cells)) row))
    inserted new lacks fit true = whole_set placeholder held info.columns new.cells lacks (row_of_values (column_names info.columns) new.cells fit).whole
    inserted new lacks fit false = was

    deleted : (b : Bool) → HoldsJsonTexts (cond b None held) (texts (row_after (at_key true b Ends) row))
    deleted true = tt
    deleted false = was

    moved : (new : List Val) → AllByRecursion (IsNotPlaceholder placeholder) new → AllFit new → (to from : Bool)
        → HoldsJsonTexts (cond to (Some (row_of (cond from None held) (cells_of placeholder (members_of (column_names info.columns) new)))) (cond from None held)) (texts (row_after (at_keys true to from (Whole new)) row))
    moved new lacks fit true from = whole_set placeholder (cond from None held) info.columns new lacks (row_of_values (column_names info.columns) new fit).whole
    moved new lacks fit false true = tt
    moved new lacks fit false false = was

    given_here : (cells : List Cell) (new : List Val) → all_given cells ≡ Some new → AllByRecursion (IsNoPlaceholderCell placeholder) cells → AllByRecursion CellFits cells
        → HoldsTexts (row_of held (cells_of placeholder (members_of (column_names info.columns) (map (sent placeholder) cells)))) (row_json_texts info.columns new)
    given_here cells new given lacks fit =
        let same : map (sent placeholder) cells ≡ new = sent_row placeholder cells new given in
        let fits : AllFit new = subst AllFit same (sent_fit placeholder cells fit) in
        subst (λ values. HoldsTexts (row_of held (cells_of placeholder (members_of (column_names info.columns) values))) (row_json_texts info.columns new)) (sym same)
        (whole_set placeholder held info.columns new (given_row_lacks placeholder cells new given lacks) (row_of_values (column_names info.columns) new fits).whole)

  part_here : (held : Option HeldCells) (cells : List Cell) (old : List Val) → HoldsJsonTexts held (Some (row_json_texts info.columns old)) → length cells ≡ length old → AllByRecursion (IsNoPlaceholderCell placeholder) cells → AllByRecursion CellFits cells
      → HoldsTexts (row_of held (cells_of placeholder (members_of (column_names info.columns) (map (sent placeholder) cells)))) (row_json_texts info.columns (overlay cells old))
  part_here None cells old was long lacks fit = elim was [ ]
  part_here (Some cells_held) cells old was long lacks fit =
      part_set placeholder cells_held info.columns cells old long lacks (row_of_values (column_names info.columns) (map (sent placeholder) cells) (sent_fit placeholder cells fit)).whole was

  updated_here : (held : Option HeldCells) (row : Option (List Val)) (cells : List Cell) (b : Bool) → HoldsJsonTexts held (texts row) → AllByRecursion (IsNoPlaceholderCell placeholder) cells → AllByRecursion CellFits cells
      → (b ≡ true → (old : List Val) × (row ≡ Some old) × (length cells ≡ length old))
      → HoldsJsonTexts (cond b (Some (row_of held (cells_of placeholder (members_of (column_names info.columns) (map (sent placeholder) cells))))) held) (texts (row_after (at_keys true b b (updated (all_given cells) cells)) row))
  updated_here held row cells false was lacks fit there = was
  updated_here held row cells true was lacks fit there = step (all_given cells) refl (there refl)
    where
      step : (o : Option (List Val)) → all_given cells ≡ o → (old : List Val) × (row ≡ Some old) × (length cells ≡ length old)
          → HoldsJsonTexts (Some (row_of held (cells_of placeholder (members_of (column_names info.columns) (map (sent placeholder) cells))))) (texts (row_after (updated o cells) row))
      step (Some new) given found = given_here held row was cells new given lacks fit
      step None given found =
          subst (λ r. HoldsJsonTexts (Some (row_of held (cells_of placeholder (members_of (column_names info.columns) (map (sent placeholder) cells))))) (texts (option_map (overlay cells) r))) (sym found.1)
          (part_here held cells found.0 (subst (λ r. HoldsJsonTexts held (texts r)) found.1 was) found.2 lacks fit)

  -- what a change of this table leaves
  abbrev Steps : Rows → Option HeldCells → Change → Type 0
  Steps at held c = HoldsJsonTexts (after_all held (notices infos c)) (texts (rows_after infos c at table key))

  shown : (held : Option HeldCells) (row : Option (List Val)) (c : Change) (effect : Effect) (left : Option HeldCells) → table_of c ≡ table → after_all held (change_notices table info c) ≡ left → effect_of infos c table key ≡ effect
      → HoldsJsonTexts left (texts (row_after effect row)) → HoldsJsonTexts (after_all held (notices infos c)) (texts (row_after (effect_of infos c table key) row))
  shown held row c effect left e lines does h =
      subst (λ x. HoldsJsonTexts x (texts (row_after (effect_of infos c table key) row))) (sym (ap (after_all held) (tells c e) ∙ lines)) (subst (λ x. HoldsJsonTexts left (texts (row_after x row))) (sym does) h)

  here_insert : (at : Rows) (held : Option HeldCells) (new : Row) → IsFit infos at (Insert table new) → IsChangeInRange (Insert table new) → LacksPlaceholder placeholder (Insert table new) → HoldsJsonTexts held (texts (at table key)) → Steps at held (Insert table new)
  here_insert at held new fit low lacks was =
      let f : IsFitInsert info (at table) new = subst (λ o. IsSomeAnd o (λ i. IsFitInsert i (at table) new)) captured fit in
      let fits : AllFit new.cells = all_fit_in_range new.cells low in
      shown held (at table key) (Insert table new) (at_key true (same_key (key_of info new.cells) key) (Whole new.cells)) _ refl
      (after_created (key_of info new.cells) new held f.key (key_fits info new.cells fits) fits) (insert_effect new) (inserted held (at table key) was new lacks fits (same_key (key_of info new.cells) key))

  here_delete : (at : Rows) (held : Option HeldCells) (from : Key) (old : Row) → IsFit infos at (Delete table from old) → IsChangeInRange (Delete table from old) → HoldsJsonTexts held (texts (at table key)) → Steps at held (Delete table from old)
  here_delete at held from old fit low was =
      let f : IsFitDelete info (at table) from old = subst (λ o. IsSomeAnd o (λ i. IsFitDelete i (at table) from old)) captured fit in
      let key_fit : AllFit from.cells = all_fit_in_range from.cells low.0 in
      shown held (at table key) (Delete table from old) (at_key true (same_key from key) Ends) _ refl
      (ap (λ h. after h (line_of_event identity commit now info (Some from) Tombstone)) (after_deleted from (Some old) held f.old_key key_fit (all_fit_in_range old.cells low.1)) ∙ after_tombstone from (cond (same_key from key) None held) key_fit)
      (delete_effect from old) (deleted held (at table key) was (same_key from key))

  here_clear : (at : Rows) (held : Option HeldCells) → Steps at held (Clear table)
  here_clear at held = shown held (at table key) (Clear table) Ends None refl (after_truncated held) clear_effect tt

  -- an update in place, or a move
  module _ (at : Rows) (held : Option HeldCells) (from : Key) (old : Option Row) (cells : List Cell) (fit : IsFitUpdate info (at table) from old cells) (low : IsChangeInRange (Update table from old cells))
      (lacks : LacksPlaceholder placeholder (Update table from old cells)) (keyed : AreKeyed infos at) (was : HoldsJsonTexts held (texts (at table key))) where
    abbrev to : Key
    to = new_key_of info cells

    abbrev told_by : Bool → List Notice
    told_by stays = cond stays (record { table = table; info = info; key = Some from; content = Updated old cells; newkey = None; oldkey = None } ∷ []) (move_notices table info from to old (record { cells = map given_or_null cells }))

    cells_low : AllByRecursion CellFits cells
    cells_low = cells_in_range cells low.cells

    key_low : AllFit from.cells
    key_low = all_fit_in_range from.cells low.key

    to_low : AllFit to.cells
    to_low = key_fits info (map given_or_null cells) (given_fit cells cells_low)

    there : same_key from key ≡ true → (row : List Val) × (at table key ≡ Some row) × (length cells ≡ length row)
    there same =
        let e : from ≡ key = same_key-is from key same in
        let found = is_some_value (at table from) fit.present in
        let row_is : at table key ≡ Some found.0 = ap (at table) (sym e) ∙ found.1 in
        let row = keyed.each table key found.0 row_is in
        let one : Some row.info ≡ Some info = sym row.captured ∙ captured in
        let info_is : row.info ≡ info = cc in
        (found.0, row_is, fit.wide ∙ sym (row.wide ∙ ap width info_is))

    in_place : from ≡ to → HoldsJsonTexts (after_all held (told_by true)) (texts (row_after (at_keys true (same_key to key) (same_key from key) (updated (all_given cells) cells)) (at table key)))
    in_place e =
        subst (λ h. HoldsJsonTexts h (texts (row_after (at_keys true (same_key to key) (same_key from key) (updated (all_given cells) cells)) (at table key)))) (sym (after_updated from old cells held fit.old_key key_low (old_fits old low.old) cells_low))
        (subst (λ b. HoldsJsonTexts (cond (same_key from key) (Some (row_of held (cells_of placeholder (members_of (column_names info.columns) (map (sent placeholder) cells))))) held) (texts (row_after (at_keys true b (same_key from key) (updated (all_given cells) cells)) (at table key)))) (ap (λ k. same_key k key) e)
        (updated_here held (at table key) cells (same_key from key) was lacks cells_low there))

    after_move : after_all held (told_by false)
        ≡ cond (same_key to key) (Some (row_of (cond (same_key from key) None held) (cells_of placeholder (members_of (column_names info.columns) (map given_or_null cells))))) (cond (same_key from key) None held)
    after_move =
        let first = after_deleted from old held fit.old_key key_low (old_fits old low.old) in
        let second = after_tombstone from (cond (same_key from key) None held) key_low in
        let third = after_created to (record { cells = map given_or_null cells }) (cond (same_key from key) None held) fit.new_key to_low (given_fit cells cells_low) in
        ap (λ h. after (after h (line_of_event identity commit now info (Some from) Tombstone)) (line_of_event identity commit now info (Some to) (Created (record { cells = map given_or_null cells })))) first
        ∙ ap (λ h. after h (line_of_event identity commit now info (Some to) (Created (record { cells = map given_or_null cells })))) second
        ∙ third

    in_move : IsSome (all_given cells) → HoldsJsonTexts (after_all held (told_by false)) (texts (row_after (at_keys true (same_key to key) (same_key from key) (updated (all_given cells) cells)) (at table key)))
    in_move all =
        let new = is_some_value (all_given cells) all in
        let same : map given_or_null cells ≡ new.0 = given_row cells new.0 new.1 in
        let fits : AllFit new.0 = subst AllFit same (given_fit cells cells_low) in
        let left : after_all held (told_by false) ≡ cond (same_key to key) (Some (row_of (cond (same_key from key) None held) (cells_of placeholder (members_of (column_names info.columns) new.0)))) (cond (same_key from key) None held) =
        after_move ∙ ap (λ values. cond (same_key to key) (Some (row_of (cond (same_key from key) None held) (cells_of placeholder (members_of (column_names info.columns) values)))) (cond (same_key from key) None held)) same in
        subst (λ h. HoldsJsonTexts h (texts (row_after (at_keys true (same_key to key) (same_key from key) (updated (all_given cells) cells)) (at table key)))) (sym left)
        (subst (λ o. HoldsJsonTexts (cond (same_key to key) (Some (row_of (cond (same_key from key) None held) (cells_of placeholder (members_of (column_names info.columns) new.0)))) (cond (same_key from key) None held)) (texts (row_after (at_keys true (same_key to key) (same_key from key) (updated o cells)) (at table key)))) (sym new.1)
        (moved held (at table key) was new.0 (given_row_lacks placeholder cells new.0 new.1 lacks) fits (same_key to key) (same_key from key)))

    all_if_moved : same_key from to ≡ false → IsSome (all_given cells)
    all_if_moved moves = elim fit.stays_or_moves [
      | inl e ↦ (let same : same_key from to ≡ true = ap (same_key from) (sym e) ∙ same_key-itself from in absurd (let contra : true ≡ false = sym same ∙ moves in cc))
      | inr all ↦ all.1
    ]

    here_update : Steps at held (Update table from old cells)
    here_update = shown held (at table key) (Update table from old cells) (at_keys true (same_key to key) (same_key from key) (updated (all_given cells) cells)) _ refl refl (update_effect from old cells)
        (elim (bool_case (same_key from to)) [
          | inl stays ↦ subst (λ b. HoldsJsonTexts (after_all held (told_by b)) (texts (row_after (at_keys true (same_key to key) (same_key from key) (updated (all_given cells) cells)) (at table key)))) (sym stays) (in_place (same_key-is from to stays))
          | inr moves ↦ subst (λ b. HoldsJsonTexts (after_all held (told_by b)) (texts (row_after (at_keys true (same_key to key) (same_key from key) (updated (all_given cells) cells)) (at table key)))) (sym moves) (in_move (all_if_moved moves))
        ])

  apart_tables : (t : ℕ) → (t == table) ≡ false → t ≢ table
  apart_tables t other e = let same : (t == table) ≡ true = (Decides-eqb t table).1 e in let contra : true ≡ false = sym same ∙ other in cc

  elsewhere_holds : (c : Change) (at : Rows) (held : Option HeldCells) → table_of c ≢ table → HoldsJsonTexts held (texts (at table key)) → Steps at held c
  elsewhere_holds c at held differs was =
      subst (λ h. HoldsJsonTexts h (texts (row_after (effect_of infos c table key) (at table key)))) (sym (step_elsewhere c held differs))
      (subst (λ e. HoldsJsonTexts held (texts (row_after e (at table key)))) (sym (effect_of-other_table infos c table key differs)) was)

  -- ---- each change

  pub step : (c : Change) (at : Rows) (held : Option HeldCells) → AreKeyed infos at → IsFit infos at c → IsChangeInRange c → LacksPlaceholder placeholder c → HoldsJsonTexts held (texts (at table key)) → Steps at held c
  step (Insert t new) at held keyed fit low lacks was = elim (bool_case (t == table)) [
    | inl same ↦ (
        let e : t ≡ table = (Decides-eqb t table).0 same in
        subst (λ u. Steps at held (Insert u new)) (sym e) (here_insert at held new (subst (λ u. IsFit infos at (Insert u new)) e fit) low lacks was))
    | inr other ↦ elsewhere_holds (Insert t new) at held (apart_tables t other) was
  ]
  step (Update t from old cells) at held keyed fit low lacks was = elim (bool_case (t == table)) [
    | inl same ↦ (
        let e : t ≡ table = (Decides-eqb t table).0 same in
        let f : IsFitUpdate info (at table) from old cells = subst (λ o. IsSomeAnd o (λ i. IsFitUpdate i (at table) from old cells)) captured (subst (λ u. IsFit infos at (Update u from old cells)) e fit) in
        subst (λ u. Steps at held (Update u from old cells)) (sym e) (here_update at held from old cells f low lacks keyed was))
    | inr other ↦ elsewhere_holds (Update t from old cells) at held (apart_tables t other) was
  ]
  step (Delete t from old) at held keyed fit low lacks was = elim (bool_case (t == table)) [
    | inl same ↦ (
        let e : t ≡ table = (Decides-eqb t table).0 same in
        subst (λ u. Steps at held (Delete u from old)) (sym e) (here_delete at held from old (subst (λ u. IsFit infos at (Delete u from old)) e fit) low was))
    | inr other ↦ elsewhere_holds (Delete t from old) at held (apart_tables t other) was
  ]
  step (Clear t) at held keyed fit low lacks was = elim (bool_case (t == table)) [
    | inl same ↦ (let e : t ≡ table = (Decides-eqb t table).0 same in subst (λ u. Steps at held (Clear u)) (sym e) (here_clear at held))
    | inr other ↦ elsewhere_holds (Clear t) at held (apart_tables t other) was
  ]
