-- What the records of one change do to whether a consumer has a row, beside what the change does to whether the source has it.
use Rattle.std.proofs.Common.{◌≡◌, ◌≢◌, ◌∙◌, ◌⊎◌, inl, inr, ℕ, ℤ, Bool, true, false, cond, Option, Some, None, List, [], ◌∷◌, fold, map, refl, sym, ap, subst}
use Rattle.std.proofs.lemmas.Bool.{cases_eq}
use Rattle.std.specs.Prelude.{if◌then◌else◌, IsSomeAnd, option_map, unwrap_or, slice_get}
use Rattle.std.specs.List.{AllByRecursion}
use Rattle.std.specs.Str.{bytes_eq}
use Rattle.dbl_value_types.specs.declared.value.Val.{Val}
use Rattle.dbl_record.specs.declared.acts.HeldCell.{HeldCell}
use Rattle.dbl_record.specs.declared.acts.HeldCell.TheVariants.{Known}
use Rattle.dbl_record.specs.Acts.{act_of, reading_of, cells_of}
use Rattle.dbl_record.specs.Consumers.{HeldCells, row_of, row_after_result}
use Rattle.dbl_model_table.specs.declared.identity.Identity.{Identity}
use Rattle.dbl_model_table.specs.declared.row.Key.{Key}
use Rattle.dbl_model_table.specs.declared.row.Row.{Row}
use Rattle.dbl_model_table.specs.declared.table.TableInfo.{TableInfo}
use Rattle.dbl_model_table.specs.declared.table.TableName.{TableName}
use Rattle.dbl_model_table.specs.declared.change.Cell.{Cell}
use Rattle.dbl_model_table.specs.declared.change.Change.{Change}
use Rattle.dbl_model_table.specs.declared.change.Change.TheVariants.{Insert, Update, Delete, Clear}
use Rattle.dbl_model_table.specs.declared.change.Commit.{Commit}
use Rattle.dbl_model_table.specs.Tables.{column_names}
use Rattle.dbl_model_table.specs.Infos.{topic_of}
use Rattle.dbl_model_table.specs.Keys.{key_of, new_key_of, same_key, given_or_null}
use Rattle.dbl_model_table.specs.Rows.{Effect, all_given, updated, at_key, at_keys, effect_of, overlay, row_after, Rows, table_of}
use Rattle.dbl_model_table.specs.Rows.Effect.{Stays, Whole, Part, Ends}
use Rattle.dbl_model_history.specs.Fit.{IsKeyOf, IsFitInsert, IsFitUpdate, IsFitDelete, IsFit}
use Rattle.dbl_model_history.specs.Image.{members_of, key_text}
use Rattle.dbl_model_history.specs.Laws.{AreDistinctTables}
use Rattle.dbl_model_history.specs.Ranges.{IsChangeInRange, IsCommitInRange, IsMomentInRange}
use Rattle.dbl_model_event.specs.Events.{Created, Updated, Deleted, Tombstone, Truncated, Notice, notice, move_notices, change_notices, notices}
use Rattle.dbl_model_event.specs.EventJson.{sent}
use Rattle.dbl_model_table.proofs.KeyLemmas.{same_key-is, same_key-itself}
use Rattle.dbl_model_history.proofs.RowKeys.{is_some_value}
use Rattle.dbl_model_history.proofs.RowLemmas.{effect_of-other_table}
use Rattle.dbl_consume_laws.specs.Cells.{Op, Stay, Give, End, cell_after}
use Rattle.dbl_consume_laws.proofs.AgeingCells.{source_after, IsSound}
use Rattle.dbl_consume_laws.proofs.Notices.{key_fits, cells_in_range, given_fit, old_fits}
use Rattle.dbl_consume_laws.proofs.Steps.{held_after, line_of_notice, after_created, after_updated, after_deleted, after_tombstone, after_truncated, insert_effect, update_effect, delete_effect, clear_effect}
use Rattle.dbl_consume_laws.proofs.Wholes.{AllFit, all_fit_in_range}
use Rattle.dbl_consume_courses.proofs.Alone.{topics_apart}
use Rattle.dbl_consume_courses.proofs.TickLemmas.{AreOf, of_change, topic_by}

-- what an effect does to whether there is a row
abbrev pub there_op : Effect → Op
there_op Stays = Stay
there_op (Whole row) = Give []
there_op (Part cells) = Give []
there_op Ends = End

-- a row as one cell
abbrev pub held_mark : Option HeldCells → Option HeldCell
held_mark held = option_map (λ cells. Known []) held

abbrev pub row_mark : Option (List Val) → Option (List ℕ)
row_mark row = option_map (λ cells. []) row

pub mark_sound : (e : Effect) (o : Option (List ℕ)) → IsSound (there_op e) ⊥ o
mark_sound Stays o = λ w. w
mark_sound (Whole row) o = tt
mark_sound (Part cells) o = tt
mark_sound Ends o = tt

-- ---- a line that sets a row or ends it, or leaves it

set_or_stay : (b : Bool) (f : Option HeldCells → Option HeldCells) (row : Option HeldCells → HeldCells) → ((held : Option HeldCells) → f held ≡ cond b (Some (row held)) held)
    → (held : Option HeldCells) → held_mark (f held) ≡ cell_after (cond b (Give []) Stay) (held_mark held)
set_or_stay true f row is held = ap held_mark (is held)
set_or_stay false f row is held = ap held_mark (is held)

end_or_stay : (b : Bool) (f : Option HeldCells → Option HeldCells) → ((held : Option HeldCells) → f held ≡ cond b None held)
    → (held : Option HeldCells) → held_mark (f held) ≡ cell_after (cond b End Stay) (held_mark held)
end_or_stay true f is held = ap held_mark (is held)
end_or_stay false f is held = ap held_mark (is held)

insert_op : (b : Bool) (r : List Val) → cond b (Give []) Stay ≡ there_op (at_key true b (Whole r))
insert_op true r = refl
insert_op false r = refl

insert_next : (b : Bool) (r : List Val) (row : Option (List Val)) → row_mark (row_after (at_key true b (Whole r)) row) ≡ source_after (there_op (at_key true b (Whole r))) (row_mark row)
insert_next true r row = refl
insert_next false r row = refl

update_op : (k : Bool) (g : Option (List Val)) (cells : List Cell) → cond k (Give []) Stay ≡ there_op (at_keys true k k (updated g cells))
update_op true (Some r) cells = refl
update_op true None cells = refl
update_op false g cells = refl

update_next : (k : Bool) (g : Option (List Val)) (cells : List Cell) (row : Option (List Val)) → (k ≡ true → (r : List Val) × (row ≡ Some r))
    → row_mark (row_after (at_keys true k k (updated g cells)) row) ≡ source_after (there_op (at_keys true k k (updated g cells))) (row_mark row)
update_next true (Some r) cells row there = refl
update_next true None cells row there = ap (λ (o : Option (List Val)). row_mark (option_map (overlay cells) o)) (there refl).1
update_next false g cells row there = refl

move_first : (t f : Bool) (r : List Val) → (t ≡ true → f ≡ true → ⊥) → (cond f End Stay ≡ Stay) ⊎ (cond f End Stay ≡ there_op (at_keys true t f (Whole r)))
move_first true true r apart = absurd (apart refl refl)
move_first true false r apart = inl refl
move_first false true r apart = inr refl
move_first false false r apart = inl refl

move_third : (t f : Bool) (r : List Val) → (cond t (Give []) Stay ≡ Stay) ⊎ (cond t (Give []) Stay ≡ there_op (at_keys true t f (Whole r)))
move_third true f r = inr refl
move_third false f r = inl refl

move_all : (t f : Bool) (r : List Val) (x : Option HeldCell) → cell_after (cond t (Give []) Stay) (cell_after (cond f End Stay) x) ≡ cell_after (there_op (at_keys true t f (Whole r))) x
move_all true f r x = refl
move_all false true r x = refl
move_all false false r x = refl

move_next : (t f : Bool) (r : List Val) (row : Option (List Val)) → row_mark (row_after (at_keys true t f (Whole r)) row) ≡ source_after (there_op (at_keys true t f (Whole r))) (row_mark row)
move_next true f r row = refl
move_next false true r row = refl
move_next false false r row = refl

delete_op : (f : Bool) → cond f End Stay ≡ there_op (at_key true f Ends)
delete_op true = refl
delete_op false = refl

delete_next : (f : Bool) (row : Option (List Val)) → row_mark (row_after (at_key true f Ends) row) ≡ source_after (there_op (at_key true f Ends)) (row_mark row)
delete_next true row = refl
delete_next false row = refl

-- ---- one captured table and key

module _ (identity : Identity) (infos : List TableInfo) (commit : Commit) (now : ℤ) (range : IsCommitInRange commit) (moment : IsMomentInRange now)
    (table : ℕ) (info : TableInfo) (captured : slice_get infos table ≡ Some info) (apart : AreDistinctTables infos) (key : Key) (is_key : IsKeyOf info key) where
  -- what is held at the key after the record of a notice
  abbrev pub after : Option HeldCells → Notice → Option HeldCells
  after held n = held_after identity.placeholder (topic_of identity info) (key_text info key) held (line_of_notice identity commit now n)

  -- a notice leaves whether there is a row, or does this operation
  abbrev pub IsNoticePart : Op → Notice → Type 0
  IsNoticePart op n = (part : Op) × ((held : Option HeldCells) → held_mark (after held n) ≡ cell_after part (held_mark held)) × ((part ≡ Stay) ⊎ (part ≡ op))

  -- the notices one by one, all of them, and the source's row
  abbrev pub DoesAs : Effect → List Notice → Option (List Val) → Type 0
  DoesAs e ns row = AllByRecursion (IsNoticePart (there_op e)) ns
      × ((held : Option HeldCells) → held_mark (fold after held ns) ≡ cell_after (there_op e) (held_mark held))
      × (row_mark (row_after e row) ≡ source_after (there_op e) (row_mark row))

  as_are : (c : Change) (row : Option (List Val)) (e : Effect) (ns : List Notice) → effect_of infos c table key ≡ e → notices infos c ≡ ns → DoesAs e ns row → DoesAs (effect_of infos c table key) (notices infos c) row
  as_are c row e ns effect_is notices_are does = subst (λ (x : Effect). DoesAs x (notices infos c) row) (sym effect_is) (subst (λ (l : List Notice). DoesAs e l row) (sym notices_are) does)

  own_notices : (c : Change) → table_of c ≡ table → notices infos c ≡ change_notices table info c
  own_notices c own =
      ap (λ (t : ℕ). unwrap_or (option_map (λ i. change_notices t i c) (slice_get infos t)) []) own ∙ ap (λ (o : Option TableInfo). unwrap_or (option_map (λ i. change_notices table i c) o) []) captured

  created_mark : (to : Key) (row : Row) (old : Option Key) → IsKeyOf info to → AllFit to.cells → AllFit row.cells → (held : Option HeldCells)
      → held_mark (after held (record (notice table info (Some to) (Created row)) { oldkey = old })) ≡ cell_after (cond (same_key to key) (Give []) Stay) (held_mark held)
  created_mark to row old of_to k r =
      set_or_stay (same_key to key) (λ held. after held (record (notice table info (Some to) (Created row)) { oldkey = old })) (λ held. row_of held (cells_of identity.placeholder (members_of (column_names info.columns) row.cells)))
      (λ held. after_created identity infos commit now range moment table info captured apart key is_key to row held of_to k r)

  deleted_mark : (from : Key) (old : Option Row) (new : Option Key) → IsKeyOf info from → AllFit from.cells → (all_old : (held : Option HeldCells) → after held (notice table info (Some from) (Deleted old)) ≡ cond (same_key from key) None held) → (held : Option HeldCells)
      → held_mark (after held (record (notice table info (Some from) (Deleted old)) { newkey = new })) ≡ cell_after (cond (same_key from key) End Stay) (held_mark held)
  deleted_mark from old new of_from k all_old = end_or_stay (same_key from key) (λ held. after held (record (notice table info (Some from) (Deleted old)) { newkey = new })) all_old

  tombstone_mark : (from : Key) → AllFit from.cells → (held : Option HeldCells) → held_mark (after held (notice table info (Some from) Tombstone)) ≡ cell_after Stay (held_mark held)
  tombstone_mark from k held = ap held_mark (after_tombstone identity infos commit now range moment table info captured apart key is_key from held k)

  -- ---- changes of the table

  insert_does : (at : Rows) (new : Row) → IsFit infos at (Insert table new) → IsChangeInRange (Insert table new) → DoesAs (effect_of infos (Insert table new) table key) (notices infos (Insert table new)) (at table key)
  insert_does at new fit low =
      let f : IsFitInsert info (at table) new = subst (λ (o : Option TableInfo). IsSomeAnd o (λ i. IsFitInsert i (at table) new)) captured fit in
      let fits : AllFit new.cells = all_fit_in_range new.cells low in
      let to : Key = key_of info new.cells in
      let b : Bool = same_key to key in
      let one : (held : Option HeldCells) → held_mark (after held (notice table info (Some to) (Created new))) ≡ cell_after (cond b (Give []) Stay) (held_mark held) =
      created_mark to new None f.key (key_fits info new.cells fits) fits in
      as_are (Insert table new) (at table key) (at_key true b (Whole new.cells)) (notice table info (Some to) (Created new) ∷ [])
      (insert_effect identity infos commit now range moment table info captured apart key is_key new) (own_notices (Insert table new) refl)
      (((cond b (Give []) Stay, one, inr (insert_op b new.cells)), tt), λ held. one held ∙ ap (λ (op : Op). cell_after op (held_mark held)) (insert_op b new.cells), insert_next b new.cells (at table key))

  update_does : (at : Rows) (from : Key) (old : Option Row) (cells : List Cell) → IsFit infos at (Update table from old cells) → IsChangeInRange (Update table from old cells)
      → DoesAs (effect_of infos (Update table from old cells) table key) (notices infos (Update table from old cells)) (at table key)
  update_does at from old cells fit low = by (same_key from (new_key_of info cells)) refl
    where
      f : IsFitUpdate info (at table) from old cells
      f = subst (λ (o : Option TableInfo). IsSomeAnd o (λ i. IsFitUpdate i (at table) from old cells)) captured fit

      key_fit : AllFit from.cells
      key_fit = all_fit_in_range from.cells low.key

      there : same_key from key ≡ true → (r : List Val) × (at table key ≡ Some r)
      there same =
          let found = is_some_value (at table from) f.present in
          (found.0, ap (at table) (sym (same_key-is from key same)) ∙ found.1)

      by : (b : Bool) → same_key from (new_key_of info cells) ≡ b → DoesAs (effect_of infos (Update table from old cells) table key) (notices infos (Update table from old cells)) (at table key)
      by true stays =
          let new_is : new_key_of info cells ≡ from = sym (same_key-is from (new_key_of info cells) stays) in
          let k : Bool = same_key from key in
          let one : (held : Option HeldCells) → held_mark (after held (notice table info (Some from) (Updated old cells))) ≡ cell_after (cond k (Give []) Stay) (held_mark held) =
          set_or_stay k (λ held. after held (notice table info (Some from) (Updated old cells))) (λ held. row_of held (cells_of identity.placeholder (members_of (column_names info.columns) (map (sent identity.placeholder) cells))))
          (λ held. after_updated identity infos commit now range moment table info captured apart key is_key from old cells held f.old_key key_fit (old_fits old low.old) (cells_in_range cells low.cells)) in
          as_are (Update table from old cells) (at table key) (at_keys true k k (updated (all_given cells) cells)) (notice table info (Some from) (Updated old cells) ∷ [])
          (update_effect identity infos commit now range moment table info captured apart key is_key from old cells ∙ ap (λ (n : Key). at_keys true (same_key n key) k (updated (all_given cells) cells)) new_is)
          (own_notices (Update table from old cells) refl
          ∙ ap (λ (t : Bool). if t then notice table info (Some from) (Updated old cells) ∷ [] else move_notices table info from (new_key_of info cells) old (record { cells = map given_or_null cells })) stays)
          (((cond k (Give []) Stay, one, inr (update_op k (all_given cells) cells)), tt), λ held. one held ∙ ap (λ (op : Op). cell_after op (held_mark held)) (update_op k (all_given cells) cells), update_next k (all_given cells) cells (at table key) there)
      by false moves =
          let to : Key = new_key_of info cells in
          let new : Row = record { cells = map given_or_null cells } in
          let new_low : AllFit new.cells = given_fit cells (cells_in_range cells low.cells) in
          let whole : (r : List Val) × (all_given cells ≡ Some r) = elim f.stays_or_moves [ inl stays ↦ absurd (contradiction from to stays moves) | inr changed ↦ is_some_value (all_given cells) changed.1 ] in
          let d : Bool = same_key from key in
          let t : Bool = same_key to key in
          let gone : (held : Option HeldCells) → held_mark (after held (record (notice table info (Some from) (Deleted old)) { newkey = Some to })) ≡ cell_after (cond d End Stay) (held_mark held) =
          deleted_mark from old (Some to) f.old_key key_fit (λ held. after_deleted identity infos commit now range moment table info captured apart key is_key from old held f.old_key key_fit (old_fits old low.old)) in
          let made : (held : Option HeldCells) → held_mark (after held (record (notice table info (Some to) (Created new)) { oldkey = Some from })) ≡ cell_after (cond t (Give []) Stay) (held_mark held) =
          created_mark to new (Some from) f.new_key (key_fits info new.cells new_low) new_low in
          let differ : t ≡ true → d ≡ true → ⊥ = (λ is_to is_from. contradiction from to (same_key-is from key is_from ∙ sym (same_key-is to key is_to)) moves) in
          as_are (Update table from old cells) (at table key) (at_keys true t d (Whole whole.0)) (move_notices table info from to old new)
          (update_effect identity infos commit now range moment table info captured apart key is_key from old cells ∙ ap (λ (g : Option (List Val)). at_keys true t d (updated g cells)) whole.1)
          (own_notices (Update table from old cells) refl
          ∙ ap (λ (x : Bool). if x then notice table info (Some from) (Updated old cells) ∷ [] else move_notices table info from to old new) moves) (
            ((cond d End Stay, gone, move_first t d whole.0 differ), ((Stay, tombstone_mark from key_fit, inl refl), ((cond t (Give []) Stay, made, move_third t d whole.0), tt))),
            λ held. made _ ∙ (ap (cell_after (cond t (Give []) Stay)) (tombstone_mark from key_fit _ ∙ gone held) ∙ move_all t d whole.0 (held_mark held)),
            move_next t d whole.0 (at table key),
          )
        where
          contradiction : (a b : Key) → a ≡ b → same_key a b ≡ false → ⊥
          contradiction a b same other =
              let itself : same_key a b ≡ true = ap (same_key a) (sym same) ∙ same_key-itself a in
              let no : true ≡ false = sym itself ∙ other in
              cc

  delete_does : (at : Rows) (from : Key) (old : Row) → IsFit infos at (Delete table from old) → IsChangeInRange (Delete table from old)
      → DoesAs (effect_of infos (Delete table from old) table key) (notices infos (Delete table from old)) (at table key)
  delete_does at from old fit low =
      let f : IsFitDelete info (at table) from old = subst (λ (o : Option TableInfo). IsSomeAnd o (λ i. IsFitDelete i (at table) from old)) captured fit in
      let key_fit : AllFit from.cells = all_fit_in_range from.cells low.0 in
      let d : Bool = same_key from key in
      let gone : (held : Option HeldCells) → held_mark (after held (notice table info (Some from) (Deleted (Some old)))) ≡ cell_after (cond d End Stay) (held_mark held) =
      deleted_mark from (Some old) None f.old_key key_fit (λ held. after_deleted identity infos commit now range moment table info captured apart key is_key from (Some old) held f.old_key key_fit (all_fit_in_range old.cells low.1)) in
      as_are (Delete table from old) (at table key) (at_key true d Ends) (notice table info (Some from) (Deleted (Some old)) ∷ notice table info (Some from) Tombstone ∷ [])
      (delete_effect identity infos commit now range moment table info captured apart key is_key from old) (own_notices (Delete table from old) refl) (
        ((cond d End Stay, gone, inr (delete_op d)), ((Stay, tombstone_mark from key_fit, inl refl), tt)),
        λ held. tombstone_mark from key_fit _ ∙ (gone held ∙ ap (λ (op : Op). cell_after op (held_mark held)) (delete_op d)),
        delete_next d (at table key),
      )

  clear_does : (at : Rows) → DoesAs (effect_of infos (Clear table) table key) (notices infos (Clear table)) (at table key)
  clear_does at =
      let wiped : (held : Option HeldCells) → held_mark (after held (notice table info None Truncated)) ≡ cell_after End (held_mark held) =
      (λ held. ap held_mark (after_truncated identity infos commit now range moment table info captured apart key is_key held)) in
      as_are (Clear table) (at table key) Ends (notice table info None Truncated ∷ [])
      (clear_effect identity infos commit now range moment table info captured apart key is_key) (own_notices (Clear table) refl)
      (((End, wiped, inr refl), tt), wiped, refl)

  -- ---- changes of other tables

  passed : (n : Notice) → bytes_eq (topic_of identity n.info) (topic_of identity info) ≡ false → (held : Option HeldCells) → after held n ≡ held
  passed n other held =
      ap (λ (b : Bool). if b then row_after_result (act_of identity.placeholder (reading_of (line_of_notice identity commit now n))) (key_text info key) held else held) other

  abbrev AreElsewhere : List Notice → Type 0
  AreElsewhere ns = AllByRecursion (λ n. bytes_eq (topic_of identity n.info) (topic_of identity info) ≡ false) ns

  all_passed : (ns : List Notice) → AreElsewhere ns → (held : Option HeldCells) → fold after held ns ≡ held
  all_passed [] other held = refl
  all_passed (n ∷ ns) other held = ap (λ (h : Option HeldCells). fold after h ns) (passed n other.0 held) ∙ all_passed ns other.1 held

  each_passed : (ns : List Notice) → AreElsewhere ns → AllByRecursion (IsNoticePart Stay) ns
  each_passed [] other = tt
  each_passed (n ∷ ns) other = ((Stay, λ held. ap held_mark (passed n other.0 held), inl refl), each_passed ns other.1)

  by_names : (name : TableName) (x : TableInfo) (ns : List Notice) → x.name ≡ name → bytes_eq (topic_of identity x) (topic_of identity info) ≡ false → AreOf name ns → AreElsewhere ns
  by_names name x [] is differs are = tt
  by_names name x (n ∷ ns) is differs are = (
    subst (λ (t : List ℕ). bytes_eq t (topic_of identity info) ≡ false) (topic_by identity x n.info (is ∙ sym are.0)) differs,
    by_names name x ns is differs are.1,
  )

  elsewhere_notices : (c : Change) → table_of c ≢ table → AreElsewhere (notices infos c)
  elsewhere_notices c other = by (slice_get infos (table_of c)) refl
    where
      by : (o : Option TableInfo) → slice_get infos (table_of c) ≡ o → AreElsewhere (notices infos c)
      by None at = subst AreElsewhere (sym (ap (λ (o : Option TableInfo). unwrap_or (option_map (λ i. change_notices (table_of c) i c) o) []) at)) tt
      by (Some x) at =
          subst AreElsewhere (sym (ap (λ (o : Option TableInfo). unwrap_or (option_map (λ i. change_notices (table_of c) i c) o) []) at))
          (by_names x.name x (change_notices (table_of c) x c) refl (topics_apart identity infos (table_of c) table x info apart at captured other) (of_change x (table_of c) c))

  other_does : (c : Change) (row : Option (List Val)) → table_of c ≢ table → DoesAs (effect_of infos c table key) (notices infos c) row
  other_does c row other =
      let elsewhere : AreElsewhere (notices infos c) = elsewhere_notices c other in
      subst (λ (e : Effect). DoesAs e (notices infos c) row) (sym (effect_of-other_table infos c table key other))
      (each_passed (notices infos c) elsewhere, λ held. ap held_mark (all_passed (notices infos c) elsewhere held), refl)

  -- ---- any change

  pub does : (c : Change) (at : Rows) → IsFit infos at c → IsChangeInRange c → DoesAs (effect_of infos c table key) (notices infos c) (at table key)
  does (Insert t new) at fit low = elim (cases_eq t table) [
    | inl own ↦ subst (λ (u : ℕ). DoesAs (effect_of infos (Insert u new) table key) (notices infos (Insert u new)) (at table key)) (sym own) (insert_does at new (subst (λ (u : ℕ). IsFit infos at (Insert u new)) own fit) low)
    | inr other ↦ other_does (Insert t new) (at table key) other
  ]
  does (Update t from old cells) at fit low = elim (cases_eq t table) [
    | inl own ↦ subst (λ (u : ℕ). DoesAs (effect_of infos (Update u from old cells) table key) (notices infos (Update u from old cells)) (at table key)) (sym own)
        (update_does at from old cells (subst (λ (u : ℕ). IsFit infos at (Update u from old cells)) own fit) low)
    | inr other ↦ other_does (Update t from old cells) (at table key) other
  ]
  does (Delete t from old) at fit low = elim (cases_eq t table) [
    | inl own ↦ subst (λ (u : ℕ). DoesAs (effect_of infos (Delete u from old) table key) (notices infos (Delete u from old)) (at table key)) (sym own) (delete_does at from old (subst (λ (u : ℕ). IsFit infos at (Delete u from old)) own fit) low)
    | inr other ↦ other_does (Delete t from old) (at table key) other
  ]
  does (Clear t) at fit low = elim (cases_eq t table) [
    | inl own ↦ subst (λ (u : ℕ). DoesAs (effect_of infos (Clear u) table key) (notices infos (Clear u)) (at table key)) (sym own) (clear_does at)
    | inr other ↦ other_does (Clear t) (at table key) other
  ]
