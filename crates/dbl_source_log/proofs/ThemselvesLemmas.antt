-- A change message without a fault states the changes that the history has for it.
use Rattle.std.proofs.Common.{◌≡◌, ◌∙◌, ◌+◌, ◌-◌, ℕ, zero, suc, Bool, true, false, cond, Option, Some, None, List, [], ◌∷◌, map, refl, sym, ap, subst, arith}
use Rattle.std.specs.Prelude.{◌&&◌, ◌||◌, not, nat_lt, IsSomeAnd, if◌then◌else◌, option_map, unwrap_or, filter_map, find, slice_get, Result, Ok}
use Rattle.std.specs.List.{AllByRecursion, cons_option, list_any, position_from}
use Rattle.dbl_pgmsg.specs.declared.messages.Message.{Message}
use Rattle.dbl_pgmsg.specs.declared.messages.Message.TheVariants as says
use Rattle.dbl_pgmsg.specs.declared.messages.OldTuple.{OldTuple}
use Rattle.dbl_pgmsg.specs.declared.messages.OldTuple.TheVariants as old
use Rattle.dbl_pgmsg.specs.declared.messages.Tuple.{Tuple}
use Rattle.dbl_model_table.specs.declared.table.TableName.{TableName}
use Rattle.dbl_model_table.specs.declared.table.Column.{Column}
use Rattle.dbl_model_table.specs.declared.table.RawRow.{RawRow}
use Rattle.dbl_model_table.specs.declared.table.RawTable.{RawTable}
use Rattle.dbl_model_table.specs.declared.table.TableInfo.{TableInfo}
use Rattle.dbl_model_table.specs.Value.declared.column_type.PgType.{PgType}
use Rattle.dbl_model_table.specs.Value.declared.column_type.PgType.TheVariants as type
use Rattle.dbl_model_table.specs.Value.declared.value.Val.{Val}
use Rattle.dbl_model_table.specs.Value.declared.value.Val.TheVariants as val
use Rattle.dbl_model_table.specs.declared.row.Key.{Key}
use Rattle.dbl_model_table.specs.declared.row.Row.{Row}
use Rattle.dbl_model_table.specs.declared.change.Cell.{Cell}
use Rattle.dbl_model_table.specs.declared.change.Change.{Change}
use Rattle.dbl_model_table.specs.declared.change.Change.TheVariants as change
use Rattle.dbl_model_table.specs.Tables.{is_watermark, same_name, are_distinct, type_at}
use Rattle.dbl_model_table.specs.Infos.{IsInfoOf, columns_of, key_places, number_of}
use Rattle.dbl_model_table.specs.Keys.{same_key, cell_or_null, given_or_null, key_of, new_key_of}
use Rattle.dbl_model_table.proofs.Lists.{and_left, and_right, same_text, text_itself, position_from-at}
use Rattle.dbl_model_table.proofs.InfoLemmas.{not_true}
use Rattle.dbl_source_model.specs.ModelHistory.History.{History, RawCell, RawChange, RawKey, entry_of}
use Rattle.dbl_source_model.specs.ModelHistory.History as raw
use Rattle.dbl_source_model.specs.ModelHistory.History.RawCell.{Given, Unchanged}
use Rattle.dbl_source_model.specs.ModelHistory.Typed.{types_of, typed_cell, typed_cells, typed_update, typed_row, typed_key, typed_change}
use Rattle.dbl_source_model.specs.ModelHistory.Fit.{AreInfosOf}
use Rattle.dbl_source_model.specs.ModelCommit.declared.message_parts.Relation.{Relation}
use Rattle.dbl_source_model.specs.ModelCommit.declared.message_parts.RowChange.{RowChange}
use Rattle.dbl_source_model.specs.ModelCommit.declared.message_parts.RowChange.TheVariants as row
use Rattle.dbl_source_model.specs.ModelCommit.declared.message_parts.Target.{Target}
use Rattle.dbl_source_model.specs.ModelCommit.declared.message_parts.Target.TheVariants.{Watermark}
use Rattle.dbl_source_model.specs.ModelCommit.declared.txn_error.TxnError.{TxnError}
use Rattle.dbl_source_model.specs.ModelCommit.declared.txn_error.TxnError.TheVariants as errors
use Rattle.dbl_source_model.specs.ModelCommit.Past.{relation_of}
use Rattle.dbl_source_model.specs.ModelCommit.Tuples.{◌>>=◌, refuse_if, some_or, is_full, is_whole, is_unsent, unsent_fault, key_in_identity, row_of, old_row, old_row_if_sent, new_cells, key_before, all_sent_if_moved, change_of}
use Rattle.dbl_source_model.specs.ModelCommit.Stated.{captured_at, target, list_of, in_table, row_stated, targets_at, is_the_watermark, has_some, clears, truncate_stated, truncated_tables, stated_row, stated_in}
use Rattle.dbl_source_log.specs.declared.logged.LogTable.{LogTable}
use Rattle.dbl_source_log.specs.Relations.{first_oid, table_at, catalogue}
use Rattle.dbl_source_log.specs.Sent.{oids_of}
use Rattle.dbl_source_log.specs.Texts.{Texts, raw_key, key_from, key_in, sent_text, old_row_in, new_texts, given_text, settled}
use Rattle.dbl_source_log.specs.TextRows.{TextRows}
use Rattle.dbl_source_log.specs.RawChanges.{insert_of, settled_if_moved, update_of, delete_of, raw_changes}
use Rattle.dbl_source_log.specs.RawChanges.{raw_key_before as texts_before}
use Rattle.dbl_source_log.specs.Histories.{history_of}
use Rattle.dbl_source_log.specs.Fair.{AreNamed, IsChangeOf}
use Rattle.dbl_source_log.specs.Laws.{AreDescribed, ChangesStateThemselves}
use Rattle.dbl_source_log.proofs.RelationLemmas.{table_relation, KnownAt, known_at, IsKnown, all_at, relation_name, plain_name}
use Rattle.dbl_source_log.proofs.CellTexts.{bound, types_in, whole_texts, row_typed, key_typed, types_named, WasTyped, new_cells_typed}

-- ---- the table of a Relation, among what is captured

pub name_same : (a b : TableName) → same_name a b ≡ true → a ≡ b
name_same a b is =
    ap (λ (s : List ℕ). let n : TableName = record { schema = s; name = a.name } in n) (same_text a.schema b.schema (and_left _ _ is))
    ∙ ap (λ (s : List ℕ). let n : TableName = record { schema = b.schema; name = s } in n) (same_text a.name b.name (and_right _ _ is))

pub name_itself : (a : TableName) → same_name a a ≡ true
name_itself a = rw (text_itself a.schema, text_itself a.name) refl

apart_from : (u : LogTable) (us : List LogTable) (j : ℕ) (t : LogTable) → list_any (same_name u.raw.name) (map (λ (x : LogTable). x.raw.name) us) ≡ false → slice_get us j ≡ Some t → same_name u.raw.name t.raw.name ≡ false
apart_from u [] j t none is = cc
apart_from u (x ∷ us) zero t none is = by (same_name u.raw.name x.raw.name) none (let e : x ≡ t = cc in ap (λ (y : LogTable). same_name u.raw.name y.raw.name) e)
  where
    by : (b : Bool) → (b || list_any (same_name u.raw.name) (map (λ (y : LogTable). y.raw.name) us)) ≡ false → b ≡ same_name u.raw.name t.raw.name → same_name u.raw.name t.raw.name ≡ false
    by true never same = cc
    by false none same = sym same
apart_from u (x ∷ us) (suc j) t none is = apart_from u us j t (by (same_name u.raw.name x.raw.name) none) is
  where
    by : (b : Bool) → (b || list_any (same_name u.raw.name) (map (λ (y : LogTable). y.raw.name) us)) ≡ false → list_any (same_name u.raw.name) (map (λ (y : LogTable). y.raw.name) us) ≡ false
    by true never = cc
    by false none = none

-- the catalogue has one entry of a table's name: the table's
one_entry : (us : List LogTable) (j : ℕ) (t : LogTable) → are_distinct same_name (map (λ (x : LogTable). x.raw.name) us) ≡ true → slice_get us j ≡ Some t → is_watermark t.raw.name ≡ false
    → find (λ raw. same_name raw.name t.raw.name) (catalogue us) ≡ Some t.raw
one_entry [] j t apart is plain = cc
one_entry (u ∷ us) zero t apart is plain =
    let e : u ≡ t = cc in
    let kept : is_watermark u.raw.name ≡ false = ap (λ (x : LogTable). is_watermark x.raw.name) e ∙ plain in
    let found : same_name u.raw.name t.raw.name ≡ true = ap (λ (x : LogTable). same_name u.raw.name x.raw.name) (sym e) ∙ name_itself u.raw.name in
    ap (λ (b : Bool). find (λ raw. same_name raw.name t.raw.name) (cond (not b) (u.raw ∷ catalogue us) (catalogue us))) kept
    ∙ ap (λ (b : Bool). cond b (Some u.raw) (find (λ raw. same_name raw.name t.raw.name) (catalogue us))) found
    ∙ ap (λ (x : LogTable). Some x.raw) e
one_entry (u ∷ us) (suc j) t apart is plain =
    let other : same_name u.raw.name t.raw.name ≡ false = apart_from u us j t (not_true _ (and_left _ _ apart)) is in
    let rest = one_entry us j t (and_right (not (list_any (same_name u.raw.name) (map (λ (x : LogTable). x.raw.name) us))) _ apart) is plain in
    by (is_watermark u.raw.name) other rest
  where
    by : (b : Bool) → same_name u.raw.name t.raw.name ≡ false → find (λ raw. same_name raw.name t.raw.name) (catalogue us) ≡ Some t.raw
        → find (λ raw. same_name raw.name t.raw.name) (cond (not b) (u.raw ∷ catalogue us) (catalogue us)) ≡ Some t.raw
    by true other rest = rest
    by false other rest = ap (λ (b : Bool). cond b (Some u.raw) (find (λ raw. same_name raw.name t.raw.name) (catalogue us))) other ∙ rest

-- what is captured of a table with this OID
pub record CapturedAt (infos : List TableInfo) (raw : RawTable) (i : ℕ) : Type 0 where
  pub info : TableInfo
  pub at : slice_get infos i ≡ Some info
  pub is_info : IsInfoOf raw info

at_table : (tables : List LogTable) (oid : ℕ) (t : LogTable) (b : Bool) → (if b then None else slice_get tables (oid - first_oid)) ≡ Some t → slice_get tables (oid - first_oid) ≡ Some t
at_table tables oid t true is = cc
at_table tables oid t false is = is

module _ (tables : List LogTable) (infos : List TableInfo) (named_so : AreNamed tables) (captured : AreInfosOf (history_of tables []) infos) where
  captured_at_number : (oid : ℕ) (k : KnownAt tables oid) (i : ℕ) → number_of infos k.table.raw.name ≡ Some i → CapturedAt infos k.table.raw i
  captured_at_number oid k i is =
      let found = position_from-at (λ (info : TableInfo). same_name info.name k.table.raw.name) 0 infos i is in
      let place : i ≡ found.0 = omega (arith, found.1) in
      let info : TableInfo = found.2.0 in
      let named_it : info.name ≡ k.table.raw.name = name_same info.name k.table.raw.name found.2.2 in
      let entry : entry_of (history_of tables []) info.name ≡ Some k.table.raw =
      ap (entry_of (history_of tables [])) named_it ∙ one_entry tables (oid - first_oid) k.table named_so.distinct (at_table tables oid k.table (nat_lt oid first_oid) k.there) k.plain in
      let each : IsSomeAnd (entry_of (history_of tables []) info.name) (λ raw. IsInfoOf raw info) = all_at (λ (x : TableInfo). IsSomeAnd (entry_of (history_of tables []) x.name) (λ raw. IsInfoOf raw x)) infos found.0 info captured.each found.2.1 in
      record { info = info; at = ap (slice_get infos) place ∙ found.2.1; is_info = subst (λ (o : Option RawTable). IsSomeAnd o (λ raw. IsInfoOf raw info)) entry each }

  -- ---- the columns by the table's number

  columns_at : (i : ℕ) (info : TableInfo) → slice_get infos i ≡ Some info → columns_of infos i ≡ info.columns
  columns_at i info at = ap (λ (o : Option TableInfo). unwrap_or (option_map (λ (x : TableInfo). x.columns) o) []) at

  places_at : (i : ℕ) (info : TableInfo) → slice_get infos i ≡ Some info → key_places infos i ≡ info.key
  places_at i info at = ap (λ (o : Option TableInfo). unwrap_or (option_map (λ (x : TableInfo). x.key) o) []) at

  -- a row, and a key, by the table's number
  row_by_number : (i : ℕ) (info : TableInfo) (texts : Texts) (values : List Val) → slice_get infos i ≡ Some info → typed_cells (types_in info.columns) texts ≡ values → typed_row infos i (record { cells = texts }) ≡ (let r : Row = record { cells = values } in r)
  row_by_number i info texts values at is = ap (λ (cs : List Val). let r : Row = record { cells = cs } in r) (ap (λ (columns : List Column). typed_cells (types_in columns) texts) (columns_at i info at) ∙ is)

  key_by_number : (t : LogTable) (i : ℕ) (info : TableInfo) (texts : Texts) (values : List Val) → slice_get infos i ≡ Some info → IsInfoOf t.raw info → typed_cells (types_in info.columns) texts ≡ values
      → typed_key infos i (raw_key t.raw texts) ≡ key_of info values
  key_by_number t i info texts values at is_info is =
      ap (λ (cs : List Val). let k : Key = record { cells = cs } in k)
      (ap (λ (columns : List Column). typed_cells (map (type_at columns) (key_places infos i)) (raw_key t.raw texts)) (columns_at i info at)
      ∙ ap (λ (places : List ℕ). typed_cells (map (type_at info.columns) places) (raw_key t.raw texts)) (places_at i info at)
      ∙ key_typed t info is_info texts
      ∙ ap (λ (vs : List Val). map (cell_or_null vs) info.key) is)

  -- ---- one kind after the other

  inserted : (t : LogTable) (tuple : Tuple) (i : ℕ) (info : TableInfo) (c : Change) → slice_get infos i ≡ Some info → IsInfoOf t.raw info → number_of infos t.raw.name ≡ Some i
      → change_of i info (table_relation t) (row.Insert tuple) ≡ Ok c → typed_change infos (insert_of t tuple) ≡ Some c
  unfolding change_of
  inserted t tuple i info c at is_info number is =
      let a = bound (row_of info (table_relation t) true tuple.cells) (λ new. Ok (change.Insert i new)) c is in
      let e : change.Insert i a.item ≡ c = (let h = a.rest in cc) in
      let cells : typed_cells (types_in info.columns) (map sent_text tuple.cells) ≡ a.item.cells =
      ap (typed_cells (types_in info.columns)) (sym (whole_texts t t.raw.columns tuple.cells)) ∙ row_typed t info is_info true tuple.cells a.item a.first in
      ap (option_map (λ (table : ℕ). change.Insert table (typed_row infos table (record { cells = map sent_text tuple.cells })))) number
      ∙ ap (λ (r : Row). Some (change.Insert i r)) (row_by_number i info (map sent_text tuple.cells) a.item.cells at cells)
      ∙ ap (λ (x : Change). Some x) e

  old_typed : (t : LogTable) (before : OldTuple) (info : TableInfo) (r : Row) → IsInfoOf t.raw info → old_row info (table_relation t) before ≡ Ok r → typed_cells (types_in info.columns) (old_row_in t before).cells ≡ r.cells
  old_typed t (old.Key tuple) info r is_info is = row_typed t info is_info false tuple.cells r is
  old_typed t (old.Whole tuple) info r is_info is = row_typed t info is_info true tuple.cells r is

  deleted : (t : LogTable) (before : OldTuple) (i : ℕ) (info : TableInfo) (c : Change) → slice_get infos i ≡ Some info → IsInfoOf t.raw info → number_of infos t.raw.name ≡ Some i
      → change_of i info (table_relation t) (row.Delete before) ≡ Ok c → typed_change infos (delete_of t before) ≡ Some c
  unfolding change_of
  deleted t before i info c at is_info number is =
      let a = bound (refuse_if (not (key_in_identity info (table_relation t))) (errors.KeyNotInIdentity info.name)) (λ u. old_row info (table_relation t) before >>= λ was. Ok (change.Delete i (key_of info was.cells) was)) c is in
      let b = bound (old_row info (table_relation t) before) (λ was. Ok (change.Delete i (key_of info was.cells) was)) c a.rest in
      let e : change.Delete i (key_of info b.item.cells) b.item ≡ c = (let h = b.rest in cc) in
      let texts : Texts = (old_row_in t before).cells in
      let cells = old_typed t before info b.item is_info b.first in
      ap (option_map (λ (table : ℕ). change.Delete table (typed_key infos table (raw_key t.raw texts)) (typed_row infos table (old_row_in t before)))) number
      ∙ ap (λ (k : Key). Some (change.Delete i k (typed_row infos i (old_row_in t before)))) (key_by_number t i info texts b.item.cells at is_info cells)
      ∙ ap (λ (r : Row). Some (change.Delete i (key_of info b.item.cells) r)) (row_by_number i info texts b.item.cells at cells)
      ∙ ap (λ (x : Change). Some x) e

  -- ---- an update

  was_typed : (t : LogTable) (info : TableInfo) (is_info : IsInfoOf t.raw info) (before : Option OldTuple) (was : Option Row) → old_row_if_sent info (table_relation t) before ≡ Ok was → WasTyped t info is_info (option_map (old_row_in t) before) was
  was_typed t info is_info None was is = let e : None ≡ was = cc in subst (WasTyped t info is_info None) e tt
  was_typed t info is_info (Some before) was is =
      let a = bound (old_row info (table_relation t) before) (λ r. Ok (Some r)) was is in
      let e : Some a.item ≡ was = (let h = a.rest in cc) in
      subst (WasTyped t info is_info (Some (old_row_in t before))) e (old_typed t before info a.item is_info a.first)

  -- an unsent cell is read as null, also as a text
  givens_typed : (types : List PgType) (cells : List RawCell) → typed_cells types (map given_text cells) ≡ map given_or_null (typed_update types cells)
  givens_typed types [] = refl
  givens_typed [] (Given text ∷ cells) = ap (λ (vs : List Val). typed_cell type.Text text ∷ vs) (givens_typed [] cells)
  givens_typed [] (Unchanged ∷ cells) = ap (λ (vs : List Val). val.Null ∷ vs) (givens_typed [] cells)
  givens_typed (ty ∷ types) (Given text ∷ cells) = ap (λ (vs : List Val). typed_cell ty text ∷ vs) (givens_typed types cells)
  givens_typed (ty ∷ types) (Unchanged ∷ cells) = ap (λ (vs : List Val). val.Null ∷ vs) (givens_typed types cells)

  -- where no cell is unsent, none gets the old row's
  none_settled : (types : List PgType) (i : ℕ) (cells : List RawCell) (row : Texts) → position_from is_unsent i (typed_update types cells) ≡ None → settled cells row ≡ cells
  none_settled types i [] row none = refl
  none_settled [] i (Unchanged ∷ cells) row none = cc
  none_settled (ty ∷ types) i (Unchanged ∷ cells) row none = cc
  none_settled [] i (Given text ∷ cells) [] none = ap (λ (cs : List RawCell). Given text ∷ cs) (none_settled [] (i + 1) cells [] none)
  none_settled [] i (Given text ∷ cells) (x ∷ row) none = ap (λ (cs : List RawCell). Given text ∷ cs) (none_settled [] (i + 1) cells row none)
  none_settled (ty ∷ types) i (Given text ∷ cells) [] none = ap (λ (cs : List RawCell). Given text ∷ cs) (none_settled types (i + 1) cells [] none)
  none_settled (ty ∷ types) i (Given text ∷ cells) (x ∷ row) none = ap (λ (cs : List RawCell). Given text ∷ cs) (none_settled types (i + 1) cells row none)

  none_at : (table : TableName) (columns : List Column) (o : Option ℕ) (u : Unit {0}) → unsent_fault table columns o ≡ Ok u → o ≡ None
  none_at table columns None u is = refl
  none_at table columns (Some place) u is = cc

  -- the cells stay, unless the key moves; and where it moves, all are sent
  settles_none : (types : List PgType) (info : TableInfo) (key : Key) (out : List Cell) (moved : Bool) (row : Option Texts) (cells : List RawCell) (u : Unit {0}) → moved ≡ not (same_key key (new_key_of info out)) → typed_update types cells ≡ out
      → all_sent_if_moved info key out ≡ Ok u → settled_if_moved moved row cells ≡ cells
  unfolding all_sent_if_moved
  settles_none types info key out moved None cells u is typed sent = refl
  settles_none types info key out moved (Some row) cells u is typed sent = by (same_key key (new_key_of info out)) is sent
    where
      by : (b : Bool) → moved ≡ not b → (if b then Ok tt else unsent_fault info.name info.columns (position_from is_unsent 0 out)) ≡ Ok u → (if moved then settled cells row else cells) ≡ cells
      by true stays told = ap (λ (m : Bool). if m then settled cells row else cells) stays
      by false moves told =
          let none : position_from is_unsent 0 (typed_update types cells) ≡ None = ap (position_from is_unsent 0) typed ∙ none_at info.name info.columns (position_from is_unsent 0 out) u told in
          ap (λ (m : Bool). if m then settled cells row else cells) moves ∙ none_settled types 0 cells row none

  -- the key before, as texts and as values
  key_before_typed : (t : LogTable) (i : ℕ) (info : TableInfo) (is_info : IsInfoOf t.raw info) (before : Option RawRow) (was : Option Row) (cells : List RawCell) (out : List Cell) → slice_get infos i ≡ Some info → WasTyped t info is_info before was
      → typed_update (types_in info.columns) cells ≡ out → typed_key infos i (texts_before t.raw before cells) ≡ key_before info was out
  unfolding key_before
  key_before_typed t i info is_info None None cells out at typed is = key_by_number t i info (map given_text cells) (map given_or_null out) at is_info (givens_typed (types_in info.columns) cells ∙ ap (map given_or_null) is)
  key_before_typed t i info is_info None (Some r) cells out at typed is = absurd typed
  key_before_typed t i info is_info (Some row) None cells out at typed is = absurd typed
  key_before_typed t i info is_info (Some row) (Some r) cells out at typed is = key_by_number t i info row.cells r.cells at is_info typed

  -- a key's texts are read by the same types, whether or not the table is captured
  same_types : (t : LogTable) (i : ℕ) (info : TableInfo) (texts : RawKey) → slice_get infos i ≡ Some info → IsInfoOf t.raw info → key_from t.raw texts ≡ typed_key infos i texts
  same_types t i info texts at is_info =
      ap (λ (types : List PgType). let k : Key = record { cells = typed_cells types texts } in k)
      (types_named t info is_info
      ∙ ap (λ (places : List ℕ). map (type_at info.columns) places) (sym (places_at i info at))
      ∙ ap (λ (columns : List Column). map (type_at columns) (key_places infos i)) (sym (columns_at i info at)))

  old_by_number : (t : LogTable) (i : ℕ) (info : TableInfo) (is_info : IsInfoOf t.raw info) (before : Option RawRow) (was : Option Row) → slice_get infos i ≡ Some info → WasTyped t info is_info before was → option_map (typed_row infos i) before ≡ was
  old_by_number t i info is_info None None at typed = refl
  old_by_number t i info is_info None (Some r) at typed = absurd typed
  old_by_number t i info is_info (Some row) None at typed = absurd typed
  old_by_number t i info is_info (Some row) (Some r) at typed = ap (λ (x : Row). Some x) (row_by_number i info row.cells r.cells at typed)

  abbrev updates_4 : ℕ → TableInfo → Option Row → List Cell → Result Change TxnError
  updates_4 i info was cells = all_sent_if_moved info (key_before info was cells) cells >>= λ u. Ok (change.Update i (key_before info was cells) was cells)

  abbrev updates_3 : ℕ → TableInfo → Relation → Option OldTuple → Tuple → Option Row → Result Change TxnError
  updates_3 i info relation before tuple was = new_cells info relation (is_whole before) was tuple.cells >>= updates_4 i info was

  abbrev updates_2 : ℕ → TableInfo → Relation → Option OldTuple → Tuple → Result Change TxnError
  updates_2 i info relation before tuple = old_row_if_sent info relation before >>= updates_3 i info relation before tuple

  updated : (t : LogTable) (rows : TextRows) (before : Option OldTuple) (tuple : Tuple) (i : ℕ) (info : TableInfo) (c : Change) → slice_get infos i ≡ Some info → IsInfoOf t.raw info → number_of infos t.raw.name ≡ Some i
      → change_of i info (table_relation t) (row.Update before tuple) ≡ Ok c → typed_change infos (update_of t rows before tuple) ≡ Some c
  unfolding change_of
  updated t rows before tuple i info c at is_info number is =
      let r : Relation = table_relation t in
      let a = bound (refuse_if (not (key_in_identity info r)) (errors.KeyNotInIdentity info.name)) (λ u. refuse_if (is_full r && not (is_whole before)) (errors.MissingOld info.name) >>= λ v. updates_2 i info r before tuple) c is in
      let b = bound (refuse_if (is_full r && not (is_whole before)) (errors.MissingOld info.name)) (λ v. updates_2 i info r before tuple) c a.rest in
      let was = bound (old_row_if_sent info r before) (updates_3 i info r before tuple) c b.rest in
      let new = bound (new_cells info r (is_whole before) was.item tuple.cells) (updates_4 i info was.item) c was.rest in
      let key : Key = key_before info was.item new.item in
      let moved = bound (all_sent_if_moved info key new.item) (λ u. Ok (change.Update i key was.item new.item)) c new.rest in
      let e : change.Update i key was.item new.item ≡ c = (let h = moved.rest in cc) in
      let texts : Option RawRow = option_map (old_row_in t) before in
      let cells : List RawCell = new_texts t (is_whole before) texts 0 t.raw.columns tuple.cells in
      let from : RawKey = texts_before t.raw texts cells in
      let old_is = was_typed t info is_info before was.item was.first in
      let cells_are : typed_update (types_in info.columns) cells ≡ new.item = new_cells_typed t info is_info (is_whole before) texts was.item tuple.cells new.item old_is new.first in
      let key_is : typed_key infos i from ≡ key = key_before_typed t i info is_info texts was.item cells new.item at old_is cells_are in
      let new_key_is : typed_key infos i (raw_key t.raw (map given_text cells)) ≡ new_key_of info new.item =
      key_by_number t i info (map given_text cells) (map given_or_null new.item) at is_info (givens_typed (types_in info.columns) cells ∙ ap (map given_or_null) cells_are) in
      let moves : not (same_key (key_from t.raw from) (key_in t.raw (map given_text cells))) ≡ not (same_key key (new_key_of info new.item)) =
      ap (λ (k : Key). not (same_key k (key_in t.raw (map given_text cells)))) (same_types t i info from at is_info ∙ key_is)
      ∙ ap (λ (k : Key). not (same_key key k)) (same_types t i info (raw_key t.raw (map given_text cells)) at is_info ∙ new_key_is) in
      let kept = settles_none (types_in info.columns) info key new.item (not (same_key (key_from t.raw from) (key_in t.raw (map given_text cells)))) (rows t.raw.name (key_from t.raw from)) cells moved.item moves cells_are moved.first in
      let told : List RawCell = settled_if_moved (not (same_key (key_from t.raw from) (key_in t.raw (map given_text cells)))) (rows t.raw.name (key_from t.raw from)) cells in
      ap (option_map (λ (table : ℕ). change.Update table (typed_key infos table from) (option_map (typed_row infos table) texts) (typed_update (types_of infos table) told))) number
      ∙ ap (λ (cs : List RawCell). Some (change.Update i (typed_key infos i from) (option_map (typed_row infos i) texts) (typed_update (types_of infos i) cs))) kept
      ∙ ap (λ (columns : List Column). Some (change.Update i (typed_key infos i from) (option_map (typed_row infos i) texts) (typed_update (types_in columns) cells))) (columns_at i info at)
      ∙ ap (λ (cs : List Cell). Some (change.Update i (typed_key infos i from) (option_map (typed_row infos i) texts) cs)) cells_are
      ∙ ap (λ (k : Key). Some (change.Update i k (option_map (typed_row infos i) texts) new.item)) key_is
      ∙ ap (λ (o : Option Row). Some (change.Update i key o new.item)) (old_by_number t i info is_info texts was.item at old_is)
      ∙ ap (λ (x : Change). Some x) e

  -- ---- what is stated is what is captured of it

  one_mapped : (raw : RawChange) (o : Option Change) → typed_change infos raw ≡ o → filter_map (typed_change infos) (raw ∷ []) ≡ list_of o
  one_mapped raw None is = ap (λ (x : Option Change). cons_option x []) is
  one_mapped raw (Some c) is = ap (λ (x : Option Change). cons_option x []) is

  row_states : (oid : ℕ) (k : KnownAt tables oid) (change_is : RowChange) (raw : RawChange) (changed : Bool) (changes : List Change)
      → ((i : ℕ) (info : TableInfo) (c : Change) → slice_get infos i ≡ Some info → IsInfoOf k.table.raw info → number_of infos k.table.raw.name ≡ Some i → change_of i info (table_relation k.table) change_is ≡ Ok c → typed_change infos raw ≡ Some c)
      → (number_of infos k.table.raw.name ≡ None → typed_change infos raw ≡ None) → (o : Option ℕ) → number_of infos k.table.raw.name ≡ o → row_stated infos None changed (table_relation k.table) change_is (captured_at o) ≡ Ok changes
      → changes ≡ filter_map (typed_change infos) (raw ∷ [])
  unfolding row_stated
  row_states oid k change_is raw changed changes some none None number is = let e : [] ≡ changes = cc in sym e ∙ sym (one_mapped raw None (none number))
  row_states oid k change_is raw changed changes some none (Some i) number is =
      let found = captured_at_number oid k i number in
      let told : in_table i (Some found.info) (table_relation k.table) change_is ≡ Ok changes = subst (λ (o : Option TableInfo). in_table i o (table_relation k.table) change_is ≡ Ok changes) found.at is in
      let a = bound (change_of i found.info (table_relation k.table) change_is) (λ c. Ok (c ∷ [])) changes told in
      let e : a.item ∷ [] ≡ changes = (let h = a.rest in cc) in
      sym e ∙ sym (one_mapped raw (Some a.item) (some i found.info a.item found.at found.is_info number a.first))

  -- a row's change, where its table is described
  row_at_states : (oid : ℕ) (k : KnownAt tables oid) (change_is : RowChange) (raw : RawChange) (past : List Message) (changed : Bool) (changes : List Change) → relation_of oid past ≡ Some (table_relation k.table)
      → ((i : ℕ) (info : TableInfo) (c : Change) → slice_get infos i ≡ Some info → IsInfoOf k.table.raw info → number_of infos k.table.raw.name ≡ Some i → change_of i info (table_relation k.table) change_is ≡ Ok c → typed_change infos raw ≡ Some c)
      → (number_of infos k.table.raw.name ≡ None → typed_change infos raw ≡ None) → stated_row infos oid change_is past None changed ≡ Ok changes → changes ≡ filter_map (typed_change infos) (raw ∷ [])
  row_at_states oid k change_is raw past changed changes there some none is =
      let read : stated_row infos oid change_is past None changed ≡ row_stated infos None changed (table_relation k.table) change_is (captured_at (number_of infos k.table.raw.name)) =
      ap (λ (o : Option Relation). some_or o (errors.UnknownRelation oid) >>= λ (r : Relation). row_stated infos None changed r change_is (target infos r.name)) there
      ∙ ap (λ (b : Bool). row_stated infos None changed (table_relation k.table) change_is (if b then Watermark else captured_at (number_of infos (table_relation k.table).name))) (plain_name tables infos named_so oid k)
      ∙ ap (λ (name : TableName). row_stated infos None changed (table_relation k.table) change_is (captured_at (number_of infos name))) (relation_name tables infos named_so oid k) in
      row_states oid k change_is raw changed changes some none (number_of infos k.table.raw.name) refl (sym read ∙ is)

  -- ---- a truncate

  clears_step : (o : Option ℕ) (ts : List Target) (rest : List Change) → clears ts ≡ rest → clears (captured_at o ∷ ts) ≡ cons_option (option_map (λ (table : ℕ). change.Clear table) o) rest
  clears_step None ts rest is = is
  clears_step (Some i) ts rest is = ap (λ (cs : List Change). change.Clear i ∷ cs) is

  abbrev clear_of : ℕ → Option RawChange
  clear_of oid = option_map (λ (t : LogTable). raw.Clear t.raw.name) (table_at tables oid)

  clears_are : (past : List Message) (oids : List ℕ) (targets : List Target) → AllByRecursion (IsKnown tables) oids → AreDescribed tables oids past → targets_at infos oids past ≡ Ok targets
      → clears targets ≡ filter_map (typed_change infos) (filter_map clear_of oids)
  clears_are past [] targets known described is = let e : [] ≡ targets = cc in ap clears (sym e)
  clears_are past (oid ∷ oids) targets known described is =
      let k = known_at tables oid known.0 in
      let name : TableName = k.table.raw.name in
      let a = bound (some_or (relation_of oid past) (errors.UnknownRelation oid)) (λ (r : Relation). targets_at infos oids past >>= λ (ts : List Target). Ok (target infos r.name ∷ ts)) targets is in
      let b = bound (targets_at infos oids past) (λ (ts : List Target). Ok (target infos a.item.name ∷ ts)) targets a.rest in
      let e : target infos a.item.name ∷ b.item ≡ targets = (let h = b.rest in cc) in
      let known_relation : some_or (relation_of oid past) (errors.UnknownRelation oid) ≡ Ok (table_relation k.table) = ap (λ (o : Option Relation). some_or o (errors.UnknownRelation oid)) (described.0.0 ∙ k.relation) in
      let relation_is : a.item ≡ table_relation k.table = (let h : Ok a.item ≡ Ok (table_relation k.table) = sym a.first ∙ known_relation in cc) in
      let target_is : target infos a.item.name ≡ captured_at (number_of infos name) =
      ap (λ (r : Relation). target infos r.name) relation_is
      ∙ ap (λ (b : Bool). if b then Watermark else captured_at (number_of infos (table_relation k.table).name)) (plain_name tables infos named_so oid k)
      ∙ ap (λ (n : TableName). captured_at (number_of infos n)) (relation_name tables infos named_so oid k) in
      ap clears (sym e)
      ∙ ap (λ (t : Target). clears (t ∷ b.item)) target_is
      ∙ clears_step (number_of infos name) b.item (filter_map (typed_change infos) (filter_map clear_of oids)) (clears_are past oids b.item known.1 described.1 b.first)
      ∙ sym (ap (λ (o : Option LogTable). filter_map (typed_change infos) (cons_option (option_map (λ (t : LogTable). raw.Clear t.raw.name) o) (filter_map clear_of oids))) k.there)

  truncate_states : (past : List Message) (oids : List ℕ) (changes : List Change) → AllByRecursion (IsKnown tables) oids → AreDescribed tables oids past → truncated_tables infos oids past false ≡ Ok changes
      → changes ≡ filter_map (typed_change infos) (filter_map clear_of oids)
  unfolding truncate_stated
  truncate_states past oids changes known described is =
      let a = bound (targets_at infos oids past) (truncate_stated false) changes is in
      let b = bound (refuse_if (list_any is_the_watermark a.item || false && has_some (clears a.item)) errors.BadMark) (λ u. Ok (clears a.item)) changes a.rest in
      let e : clears a.item ≡ changes = (let h = b.rest in cc) in
      sym e ∙ clears_are past oids a.item known described a.first

  -- the history's changes of a message of one table
  one_change : (oid : ℕ) (k : KnownAt tables oid) (f : LogTable → RawChange) → list_of (option_map f (table_at tables oid)) ≡ f k.table ∷ []
  one_change oid k f = ap (λ (o : Option LogTable). list_of (option_map f o)) k.there

  pub states_itself : (rows : TextRows) (past : List Message) (m : Message) (changed : Bool) (changes : List Change) → IsChangeOf tables m → AreDescribed tables (oids_of m) past → stated_in infos m past None changed ≡ Ok changes
      → changes ≡ filter_map (typed_change infos) (raw_changes tables rows m)
  states_itself rows past (says.Insert oid new) changed changes is described told =
      let k = known_at tables oid is.known.0 in
      row_at_states oid k (row.Insert new) (insert_of k.table new) past changed changes (described.0.0 ∙ k.relation) (inserted k.table new) (λ none. ap (option_map _) none) told
      ∙ sym (ap (filter_map (typed_change infos)) (one_change oid k (λ t. insert_of t new)))
  states_itself rows past (says.Update oid before new) changed changes is described told =
      let k = known_at tables oid is.known.0 in
      row_at_states oid k (row.Update before new) (update_of k.table rows before new) past changed changes (described.0.0 ∙ k.relation) (updated k.table rows before new) (λ none. ap (option_map _) none) told
      ∙ sym (ap (filter_map (typed_change infos)) (one_change oid k (λ t. update_of t rows before new)))
  states_itself rows past (says.Delete oid before) changed changes is described told =
      let k = known_at tables oid is.known.0 in
      row_at_states oid k (row.Delete before) (delete_of k.table before) past changed changes (described.0.0 ∙ k.relation) (deleted k.table before) (λ none. ap (option_map _) none) told
      ∙ sym (ap (filter_map (typed_change infos)) (one_change oid k (λ t. delete_of t before)))
  states_itself rows past (says.Truncate options oids) changed changes is described told = truncate_states past oids changes is.known described told
  states_itself rows past (says.Begin l t x) changed changes is described told = absurd is.change
  states_itself rows past (says.Commit f l e t) changed changes is described told = absurd is.change
  states_itself rows past (says.Origin l n) changed changes is described told = absurd is.change
  states_itself rows past (says.TypeName o n m) changed changes is described told = absurd is.change
  states_itself rows past (says.Relation o n a i c) changed changes is described told = absurd is.change
  states_itself rows past (says.Logical f l p c) changed changes is described told = absurd is.change

pub themselves : ChangesStateThemselves
themselves tables infos rows past message changed changes named_so captured is described told = states_itself tables infos named_so captured rows past message changed changes is described told
