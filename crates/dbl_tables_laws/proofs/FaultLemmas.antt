-- Which faults the store's messages have where they are read, for every list of captured tables: none, or a moved key with an unsent cell.
use Rattle.std.proofs.Common.{◌≡◌, ◌∙◌, inl, inr, ◌<◌, ℕ, zero, suc, Bool, true, false, Option, Some, None, List, [], ◌∷◌, ◌++◌, length, map, refl, sym, ap, subst, append_assoc, arith, eq-eqb}
use Rattle.std.specs.Prelude.{◌==◌, ◌%◌, ◌&&◌, ◌||◌, not, nat_eq, nat_le, nat_lt, if◌then◌else◌, is_some, IsSome, IsSomeAnd, option_map, option_and_then, unwrap_or, slice_get, Result, Ok, bytes_eq}
use Rattle.std.specs.List.{AllZip, list_any, list_all}
use Rattle.std.specs.Str.{byte}
use Rattle.std.proofs.lemmas.Bool.{eqb-true}
use Rattle.std.proofs.lemmas.Bool.Decides.{nat_tests}
use Rattle.std.proofs.lemmas.List.{length-map}
use Rattle.std.proofs.lemmas.Option.{slice_get-map}
use Rattle.dbl_tables_rows.specs.Pgmsg.declared.messages.OldTuple.{OldTuple}
use Rattle.dbl_tables_rows.specs.Pgmsg.declared.messages.OldTuple.TheVariants as old
use Rattle.dbl_tables_rows.specs.Pgmsg.declared.messages.TupleCell.{TupleCell}
use Rattle.dbl_tables_rows.specs.Pgmsg.declared.messages.TupleCell.TheVariants as cell
use Rattle.dbl_tables_rows.specs.Value.declared.column_type.PgType.{PgType}
use Rattle.dbl_tables_rows.specs.Value.Values.{value_of, is_column_type}
use Rattle.dbl_tables_rows.specs.ModelTable.declared.change.Cell.{Cell}
use Rattle.dbl_tables_rows.specs.ModelTable.declared.change.Change.{Change}
use Rattle.dbl_tables_rows.specs.ModelTable.declared.change.Change.TheVariants as change
use Rattle.dbl_tables_rows.specs.ModelTable.declared.row.Row.{Row}
use Rattle.dbl_tables_rows.specs.ModelTable.declared.table.Column.{Column}
use Rattle.dbl_tables_rows.specs.ModelTable.declared.table.RawColumn.{RawColumn}
use Rattle.dbl_tables_rows.specs.ModelTable.declared.table.RawTable.{RawTable}
use Rattle.dbl_tables_rows.specs.ModelTable.declared.table.TableInfo.{TableInfo}
use Rattle.dbl_tables_rows.specs.ModelTable.Infos.{raw_column, name_at, catalogue_of, width}
use Rattle.dbl_tables_rows.specs.ModelTable.Keys.{key_of}
use Rattle.dbl_tables_rows.specs.ModelTable.Made.{raw_names, place_of}
use Rattle.dbl_model_table.proofs.InfoLemmas.{typed_columns, places_within, not_true}
use Rattle.dbl_model_table.proofs.Lists.{and_left, and_right, and_both, or_right, any_here, bool_case, text_itself}
use Rattle.dbl_tables_rows.specs.ModelCommit.declared.message_parts.Relation.{Relation}
use Rattle.dbl_tables_rows.specs.ModelCommit.declared.message_parts.RowChange.TheVariants as says
use Rattle.dbl_tables_rows.specs.ModelCommit.declared.txn_error.TxnError.{TxnError}
use Rattle.dbl_tables_rows.specs.ModelCommit.declared.txn_error.TxnError.TheVariants as errors
use Rattle.dbl_tables_rows.specs.ModelCommit.Stated.{err_of}
use Rattle.dbl_tables_rows.specs.ModelCommit.Tuples.{◌>>=◌, refuse_if, is_key_place, has_flag, is_flagged, is_fixed, is_read, old_row, old_row_if_sent, is_whole, new_cells, key_before, all_sent_if_moved, key_in_identity, is_full, row_of, change_of}
use Rattle.dbl_tables_rows.specs.SourceLog.FitLogs.{IsTextKey}
use Rattle.dbl_tables_rows.specs.SourceLog.Relations.{is_in_identity, relation_column}
use Rattle.dbl_tables_rows.specs.SourceLog.Texts.{Texts, text_named, type_named, raw_key}
use Rattle.dbl_source_log.proofs.RelationLemmas.{table_relation}
use Rattle.dbl_tables_rows.specs.declared.demo_table.DemoTable.{DemoTable}
use Rattle.dbl_tables_rows.specs.Cells.{is_key_name, spells_cell}
use Rattle.dbl_tables_laws.specs.Laws.{IsMovedAtMost}
use Rattle.dbl_tables_rows.specs.Sending as sending
use Rattle.dbl_tables_rows.specs.Sending.{raw_of, log_table, sent_cell, whole_tuple, key_cells, key_tuple, column_type, is_unsent_text, old_tuple, optional_old, moves}
use Rattle.dbl_tables_rows.proofs.PlaceLemmas.{type_is}
use Rattle.dbl_tables_laws.proofs.ReadLemmas.{bind_fine, bind_moved, then_moved, IsReadCell, IsReadNew, row_fine, cells_fine, unsent_moved}
use Rattle.dbl_tables_laws.proofs.SpelledLemmas.{AreSpelled, spelled_at, own_type}
use Rattle.dbl_tables_laws.proofs.UpdateLemmas.{length-key_cells, length-new_cells, left_other}

-- ---- the key of a captured table

some_text : (ty : PgType) (o : Option (List ℕ)) → IsSomeAnd o (λ t. IsSome (value_of ty t)) → is_some o ≡ true
some_text ty None fine = absurd fine
some_text ty (Some t) fine = refl

-- what all columns pass, each passes
passes : (columns : List Column) (p : ℕ) (column : Column) → list_all (λ (c : Column). is_column_type c.ty) columns ≡ true → slice_get columns p ≡ Some column → is_column_type column.ty ≡ true
passes [] p column all is = cc
passes (c ∷ columns) zero column all is = let e : c ≡ column = cc in ap (λ (x : Column). is_column_type x.ty) (sym e) ∙ and_left (is_column_type c.ty) _ all
passes (c ∷ columns) (suc p) column all is = passes columns p column (and_right (is_column_type c.ty) _ all) is

module _ (info : TableInfo) where
  -- each column of the key has a text
  keys_there : (row : Texts) (places : List ℕ) → AllZip (λ ty text. IsSomeAnd text (λ t. IsSome (value_of ty t))) (map (type_named (catalogue_of info)) (map (name_at info.columns) places)) (map (text_named (catalogue_of info) row) (map (name_at info.columns) places))
      → (p : ℕ) → list_any (nat_eq p) places ≡ true → is_some (text_named (catalogue_of info) row (name_at info.columns p)) ≡ true
  keys_there row [] all p here = cc
  keys_there row (k ∷ places) all p here = by (nat_eq p k) refl here (keys_there row places all.1 p)
    where
      by : (b : Bool) → nat_eq p k ≡ b → (b || list_any (nat_eq p) places) ≡ true → (list_any (nat_eq p) places ≡ true → is_some (text_named (catalogue_of info) row (name_at info.columns p)) ≡ true) → is_some (text_named (catalogue_of info) row (name_at info.columns p)) ≡ true
      by true same told later =
          let e : p ≡ k = eqb-true p k same in
          ap (λ (n : ℕ). is_some (text_named (catalogue_of info) row (name_at info.columns n))) e
          ∙ some_text (type_named (catalogue_of info) (name_at info.columns k)) (text_named (catalogue_of info) row (name_at info.columns k)) all.0
      by false other told later = later told

  -- its columns are those whose names the key has
  names_there : (places : List ℕ) (p : ℕ) → list_any (nat_eq p) places ≡ true → list_any (bytes_eq (name_at info.columns p)) (map (name_at info.columns) places) ≡ true
  names_there [] p here = cc
  names_there (k ∷ places) p here = by (nat_eq p k) refl here (names_there places p)
    where
      either : (a b : Bool) → b ≡ true → (a || b) ≡ true
      either true b is = refl
      either false b is = is

      by : (b : Bool) → nat_eq p k ≡ b → (b || list_any (nat_eq p) places) ≡ true → (list_any (nat_eq p) places ≡ true → list_any (bytes_eq (name_at info.columns p)) (map (name_at info.columns) places) ≡ true)
          → (bytes_eq (name_at info.columns p) (name_at info.columns k) || list_any (bytes_eq (name_at info.columns p)) (map (name_at info.columns) places)) ≡ true
      by true same told later =
          let e : p ≡ k = eqb-true p k same in
          ap (λ (n : ℕ). bytes_eq (name_at info.columns n) (name_at info.columns k) || list_any (bytes_eq (name_at info.columns n)) (map (name_at info.columns) places)) e
          ∙ ap (λ (b : Bool). b || list_any (bytes_eq (name_at info.columns k)) (map (name_at info.columns) places)) (text_itself (name_at info.columns k))
      by false other told later = either (bytes_eq (name_at info.columns p) (name_at info.columns k)) (list_any (bytes_eq (name_at info.columns p)) (map (name_at info.columns) places)) (later told)

  module _ (p : ℕ) (column : Column) (at : slice_get info.columns p ≡ Some column) where
    raw_at : slice_get (catalogue_of info).columns p ≡ Some (raw_column column)
    raw_at = slice_get-map raw_column info.columns p ∙ ap (option_map raw_column) at

    name_is : name_at info.columns p ≡ column.name
    name_is = ap (λ (o : Option Column). unwrap_or (option_map (λ (c : Column). c.name) o) []) at

    own_name : is_key_place info p ≡ true → is_key_name (catalogue_of info) column.name ≡ true
    own_name key = ap (is_key_name (catalogue_of info)) (sym name_is) ∙ names_there info.key p key

    -- a column whose name the key hasn't is none of it
    other_place : is_key_name (catalogue_of info) column.name ≡ false → is_key_place info p ≡ false
    other_place none = by (is_key_place info p) refl
      where
        by : (b : Bool) → is_key_place info p ≡ b → b ≡ false
        by true key = let contra : true ≡ false = sym (own_name key) ∙ none in cc
        by false other = refl

    -- in the key the row has a text
    key_text : (row : Texts) (x : Option (List ℕ)) → IsTextKey (catalogue_of info) (raw_key (catalogue_of info) row) → slice_get row p ≡ Some x → is_key_place info p ≡ true → is_some x ≡ true
    key_text row x key there mine =
        let place : place_of (raw_names (catalogue_of info).columns) (raw_column column).name ≡ Some p = (own_type info p (raw_column column) raw_at).1 in
        let here : text_named (catalogue_of info) row (name_at info.columns p) ≡ x =
        ap (text_named (catalogue_of info) row) name_is
        ∙ (ap (λ (o : Option ℕ). unwrap_or (option_and_then (slice_get row) o) None) place
        ∙ ap (λ (o : Option (Option (List ℕ))). unwrap_or o None) there) in
        sym (ap is_some here) ∙ keys_there row info.key key p mine

    -- so each cell of the row can be read
    cell_read : (row : Texts) (x : Option (List ℕ)) → AreSpelled (catalogue_of info).columns row → IsTextKey (catalogue_of info) (raw_key (catalogue_of info) row) → slice_get row p ≡ Some x → IsReadCell (is_key_place info p) column (sent_cell x)
    cell_read row x all key there = by x there (spelled_at (catalogue_of info).columns row p (raw_column column) x all raw_at there)
      where
        typed : is_column_type column.ty ≡ true
        typed = passes info.columns p column (typed_columns info) at

        by : (y : Option (List ℕ)) → slice_get row p ≡ Some y → spells_cell (column_type (raw_column column)) y ≡ true → IsReadCell (is_key_place info p) column (sent_cell y)
        by None is fine = elim (bool_case (is_key_place info p)) [
          | inl mine ↦ (let contra : false ≡ true = key_text row None key is mine in cc)
          | inr other ↦ other
        ]
        by (Some t) is fine = ap (λ (ty : PgType). is_some (value_of ty t)) (sym (type_is column typed)) ∙ fine

-- ---- cells as they are sent

-- of a key tuple the cells of the key are the row's
key_cell_at : (raw : RawTable) (columns : List RawColumn) (row : Texts) (p : ℕ) (k : RawColumn) (c : TupleCell) → slice_get columns p ≡ Some k → slice_get (key_cells raw columns row) p ≡ Some c → is_key_name raw k.name ≡ true
    → (x : Option (List ℕ)) × (slice_get row p ≡ Some x) × (sent_cell x ≡ c)
key_cell_at raw [] row p k c at there key = cc
key_cell_at raw (d ∷ columns) [] p k c at there key = cc
key_cell_at raw (d ∷ columns) (x ∷ row) zero k c at there key =
    let e : d ≡ k = cc in
    let own : is_key_name raw d.name ≡ true = ap (λ (z : RawColumn). is_key_name raw z.name) e ∙ key in
    let f : (if is_key_name raw d.name then sent_cell x else cell.Null) ≡ c = cc in
    (x, refl, sym (ap (λ (b : Bool). if b then sent_cell x else cell.Null) own) ∙ f)
key_cell_at raw (d ∷ columns) (x ∷ row) (suc p) k c at there key = key_cell_at raw columns row p k c at there key

record IsNewCell (table : DemoTable) (k : RawColumn) (before row : Texts) (p : ℕ) (c : TupleCell) : Type 0 where
  x : Option (List ℕ)
  y : Option (List ℕ)
  was : slice_get before p ≡ Some x
  is : slice_get row p ≡ Some y
  said : (if is_unsent_text table k x y then cell.Unchanged else sent_cell y) ≡ c

new_cell_at : (table : DemoTable) (columns : List RawColumn) (before row : Texts) (p : ℕ) (k : RawColumn) (c : TupleCell) → slice_get columns p ≡ Some k → slice_get (sending.new_cells table columns before row) p ≡ Some c → IsNewCell table k before row p c
new_cell_at table [] before row p k c at there = cc
new_cell_at table (d ∷ columns) [] row p k c at there = cc
new_cell_at table (d ∷ columns) (x ∷ before) [] p k c at there = cc
new_cell_at table (d ∷ columns) (x ∷ before) (y ∷ row) zero k c at there =
    let e : d ≡ k = cc in
    let f : (if is_unsent_text table d x y then cell.Unchanged else sent_cell y) ≡ c = cc in
    record { x = x; y = y; was = refl; is = refl; said = sym (ap (λ (z : RawColumn). if is_unsent_text table z x y then cell.Unchanged else sent_cell y) e) ∙ f }
new_cell_at table (d ∷ columns) (x ∷ before) (y ∷ row) (suc p) k c at there =
    let next = new_cell_at table columns before row p k c at there in
    record { x = next.x; y = next.y; was = next.was; is = next.is; said = next.said }

-- what is left out isn't of a fixed size
left_loose : (table : DemoTable) (k : RawColumn) (x y : Option (List ℕ)) → is_unsent_text table k x y ≡ true → is_fixed (column_type k) ≡ false
left_loose table k None y left = cc
left_loose table k (Some x) None left = cc
left_loose table k (Some x) (Some y) left =
    let most : (not (is_key_name (raw_of table) k.name) && not (is_fixed (column_type k)) && bytes_eq x y) ≡ true = and_left _ (nat_le table.toast (length y)) left in
    let some : (not (is_key_name (raw_of table) k.name) && not (is_fixed (column_type k))) ≡ true = and_left _ (bytes_eq x y) most in
    not_true (is_fixed (column_type k)) (and_right (not (is_key_name (raw_of table) k.name)) (not (is_fixed (column_type k))) some)

as_new : (in_key : Bool) (column : Column) (y : Option (List ℕ)) → IsReadCell in_key column (sent_cell y) → IsReadNew in_key column (sent_cell y)
as_new in_key column None fine = fine
as_new in_key column (Some text) fine = fine

-- the flag of a column says whether it is part of the replica identity
flag_is : (b : Bool) → ((if b then 1 else 0) % 2 == 1) ≡ b
flag_is true = refl
flag_is false = refl

column_there : (columns : List Column) (p : ℕ) → p < length columns → (c : Column) × (slice_get columns p ≡ Some c)
column_there [] p lt = absurd (omega arith)
column_there (c ∷ columns) zero lt = (c, refl)
column_there (c ∷ columns) (suc p) lt = column_there columns p (omega arith)

-- ---- a captured table

module _ (table : DemoTable) (info : TableInfo) (is_info : catalogue_of info ≡ raw_of table) where
  abbrev rel : Relation
  rel = table_relation (log_table table)

  width_is : length (raw_of table).columns ≡ width info
  width_is = ap (λ (r : RawTable). length r.columns) (sym is_info) ∙ length-map info.columns raw_column

  column_at : (p : ℕ) (column : Column) → slice_get info.columns p ≡ Some column → slice_get (raw_of table).columns p ≡ Some (raw_column column)
  column_at p column at = ap (λ (r : RawTable). slice_get r.columns p) (sym is_info) ∙ raw_at info p column at

  flag_at : (p : ℕ) (column : Column) → slice_get info.columns p ≡ Some column → is_flagged rel p ≡ is_in_identity (log_table table) (raw_column column)
  flag_at p column at =
      ap has_flag (slice_get-map (relation_column (log_table table)) (raw_of table).columns p ∙ ap (option_map (relation_column (log_table table))) (column_at p column at))
      ∙ flag_is (is_in_identity (log_table table) (raw_column column))

  -- each column of the key is part of the identity
  identity_from : (front places : List ℕ) → info.key ≡ front ++ places → list_all (λ p. nat_lt p (length info.columns)) places ≡ true → list_all (is_flagged rel) places ≡ true
  identity_from front [] is within = refl
  identity_from front (p ∷ places) is within =
      let low : nat_lt p (length info.columns) ≡ true = and_left (nat_lt p (length info.columns)) _ within in
      let lt : p < length info.columns = grind (arith, nat_tests) in
      let column = column_there info.columns p lt in
      let mine : is_key_place info p ≡ true = ap (list_any (nat_eq p)) is ∙ any_here (nat_eq p) front p places (eq-eqb p p refl) in
      let named : is_key_name (raw_of table) column.0.name ≡ true = ap (λ (r : RawTable). is_key_name r column.0.name) (sym is_info) ∙ own_name info p column.0 column.1 mine in
      let flagged : is_flagged rel p ≡ true = flag_at p column.0 column.1 ∙ (ap (λ (b : Bool). table.full || b) named ∙ or_right table.full) in
      and_both (is_flagged rel p) (list_all (is_flagged rel) places) flagged
      (identity_from (front ++ p ∷ []) places (is ∙ sym (append_assoc front (p ∷ []) places)) (and_right (nat_lt p (length info.columns)) _ within))

  identity_is : key_in_identity info rel ≡ true
  unfolding key_in_identity
  identity_is = identity_from [] info.key refl (places_within info)

  identified : err_of (refuse_if (not (key_in_identity info rel)) (errors.KeyNotInIdentity info.name)) ≡ None
  identified = ap (λ (b : Bool). err_of (refuse_if (not b) (errors.KeyNotInIdentity info.name))) identity_is

  module _ (row : Texts) (wide : length row ≡ length (raw_of table).columns) (spelled : AreSpelled (raw_of table).columns row) (key : IsTextKey (raw_of table) (raw_key (raw_of table) row)) where
    readable : (p : ℕ) (column : Column) (x : Option (List ℕ)) → slice_get info.columns p ≡ Some column → slice_get row p ≡ Some x → IsReadCell (is_key_place info p) column (sent_cell x)
    readable p column x at there =
        cell_read info p column at row x (subst (λ (r : RawTable). AreSpelled r.columns row) (sym is_info) spelled) (subst (λ (r : RawTable). IsTextKey r (raw_key r row)) (sym is_info) key) there

    whole_fine : err_of (row_of info rel true (map sent_cell row)) ≡ None
    whole_fine = row_fine info rel true (map sent_cell row) (length-map row sent_cell ∙ (wide ∙ width_is)) (λ p column c at there read. one p column c at (slice_get row p) refl (sym (slice_get-map sent_cell row p) ∙ there))
      where
        one : (p : ℕ) (column : Column) (c : TupleCell) → slice_get info.columns p ≡ Some column → (o : Option (Option (List ℕ))) → slice_get row p ≡ o → option_map sent_cell o ≡ Some c → IsReadCell (is_key_place info p) column c
        one p column c at None is told = cc
        one p column c at (Some x) is told = let e : sent_cell x ≡ c = cc in subst (IsReadCell (is_key_place info p) column) e (readable p column x at is)

    key_fine : table.full ≡ false → err_of (row_of info rel false (key_cells (raw_of table) (raw_of table).columns row)) ≡ None
    key_fine part = row_fine info rel false (key_cells (raw_of table) (raw_of table).columns row) (length-key_cells (raw_of table) (raw_of table).columns row wide ∙ width_is) one
      where
        one : (p : ℕ) (column : Column) (c : TupleCell) → slice_get info.columns p ≡ Some column → slice_get (key_cells (raw_of table) (raw_of table).columns row) p ≡ Some c → is_read rel false p ≡ true → IsReadCell (is_key_place info p) column c
        one p column c at there read =
            let named : is_key_name (raw_of table) column.name ≡ true = sym (ap (λ (b : Bool). b || is_key_name (raw_of table) column.name) part) ∙ (sym (flag_at p column at) ∙ read) in
            let k = key_cell_at (raw_of table) (raw_of table).columns row p (raw_column column) c (column_at p column at) there named in
            subst (IsReadCell (is_key_place info p) column) k.2 (readable p column k.0 at k.1)

    old_fine : err_of (old_row info rel (old_tuple table row)) ≡ None
    old_fine = by table.full refl
      where
        by : (b : Bool) → table.full ≡ b → err_of (old_row info rel (if b then old.Whole (whole_tuple row) else old.Key (key_tuple (raw_of table) row))) ≡ None
        by true is = whole_fine
        by false is = key_fine is

    pub insert_moved : (n : ℕ) → IsMovedAtMost (err_of (change_of n info rel (says.Insert (whole_tuple row))))
    unfolding change_of
    insert_moved n = bind_moved (row_of info rel true (map sent_cell row)) (λ (new : Row). Ok (change.Insert n new)) whole_fine (λ new is. tt)

    pub delete_moved : (n : ℕ) → IsMovedAtMost (err_of (change_of n info rel (says.Delete (old_tuple table row))))
    unfolding change_of
    delete_moved n =
        bind_moved (refuse_if (not (key_in_identity info rel)) (errors.KeyNotInIdentity info.name)) (λ u. old_row info rel (old_tuple table row) >>= λ (was : Row). Ok (change.Delete n (key_of info was.cells) was)) identified
        (λ u is. bind_moved (old_row info rel (old_tuple table row)) (λ (was : Row). Ok (change.Delete n (key_of info was.cells) was)) old_fine (λ was there. tt))

  module _ (before subsequent : Texts) (wo : length before ≡ length (raw_of table).columns) (wr : length subsequent ≡ length (raw_of table).columns)
      (spelled_before : AreSpelled (raw_of table).columns before) (spelled_after : AreSpelled (raw_of table).columns subsequent)
      (key_of_before : IsTextKey (raw_of table) (raw_key (raw_of table) before)) (key_of_after : IsTextKey (raw_of table) (raw_key (raw_of table) subsequent)) where
    abbrev sent_old : Option OldTuple
    sent_old = optional_old table (moves table before subsequent) before

    abbrev sent_new : List TupleCell
    sent_new = sending.new_cells table (raw_of table).columns before subsequent

    -- full identity sends the whole old row
    not_missing : err_of (refuse_if (is_full rel && not (is_whole sent_old)) (errors.MissingOld info.name)) ≡ None
    not_missing = ap (λ (b : Bool). err_of (refuse_if b (errors.MissingOld info.name))) (by table.full (moves table before subsequent))
      where
        by : (f m : Bool) → ((if f then byte "f" else byte "d") == byte "f" && not (is_whole (if f || m then Some (if f then old.Whole (whole_tuple before) else old.Key (key_tuple (raw_of table) before)) else None))) ≡ false
        by true m = refl
        by false m = refl

    old_if : err_of (old_row_if_sent info rel sent_old) ≡ None
    old_if = by (table.full || moves table before subsequent)
      where
        by : (b : Bool) → err_of (old_row_if_sent info rel (if b then Some (old_tuple table before) else None)) ≡ None
        by true = bind_fine (old_row info rel (old_tuple table before)) (λ (r : Row). Ok (Some r)) (old_fine before wo spelled_before key_of_before) (λ r is. refl)
        by false = refl

    new_read : (p : ℕ) (column : Column) (c : TupleCell) → slice_get info.columns p ≡ Some column → slice_get sent_new p ≡ Some c → IsReadNew (is_key_place info p) column c
    new_read p column c at there =
        let n = new_cell_at table (raw_of table).columns before subsequent p (raw_column column) c (column_at p column at) there in
        subst (IsReadNew (is_key_place info p) column) n.said (by n.x n.y n.is (is_unsent_text table (raw_column column) n.x n.y) refl)
      where
        by : (x y : Option (List ℕ)) → slice_get subsequent p ≡ Some y → (b : Bool) → is_unsent_text table (raw_column column) x y ≡ b → IsReadNew (is_key_place info p) column (if b then cell.Unchanged else sent_cell y)
        by x y is true left = (
          ap is_fixed (sym (type_is column (passes info.columns p column (typed_columns info) at))) ∙ left_loose table (raw_column column) x y left,
          other_place info p column at (ap (λ (r : RawTable). is_key_name r column.name) is_info ∙ left_other table (raw_column column) x y left),
        )
        by x y is false sent = as_new (is_key_place info p) column y (readable subsequent wr spelled_after key_of_after p column y at is)

    pub update_moved : (n : ℕ) → IsMovedAtMost (err_of (change_of n info rel (says.Update sent_old (record { cells = sent_new }))))
    unfolding change_of
    update_moved n =
        let last : Option Row → List Cell → Result Change TxnError = λ was cells. (all_sent_if_moved info (key_before info was cells) cells >>= λ w. Ok (change.Update n (key_before info was cells) was cells)) in
        let after : Option Row → Result Change TxnError = λ was. (new_cells info rel (is_whole sent_old) was sent_new >>= last was) in
        let given : Result Change TxnError = old_row_if_sent info rel sent_old >>= after in
        bind_moved (refuse_if (not (key_in_identity info rel)) (errors.KeyNotInIdentity info.name)) (λ u. refuse_if (is_full rel && not (is_whole sent_old)) (errors.MissingOld info.name) >>= λ v. given) identified
        (λ u first. bind_moved (refuse_if (is_full rel && not (is_whole sent_old)) (errors.MissingOld info.name)) (λ v. given) not_missing
        (λ v second. bind_moved (old_row_if_sent info rel sent_old) after old_if
        (λ was third. bind_moved (new_cells info rel (is_whole sent_old) was sent_new) (last was)
        (cells_fine info rel (is_whole sent_old) was sent_new (length-new_cells table (raw_of table).columns before subsequent wo wr ∙ width_is) new_read)
        (λ cells fourth. then_moved (all_sent_if_moved info (key_before info was cells) cells) (λ w. change.Update n (key_before info was cells) was cells) (unsent_moved info (key_before info was cells) cells)))))
