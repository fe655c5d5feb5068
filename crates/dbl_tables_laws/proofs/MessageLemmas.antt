-- The changes that the messages of inserts, deletes and truncates are: the rows and the keys that the steps name.
use Rattle.std.proofs.Common.{◌≡◌, ◌∙◌, ◌+◌, ◌-◌, ◌≤◌, ℕ, zero, suc, Bool, true, false, Option, Some, None, List, [], ◌∷◌, ◌++◌, map, refl, sym, ap, subst, append_assoc, arith}
use Rattle.std.specs.Prelude.{◌||◌, nat_lt, if◌then◌else◌, option_map, option_and_then, unwrap_or, slice_get, bytes_eq}
use Rattle.std.specs.List.{list_any, list_all}
use Rattle.std.proofs.lemmas.Option.{slice_get-map}
use Rattle.std.proofs.lemmas.Bool.Decides.{nat_tests}
use Rattle.dbl_tables_rows.specs.Pgmsg.declared.messages.OldTuple.TheVariants as old
use Rattle.dbl_tables_rows.specs.Pgmsg.declared.messages.TupleCell.TheVariants as cell
use Rattle.dbl_tables_rows.specs.ModelTable.declared.table.TableName.{TableName}
use Rattle.dbl_tables_rows.specs.ModelTable.declared.table.RawColumn.{RawColumn}
use Rattle.dbl_tables_rows.specs.ModelTable.declared.table.RawTable.{RawTable}
use Rattle.dbl_tables_rows.specs.ModelTable.Tables.{same_name}
use Rattle.dbl_tables_rows.specs.ModelTable.Made.{raw_names, place_of}
use Rattle.dbl_model_table.proofs.Lists.{same_text, text_itself, and_left, and_right, and_both, or_right, any_here, position_from-at}
use Rattle.dbl_tables_rows.specs.ModelHistory.History.{RawKey}
use Rattle.dbl_tables_rows.specs.ModelHistory.History.RawChange.{Insert, Delete}
use Rattle.dbl_tables_rows.specs.ModelCommit.Stated.{list_of}
use Rattle.dbl_tables_rows.specs.SourceLog.declared.logged.LogTable.{LogTable}
use Rattle.dbl_tables_rows.specs.SourceLog.Relations.{first_oid, table_at, is_in_identity}
use Rattle.dbl_tables_rows.specs.SourceLog.Texts.{Texts, text_named, raw_key, sent_text, old_texts, old_row_in}
use Rattle.dbl_tables_rows.specs.SourceLog.TextRows.{TextRows}
use Rattle.dbl_tables_rows.specs.SourceLog.RawChanges.{insert_of, delete_of, raw_changes}
use Rattle.dbl_source_log.proofs.CellTexts.{whole_texts}
use Rattle.dbl_tables_rows.specs.declared.demo_table.DemoTable.{DemoTable}
use Rattle.dbl_tables_rows.specs.Cells.{is_key_name}
use Rattle.dbl_tables_rows.specs.Sending.{raw_of, log_table, log_tables, sent_cell, whole_tuple, key_cells, key_tuple, old_tuple, insert_message, delete_message}
use Rattle.dbl_tables_rows.specs.Steps.{FoundTable, found_from, found}

pub some_one : (a b : FoundTable) → Some a ≡ Some b → a ≡ b
some_one a b is = cc

-- ---- the table that was found

-- it is there, so many places after the first
pub record IsThere (oid : ℕ) (tables : List DemoTable) (name : TableName) (at : FoundTable) : Type 0 where
  pub subsequent : oid ≤ at.oid
  pub there : slice_get (log_tables tables) (at.oid - oid) ≡ Some (log_table at.table)
  pub named : same_name at.table.info.name name ≡ true

pub found_there : (oid : ℕ) (tables : List DemoTable) (name : TableName) (at : FoundTable) → found_from oid tables name ≡ Some at → IsThere oid tables name at
found_there oid [] name at is = cc
found_there oid (t ∷ tables) name at is = by (same_name t.info.name name) refl is (found_there (oid + 1) tables name at)
  where
    first : same_name t.info.name name ≡ true → IsThere oid (t ∷ tables) name (record { oid = oid; table = t })
    first same = record {
      subsequent = omega arith;
      there = (let none : oid - oid ≡ zero = omega arith in ap (slice_get (log_tables (t ∷ tables))) none);
      named = same;
    }

    later : IsThere (oid + 1) tables name at → IsThere oid (t ∷ tables) name at
    later next =
        let subsequent : oid + 1 ≤ at.oid = next.subsequent in
        let place : at.oid - oid ≡ suc (at.oid - (oid + 1)) = omega (arith, subsequent) in
        record { subsequent = omega (arith, subsequent); there = ap (slice_get (log_tables (t ∷ tables))) place ∙ next.there; named = next.named }

    by : (b : Bool) → same_name t.info.name name ≡ b → (if b then Some (record { oid = oid; table = t }) else found_from (oid + 1) tables name) ≡ Some at → (found_from (oid + 1) tables name ≡ Some at → IsThere (oid + 1) tables name at) → IsThere oid (t ∷ tables) name at
    by true same told rest = subst (IsThere oid (t ∷ tables) name) (some_one (record { oid = oid; table = t }) at told) (first same)
    by false other told rest = later (rest told)

-- so it is the table at its OID
pub found_at_oid : (tables : List DemoTable) (name : TableName) (at : FoundTable) → found tables name ≡ Some at → table_at (log_tables tables) at.oid ≡ Some (log_table at.table)
found_at_oid tables name at is =
    let there = found_there first_oid tables name at is in
    let subsequent : first_oid ≤ at.oid = there.subsequent in
    let low : nat_lt at.oid first_oid ≡ false = grind (arith, nat_tests) in
    ap (λ (b : Bool). if b then None else slice_get (log_tables tables) (at.oid - first_oid)) low ∙ there.there

-- ---- whole rows

-- a row is sent and read back
pub row_back : (row : Texts) → map sent_text (map sent_cell row) ≡ row
row_back [] = refl
row_back (None ∷ row) = ap (λ (l : Texts). None ∷ l) (row_back row)
row_back (Some text ∷ row) = ap (λ (l : Texts). Some text ∷ l) (row_back row)

pub insert_change : (tables : List LogTable) (rows : TextRows) (oid : ℕ) (t : LogTable) (row : Texts) → table_at tables oid ≡ Some t → raw_changes tables rows (insert_message oid row) ≡ Insert t.raw.name (record { cells = row }) ∷ []
insert_change tables rows oid t row is =
    ap (λ (o : Option LogTable). list_of (option_map (λ (x : LogTable). insert_of x (whole_tuple row)) o)) is
    ∙ ap (λ (l : Texts). Insert t.raw.name (record { cells = l }) ∷ []) (row_back row)

-- ---- keys

one_back : (x : Option (List ℕ)) → sent_text (sent_cell x) ≡ x
one_back None = refl
one_back (Some text) = refl

-- of a key tuple the cells of the key are the row's
old_at : (t : LogTable) (raw : RawTable) (columns : List RawColumn) (row : Texts) (p : ℕ) (column : RawColumn) → slice_get columns p ≡ Some column → is_in_identity t column ≡ true → is_key_name raw column.name ≡ true
    → slice_get (old_texts t false columns (key_cells raw columns row)) p ≡ slice_get row p
old_at t raw [] row p column is own key = cc
old_at t raw (c ∷ columns) [] zero column is own key = refl
old_at t raw (c ∷ columns) [] (suc p) column is own key = refl
old_at t raw (c ∷ columns) (x ∷ row) zero column is own key =
    let e : c ≡ column = cc in
    let mine : is_in_identity t c ≡ true = ap (is_in_identity t) e ∙ own in
    let named : is_key_name raw c.name ≡ true = ap (λ (y : RawColumn). is_key_name raw y.name) e ∙ key in
    ap (λ (b : Bool). Some (if b then sent_text (if is_key_name raw c.name then sent_cell x else cell.Null) else None)) mine
    ∙ ap (λ (b : Bool). Some (sent_text (if b then sent_cell x else cell.Null))) named
    ∙ ap (λ (y : Option (List ℕ)). Some y) (one_back x)
old_at t raw (c ∷ columns) (x ∷ row) (suc p) column is own key = old_at t raw columns row p column is own key

module _ (t : LogTable) (row : Texts) where
  -- a column of the key has the row's text
  named_back : (name : List ℕ) → is_key_name t.raw name ≡ true → text_named t.raw (old_texts t false t.raw.columns (key_cells t.raw t.raw.columns row)) name ≡ text_named t.raw row name
  named_back name key = by (place_of (raw_names t.raw.columns) name) refl
    where
      column_at : (p : ℕ) (o : Option RawColumn) → slice_get t.raw.columns p ≡ o → (x : List ℕ) → option_map (λ (c : RawColumn). c.name) o ≡ Some x → bytes_eq name x ≡ true
          → slice_get (old_texts t false t.raw.columns (key_cells t.raw t.raw.columns row)) p ≡ slice_get row p
      column_at p None there x named same = cc
      column_at p (Some column) there x named same =
          let e : column.name ≡ name = (let f : column.name ≡ x = cc in f ∙ sym (same_text name x same)) in
          let mine : is_key_name t.raw column.name ≡ true = ap (is_key_name t.raw) e ∙ key in
          let own : is_in_identity t column ≡ true = ap (λ (b : Bool). t.full || b) mine ∙ or_right t.full in
          old_at t t.raw t.raw.columns row p column there own mine

      by : (o : Option ℕ) → place_of (raw_names t.raw.columns) name ≡ o
          → unwrap_or (option_and_then (slice_get (old_texts t false t.raw.columns (key_cells t.raw t.raw.columns row))) o) None ≡ unwrap_or (option_and_then (slice_get row) o) None
      by None is = refl
      by (Some p) is =
          let found = position_from-at (bytes_eq name) 0 (raw_names t.raw.columns) p is in
          let place : found.0 ≡ p = omega (arith, found.1) in
          let named : slice_get (raw_names t.raw.columns) p ≡ Some found.2.0 = ap (slice_get (raw_names t.raw.columns)) (sym place) ∙ found.2.1 in
          ap (λ (o : Option (Option (List ℕ))). unwrap_or o None)
          (column_at p (slice_get t.raw.columns p) refl found.2.0 (sym (slice_get-map (λ (c : RawColumn). c.name) t.raw.columns p) ∙ named) found.2.2)

  -- each name of the key is one
  any_more : (name : List ℕ) (front names : List (List ℕ)) → list_any (bytes_eq name) (front ++ name ∷ names) ≡ true
  any_more name front names = any_here (bytes_eq name) front name names (text_itself name)

  all_from : (front names : List (List ℕ)) → t.raw.key ≡ front ++ names → list_all (is_key_name t.raw) names ≡ true
  all_from front [] is = refl
  all_from front (name ∷ names) is =
      and_both (is_key_name t.raw name) (list_all (is_key_name t.raw) names) (ap (list_any (bytes_eq name)) is ∙ any_more name front names)
      (all_from (front ++ name ∷ []) names (is ∙ sym (append_assoc front (name ∷ []) names)))

  keys_back : (names : List (List ℕ)) → list_all (is_key_name t.raw) names ≡ true → map (text_named t.raw (old_texts t false t.raw.columns (key_cells t.raw t.raw.columns row))) names ≡ map (text_named t.raw row) names
  keys_back [] all = refl
  keys_back (name ∷ names) all =
      ap (λ (x : Option (List ℕ)). x ∷ map (text_named t.raw (old_texts t false t.raw.columns (key_cells t.raw t.raw.columns row))) names) (named_back name (and_left (is_key_name t.raw name) _ all))
      ∙ ap (λ (l : RawKey). text_named t.raw row name ∷ l) (keys_back names (and_right (is_key_name t.raw name) _ all))

  -- a key tuple has the row's key
  pub key_back : raw_key t.raw (old_texts t false t.raw.columns (key_cells t.raw t.raw.columns row)) ≡ raw_key t.raw row
  key_back = keys_back t.raw.key (all_from [] t.raw.key refl)

-- the old row of a change has its key, whole or not
pub old_key : (table : DemoTable) (row : Texts) → raw_key (raw_of table) (old_row_in (log_table table) (old_tuple table row)).cells ≡ raw_key (raw_of table) row
old_key table row = by table.full
  where
    by : (b : Bool) → raw_key (raw_of table) (old_row_in (log_table table) (if b then old.Whole (whole_tuple row) else old.Key (key_tuple (raw_of table) row))).cells ≡ raw_key (raw_of table) row
    by true = ap (raw_key (raw_of table)) (whole_texts (log_table table) (raw_of table).columns (map sent_cell row) ∙ row_back row)
    by false = key_back (log_table table) row

-- the key that a delete names is that of the row
pub delete_change : (tables : List LogTable) (rows : TextRows) (oid : ℕ) (table : DemoTable) (row : Texts) → table_at tables oid ≡ Some (log_table table)
    → raw_changes tables rows (delete_message oid table row) ≡ Delete table.info.name (raw_key (raw_of table) row) (old_row_in (log_table table) (old_tuple table row)) ∷ []
delete_change tables rows oid table row is =
    ap (λ (o : Option LogTable). list_of (option_map (λ (x : LogTable). delete_of x (old_tuple table row)) o)) is
    ∙ ap (λ (k : RawKey). Delete table.info.name k (old_row_in (log_table table) (old_tuple table row)) ∷ []) (old_key table row)
