-- The change that the message of an update is: from the key of the row before it to the key of the row after it.
use Rattle.std.proofs.Common.{◌≡◌, ◌∙◌, ◌+◌, ◌<◌, inl, inr, ℕ, zero, suc, Bool, true, false, Option, Some, None, List, [], ◌∷◌, ◌++◌, length, map, refl, sym, ap, subst, append_assoc, arith}
use Rattle.std.specs.Prelude.{◌⊎◌, ◌&&◌, ◌||◌, not, nat_le, if◌then◌else◌, IfSome, IsSome, option_map, option_and_then, unwrap_or, slice_get, bytes_eq}
use Rattle.std.specs.List.{AllByRecursion, list_any, list_all}
use Rattle.std.specs.Str.{IsUtf8}
use Rattle.std.proofs.lemmas.List.{length-map}
use Rattle.std.proofs.lemmas.Option.{slice_get-map}
use Rattle.dbl_tables_rows.specs.Pgmsg.declared.messages.OldTuple.{OldTuple}
use Rattle.dbl_tables_rows.specs.Pgmsg.declared.messages.OldTuple.TheVariants as tuple
use Rattle.dbl_tables_rows.specs.Pgmsg.declared.messages.TupleCell.{TupleCell}
use Rattle.dbl_tables_rows.specs.Pgmsg.declared.messages.TupleCell.TheVariants as cell
use Rattle.dbl_tables_rows.specs.ModelTable.declared.table.RawColumn.{RawColumn}
use Rattle.dbl_tables_rows.specs.ModelTable.declared.table.RawRow.{RawRow}
use Rattle.dbl_tables_rows.specs.ModelTable.declared.table.RawTable.{RawTable}
use Rattle.dbl_tables_rows.specs.ModelTable.declared.row.Key.{Key}
use Rattle.dbl_tables_rows.specs.ModelTable.Keys.{same_key}
use Rattle.dbl_tables_rows.specs.ModelTable.Made.{raw_names, place_of}
use Rattle.dbl_model_table.proofs.Lists.{same_text, text_itself, and_left, and_right, and_both, or_false, any_here, position_from-at, slice_get-lt}
use Rattle.dbl_model_table.proofs.KeyLemmas.{same_key-is}
use Rattle.dbl_tables_rows.specs.ModelHistory.Ranges.{AreTextsInRange, IsRawCellInRange}
use Rattle.dbl_tables_rows.specs.ModelHistory.History.{RawCell, RawKey, RawChange}
use Rattle.dbl_tables_rows.specs.ModelHistory.History.RawCell.{Given, Unchanged}
use Rattle.dbl_tables_rows.specs.ModelHistory.History.RawChange.{Update}
use Rattle.dbl_tables_rows.specs.ModelCommit.Tuples.{is_fixed, is_whole}
use Rattle.dbl_tables_rows.specs.ModelCommit.Stated.{list_of}
use Rattle.dbl_tables_rows.specs.SourceLog.declared.logged.LogTable.{LogTable}
use Rattle.dbl_tables_rows.specs.SourceLog.Relations.{table_at, is_in_identity}
use Rattle.dbl_tables_rows.specs.SourceLog.Texts.{Texts, text_named, raw_key, key_from, key_in, given_text, all_texts, filling_text, new_text, new_texts, settled, overlaid, filled_text, sent_text, old_texts, old_row_in}
use Rattle.dbl_tables_rows.specs.SourceLog.TextRows.{TextRows, updated_texts}
use Rattle.dbl_tables_rows.specs.SourceLog.RawChanges.{raw_key_before, settled_if_moved, update_of, raw_changes}
use Rattle.dbl_tables_rows.specs.declared.demo_table.DemoTable.{DemoTable}
use Rattle.dbl_tables_rows.specs.Cells.{is_key_name}
use Rattle.dbl_tables_rows.specs.Sending.{raw_of, log_table, sent_cell, whole_tuple, key_cells, key_tuple, column_type, is_unsent_text, new_cells, old_tuple, optional_old, moves, update_message}
use Rattle.dbl_source_log.proofs.CellTexts.{whole_texts}
use Rattle.dbl_tables_laws.proofs.MessageLemmas.{row_back, old_key}

-- ---- rows that agree in the columns of the key

module _ (raw : RawTable) (a b : Texts) (agree : (p : ℕ) (column : RawColumn) → slice_get raw.columns p ≡ Some column → is_key_name raw column.name ≡ true → slice_get a p ≡ slice_get b p) where
  text_same : (name : List ℕ) → is_key_name raw name ≡ true → text_named raw a name ≡ text_named raw b name
  text_same name key = by (place_of (raw_names raw.columns) name) refl
    where
      column_at : (p : ℕ) (o : Option RawColumn) → slice_get raw.columns p ≡ o → (x : List ℕ) → option_map (λ (c : RawColumn). c.name) o ≡ Some x → bytes_eq name x ≡ true → slice_get a p ≡ slice_get b p
      column_at p None there x named same = cc
      column_at p (Some column) there x named same =
          let e : column.name ≡ name = (let f : column.name ≡ x = cc in f ∙ sym (same_text name x same)) in
          agree p column there (ap (is_key_name raw) e ∙ key)

      by : (o : Option ℕ) → place_of (raw_names raw.columns) name ≡ o → unwrap_or (option_and_then (slice_get a) o) None ≡ unwrap_or (option_and_then (slice_get b) o) None
      by None is = refl
      by (Some p) is =
          let found = position_from-at (bytes_eq name) 0 (raw_names raw.columns) p is in
          let place : found.0 ≡ p = omega (arith, found.1) in
          let named : slice_get (raw_names raw.columns) p ≡ Some found.2.0 = ap (slice_get (raw_names raw.columns)) (sym place) ∙ found.2.1 in
          ap (λ (o : Option (Option (List ℕ))). unwrap_or o None) (column_at p (slice_get raw.columns p) refl found.2.0 (sym (slice_get-map (λ (c : RawColumn). c.name) raw.columns p) ∙ named) found.2.2)

  texts_same : (names : List (List ℕ)) → list_all (is_key_name raw) names ≡ true → map (text_named raw a) names ≡ map (text_named raw b) names
  texts_same [] all = refl
  texts_same (name ∷ names) all =
      ap (λ (x : Option (List ℕ)). x ∷ map (text_named raw a) names) (text_same name (and_left (is_key_name raw name) _ all))
      ∙ ap (λ (l : RawKey). text_named raw b name ∷ l) (texts_same names (and_right (is_key_name raw name) _ all))

  -- each name of the key is one
  all_from : (front names : List (List ℕ)) → raw.key ≡ front ++ names → list_all (is_key_name raw) names ≡ true
  all_from front [] is = refl
  all_from front (name ∷ names) is =
      and_both (is_key_name raw name) (list_all (is_key_name raw) names) (ap (list_any (bytes_eq name)) is ∙ any_here (bytes_eq name) front name names (text_itself name))
      (all_from (front ++ name ∷ []) names (is ∙ sym (append_assoc front (name ∷ []) names)))

  pub keys_agree : raw_key raw a ≡ raw_key raw b
  keys_agree = texts_same raw.key (all_from [] raw.key refl)

-- ---- the cells of an update

-- a cell of the key is always sent
key_sent : (table : DemoTable) (c : RawColumn) (x y : Option (List ℕ)) → is_key_name (raw_of table) c.name ≡ true → is_unsent_text table c x y ≡ false
key_sent table c None y key = refl
key_sent table c (Some x) None key = refl
key_sent table c (Some x) (Some y) key = ap (λ (k : Bool). not k && not (is_fixed (column_type c)) && bytes_eq x y && nat_le table.toast (length y)) key

given_back : (f : Option (Option (List ℕ))) (y : Option (List ℕ)) → new_text f (sent_cell y) ≡ Given y
given_back f None = refl
given_back f (Some text) = refl

-- so it is given as the row has it
key_given : (table : DemoTable) (t : LogTable) (whole : Bool) (before : Option RawRow) (place : ℕ) (columns : List RawColumn) (old row : Texts) (p : ℕ) (column : RawColumn) → length old ≡ length columns → length row ≡ length columns
    → slice_get columns p ≡ Some column → is_key_name (raw_of table) column.name ≡ true → slice_get (new_texts t whole before place columns (new_cells table columns old row)) p ≡ option_map Given (slice_get row p)
key_given table t whole before place [] old row p column wo wr there key = cc
key_given table t whole before place (c ∷ columns) [] row p column wo wr there key = absurd (omega (arith, wo))
key_given table t whole before place (c ∷ columns) (x ∷ old) [] p column wo wr there key = absurd (omega (arith, wr))
key_given table t whole before place (c ∷ columns) (x ∷ old) (y ∷ row) zero column wo wr there key =
    let e : c ≡ column = cc in
    let sent : is_unsent_text table c x y ≡ false = key_sent table c x y (ap (λ (z : RawColumn). is_key_name (raw_of table) z.name) e ∙ key) in
    ap (λ (b : Bool). Some (new_text (filling_text t whole before c place) (if b then cell.Unchanged else sent_cell y))) sent
    ∙ ap (λ (z : RawCell). Some z) (given_back (filling_text t whole before c place) y)
key_given table t whole before place (c ∷ columns) (x ∷ old) (y ∷ row) (suc p) column wo wr there key =
    key_given table t whole before (place + 1) columns old row p column (omega (arith, wo)) (omega (arith, wr)) there key

-- a given cell stays as it is where the others are settled
settled_given : (cells : List RawCell) (row : Texts) (p : ℕ) (y : Option (List ℕ)) → slice_get cells p ≡ Some (Given y) → slice_get (settled cells row) p ≡ Some (Given y)
settled_given [] row p y is = cc
settled_given (Given text ∷ cells) [] zero y is = is
settled_given (Unchanged ∷ cells) [] zero y is = cc
settled_given (Given text ∷ cells) (x ∷ row) zero y is = is
settled_given (Unchanged ∷ cells) (x ∷ row) zero y is = cc
settled_given (Given text ∷ cells) [] (suc p) y is = settled_given cells [] p y is
settled_given (Unchanged ∷ cells) [] (suc p) y is = settled_given cells [] p y is
settled_given (Given text ∷ cells) (x ∷ row) (suc p) y is = settled_given cells row p y is
settled_given (Unchanged ∷ cells) (x ∷ row) (suc p) y is = settled_given cells row p y is

-- inside its length a row has a cell
there_is : (row : Texts) (p : ℕ) → p < length row → (y : Option (List ℕ)) × (slice_get row p ≡ Some y)
there_is [] p lt = absurd (omega arith)
there_is (x ∷ row) zero lt = (x, refl)
there_is (x ∷ row) (suc p) lt = there_is row p (omega arith)

not_false : (b : Bool) → not b ≡ false → b ≡ true
not_false true is = refl
not_false false is = cc

-- ---- how long the cells and the old row are

length-new_texts : (t : LogTable) (whole : Bool) (before : Option RawRow) (place : ℕ) (columns : List RawColumn) (cells : List TupleCell) → length (new_texts t whole before place columns cells) ≡ length cells
length-new_texts t whole before place [] [] = refl
length-new_texts t whole before place [] (c ∷ cells) = ap suc (length-new_texts t whole before (place + 1) [] cells)
length-new_texts t whole before place (column ∷ columns) [] = refl
length-new_texts t whole before place (column ∷ columns) (c ∷ cells) = ap suc (length-new_texts t whole before (place + 1) columns cells)

pub length-new_cells : (table : DemoTable) (columns : List RawColumn) (old row : Texts) → length old ≡ length columns → length row ≡ length columns → length (new_cells table columns old row) ≡ length columns
length-new_cells table [] old row wo wr = refl
length-new_cells table (c ∷ columns) [] row wo wr = absurd (omega (arith, wo))
length-new_cells table (c ∷ columns) (x ∷ old) [] wo wr = absurd (omega (arith, wr))
length-new_cells table (c ∷ columns) (x ∷ old) (y ∷ row) wo wr = ap suc (length-new_cells table columns old row (omega (arith, wo)) (omega (arith, wr)))

length-settled : (cells : List RawCell) (row : Texts) → length (settled cells row) ≡ length cells
length-settled [] row = refl
length-settled (Given text ∷ cells) [] = ap suc (length-settled cells [])
length-settled (Unchanged ∷ cells) [] = ap suc (length-settled cells [])
length-settled (Given text ∷ cells) (x ∷ row) = ap suc (length-settled cells row)
length-settled (Unchanged ∷ cells) (x ∷ row) = ap suc (length-settled cells row)

length-settled_if : (moved : Bool) (was : Option Texts) (cells : List RawCell) → length (settled_if_moved moved was cells) ≡ length cells
length-settled_if moved None cells = refl
length-settled_if false (Some row) cells = refl
length-settled_if true (Some row) cells = length-settled cells row

length-old_texts : (t : LogTable) (whole : Bool) (columns : List RawColumn) (cells : List TupleCell) → length (old_texts t whole columns cells) ≡ length cells
length-old_texts t whole [] [] = refl
length-old_texts t whole [] (c ∷ cells) = ap suc (length-old_texts t whole [] cells)
length-old_texts t whole (column ∷ columns) [] = refl
length-old_texts t whole (column ∷ columns) (c ∷ cells) = ap suc (length-old_texts t whole columns cells)

pub length-key_cells : (raw : RawTable) (columns : List RawColumn) (row : Texts) → length row ≡ length columns → length (key_cells raw columns row) ≡ length columns
length-key_cells raw [] row same = refl
length-key_cells raw (c ∷ columns) [] same = absurd (omega (arith, same))
length-key_cells raw (c ∷ columns) (x ∷ row) same = ap suc (length-key_cells raw columns row (omega (arith, same)))

-- an old row is as wide as the row
pub wide_old : (table : DemoTable) (row : Texts) → length row ≡ length (raw_of table).columns → length (old_row_in (log_table table) (old_tuple table row)).cells ≡ length (raw_of table).columns
wide_old table row same = by table.full
  where
    by : (b : Bool) → length (old_row_in (log_table table) (if b then tuple.Whole (whole_tuple row) else tuple.Key (key_tuple (raw_of table) row))).cells ≡ length (raw_of table).columns
    by true = length-old_texts (log_table table) true (raw_of table).columns (map sent_cell row) ∙ (length-map row sent_cell ∙ same)
    by false = length-old_texts (log_table table) false (raw_of table).columns (key_cells (raw_of table) (raw_of table).columns row) ∙ length-key_cells (raw_of table) (raw_of table).columns row same

-- settled cells are all given
all_settled : (cells : List RawCell) (row : Texts) → length cells ≡ length row → IsSome (all_texts (settled cells row))
all_settled [] row same = refl
all_settled (Given text ∷ cells) [] same = absurd (omega (arith, same))
all_settled (Unchanged ∷ cells) [] same = absurd (omega (arith, same))
all_settled (Given text ∷ cells) (x ∷ row) same = still (all_texts (settled cells row)) (all_settled cells row (omega (arith, same)))
  where
    still : (o : Option Texts) → IsSome o → IsSome (option_map (λ (r : Texts). text ∷ r) o)
    still None some = some
    still (Some r) some = refl
all_settled (Unchanged ∷ cells) (x ∷ row) same = still (all_texts (settled cells row)) (all_settled cells row (omega (arith, same)))
  where
    still : (o : Option Texts) → IsSome o → IsSome (option_map (λ (r : Texts). x ∷ r) o)
    still None some = some
    still (Some r) some = refl

-- ---- the cells beside the row before and the row after

-- the new text, or none where the text stays
abbrev pub IsCellOf : Option (List ℕ) → Option (List ℕ) → RawCell → Type 0
IsCellOf x y c = (c ≡ Given y) ⊎ ((c ≡ Unchanged) × (x ≡ y))

abbrev pub AreCellsOf : List RawCell → Texts → Texts → Type 0
AreCellsOf [] [] [] = Unit {0}
AreCellsOf [] [] (y ∷ row) = ⊥
AreCellsOf [] (x ∷ before) row = ⊥
AreCellsOf (c ∷ cells) [] row = ⊥
AreCellsOf (c ∷ cells) (x ∷ before) [] = ⊥
AreCellsOf (c ∷ cells) (x ∷ before) (y ∷ row) = IsCellOf x y c × AreCellsOf cells before row

left_same : (table : DemoTable) (c : RawColumn) (x y : Option (List ℕ)) → is_unsent_text table c x y ≡ true → x ≡ y
left_same table c None y left = cc
left_same table c (Some x) None left = cc
left_same table c (Some x) (Some y) left =
    let most : (not (is_key_name (raw_of table) c.name) && not (is_fixed (column_type c)) && bytes_eq x y) ≡ true = and_left _ (nat_le table.toast (length y)) left in
    ap (λ (t : List ℕ). Some t) (same_text x y (and_right _ (bytes_eq x y) most))

pub left_other : (table : DemoTable) (c : RawColumn) (x y : Option (List ℕ)) → is_unsent_text table c x y ≡ true → is_key_name (raw_of table) c.name ≡ false
left_other table c x y left = by (is_key_name (raw_of table) c.name) refl
  where
    by : (b : Bool) → is_key_name (raw_of table) c.name ≡ b → b ≡ false
    by true key = let contra : true ≡ false = sym left ∙ key_sent table c x y key in cc
    by false other = refl

module _ (table : DemoTable) (t : LogTable) (whole : Bool) (old : Option RawRow) (all : List RawColumn) (from : Texts)
    (fill : (p : ℕ) (c : RawColumn) (x y : Option (List ℕ)) → slice_get from p ≡ Some x → is_unsent_text table c x y ≡ true → (filling_text t whole old c p ≡ None) ⊎ (filling_text t whole old c p ≡ Some x)) where
  cells_are : (place : ℕ) (columns : List RawColumn) (before row : Texts) → ((j : ℕ) → slice_get from (place + j) ≡ slice_get before j) → length before ≡ length columns → length row ≡ length columns
      → AreCellsOf (new_texts t whole old place columns (new_cells table columns before row)) before row
  cells_are place [] [] [] at wo wr = tt
  cells_are place [] [] (y ∷ row) at wo wr = absurd (omega (arith, wr))
  cells_are place [] (x ∷ before) row at wo wr = absurd (omega (arith, wo))
  cells_are place (c ∷ columns) [] row at wo wr = absurd (omega (arith, wo))
  cells_are place (c ∷ columns) (x ∷ before) [] at wo wr = absurd (omega (arith, wr))
  cells_are place (c ∷ columns) (x ∷ before) (y ∷ row) at wo wr =
      (one (is_unsent_text table c x y) refl, cells_are (place + 1) columns before row later (omega (arith, wo)) (omega (arith, wr)))
    where
      here : slice_get from place ≡ Some x
      here = let e : place ≡ place + 0 = omega arith in ap (slice_get from) e ∙ at 0

      later : (j : ℕ) → slice_get from ((place + 1) + j) ≡ slice_get before j
      later j = let e : (place + 1) + j ≡ place + suc j = omega arith in ap (slice_get from) e ∙ at (suc j)

      one : (l : Bool) → is_unsent_text table c x y ≡ l → IsCellOf x y (new_text (filling_text t whole old c place) (if l then cell.Unchanged else sent_cell y))
      one true left = elim (fill place c x y here left) [
        | inl none ↦ inr (ap filled_text none, left_same table c x y left)
        | inr some ↦ inl (ap filled_text some ∙ ap (λ (z : Option (List ℕ)). Given z) (left_same table c x y left))
      ]
      one false sent = inl (given_back (filling_text t whole old c place) y)

overlaid_is : (cells : List RawCell) (before row : Texts) → AreCellsOf cells before row → overlaid cells before ≡ row
overlaid_is [] [] [] are = refl
overlaid_is [] [] (y ∷ row) are = absurd are
overlaid_is [] (x ∷ before) row are = absurd are
overlaid_is (c ∷ cells) [] row are = absurd are
overlaid_is (c ∷ cells) (x ∷ before) [] are = absurd are
overlaid_is (c ∷ cells) (x ∷ before) (y ∷ row) are = by are.0 (overlaid_is cells before row are.1)
  where
    by : IsCellOf x y c → overlaid cells before ≡ row → overlaid (c ∷ cells) (x ∷ before) ≡ y ∷ row
    by (inl given) rest = ap (λ (z : RawCell). overlaid (z ∷ cells) (x ∷ before)) given ∙ ap (λ (l : Texts). y ∷ l) rest
    by (inr stays) rest = ap (λ (z : RawCell). overlaid (z ∷ cells) (x ∷ before)) stays.0 ∙ (ap (λ (z : Option (List ℕ)). z ∷ overlaid cells before) stays.1 ∙ ap (λ (l : Texts). y ∷ l) rest)

all_is : (cells : List RawCell) (before row whole : Texts) → AreCellsOf cells before row → all_texts cells ≡ Some whole → whole ≡ row
all_is [] [] [] whole are is = let e : [] ≡ whole = cc in sym e
all_is [] [] (y ∷ row) whole are is = absurd are
all_is [] (x ∷ before) row whole are is = absurd are
all_is (c ∷ cells) [] row whole are is = absurd are
all_is (c ∷ cells) (x ∷ before) [] whole are is = absurd are
all_is (c ∷ cells) (x ∷ before) (y ∷ row) whole are is = by are.0 (all_texts cells) refl (λ l rest. all_is cells before row l are.1 rest)
  where
    by : IsCellOf x y c → (o : Option Texts) → all_texts cells ≡ o → ((l : Texts) → all_texts cells ≡ Some l → l ≡ row) → whole ≡ y ∷ row
    by (inr stays) o rest later = let none : all_texts (c ∷ cells) ≡ None = ap (λ (z : RawCell). all_texts (z ∷ cells)) stays.0 in let contra : None ≡ Some whole = sym none ∙ is in cc
    by (inl given) None rest later =
        let none : all_texts (c ∷ cells) ≡ None = ap (λ (z : RawCell). all_texts (z ∷ cells)) given ∙ ap (option_map (λ (l : Texts). y ∷ l)) rest in
        let contra : None ≡ Some whole = sym none ∙ is in
        cc
    by (inl given) (Some l) rest later =
        let told : Some (y ∷ l) ≡ Some whole = sym (ap (λ (z : RawCell). all_texts (z ∷ cells)) given ∙ ap (option_map (λ (m : Texts). y ∷ m)) rest) ∙ is in
        let e : y ∷ l ≡ whole = cc in
        sym e ∙ ap (λ (m : Texts). y ∷ m) (later l rest)

settled_is : (cells : List RawCell) (before row : Texts) → AreCellsOf cells before row → all_texts (settled cells before) ≡ Some row
settled_is [] [] [] are = refl
settled_is [] [] (y ∷ row) are = absurd are
settled_is [] (x ∷ before) row are = absurd are
settled_is (c ∷ cells) [] row are = absurd are
settled_is (c ∷ cells) (x ∷ before) [] are = absurd are
settled_is (c ∷ cells) (x ∷ before) (y ∷ row) are = by are.0 (settled_is cells before row are.1)
  where
    by : IsCellOf x y c → all_texts (settled cells before) ≡ Some row → all_texts (settled (c ∷ cells) (x ∷ before)) ≡ Some (y ∷ row)
    by (inl given) rest = ap (λ (z : RawCell). all_texts (settled (z ∷ cells) (x ∷ before))) given ∙ ap (option_map (λ (l : Texts). y ∷ l)) rest
    by (inr stays) rest =
        ap (λ (z : RawCell). all_texts (settled (z ∷ cells) (x ∷ before))) stays.0
        ∙ (ap (option_map (λ (l : Texts). x ∷ l)) rest ∙ ap (λ (z : Option (List ℕ)). Some (z ∷ row)) stays.1)

-- so do settled cells
settled_of : (cells : List RawCell) (before row : Texts) → AreCellsOf cells before row → AreCellsOf (settled cells before) before row
settled_of [] [] [] are = tt
settled_of [] [] (y ∷ row) are = absurd are
settled_of [] (x ∷ before) row are = absurd are
settled_of (c ∷ cells) [] row are = absurd are
settled_of (c ∷ cells) (x ∷ before) [] are = absurd are
settled_of (c ∷ cells) (x ∷ before) (y ∷ row) are = by are.0 (settled_of cells before row are.1)
  where
    by : IsCellOf x y c → AreCellsOf (settled cells before) before row → AreCellsOf (settled (c ∷ cells) (x ∷ before)) (x ∷ before) (y ∷ row)
    by (inl given) rest = subst (λ (z : RawCell). AreCellsOf (settled (z ∷ cells) (x ∷ before)) (x ∷ before) (y ∷ row)) (sym given) (inl refl, rest)
    by (inr stays) rest = subst (λ (z : RawCell). AreCellsOf (settled (z ∷ cells) (x ∷ before)) (x ∷ before) (y ∷ row)) (sym stays.0) (inl (ap Given stays.1), rest)

-- ---- texts of rows that are UTF-8

cells_ranged : (cells : List RawCell) (before row : Texts) → AreCellsOf cells before row → AreTextsInRange row → AllByRecursion IsRawCellInRange cells
cells_ranged [] [] [] are range = tt
cells_ranged [] [] (y ∷ row) are range = absurd are
cells_ranged [] (x ∷ before) row are range = absurd are
cells_ranged (c ∷ cells) [] row are range = absurd are
cells_ranged (c ∷ cells) (x ∷ before) [] are range = absurd are
cells_ranged (c ∷ cells) (x ∷ before) (y ∷ row) are range = (by are.0, cells_ranged cells before row are.1 range.1)
  where
    by : IsCellOf x y c → IsRawCellInRange c
    by (inl given) = subst IsRawCellInRange (sym given) range.0
    by (inr stays) = subst IsRawCellInRange (sym stays.0) tt

settled_ranged : (cells : List RawCell) (before row : Texts) → AreCellsOf cells before row → AreTextsInRange row → AllByRecursion IsRawCellInRange (settled cells before)
settled_ranged [] [] [] are range = tt
settled_ranged [] [] (y ∷ row) are range = absurd are
settled_ranged [] (x ∷ before) row are range = absurd are
settled_ranged (c ∷ cells) [] row are range = absurd are
settled_ranged (c ∷ cells) (x ∷ before) [] are range = absurd are
settled_ranged (c ∷ cells) (x ∷ before) (y ∷ row) are range = by are.0 (settled_ranged cells before row are.1 range.1)
  where
    by : IsCellOf x y c → AllByRecursion IsRawCellInRange (settled cells before) → AllByRecursion IsRawCellInRange (settled (c ∷ cells) (x ∷ before))
    by (inl given) rest = subst (λ (z : RawCell). AllByRecursion IsRawCellInRange (settled (z ∷ cells) (x ∷ before))) (sym given) (range.0, rest)
    by (inr stays) rest = subst (λ (z : RawCell). AllByRecursion IsRawCellInRange (settled (z ∷ cells) (x ∷ before))) (sym stays.0) (subst (λ (z : Option (List ℕ)). IfSome z IsUtf8) (sym stays.1) range.0, rest)

key_ranged : (t : LogTable) (raw : RawTable) (columns : List RawColumn) (row : Texts) → AreTextsInRange row → AreTextsInRange (old_texts t false columns (key_cells raw columns row))
key_ranged t raw [] row range = tt
key_ranged t raw (c ∷ columns) [] range = tt
key_ranged t raw (c ∷ columns) (x ∷ row) range = (by (is_in_identity t c) (is_key_name raw c.name) x range.0, key_ranged t raw columns row range.1)
  where
    by : (a b : Bool) (z : Option (List ℕ)) → IfSome z IsUtf8 → IfSome (if a then sent_text (if b then sent_cell z else cell.Null) else None) IsUtf8
    by true true None fine = tt
    by true true (Some text) fine = fine
    by true false z fine = tt
    by false b z fine = tt

-- the old row of a message has texts of the row
pub old_ranged : (table : DemoTable) (row : Texts) → AreTextsInRange row → AreTextsInRange (old_row_in (log_table table) (old_tuple table row)).cells
old_ranged table row range = by table.full
  where
    by : (b : Bool) → AreTextsInRange (old_row_in (log_table table) (if b then tuple.Whole (whole_tuple row) else tuple.Key (key_tuple (raw_of table) row))).cells
    by true = subst AreTextsInRange (sym (whole_texts (log_table table) (raw_of table).columns (map sent_cell row) ∙ row_back row)) range
    by false = key_ranged (log_table table) (raw_of table) (raw_of table).columns row range

-- ---- the change

-- An update of this table, from the key of one row to the key of another. Where it moves the key of the row that is there, each
-- cell is given.
pub record IsUpdateOf (table : DemoTable) (rows : TextRows) (before row : Texts) (changes : List RawChange) : Type 0 where
  pub from : RawKey
  pub old : Option RawRow
  pub cells : List RawCell
  pub is : changes ≡ Update table.info.name from old cells ∷ []
  pub from_key : key_from (raw_of table) from ≡ key_in (raw_of table) before
  pub to_key : key_in (raw_of table) (map given_text cells) ≡ key_in (raw_of table) row
  pub from_texts : (from ≡ raw_key (raw_of table) before) ⊎ (from ≡ raw_key (raw_of table) row)
  pub to_texts : raw_key (raw_of table) (map given_text cells) ≡ raw_key (raw_of table) row
  pub wide : length cells ≡ length (raw_of table).columns
  pub old_row : IfSome old (λ r. length r.cells ≡ length (raw_of table).columns)
  pub whole : moves table before row ≡ true → rows table.info.name (key_in (raw_of table) before) ≡ Some before → IsSome (all_texts cells)
  pub old_fine : AreTextsInRange before → IfSome old (λ r. AreTextsInRange r.cells)
  pub cells_fine : rows table.info.name (key_in (raw_of table) before) ≡ Some before → AreTextsInRange row → AllByRecursion IsRawCellInRange cells
  pub said : rows table.info.name (key_in (raw_of table) before) ≡ Some before → AreCellsOf cells before row
  pub subsequent : rows table.info.name (key_in (raw_of table) before) ≡ Some before → (was : Option Texts) → (moves table before row ≡ true) ⊎ (was ≡ Some before) → updated_texts (all_texts cells) cells was ≡ Some row

module _ (table : DemoTable) (before row : Texts) (wo : length before ≡ length (raw_of table).columns) (wr : length row ≡ length (raw_of table).columns) where
  abbrev sent_old : Option OldTuple
  sent_old = optional_old table (moves table before row) before

  abbrev old_of : Option RawRow
  old_of = option_map (old_row_in (log_table table)) (optional_old table (moves table before row) before)

  abbrev cells_of : List RawCell
  cells_of = new_texts (log_table table) (is_whole (optional_old table (moves table before row) before)) (option_map (old_row_in (log_table table)) (optional_old table (moves table before row) before)) 0 (raw_of table).columns (new_cells table (raw_of table).columns before row)

  cell_given : (p : ℕ) (column : RawColumn) → slice_get (raw_of table).columns p ≡ Some column → is_key_name (raw_of table) column.name ≡ true → slice_get cells_of p ≡ option_map Given (slice_get row p)
  cell_given p column there key = key_given table (log_table table) (is_whole sent_old) old_of 0 (raw_of table).columns before row p column wo wr there key

  -- the key that the sent cells lead to
  sent_key : raw_key (raw_of table) (map given_text cells_of) ≡ raw_key (raw_of table) row
  sent_key = keys_agree (raw_of table) (map given_text cells_of) row (λ p column there key. slice_get-map given_text cells_of p ∙ ap (option_map given_text) (cell_given p column there key) ∙ back (slice_get row p))
    where
      back : (o : Option (Option (List ℕ))) → option_map given_text (option_map Given o) ≡ o
      back None = refl
      back (Some y) = refl

  -- settled cells lead there too
  settled_key : (moved : Bool) (was : Option Texts) → raw_key (raw_of table) (map given_text (settled_if_moved moved was cells_of)) ≡ raw_key (raw_of table) row
  settled_key moved None = sent_key
  settled_key false (Some r) = sent_key
  settled_key true (Some r) = keys_agree (raw_of table) (map given_text (settled cells_of r)) row (λ p column there key.
      let whole = there_is row p (subst (λ (n : ℕ). p < n) (sym wr) (slice_get-lt (raw_of table).columns p column there)) in
      let given : slice_get cells_of p ≡ Some (Given whole.0) = cell_given p column there key ∙ ap (option_map Given) whole.1 in
      slice_get-map given_text (settled cells_of r) p ∙ ap (option_map given_text) (settled_given cells_of r p whole.0 given) ∙ sym whole.1)

  -- the key that the update is from
  key_was : key_from (raw_of table) (raw_key_before (raw_of table) old_of cells_of) ≡ key_in (raw_of table) before
  key_was = by (table.full || moves table before row) refl
    where
      stays : moves table before row ≡ false → key_in (raw_of table) before ≡ key_in (raw_of table) row
      stays same = same_key-is (key_in (raw_of table) before) (key_in (raw_of table) row) (not_false (same_key (key_in (raw_of table) before) (key_in (raw_of table) row)) same)

      by : (b : Bool) → (table.full || moves table before row) ≡ b → key_from (raw_of table) (raw_key_before (raw_of table) (option_map (old_row_in (log_table table)) (if b then Some (old_tuple table before) else None)) cells_of) ≡ key_in (raw_of table) before
      by true is = ap (key_from (raw_of table)) (old_key table before)
      by false is = ap (key_from (raw_of table)) sent_key ∙ sym (stays (or_false table.full (moves table before row) is).1)

  -- its texts are those of the row that it is told by
  texts_was : (raw_key_before (raw_of table) old_of cells_of ≡ raw_key (raw_of table) before) ⊎ (raw_key_before (raw_of table) old_of cells_of ≡ raw_key (raw_of table) row)
  texts_was = by (table.full || moves table before row)
    where
      by : (b : Bool) → (raw_key_before (raw_of table) (option_map (old_row_in (log_table table)) (if b then Some (old_tuple table before) else None)) cells_of ≡ raw_key (raw_of table) before)
          ⊎ (raw_key_before (raw_of table) (option_map (old_row_in (log_table table)) (if b then Some (old_tuple table before) else None)) cells_of ≡ raw_key (raw_of table) row)
      by true = inl (old_key table before)
      by false = inr sent_key

  old_there : IfSome old_of (λ r. length r.cells ≡ length (raw_of table).columns)
  old_there = by (table.full || moves table before row)
    where
      by : (b : Bool) → IfSome (option_map (old_row_in (log_table table)) (if b then Some (old_tuple table before) else None)) (λ r. length r.cells ≡ length (raw_of table).columns)
      by true = wide_old table before wo
      by false = tt

  cells_long : length cells_of ≡ length (raw_of table).columns
  cells_long =
      length-new_texts (log_table table) (is_whole sent_old) old_of 0 (raw_of table).columns (new_cells table (raw_of table).columns before row)
      ∙ length-new_cells table (raw_of table).columns before row wo wr

  -- what the old row fills in where a text is left out: nothing, or the text that stays
  filled : (p : ℕ) (c : RawColumn) (x y : Option (List ℕ)) → slice_get before p ≡ Some x → is_unsent_text table c x y ≡ true
      → (filling_text (log_table table) (is_whole sent_old) old_of c p ≡ None) ⊎ (filling_text (log_table table) (is_whole sent_old) old_of c p ≡ Some x)
  filled p c x y there left = by (table.full || moves table before row) table.full refl
    where
      whole_back : (old_row_in (log_table table) (tuple.Whole (whole_tuple before))).cells ≡ before
      whole_back = whole_texts (log_table table) (raw_of table).columns (map sent_cell before) ∙ row_back before

      by : (b f : Bool) → table.full ≡ f
          → (filling_text (log_table table) (is_whole (if b then Some (if f then tuple.Whole (whole_tuple before) else tuple.Key (key_tuple (raw_of table) before)) else None)) (option_map (old_row_in (log_table table)) (if b then Some (if f then tuple.Whole (whole_tuple before) else tuple.Key (key_tuple (raw_of table) before)) else None)) c p ≡ None)
          ⊎ (filling_text (log_table table) (is_whole (if b then Some (if f then tuple.Whole (whole_tuple before) else tuple.Key (key_tuple (raw_of table) before)) else None)) (option_map (old_row_in (log_table table)) (if b then Some (if f then tuple.Whole (whole_tuple before) else tuple.Key (key_tuple (raw_of table) before)) else None)) c p ≡ Some x)
      by false f is = inl refl
      by true true is = inr (ap (λ (l : Texts). slice_get l p) whole_back ∙ there)
      by true false is = inl (ap (λ (b : Bool). if b || is_key_name (raw_of table) c.name then slice_get (old_row_in (log_table table) (tuple.Key (key_tuple (raw_of table) before))).cells p else None) is
          ∙ ap (λ (b : Bool). if b then slice_get (old_row_in (log_table table) (tuple.Key (key_tuple (raw_of table) before))).cells p else None) (left_other table c x y left))

  cells_match : AreCellsOf cells_of before row
  cells_match = cells_are table (log_table table) (is_whole sent_old) old_of (raw_of table).columns before filled 0 (raw_of table).columns before row (λ j. (let e : 0 + j ≡ j = omega arith in ap (slice_get before) e)) wo wr

  abbrev flag : Bool
  flag = not (same_key (key_from (raw_of table) (raw_key_before (raw_of table) old_of cells_of)) (key_in (raw_of table) (map given_text cells_of)))

  flag_is : flag ≡ moves table before row
  flag_is =
      ap (λ (k : Key). not (same_key k (key_in (raw_of table) (map given_text cells_of)))) key_was
      ∙ ap (λ (k : RawKey). not (same_key (key_in (raw_of table) before) (key_from (raw_of table) k))) sent_key

  -- the row at the key after it
  row_since : (b : Bool) (was : Option Texts) → (b ≡ true) ⊎ (was ≡ Some before) → updated_texts (all_texts (settled_if_moved b (Some before) cells_of)) (settled_if_moved b (Some before) cells_of) was ≡ Some row
  row_since true was why = ap (λ (o : Option Texts). updated_texts o (settled cells_of before) was) (settled_is cells_of before row cells_match)
  row_since false was (inl moved) = cc
  row_since false was (inr there) = ap (updated_texts (all_texts cells_of) cells_of) there ∙ by (all_texts cells_of) refl
    where
      by : (o : Option Texts) → all_texts cells_of ≡ o → updated_texts o cells_of (Some before) ≡ Some row
      by None is = ap (λ (l : Texts). Some l) (overlaid_is cells_of before row cells_match)
      by (Some whole) is = ap (λ (l : Texts). Some l) (all_is cells_of before row whole cells_match is)

  row_there : (rows : TextRows) → rows table.info.name (key_in (raw_of table) before) ≡ Some before → (was : Option Texts) → (moves table before row ≡ true) ⊎ (was ≡ Some before)
      → updated_texts (all_texts (settled_if_moved flag (rows table.info.name (key_from (raw_of table) (raw_key_before (raw_of table) old_of cells_of))) cells_of)) (settled_if_moved flag (rows table.info.name (key_from (raw_of table) (raw_key_before (raw_of table) old_of cells_of))) cells_of) was ≡ Some row
  row_there rows there was why =
      let here : rows table.info.name (key_from (raw_of table) (raw_key_before (raw_of table) old_of cells_of)) ≡ Some before = ap (rows table.info.name) key_was ∙ there in
      ap (λ (o : Option Texts). updated_texts (all_texts (settled_if_moved flag o cells_of)) (settled_if_moved flag o cells_of) was) here ∙ row_since flag was (turned why)
    where
      turned : (moves table before row ≡ true) ⊎ (was ≡ Some before) → (flag ≡ true) ⊎ (was ≡ Some before)
      turned (inl moved) = inl (flag_is ∙ moved)
      turned (inr same) = inr same

  old_in_range : AreTextsInRange before → IfSome old_of (λ r. AreTextsInRange r.cells)
  old_in_range range = by (table.full || moves table before row)
    where
      by : (b : Bool) → IfSome (option_map (old_row_in (log_table table)) (if b then Some (old_tuple table before) else None)) (λ r. AreTextsInRange r.cells)
      by true = old_ranged table before range
      by false = tt

  cells_in_range : (rows : TextRows) → rows table.info.name (key_in (raw_of table) before) ≡ Some before → AreTextsInRange row
      → AllByRecursion IsRawCellInRange (settled_if_moved flag (rows table.info.name (key_from (raw_of table) (raw_key_before (raw_of table) old_of cells_of))) cells_of)
  cells_in_range rows there range =
      let here : rows table.info.name (key_from (raw_of table) (raw_key_before (raw_of table) old_of cells_of)) ≡ Some before = ap (rows table.info.name) key_was ∙ there in
      subst (λ (o : Option Texts). AllByRecursion IsRawCellInRange (settled_if_moved flag o cells_of)) (sym here) (by flag)
    where
      by : (b : Bool) → AllByRecursion IsRawCellInRange (settled_if_moved b (Some before) cells_of)
      by true = settled_ranged cells_of before row cells_match range
      by false = cells_ranged cells_of before row cells_match range

  cells_said : (rows : TextRows) → rows table.info.name (key_in (raw_of table) before) ≡ Some before
      → AreCellsOf (settled_if_moved flag (rows table.info.name (key_from (raw_of table) (raw_key_before (raw_of table) old_of cells_of))) cells_of) before row
  cells_said rows there =
      let here : rows table.info.name (key_from (raw_of table) (raw_key_before (raw_of table) old_of cells_of)) ≡ Some before = ap (rows table.info.name) key_was ∙ there in
      subst (λ (o : Option Texts). AreCellsOf (settled_if_moved flag o cells_of) before row) (sym here) (by flag)
    where
      by : (b : Bool) → AreCellsOf (settled_if_moved b (Some before) cells_of) before row
      by true = settled_of cells_of before row cells_match
      by false = cells_match

  -- where the key moves, and the row is there, each cell is given
  all_given : (rows : TextRows) → moves table before row ≡ true → rows table.info.name (key_in (raw_of table) before) ≡ Some before
      → IsSome (all_texts (settled_if_moved (not (same_key (key_from (raw_of table) (raw_key_before (raw_of table) old_of cells_of)) (key_in (raw_of table) (map given_text cells_of)))) (rows table.info.name (key_from (raw_of table) (raw_key_before (raw_of table) old_of cells_of))) cells_of))
  all_given rows moved there =
      let flag : not (same_key (key_from (raw_of table) (raw_key_before (raw_of table) old_of cells_of)) (key_in (raw_of table) (map given_text cells_of))) ≡ true =
      ap (λ (k : Key). not (same_key k (key_in (raw_of table) (map given_text cells_of)))) key_was
      ∙ (ap (λ (k : RawKey). not (same_key (key_in (raw_of table) before) (key_from (raw_of table) k))) sent_key ∙ moved) in
      let was : rows table.info.name (key_from (raw_of table) (raw_key_before (raw_of table) old_of cells_of)) ≡ Some before = ap (rows table.info.name) key_was ∙ there in
      subst (λ (o : Option Texts). IsSome (all_texts (settled_if_moved (not (same_key (key_from (raw_of table) (raw_key_before (raw_of table) old_of cells_of)) (key_in (raw_of table) (map given_text cells_of)))) o cells_of))) (sym was)
      (subst (λ (b : Bool). IsSome (all_texts (settled_if_moved b (Some before) cells_of))) (sym flag) (all_settled cells_of before (cells_long ∙ sym wo)))

  pub update_change : (tables : List LogTable) (rows : TextRows) (oid : ℕ) → table_at tables oid ≡ Some (log_table table) → IsUpdateOf table rows before row (raw_changes tables rows (update_message oid table before row))
  update_change tables rows oid there = record {
    from = raw_key_before (raw_of table) old_of cells_of;
    old = old_of;
    cells = settled_if_moved (not (same_key (key_from (raw_of table) (raw_key_before (raw_of table) old_of cells_of)) (key_in (raw_of table) (map given_text cells_of)))) (rows table.info.name (key_from (raw_of table) (raw_key_before (raw_of table) old_of cells_of))) cells_of;
    is = ap (λ (o : Option LogTable). list_of (option_map (λ (x : LogTable). update_of x rows sent_old (record { cells = new_cells table (raw_of table).columns before row })) o)) there;
    from_key = key_was;
    to_key = ap (key_from (raw_of table)) (settled_key (not (same_key (key_from (raw_of table) (raw_key_before (raw_of table) old_of cells_of)) (key_in (raw_of table) (map given_text cells_of)))) (rows table.info.name (key_from (raw_of table) (raw_key_before (raw_of table) old_of cells_of))));
    from_texts = texts_was;
    to_texts = settled_key (not (same_key (key_from (raw_of table) (raw_key_before (raw_of table) old_of cells_of)) (key_in (raw_of table) (map given_text cells_of)))) (rows table.info.name (key_from (raw_of table) (raw_key_before (raw_of table) old_of cells_of)));
    wide = length-settled_if (not (same_key (key_from (raw_of table) (raw_key_before (raw_of table) old_of cells_of)) (key_in (raw_of table) (map given_text cells_of)))) (rows table.info.name (key_from (raw_of table) (raw_key_before (raw_of table) old_of cells_of))) cells_of ∙ cells_long;
    old_row = old_there;
    whole = all_given rows;
    old_fine = old_in_range;
    cells_fine = cells_in_range rows;
    said = cells_said rows;
    subsequent = row_there rows;
  }
