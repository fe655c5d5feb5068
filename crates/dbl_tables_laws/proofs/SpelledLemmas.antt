-- Each text that a step gives spells a value of its column's type, and so does all that is made of it: rows, and the changes of open
-- sessions.
use Rattle.std.proofs.Common.{◌≡◌, ◌∙◌, inl, inr, ◌<◌, ℕ, zero, suc, Bool, true, false, Option, Some, None, List, [], ◌∷◌, length, map, refl, sym, ap, subst}
use Rattle.std.specs.Prelude.{if◌then◌else◌, is_some, option_map, option_and_then, unwrap_or, slice_get, bytes_eq}
use Rattle.std.specs.List.{AllByRecursion, list_all}
use Rattle.std.proofs.lemmas.List.{length-map}
use Rattle.std.proofs.lemmas.Option.{slice_get-map}
use Rattle.dbl_tables_rows.specs.Value.declared.column_type.PgType.{PgType}
use Rattle.dbl_tables_rows.specs.Value.declared.column_type.PgType.TheVariants as type
use Rattle.dbl_tables_rows.specs.Value.Types.{type_of}
use Rattle.dbl_tables_rows.specs.ModelTable.declared.named_cell.NamedCell.{NamedCell}
use Rattle.dbl_tables_rows.specs.ModelTable.declared.row.Key.{Key}
use Rattle.dbl_tables_rows.specs.ModelTable.declared.table.Column.{Column}
use Rattle.dbl_tables_rows.specs.ModelTable.declared.table.RawColumn.{RawColumn}
use Rattle.dbl_tables_rows.specs.ModelTable.declared.table.RawTable.{RawTable}
use Rattle.dbl_tables_rows.specs.ModelTable.declared.table.TableInfo.{TableInfo}
use Rattle.dbl_tables_rows.specs.ModelTable.declared.table.TableName.{TableName}
use Rattle.dbl_tables_rows.specs.ModelTable.Infos.{raw_column, name_at, catalogue_of}
use Rattle.dbl_tables_rows.specs.ModelTable.Keys.{same_key}
use Rattle.dbl_tables_rows.specs.ModelTable.Made.{raw_names, place_of}
use Rattle.dbl_tables_rows.specs.ModelTable.Tables.{same_name, column_names}
use Rattle.dbl_model_table.proofs.InfoLemmas.{distinct_columns, has_name, place_one}
use Rattle.dbl_model_table.proofs.Lists.{and_right, is_some-position_from, slice_get-lt}
use Rattle.dbl_model_table.proofs.Making.{names_made, placed}
use Rattle.dbl_tables_rows.specs.ModelHistory.History.{RawCell, RawChange, name_of}
use Rattle.dbl_tables_rows.specs.ModelHistory.History.RawCell.{Given, Unchanged}
use Rattle.dbl_tables_rows.specs.ModelHistory.History.RawChange.{Insert, Update, Delete, Clear}
use Rattle.dbl_tables_rows.specs.SourceLog.declared.logged.LogTable.{LogTable}
use Rattle.dbl_tables_rows.specs.SourceLog.Texts.{Texts, type_named, key_from, key_in, given_text, all_texts, overlaid}
use Rattle.dbl_tables_rows.specs.SourceLog.TextRows.{TextRows, updated_texts, text_row_after, text_row_in, log_table_named, text_rows_after, text_rows_with}
use Rattle.dbl_source_log.proofs.ThemselvesLemmas.{name_same}
use Rattle.dbl_tables_rows.specs.Cells.{cell_named, text_given, row_given, text_or, text_set, row_set, is_column, is_readable, spells_cell}
use Rattle.dbl_tables_rows.specs.Sending.{column_type}
use Rattle.dbl_tables_laws.proofs.GivenLemmas.{found_cell}
use Rattle.dbl_tables_laws.proofs.KeyedLemmas.{all_given_texts}
use Rattle.dbl_tables_laws.proofs.UpdateLemmas.{IsCellOf, AreCellsOf}

-- in each column a null, or a text that spells a value of its type
abbrev pub AreSpelled : List RawColumn → Texts → Type 0
AreSpelled [] row = Unit {0}
AreSpelled (c ∷ columns) [] = Unit {0}
AreSpelled (c ∷ columns) (x ∷ row) = (spells_cell (column_type c) x ≡ true) × AreSpelled columns row

-- the same of the cells of an update that are given
abbrev pub AreCellsSpelled : List RawColumn → List RawCell → Type 0
AreCellsSpelled [] cells = Unit {0}
AreCellsSpelled (c ∷ columns) [] = Unit {0}
AreCellsSpelled (c ∷ columns) (Given x ∷ cells) = (spells_cell (column_type c) x ≡ true) × AreCellsSpelled columns cells
AreCellsSpelled (c ∷ columns) (Unchanged ∷ cells) = AreCellsSpelled columns cells

pub spelled_at : (columns : List RawColumn) (row : Texts) (p : ℕ) (c : RawColumn) (x : Option (List ℕ)) → AreSpelled columns row → slice_get columns p ≡ Some c → slice_get row p ≡ Some x → spells_cell (column_type c) x ≡ true
spelled_at [] row p c x all at there = cc
spelled_at (k ∷ columns) [] p c x all at there = cc
spelled_at (k ∷ columns) (y ∷ row) zero c x all at there =
    let e : k ≡ c = cc in
    let f : y ≡ x = cc in
    ap (λ (z : RawColumn). spells_cell (column_type z) x) (sym e) ∙ (ap (spells_cell (column_type k)) (sym f) ∙ all.0)
spelled_at (k ∷ columns) (y ∷ row) (suc p) c x all at there = spelled_at columns row p c x all.1 at there

-- cells beside the row that they lead to
pub cells_spelled : (columns : List RawColumn) (cells : List RawCell) (before row : Texts) → AreCellsOf cells before row → AreSpelled columns row → AreCellsSpelled columns cells
cells_spelled [] cells before row are all = tt
cells_spelled (k ∷ columns) [] before row are all = tt
cells_spelled (k ∷ columns) (c ∷ cells) [] row are all = absurd are
cells_spelled (k ∷ columns) (c ∷ cells) (x ∷ before) [] are all = absurd are
cells_spelled (k ∷ columns) (c ∷ cells) (x ∷ before) (y ∷ row) are all = by are.0 (cells_spelled columns cells before row are.1 all.1)
  where
    by : IsCellOf x y c → AreCellsSpelled columns cells → AreCellsSpelled (k ∷ columns) (c ∷ cells)
    by (inl given) rest = subst (λ (z : RawCell). AreCellsSpelled (k ∷ columns) (z ∷ cells)) (sym given) (all.0, rest)
    by (inr stays) rest = subst (λ (z : RawCell). AreCellsSpelled (k ∷ columns) (z ∷ cells)) (sym stays.0) rest

-- ---- columns by their names

-- the first column of a column's name is the column
place_named : (info : TableInfo) (p : ℕ) → p < length info.columns → place_of (raw_names (catalogue_of info).columns) (name_at info.columns p) ≡ Some p
place_named info p lt =
    ap (λ (names : List (List ℕ)). place_of names (name_at info.columns p)) (sym (names_made info.columns (map raw_column info.columns) refl)) ∙ by (place_of (column_names info.columns) (name_at info.columns p)) refl
  where
    by : (o : Option ℕ) → place_of (column_names info.columns) (name_at info.columns p) ≡ o → o ≡ Some p
    by None none =
        let some : is_some (place_of (column_names info.columns) (name_at info.columns p)) ≡ true =
        is_some-position_from (bytes_eq (name_at info.columns p)) 0 (column_names info.columns) ∙ has_name info.columns p lt in
        let never : is_some {T = ℕ} None ≡ true = sym (ap (λ (o : Option ℕ). is_some o) none) ∙ some in
        cc
    by (Some q) there =
        let named = placed info.columns (name_at info.columns p) q there in
        ap (λ (n : ℕ). Some n) (place_one info.columns q p (distinct_columns info) named.1 lt named.0)

module _ (info : TableInfo) (p : ℕ) (c : RawColumn) (at : slice_get (catalogue_of info).columns p ≡ Some c) where
  pub inside : p < length info.columns
  inside = subst (λ (n : ℕ). p < n) (length-map info.columns raw_column) (slice_get-lt (catalogue_of info).columns p c at)

  -- so a name has the type of its column
  pub own_type : (type_named (catalogue_of info) c.name ≡ column_type c) × (place_of (raw_names (catalogue_of info).columns) c.name ≡ Some p)
  own_type = by (slice_get info.columns p) refl (sym (slice_get-map raw_column info.columns p) ∙ at)
    where
      by : (o : Option Column) → slice_get info.columns p ≡ o → option_map raw_column o ≡ Some c → (type_named (catalogue_of info) c.name ≡ column_type c) × (place_of (raw_names (catalogue_of info).columns) c.name ≡ Some p)
      by None is told = cc
      by (Some k) is told =
          let e : raw_column k ≡ c = cc in
          let named : name_at info.columns p ≡ c.name = ap (λ (o : Option Column). unwrap_or (option_map (λ (x : Column). x.name) o) []) is ∙ ap (λ (x : RawColumn). x.name) e in
          let place : place_of (raw_names (catalogue_of info).columns) c.name ≡ Some p = ap (place_of (raw_names (catalogue_of info).columns)) (sym named) ∙ place_named info p inside in
          let typed : type_named (catalogue_of info) c.name ≡ column_type c =
          ap (λ (o : Option ℕ). unwrap_or (option_and_then (λ (x : RawColumn). type_of x.oid) (option_and_then (slice_get (catalogue_of info).columns) o)) type.Text) place
          ∙ ap (λ (o : Option RawColumn). unwrap_or (option_and_then (λ (x : RawColumn). type_of x.oid) o) type.Text) at in
          (typed, place)

-- ---- cells that are given

module _ (raw : RawTable) where
  -- the cell of a column, where cells can be read
  given_spells : (cells : List NamedCell) (name : List ℕ) → list_all (is_readable raw) cells ≡ true → spells_cell (type_named raw name) (text_given cells name) ≡ true
  given_spells cells name all = by (cell_named cells name) refl
    where
      by : (o : Option NamedCell) → cell_named cells name ≡ o → spells_cell (type_named raw name) (option_and_then (λ (c : NamedCell). c.text) o) ≡ true
      by None is = refl
      by (Some c) is =
          let one = found_cell (is_readable raw) cells name c is all in
          ap (λ (n : List ℕ). spells_cell (type_named raw n) c.text) (sym one.1) ∙ and_right (is_column raw c.column) (spells_cell (type_named raw c.column) c.text) one.0

  set_spells : (set : List NamedCell) (name : List ℕ) (x : Option (List ℕ)) → list_all (is_readable raw) set ≡ true → spells_cell (type_named raw name) x ≡ true → spells_cell (type_named raw name) (text_set set name x) ≡ true
  set_spells set name x all was = by (cell_named set name) refl
    where
      by : (o : Option NamedCell) → cell_named set name ≡ o → spells_cell (type_named raw name) (text_or o x) ≡ true
      by None is = was
      by (Some c) is =
          let one = found_cell (is_readable raw) set name c is all in
          ap (λ (n : List ℕ). spells_cell (type_named raw n) c.text) (sym one.1) ∙ and_right (is_column raw c.column) (spells_cell (type_named raw c.column) c.text) one.0

  row_spelled : (cells : List NamedCell) (columns : List RawColumn) → ((p : ℕ) (c : RawColumn) → slice_get columns p ≡ Some c → type_named raw c.name ≡ column_type c) → list_all (is_readable raw) cells ≡ true
      → AreSpelled columns (map (λ (c : RawColumn). text_given cells c.name) columns)
  row_spelled cells [] own all = tt
  row_spelled cells (c ∷ columns) own all = (
    ap (λ (ty : PgType). spells_cell ty (text_given cells c.name)) (sym (own zero c refl)) ∙ given_spells cells c.name all,
    row_spelled cells columns (λ p k at. own (suc p) k at) all,
  )

  set_spelled : (set : List NamedCell) (columns : List RawColumn) (row : Texts) → ((p : ℕ) (c : RawColumn) → slice_get columns p ≡ Some c → type_named raw c.name ≡ column_type c) → list_all (is_readable raw) set ≡ true
      → AreSpelled columns row → AreSpelled columns (row_set columns set row)
  set_spelled set [] row own all was = tt
  set_spelled set (c ∷ columns) [] own all was = tt
  set_spelled set (c ∷ columns) (x ∷ row) own all was =
      let typed : type_named raw c.name ≡ column_type c = own zero c refl in (
        ap (λ (ty : PgType). spells_cell ty (text_set set c.name x)) (sym typed) ∙ set_spells set c.name x all (ap (λ (ty : PgType). spells_cell ty x) typed ∙ was.0),
        set_spelled set columns row (λ p k at. own (suc p) k at) all was.1,
      )

module _ (info : TableInfo) where
  pub row_given_spelled : (cells : List NamedCell) → list_all (is_readable (catalogue_of info)) cells ≡ true → AreSpelled (catalogue_of info).columns (row_given (catalogue_of info) cells)
  row_given_spelled cells all = row_spelled (catalogue_of info) cells (catalogue_of info).columns (λ p c at. (own_type info p c at).0) all

  pub row_set_spelled : (set : List NamedCell) (row : Texts) → list_all (is_readable (catalogue_of info)) set ≡ true → AreSpelled (catalogue_of info).columns row → AreSpelled (catalogue_of info).columns (row_set (catalogue_of info).columns set row)
  row_set_spelled set row all was = set_spelled (catalogue_of info) set (catalogue_of info).columns row (λ p c at. (own_type info p c at).0) all was

-- ---- rows after changes

-- the texts of a change
abbrev pub IsSpelledIn : RawTable → RawChange → Type 0
IsSpelledIn raw (Insert name new) = AreSpelled raw.columns new.cells
IsSpelledIn raw (Update name from old cells) = AreCellsSpelled raw.columns cells
IsSpelledIn raw (Delete name from old) = Unit {0}
IsSpelledIn raw (Clear name) = Unit {0}

abbrev pub IsSpelledChange : List LogTable → RawChange → Type 0
IsSpelledChange tables c = (t : LogTable) → log_table_named tables (name_of c) ≡ Some t → IsSpelledIn t.raw c

abbrev pub AreRowsSpelled : List LogTable → TextRows → Type 0
AreRowsSpelled tables rows = (name : TableName) (key : Key) (row : Texts) (t : LogTable) → rows name key ≡ Some row → log_table_named tables name ≡ Some t → AreSpelled t.raw.columns row

given_texts_spelled : (columns : List RawColumn) (cells : List RawCell) → AreCellsSpelled columns cells → AreSpelled columns (map given_text cells)
given_texts_spelled [] cells all = tt
given_texts_spelled (c ∷ columns) [] all = tt
given_texts_spelled (c ∷ columns) (Given x ∷ cells) all = (all.0, given_texts_spelled columns cells all.1)
given_texts_spelled (c ∷ columns) (Unchanged ∷ cells) all = (refl, given_texts_spelled columns cells all)

overlaid_spelled : (columns : List RawColumn) (cells : List RawCell) (row : Texts) → AreCellsSpelled columns cells → AreSpelled columns row → AreSpelled columns (overlaid cells row)
overlaid_spelled columns [] row all was = was
overlaid_spelled [] (c ∷ cells) row all was = tt
overlaid_spelled (k ∷ columns) (Given x ∷ cells) [] all was = tt
overlaid_spelled (k ∷ columns) (Unchanged ∷ cells) [] all was = tt
overlaid_spelled (k ∷ columns) (Given x ∷ cells) (y ∷ row) all was = (all.0, overlaid_spelled columns cells row all.1 was.1)
overlaid_spelled (k ∷ columns) (Unchanged ∷ cells) (y ∷ row) all was = (was.0, overlaid_spelled columns cells row all was.1)

-- of a table
row_after_spelled : (raw : RawTable) (c : RawChange) (rows : Key → Option Texts) (key : Key) (row : Texts) → IsSpelledIn raw c → ((r : Texts) → rows key ≡ Some r → AreSpelled raw.columns r) → text_row_after raw c rows key ≡ Some row → AreSpelled raw.columns row
row_after_spelled raw (Insert name new) rows key row fine was is = by (same_key (key_in raw new.cells) key) is
  where
    by : (b : Bool) → (if b then Some new.cells else rows key) ≡ Some row → AreSpelled raw.columns row
    by true told = let e : new.cells ≡ row = cc in subst (AreSpelled raw.columns) e fine
    by false told = was row told
row_after_spelled raw (Update name from old cells) rows key row fine was is = by (same_key (key_in raw (map given_text cells)) key) (same_key (key_from raw from) key) is
  where
    led : (o : Option Texts) → all_texts cells ≡ o → (r : Option Texts) → rows key ≡ r → updated_texts o cells r ≡ Some row → AreSpelled raw.columns row
    led (Some whole) all r there told = let e : whole ≡ row = cc in subst (AreSpelled raw.columns) (all_given_texts cells whole all ∙ e) (given_texts_spelled raw.columns cells fine)
    led None all None there told = cc
    led None all (Some r) there told = let e : overlaid cells r ≡ row = cc in subst (AreSpelled raw.columns) e (overlaid_spelled raw.columns cells r fine (was r there))

    by : (b g : Bool) → (if b then updated_texts (all_texts cells) cells (rows key) else (if g then None else rows key)) ≡ Some row → AreSpelled raw.columns row
    by true g told = led (all_texts cells) refl (rows key) refl told
    by false true told = cc
    by false false told = was row told
row_after_spelled raw (Delete name from old) rows key row fine was is = by (same_key (key_from raw from) key) is
  where
    by : (b : Bool) → (if b then None else rows key) ≡ Some row → AreSpelled raw.columns row
    by true told = cc
    by false told = was row told
row_after_spelled raw (Clear name) rows key row fine was is = cc

module _ (tables : List LogTable) where
  rows_after_spelled : (c : RawChange) (rows : TextRows) → IsSpelledChange tables c → AreRowsSpelled tables rows → AreRowsSpelled tables (text_rows_after tables c rows)
  rows_after_spelled c rows fine was name key row t is at = by (same_name (name_of c) name) refl is
    where
      by : (b : Bool) → same_name (name_of c) name ≡ b → (if b then text_row_in (log_table_named tables name) c (rows name) key else rows name key) ≡ Some row → AreSpelled t.raw.columns row
      by true same told =
          let own : log_table_named tables (name_of c) ≡ Some t = ap (log_table_named tables) (name_same (name_of c) name same) ∙ at in
          let here : text_row_after t.raw c (rows name) key ≡ Some row = sym (ap (λ (o : Option LogTable). text_row_in o c (rows name) key) at) ∙ told in
          row_after_spelled t.raw c (rows name) key row (fine t own) (λ r there. was name key r t there at) here
      by false other told = was name key row t told at

  pub rows_since_spelled : (cs : List RawChange) (rows : TextRows) → AllByRecursion (IsSpelledChange tables) cs → AreRowsSpelled tables rows → AreRowsSpelled tables (text_rows_with tables cs rows)
  rows_since_spelled [] rows fine was = was
  rows_since_spelled (c ∷ cs) rows fine was = rows_since_spelled cs (text_rows_after tables c rows) fine.1 (rows_after_spelled c rows fine.0 was)
