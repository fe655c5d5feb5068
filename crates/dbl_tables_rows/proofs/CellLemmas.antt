-- Cells by the places of their columns, as loops go over them.
use Rattle.std.proofs.Common.{◌≡◌, ◌∙◌, ◌+◌, ◌<◌, ◌≤◌, inl, inr, Bor, ℕ, suc, Bool, true, false, cond, Option, Some, None, List, [], ◌∷◌, ◌++◌, length, map, take, drop, get_or, refl, sym, ap, append_assoc, arith}
use Rattle.std.specs.Prelude.{is_some, nat_lt, IfSome, option_copied, if◌then◌else◌, option_map, option_and_then, unwrap_or, slice_get, bytes_eq}
use Rattle.std.specs.List.{list_any, position_from}
use Rattle.std.proofs.lemmas.List.{map-append, length-map, length-take-le}
use Rattle.std.proofs.lemmas.Option.{slice_get_past, slice_get_read}
use Rattle.std.proofs.lemmas.Bool.Decides.{nat_tests}
use Rattle.dbl_value_types.specs.declared.column_type.PgType.{PgType}
use Rattle.dbl_value_types.specs.declared.column_type.PgType.TheVariants as type
use Rattle.dbl_value_types.specs.declared.value.Val.{Val}
use Rattle.dbl_model_table.specs.declared.named_cell.NamedCell.{NamedCell}
use Rattle.dbl_model_table.specs.declared.table.RawColumn.{RawColumn}
use Rattle.dbl_model_table.specs.declared.table.RawTable.{RawTable}
use Rattle.dbl_model_table.specs.declared.table.Column.{Column}
use Rattle.dbl_model_table.specs.declared.table.TableInfo.{TableInfo}
use Rattle.dbl_model_table.specs.Infos.{raw_column, catalogue_of}
use Rattle.dbl_model_table.specs.Tables.{are_distinct, column_names}
use Rattle.dbl_model_table.specs.Made.{place_of}
use Rattle.dbl_model_table.proofs.Lists.{bool_case, same_text, text_itself, distinct-push, distinct_not, is_some-position_from}
use Rattle.dbl_model_table.proofs.InfoLemmas.{distinct_columns}
use Rattle.dbl_model_table.proofs.Making.{entered}
use Rattle.dbl_model_table.proofs.PartLemmas.{one_more, split_at_one, names_more, names_split}
use Rattle.dbl_source_log.specs.ModelHistory.Typed.{typed_cell, typed_cells}
use Rattle.dbl_source_log.specs.Texts.{Texts}
use Rattle.dbl_pgmsg.specs.declared.messages.TupleCell.{TupleCell}
use Rattle.dbl_pgmsg.specs.declared.messages.TupleCell.TheVariants as cell
use Rattle.dbl_tables_rows.specs.declared.demo_table.DemoTable.{DemoTable}
use Rattle.dbl_tables_rows.specs.Cells.{cell_named, text_given, row_given, text_set, row_set, key_texts_set, is_key_name}
use Rattle.dbl_tables_rows.specs.Sending.{sent_cell, key_cells, is_unsent_text, new_cells}
use Rattle.dbl_tables_rows.specs.Given.{given_names}

-- ---- places of cells

pub cells_more : (cells : List NamedCell) (i : ℕ) (c : NamedCell) → i < length cells → c ≡ get_or cells i c → given_names (take (i + 1) cells) ≡ given_names (take i cells) ++ c.column ∷ []
cells_more cells i c lt is = ap given_names (one_more cells i c c lt is) ∙ map-append (λ (x : NamedCell). x.column) (take i cells) (c ∷ [])

pub cells_split : (cells : List NamedCell) (i : ℕ) (c : NamedCell) → i < length cells → c ≡ get_or cells i c → given_names cells ≡ given_names (take i cells) ++ c.column ∷ given_names (drop (i + 1) cells)
cells_split cells i c lt is = ap given_names (split_at_one cells i c c lt is) ∙ map-append (λ (x : NamedCell). x.column) (take i cells) (c ∷ drop (i + 1) cells)

-- one more cell enters, whose column none before it has
pub cell_enters : (cells : List NamedCell) (i : ℕ) (c : NamedCell) (before after : List ℕ → Option ℕ) → i < length cells → c ≡ get_or cells i c → ((q : List ℕ) → before q ≡ place_of (given_names (take i cells)) q) → is_some (before c.column) ≡ false
    → ((q : List ℕ) → after q ≡ cond (bytes_eq c.column q) (Some i) (before q)) → (q : List ℕ) → after q ≡ place_of (given_names (take (i + 1) cells)) q
cell_enters cells i c before after lt is was new next q =
    let long : i ≡ length (given_names (take i cells)) = sym (length-map (take i cells) (λ (x : NamedCell). x.column) ∙ length-take-le i cells (omega arith)) in
    let absent : list_any (bytes_eq c.column) (given_names (take i cells)) ≡ false = sym (is_some-position_from (bytes_eq c.column) 0 (given_names (take i cells))) ∙ (ap is_some (sym (was c.column)) ∙ new) in
    entered (given_names (take i cells)) c.column i before after long was absent next q ∙ ap (λ (l : List (List ℕ)). place_of l q) (sym (cells_more cells i c lt is))

-- the names stay distinct
pub stays_distinct : (cells : List NamedCell) (i : ℕ) (c : NamedCell) (o : Option ℕ) → i < length cells → c ≡ get_or cells i c → o ≡ place_of (given_names (take i cells)) c.column → is_some o ≡ false → are_distinct bytes_eq (given_names (take i cells)) ≡ true
    → are_distinct bytes_eq (given_names (take (i + 1) cells)) ≡ true
stays_distinct cells i c o lt is at new distinct =
    ap (are_distinct bytes_eq) (cells_more cells i c lt is)
    ∙ distinct-push (given_names (take i cells)) c.column distinct (sym (is_some-position_from (bytes_eq c.column) 0 (given_names (take i cells))) ∙ (ap is_some (sym at) ∙ new))

-- a column that is named again makes them not distinct
pub not_distinct : (cells : List NamedCell) (i : ℕ) (c : NamedCell) (o : Option ℕ) → i < length cells → c ≡ get_or cells i c → o ≡ place_of (given_names (take i cells)) c.column → is_some o ≡ true → are_distinct bytes_eq (given_names cells) ≡ false
not_distinct cells i c o lt is at there =
    ap (are_distinct bytes_eq) (cells_split cells i c lt is)
    ∙ distinct_not (given_names (take i cells)) c.column (given_names (drop (i + 1) cells)) (sym (is_some-position_from (bytes_eq c.column) 0 (given_names (take i cells))) ∙ (ap is_some (sym at) ∙ there))

-- the place of a name moves with the number of the first cell
shifted : (cells : List NamedCell) (name : List ℕ) (i : ℕ) → position_from (bytes_eq name) (i + 1) (given_names cells) ≡ option_map suc (position_from (bytes_eq name) i (given_names cells))
shifted [] name i = refl
shifted (c ∷ cells) name i = by (bytes_eq name c.column) (shifted cells name (i + 1))
  where
    by : (b : Bool) → position_from (bytes_eq name) ((i + 1) + 1) (given_names cells) ≡ option_map suc (position_from (bytes_eq name) (i + 1) (given_names cells)) → cond b (Some (i + 1)) (position_from (bytes_eq name) ((i + 1) + 1) (given_names cells)) ≡ option_map suc (cond b (Some i) (position_from (bytes_eq name) (i + 1) (given_names cells)))
    by true later = let e : i + 1 ≡ suc i = omega arith in ap (λ (n : ℕ). Some n) e
    by false later = later

-- the first cell of a name is the one at the name's place
pub at_place : (cells : List NamedCell) (name : List ℕ) → cell_named cells name ≡ option_and_then (slice_get cells) (place_of (given_names cells) name)
at_place [] name = refl
at_place (c ∷ cells) name = by (bytes_eq c.column name) (bytes_eq name c.column) refl refl (at_place cells name)
  where
    later : (o : Option ℕ) → option_and_then (slice_get cells) o ≡ option_and_then (slice_get (c ∷ cells)) (option_map suc o)
    later None = refl
    later (Some n) = refl

    by : (a b : Bool) → bytes_eq c.column name ≡ a → bytes_eq name c.column ≡ b → cell_named cells name ≡ option_and_then (slice_get cells) (place_of (given_names cells) name) → cond a (Some c) (cell_named cells name) ≡ option_and_then (slice_get (c ∷ cells)) (cond b (Some 0) (position_from (bytes_eq name) (0 + 1) (given_names cells)))
    by true true there back rest = refl
    by false false there back rest = rest ∙ (later (place_of (given_names cells) name) ∙ ap (option_and_then (slice_get (c ∷ cells))) (sym (shifted cells name 0)))
    by true false there back rest = let contra : true ≡ false = sym (text_itself name) ∙ (ap (bytes_eq name) (sym (same_text c.column name there)) ∙ back) in cc
    by false true there back rest = let contra : true ≡ false = sym (text_itself name) ∙ (ap (λ (x : List ℕ). bytes_eq x name) (same_text name c.column back) ∙ there) in cc

-- what is at a place
pub copied_at : (cells : List NamedCell) (i : ℕ) (o : Option (Bor NamedCell)) → is_some o ≡ nat_lt i (length cells) → IfSome o (λ x. x.now ≡ get_or cells i x.now) → option_copied o ≡ slice_get cells i
copied_at cells i None test at = let past : length cells ≤ i = grind (arith, nat_tests) in sym (slice_get_past cells i past)
copied_at cells i (Some x) test at = let lt : i < length cells = grind (arith, nat_tests) in sym (slice_get_read cells (length cells) i x.now refl lt at)

-- a row of given cells, column by column
pub row_given_is : (info : TableInfo) (cells : List NamedCell) → row_given (catalogue_of info) cells ≡ map (λ (column : Column). text_given cells column.name) info.columns
row_given_is info cells = by info.columns
  where
    by : (columns : List Column) → map (λ (column : RawColumn). text_given cells column.name) (map raw_column columns) ≡ map (λ (column : Column). text_given cells column.name) columns
    by [] = refl
    by (column ∷ columns) = ap (λ (l : Texts). text_given cells column.name ∷ l) (by columns)

-- one more column enters; its name is none of those before it
pub column_enters : (info : TableInfo) (i : ℕ) (c : Column) (before after : List ℕ → Option ℕ) → i < length info.columns → c ≡ get_or info.columns i c → ((q : List ℕ) → before q ≡ place_of (column_names (take i info.columns)) q)
    → ((q : List ℕ) → after q ≡ cond (bytes_eq c.name q) (Some i) (before q)) → (q : List ℕ) → after q ≡ place_of (column_names (take (i + 1) info.columns)) q
column_enters info i c before after lt is was next q =
    let seen : List (List ℕ) = column_names (take i info.columns) in
    let long : i ≡ length seen = sym (length-map (take i info.columns) (λ (x : Column). x.name) ∙ length-take-le i info.columns (omega arith)) in
    let absent : list_any (bytes_eq c.name) seen ≡ false = elim (bool_case (list_any (bytes_eq c.name) seen)) [
      | inl there ↦ (let contra : true ≡ false = sym (distinct_columns info) ∙ (ap (are_distinct bytes_eq) (names_split info.columns i c lt is) ∙ distinct_not seen c.name (column_names (drop (i + 1) info.columns)) there) in cc)
      | inr none ↦ none
    ] in
    entered seen c.name i before after long was absent next q ∙ ap (λ (l : List (List ℕ)). place_of l q) (sym (names_more info.columns i c lt is))

-- ---- values of texts

pub typed_push : (types : List PgType) (texts : Texts) (x : Option (List ℕ)) → typed_cells types (texts ++ x ∷ []) ≡ typed_cells types texts ++ typed_cell (unwrap_or (slice_get types (length texts)) type.Text) x ∷ []
typed_push [] [] x = refl
typed_push (ty ∷ types) [] x = refl
typed_push [] (y ∷ texts) x = ap (λ (vs : List Val). typed_cell type.Text y ∷ vs) (typed_push [] texts x)
typed_push (ty ∷ types) (y ∷ texts) x = ap (λ (vs : List Val). typed_cell ty y ∷ vs) (typed_push types texts x)

-- ---- columns, one after the other

-- cells so far, and those that are to come
module _ (set : List NamedCell) where
  pub row_set_more : (columns : List RawColumn) (column : RawColumn) (row : Texts) (x : Option (List ℕ)) (done : Texts) → done ++ row_set (column ∷ columns) set (x ∷ row) ≡ (done ++ text_set set column.name x ∷ []) ++ row_set columns set row
  row_set_more columns column row x done = sym (append_assoc done (text_set set column.name x ∷ []) (row_set columns set row))

  pub key_set_more : (names : List (List ℕ)) (name : List ℕ) (key : Texts) (x : Option (List ℕ)) (done : Texts) → done ++ key_texts_set set (name ∷ names) (x ∷ key) ≡ (done ++ text_set set name x ∷ []) ++ key_texts_set set names key
  key_set_more names name key x done = sym (append_assoc done (text_set set name x ∷ []) (key_texts_set set names key))

pub key_cells_more : (raw : RawTable) (columns : List RawColumn) (column : RawColumn) (row : Texts) (x : Option (List ℕ)) (done : List TupleCell)
    → done ++ key_cells raw (column ∷ columns) (x ∷ row) ≡ (done ++ (if is_key_name raw column.name then sent_cell x else cell.Null) ∷ []) ++ key_cells raw columns row
key_cells_more raw columns column row x done = sym (append_assoc done ((if is_key_name raw column.name then sent_cell x else cell.Null) ∷ []) (key_cells raw columns row))

pub new_cells_more : (table : DemoTable) (columns : List RawColumn) (column : RawColumn) (before row : Texts) (x y : Option (List ℕ)) (done : List TupleCell)
    → done ++ new_cells table (column ∷ columns) (x ∷ before) (y ∷ row) ≡ (done ++ (if is_unsent_text table column x y then cell.Unchanged else sent_cell y) ∷ []) ++ new_cells table columns before row
new_cells_more table columns column before row x y done = sym (append_assoc done ((if is_unsent_text table column x y then cell.Unchanged else sent_cell y) ∷ []) (new_cells table columns before row))
