-- The cells of a row, moved one after the other to the indices of their columns.
use Rattle.std.proofs.Common.{◌≡◌, ◌∙◌, ◌+◌, ◌<◌, ℕ, zero, suc, Bool, true, false, cond, Option, Some, None, List, [], ◌∷◌, ◌++◌, length, map, take, drop, get_or, replicate, refl, sym, ap, subst, arith}
use Rattle.std.specs.Prelude.{◌&&◌, ◌||◌, not, nat_lt, if◌then◌else◌, is_some, option_map, option_and_then, unwrap_or, slice_get, bytes_eq}
use Rattle.std.specs.List.{list_any, list_all}
use Rattle.std.proofs.Math.ListN.{set}
use Rattle.std.proofs.lemmas.List.{map-append}
use Rattle.std.proofs.lemmas.Bool.Decides.{nat_tests}
use Rattle.dbl_model_table.specs.declared.named_cell.NamedCell.{NamedCell}
use Rattle.dbl_model_table.specs.declared.table.Column.{Column}
use Rattle.dbl_model_table.specs.declared.table.RawColumn.{RawColumn}
use Rattle.dbl_model_table.specs.declared.table.TableInfo.{TableInfo}
use Rattle.dbl_model_table.specs.Infos.{raw_column, catalogue_of, name_at}
use Rattle.dbl_model_table.specs.Made.{place_of}
use Rattle.dbl_model_table.specs.Tables.{are_distinct, column_names}
use Rattle.dbl_model_table.proofs.InfoLemmas.{distinct_columns, places_within}
use Rattle.dbl_model_table.proofs.Lists.{same_text, text_itself, and_left, and_right, is_some-position_from, position_from-at, distinct-push, distinct_not}
use Rattle.dbl_model_table.proofs.Making.{names_made}
use Rattle.dbl_tables_rows.specs.SourceLog.Texts.{type_named}
use Rattle.dbl_tables_rows.specs.Cells.{cell_named, text_given, row_given, is_column, spells_cell, is_readable, are_each_readable, has_key_texts}
use Rattle.dbl_tables_rows.specs.Given.{given_names}
use Rattle.dbl_tables_rows.proofs.CellLemmas.{cells_split}
use Rattle.dbl_tables_rows.proofs.KeyTexts.{has_key_texts_is}
use Rattle.dbl_tables_changes.specs.First.{cell_given, cells_named}

flipped : (a b : List ℕ) → bytes_eq a b ≡ bytes_eq b a
flipped a b = by (bytes_eq a b) (bytes_eq b a) refl refl
  where
    by : (x y : Bool) → bytes_eq a b ≡ x → bytes_eq b a ≡ y → x ≡ y
    by true true p q = refl
    by false false p q = refl
    by true false p q = let contra : true ≡ false = sym (text_itself b) ∙ (sym (ap (bytes_eq b) (same_text a b p)) ∙ q) in cc
    by false true p q = let contra : true ≡ false = sym (text_itself a) ∙ (sym (ap (bytes_eq a) (same_text b a q)) ∙ p) in cc

not_any : (b : Bool) → not b ≡ true → b ≡ false
not_any true is = cc
not_any false is = refl

-- a column has a cell if and only if one names it
pub given_named : (cells : List NamedCell) (name : List ℕ) → is_some (cell_given cells name) ≡ list_any (bytes_eq name) (given_names cells)
given_named [] name = refl
given_named (c ∷ cells) name = by (bytes_eq c.column name) (flipped c.column name) (given_named cells name)
  where
    by : (b : Bool) → b ≡ bytes_eq name c.column → is_some (cell_given cells name) ≡ list_any (bytes_eq name) (given_names cells)
        → is_some (option_map (λ (x : NamedCell). x.text) (cond b (Some c) (cell_named cells name))) ≡ (bytes_eq name c.column || list_any (bytes_eq name) (given_names cells))
    by true is later = ap (λ (b : Bool). b || list_any (bytes_eq name) (given_names cells)) is
    by false is later = later ∙ ap (λ (b : Bool). b || list_any (bytes_eq name) (given_names cells)) is

-- ---- one more cell

module _ (c : NamedCell) where
  given_more : (cells : List NamedCell) (name : List ℕ) → cell_given (cells ++ c ∷ []) name ≡ (if is_some (cell_given cells name) then cell_given cells name else (if bytes_eq c.column name then Some c.text else None))
  given_more [] name = by (bytes_eq c.column name)
    where
      by : (b : Bool) → option_map (λ (x : NamedCell). x.text) (cond b (Some c) None) ≡ (if b then Some c.text else None)
      by true = refl
      by false = refl
  given_more (x ∷ cells) name = by (bytes_eq x.column name) (given_more cells name)
    where
      by : (b : Bool) → cell_given (cells ++ c ∷ []) name ≡ (if is_some (cell_given cells name) then cell_given cells name else (if bytes_eq c.column name then Some c.text else None))
          → option_map (λ (y : NamedCell). y.text) (cond b (Some x) (cell_named (cells ++ c ∷ []) name))
          ≡ (if is_some (option_map (λ (y : NamedCell). y.text) (cond b (Some x) (cell_named cells name))) then option_map (λ (y : NamedCell). y.text) (cond b (Some x) (cell_named cells name)) else (if bytes_eq c.column name then Some c.text else None))
      by true later = refl
      by false later = later

  -- another column has what it had
  given_other : (cells : List NamedCell) (name : List ℕ) → bytes_eq c.column name ≡ false → cell_given (cells ++ c ∷ []) name ≡ cell_given cells name
  given_other cells name other =
      given_more cells name ∙ (ap (λ (b : Bool). if is_some (cell_given cells name) then cell_given cells name else (if b then Some c.text else None)) other ∙ by (cell_given cells name))
    where
      by : (o : Option (Option (List ℕ))) → (if is_some o then o else None) ≡ o
      by None = refl
      by (Some t) = refl

  -- its own has the cell's text
  given_own : (cells : List NamedCell) → cell_given cells c.column ≡ None → cell_given (cells ++ c ∷ []) c.column ≡ Some c.text
  given_own cells none =
      given_more cells c.column
      ∙ (ap (λ (o : Option (Option (List ℕ))). if is_some o then o else (if bytes_eq c.column c.column then Some c.text else None)) none ∙ ap (λ (b : Bool). if b then Some c.text else None) (text_itself c.column))

  others_given : (cells : List NamedCell) (names : List (List ℕ)) → list_any (bytes_eq c.column) names ≡ false → map (cell_given (cells ++ c ∷ [])) names ≡ map (cell_given cells) names
  others_given cells [] none = refl
  others_given cells (name ∷ names) none = by (bytes_eq c.column name) refl none (λ later. others_given cells names later)
    where
      by : (b : Bool) → bytes_eq c.column name ≡ b → (b || list_any (bytes_eq c.column) names) ≡ false
          → (list_any (bytes_eq c.column) names ≡ false → map (cell_given (cells ++ c ∷ [])) names ≡ map (cell_given cells) names) → map (cell_given (cells ++ c ∷ [])) (name ∷ names) ≡ map (cell_given cells) (name ∷ names)
      by true is none others = cc
      by false is none others =
          ap (λ (o : Option (Option (List ℕ))). o ∷ map (cell_given (cells ++ c ∷ [])) names) (given_other cells name is)
          ∙ ap (λ (l : List (Option (Option (List ℕ)))). cell_given cells name ∷ l) (others none)

  -- a name at a place of distinct names is none of those before it
  before_it : (names : List (List ℕ)) (n : List ℕ) (p : ℕ) → list_any (bytes_eq n) names ≡ false → slice_get names p ≡ Some c.column → bytes_eq c.column n ≡ false
  before_it [] n p none there = cc
  before_it (name ∷ names) n zero none there = by (bytes_eq n name) refl none
    where
      by : (b : Bool) → bytes_eq n name ≡ b → (b || list_any (bytes_eq n) names) ≡ false → bytes_eq c.column n ≡ false
      by true is none = cc
      by false is none =
          let e : name ≡ c.column = cc in
          flipped c.column n ∙ (ap (bytes_eq n) (sym e) ∙ is)
  before_it (name ∷ names) n (suc p) none there = by (bytes_eq n name) none (λ later. before_it names n p later there)
    where
      by : (b : Bool) → (b || list_any (bytes_eq n) names) ≡ false → (list_any (bytes_eq n) names ≡ false → bytes_eq c.column n ≡ false) → bytes_eq c.column n ≡ false
      by true none others = cc
      by false none others = others none

  given_set : (cells : List NamedCell) (names : List (List ℕ)) (p : ℕ) → are_distinct bytes_eq names ≡ true → slice_get names p ≡ Some c.column → cell_given cells c.column ≡ None
      → map (cell_given (cells ++ c ∷ [])) names ≡ set (map (cell_given cells) names) p (Some c.text)
  given_set cells [] p distinct there none = cc
  given_set cells (name ∷ names) zero distinct there none =
      let e : name ≡ c.column = cc in
      let apart : list_any (bytes_eq name) names ≡ false = not_any (list_any (bytes_eq name) names) (and_left (not (list_any (bytes_eq name) names)) (are_distinct bytes_eq names) distinct) in
      ap (λ (n : List ℕ). cell_given (cells ++ c ∷ []) n ∷ map (cell_given (cells ++ c ∷ [])) names) e
      ∙ (ap (λ (o : Option (Option (List ℕ))). o ∷ map (cell_given (cells ++ c ∷ [])) names) (given_own cells none)
      ∙ ap (λ (l : List (Option (Option (List ℕ)))). Some c.text ∷ l) (others_given cells names (subst (λ (n : List ℕ). list_any (bytes_eq n) names ≡ false) e apart)))
  given_set cells (name ∷ names) (suc p) distinct there none =
      let apart : list_any (bytes_eq name) names ≡ false = not_any (list_any (bytes_eq name) names) (and_left (not (list_any (bytes_eq name) names)) (are_distinct bytes_eq names) distinct) in
      ap (λ (o : Option (Option (List ℕ))). o ∷ map (cell_given (cells ++ c ∷ [])) names) (given_other cells name (before_it names name p apart there))
      ∙ ap (λ (l : List (Option (Option (List ℕ)))). cell_given cells name ∷ l) (given_set cells names p (and_right (not (list_any (bytes_eq name) names)) (are_distinct bytes_eq names) distinct) there none)

-- ---- names that stay distinct, or don't

pub taken_more : (cells : List NamedCell) (c : NamedCell) → are_distinct bytes_eq (given_names cells) ≡ true → list_any (bytes_eq c.column) (given_names cells) ≡ false → are_distinct bytes_eq (given_names (cells ++ c ∷ [])) ≡ true
taken_more cells c distinct new = ap (are_distinct bytes_eq) (map-append (λ (x : NamedCell). x.column) cells (c ∷ [])) ∙ distinct-push (given_names cells) c.column distinct new

readable_at : (p : NamedCell → Bool) (cells : List NamedCell) (n : ℕ) (c : NamedCell) → n < length cells → c ≡ get_or cells n c → list_all p cells ≡ true → p c ≡ true
readable_at p [] n c lt is all = absurd (omega (arith, lt))
readable_at p (x ∷ cells) zero c lt is all = ap p is ∙ and_left (p x) (list_all p cells) all
readable_at p (x ∷ cells) (suc n) c lt is all = readable_at p cells n c (omega (arith, lt)) is (and_right (p x) (list_all p cells) all)

-- a readable cell has a column
has_place : (info : TableInfo) (c : NamedCell) → is_readable (catalogue_of info) c ≡ true → is_some (place_of (column_names info.columns) c.column) ≡ true
has_place info c readable =
    is_some-position_from (bytes_eq c.column) 0 (column_names info.columns)
    ∙ (ap (λ (names : List (List ℕ)). list_any (bytes_eq c.column) names) (names_made info.columns (map raw_column info.columns) refl)
    ∙ and_left (is_column (catalogue_of info) c.column) (spells_cell (type_named (catalogue_of info) c.column) c.text) readable)

pub taken_twice : (info : TableInfo) (cells yielded : List NamedCell) (n : ℕ) (c : NamedCell) → n < length cells → c ≡ get_or cells n c → yielded ≡ take n cells → are_each_readable (catalogue_of info) cells ≡ true
    → (is_some (place_of (column_names info.columns) c.column) ≡ true → list_any (bytes_eq c.column) (given_names yielded) ≡ true) → are_distinct bytes_eq (given_names cells) ≡ false
taken_twice info cells yielded n c lt is front readable named =
    let there : is_some (place_of (column_names info.columns) c.column) ≡ true = has_place info c (readable_at (is_readable (catalogue_of info)) cells n c lt is readable) in
    ap (are_distinct bytes_eq) (cells_split cells n c lt is)
    ∙ distinct_not (given_names (take n cells)) c.column (given_names (drop (n + 1) cells)) (subst (λ (l : List NamedCell). list_any (bytes_eq c.column) (given_names l) ≡ true) front (named there))

-- ---- a cell at the place of its column

module _ (info : TableInfo) (cells : List NamedCell) (c : NamedCell) (p : ℕ) (at : place_of (column_names info.columns) c.column ≡ Some p) where
  name_there : slice_get (column_names info.columns) p ≡ Some c.column
  name_there =
      let h = position_from-at (bytes_eq c.column) 0 (column_names info.columns) p at in
      let same : p ≡ h.0 = omega (arith, h.1) in
      ap (slice_get (column_names info.columns)) same ∙ (h.2.1 ∙ ap Some (sym (same_text c.column h.2.0 h.2.2)))

  -- what is there
  pub named_there : slice_get (cells_named info cells) p ≡ Some (cell_given cells c.column)
  named_there = mapped (column_names info.columns) p name_there
    where
      mapped : (names : List (List ℕ)) (q : ℕ) → slice_get names q ≡ Some c.column → slice_get (map (cell_given cells) names) q ≡ Some (cell_given cells c.column)
      mapped [] q there = cc
      mapped (name ∷ names) zero there = let e : name ≡ c.column = cc in ap (λ (n : List ℕ). Some (cell_given cells n)) e
      mapped (name ∷ names) (suc q) there = mapped names q there

  pub cell_put : is_some (cell_given cells c.column) ≡ false → set (cells_named info cells) p (Some c.text) ≡ cells_named info (cells ++ c ∷ [])
  cell_put none = sym (given_set c cells (column_names info.columns) p (distinct_columns info) name_there (is_none (cell_given cells c.column) none))
    where
      is_none : (o : Option (Option (List ℕ))) → is_some o ≡ false → o ≡ None
      is_none None is = refl
      is_none (Some t) is = cc

-- ---- the row of the cells

none_named : (names : List (List ℕ)) → replicate (length names) None ≡ map (cell_given []) names
none_named [] = refl
none_named (name ∷ names) = ap (λ (l : List (Option (Option (List ℕ)))). None ∷ l) (none_named names)

pub begin_named : (info : TableInfo) (n : ℕ) → n ≡ length (column_names info.columns) → replicate n None ≡ cells_named info []
begin_named info n is = ap (λ (k : ℕ). replicate k None) is ∙ none_named (column_names info.columns)

text_flat : (o : Option NamedCell) → option_and_then (λ (text : Option (List ℕ)). text) (option_map (λ (c : NamedCell). c.text) o) ≡ option_and_then (λ (c : NamedCell). c.text) o
text_flat None = refl
text_flat (Some c) = refl

rows_flat : (columns : List Column) (cells : List NamedCell) → map (option_and_then (λ (text : Option (List ℕ)). text)) (map (cell_given cells) (column_names columns)) ≡ map (λ (column : RawColumn). text_given cells column.name) (map raw_column columns)
rows_flat [] cells = refl
rows_flat (c ∷ columns) cells =
    ap (λ (t : Option (List ℕ)). t ∷ map (option_and_then (λ (text : Option (List ℕ)). text)) (map (cell_given cells) (column_names columns))) (text_flat (cell_named cells c.name))
    ∙ ap (λ (l : List (Option (List ℕ))). text_given cells c.name ∷ l) (rows_flat columns cells)

pub row_of_named : (info : TableInfo) (cells : List NamedCell) → map (option_and_then (λ (text : Option (List ℕ)). text)) (cells_named info cells) ≡ row_given (catalogue_of info) cells
row_of_named info cells = rows_flat info.columns cells

-- ---- the texts of its key

text_there : (columns : List Column) (cells : List NamedCell) (p : ℕ) → p < length columns → unwrap_or (slice_get (map (λ (column : RawColumn). text_given cells column.name) (map raw_column columns)) p) None ≡ text_given cells (name_at columns p)
text_there [] cells p lt = absurd (omega (arith, lt))
text_there (c ∷ columns) cells zero lt = refl
text_there (c ∷ columns) cells (suc p) lt = text_there columns cells p (omega (arith, lt))

texts_there : (columns : List Column) (cells : List NamedCell) (places : List ℕ) → list_all (λ place. nat_lt place (length columns)) places ≡ true
    → list_all (λ (p : ℕ). is_some (unwrap_or (slice_get (map (λ (column : RawColumn). text_given cells column.name) (map raw_column columns)) p) None)) places ≡ list_all (λ (p : ℕ). is_some (text_given cells (name_at columns p))) places
texts_there columns cells [] within = refl
texts_there columns cells (p ∷ places) within =
    let low : nat_lt p (length columns) ≡ true = and_left (nat_lt p (length columns)) _ within in
    let lt : p < length columns = grind (arith, nat_tests) in
    ap (λ (o : Option (List ℕ)). is_some o && list_all (λ (q : ℕ). is_some (unwrap_or (slice_get (map (λ (column : RawColumn). text_given cells column.name) (map raw_column columns)) q) None)) places) (text_there columns cells p lt)
    ∙ ap (λ (b : Bool). is_some (text_given cells (name_at columns p)) && b) (texts_there columns cells places (and_right (nat_lt p (length columns)) _ within))

pub key_of_texts : (info : TableInfo) (cells : List NamedCell) → list_all (λ (p : ℕ). is_some (unwrap_or (slice_get (row_given (catalogue_of info) cells) p) None)) info.key ≡ has_key_texts (catalogue_of info) cells
key_of_texts info cells = texts_there info.columns cells info.key (places_within info) ∙ sym (has_key_texts_is info cells)
