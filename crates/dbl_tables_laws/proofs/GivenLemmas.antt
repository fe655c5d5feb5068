-- Rows and keys of given cells: where the cells can be read, the texts of keys spell values of their columns' types, and a row
-- that is set has the key that its key leads to.
use Rattle.std.proofs.Common.{◌≡◌, ◌∙◌, ◌<◌, ℕ, zero, suc, Bool, true, false, cond, Option, Some, None, List, [], ◌∷◌, ◌++◌, length, map, refl, sym, ap, subst, append_assoc, arith}
use Rattle.std.specs.Prelude.{◌||◌, not, nat_lt, is_some, IsSome, IsSomeAnd, option_map, option_and_then, unwrap_or, slice_get, bytes_eq}
use Rattle.std.specs.List.{AllZip, list_any, list_all}
use Rattle.std.proofs.lemmas.Bool.Decides.{nat_tests}
use Rattle.std.proofs.lemmas.List.{length-map}
use Rattle.std.proofs.lemmas.Option.{slice_get-map}
use Rattle.dbl_tables_rows.specs.Value.declared.column_type.PgType.{PgType}
use Rattle.dbl_tables_rows.specs.Value.declared.value.Val.{Val}
use Rattle.dbl_tables_rows.specs.Value.Values.{value_of}
use Rattle.dbl_tables_rows.specs.ModelTable.declared.named_cell.NamedCell.{NamedCell}
use Rattle.dbl_tables_rows.specs.ModelTable.declared.row.Key.{Key}
use Rattle.dbl_tables_rows.specs.ModelTable.declared.table.RawColumn.{RawColumn}
use Rattle.dbl_tables_rows.specs.ModelTable.declared.table.RawTable.{RawTable}
use Rattle.dbl_tables_rows.specs.ModelTable.declared.table.TableInfo.{TableInfo}
use Rattle.dbl_tables_rows.specs.ModelTable.Tables.{are_distinct}
use Rattle.dbl_tables_rows.specs.ModelTable.Infos.{raw_column, name_at, catalogue_of}
use Rattle.dbl_tables_rows.specs.ModelTable.Made.{raw_names, place_of}
use Rattle.dbl_model_table.proofs.Lists.{same_text, text_itself, and_left, and_right, and_both, any_here, is_some-position_from, position_from-at, slice_get-lt}
use Rattle.dbl_model_table.proofs.InfoLemmas.{places_within, has_name}
use Rattle.dbl_model_table.proofs.Making.{names_made}
use Rattle.dbl_tables_rows.specs.ModelHistory.History.{RawKey}
use Rattle.dbl_tables_rows.specs.ModelHistory.Typed.{typed_cell, typed_cells}
use Rattle.dbl_tables_rows.specs.SourceLog.Texts.{Texts, text_named, type_named, raw_key, key_from, key_in}
use Rattle.dbl_tables_rows.specs.SourceLog.FitLogs.{IsTextKey}
use Rattle.dbl_tables_rows.specs.Cells.{cell_named, text_given, row_given, key_texts, key_given, text_or, text_set, row_set, key_texts_set, key_set, is_column, is_key_name, spells_cell, is_readable, are_readable, has_key_texts, is_readable_row, is_readable_set}

-- a text that spells a value of a type
abbrev pub Spells : PgType → Option (List ℕ) → Type 0
Spells ty text = IsSomeAnd text (λ t. IsSome (value_of ty t))

-- a cell that is there and can be read spells one
spells_there : (ty : PgType) (text : Option (List ℕ)) → is_some text ≡ true → spells_cell ty text ≡ true → Spells ty text
spells_there ty None some fine = cc
spells_there ty (Some t) some fine = fine

or_not : (a b : Bool) → (a || not b) ≡ true → b ≡ true → a ≡ true
or_not true b either is = refl
or_not false true either is = cc
or_not false false either is = cc

-- ---- the cell of a name

-- it has what all have
pub found_cell : (p : NamedCell → Bool) (cells : List NamedCell) (name : List ℕ) (c : NamedCell) → cell_named cells name ≡ Some c → list_all p cells ≡ true → (p c ≡ true) × (c.column ≡ name)
found_cell p [] name c is all = cc
found_cell p (x ∷ cells) name c is all = by (bytes_eq x.column name) refl is (λ told. found_cell p cells name c told (and_right (p x) (list_all p cells) all))
  where
    by : (b : Bool) → bytes_eq x.column name ≡ b → cond b (Some x) (cell_named cells name) ≡ Some c → (cell_named cells name ≡ Some c → (p c ≡ true) × (c.column ≡ name)) → (p c ≡ true) × (c.column ≡ name)
    by true same told later =
        let e : x ≡ c = cc in
        (ap p (sym e) ∙ and_left (p x) (list_all p cells) all, ap (λ (y : NamedCell). y.column) (sym e) ∙ same_text x.column name same)
    by false other told later = later told

module _ (raw : RawTable) where
  -- ---- rows by the names of columns

  -- What a row has in a column, by the column's place.
  named_by : (row : Texts) (name : List ℕ) (v : Option (List ℕ)) → is_column raw name ≡ true
      → ((p : ℕ) (c : RawColumn) → place_of (raw_names raw.columns) name ≡ Some p → slice_get raw.columns p ≡ Some c → c.name ≡ name → slice_get row p ≡ Some v) → text_named raw row name ≡ v
  named_by row name v column at = by (place_of (raw_names raw.columns) name) refl
    where
      there : (p : ℕ) (o : Option RawColumn) → place_of (raw_names raw.columns) name ≡ Some p → slice_get raw.columns p ≡ o → (x : List ℕ) → option_map (λ (c : RawColumn). c.name) o ≡ Some x → bytes_eq name x ≡ true → unwrap_or (slice_get row p) None ≡ v
      there p None place is x named same = cc
      there p (Some c) place is x named same =
          let e : c.name ≡ name = (let f : c.name ≡ x = cc in f ∙ sym (same_text name x same)) in
          ap (λ (o : Option (Option (List ℕ))). unwrap_or o None) (at p c place is e)

      by : (o : Option ℕ) → place_of (raw_names raw.columns) name ≡ o → unwrap_or (option_and_then (slice_get row) o) None ≡ v
      by None is = let contra : true ≡ false = sym column ∙ (sym (is_some-position_from (bytes_eq name) 0 (raw_names raw.columns)) ∙ ap is_some is) in cc
      by (Some p) is =
          let found = position_from-at (bytes_eq name) 0 (raw_names raw.columns) p is in
          let place : found.0 ≡ p = omega (arith, found.1) in
          let named : slice_get (raw_names raw.columns) p ≡ Some found.2.0 = ap (slice_get (raw_names raw.columns)) (sym place) ∙ found.2.1 in
          there p (slice_get raw.columns p) is refl found.2.0 (sym (slice_get-map (λ (c : RawColumn). c.name) raw.columns p) ∙ named) found.2.2

  -- a row of given cells has them
  named_given : (cells : List NamedCell) (name : List ℕ) → is_column raw name ≡ true → text_named raw (row_given raw cells) name ≡ text_given cells name
  named_given cells name column = named_by (row_given raw cells) name (text_given cells name) column (λ p c place is named.
      slice_get-map (λ (k : RawColumn). text_given cells k.name) raw.columns p
      ∙ (ap (option_map (λ (k : RawColumn). text_given cells k.name)) is
      ∙ ap (λ (n : List ℕ). Some (text_given cells n)) named))

  set_at : (columns : List RawColumn) (set : List NamedCell) (row : Texts) (p : ℕ) (c : RawColumn) (x : Option (List ℕ)) → slice_get columns p ≡ Some c → slice_get row p ≡ Some x → slice_get (row_set columns set row) p ≡ Some (text_set set c.name x)
  set_at [] set row p c x is there = cc
  set_at (k ∷ columns) set [] p c x is there = cc
  set_at (k ∷ columns) set (y ∷ row) zero c x is there =
      let e : k ≡ c = cc in
      let f : y ≡ x = cc in
      ap (λ (z : RawColumn). Some (text_set set z.name y)) e ∙ ap (λ (z : Option (List ℕ)). Some (text_set set c.name z)) f
  set_at (k ∷ columns) set (y ∷ row) (suc p) c x is there = set_at columns set row p c x is there

  cell_there : (row : Texts) (p : ℕ) → p < length row → (y : Option (List ℕ)) × (slice_get row p ≡ Some y)
  cell_there [] p lt = absurd (omega arith)
  cell_there (x ∷ row) zero lt = (x, refl)
  cell_there (x ∷ row) (suc p) lt = cell_there row p (omega arith)

  -- a row that is set has what is set, and else what it had
  named_set : (set : List NamedCell) (before : Texts) → length before ≡ length raw.columns → (name : List ℕ) → is_column raw name ≡ true → text_named raw (row_set raw.columns set before) name ≡ text_set set name (text_named raw before name)
  named_set set before wide name column = named_by (row_set raw.columns set before) name (text_set set name (text_named raw before name)) column (λ p c place is named.
      let was = cell_there before p (subst (λ (n : ℕ). p < n) (sym wide) (slice_get-lt raw.columns p c is)) in
      let own : text_named raw before name ≡ was.0 =
      ap (λ (o : Option ℕ). unwrap_or (option_and_then (slice_get before) o) None) place ∙ ap (λ (o : Option (Option (List ℕ))). unwrap_or o None) was.1 in
      set_at raw.columns set before p c was.0 is was.1
      ∙ (ap (λ (n : List ℕ). Some (text_set set n was.0)) named ∙ ap (λ (z : Option (List ℕ)). Some (text_set set name z)) (sym own)))

  -- it is as wide
  wide_set : (columns : List RawColumn) (set : List NamedCell) (row : Texts) → length row ≡ length columns → length (row_set columns set row) ≡ length columns
  wide_set [] set row same = refl
  wide_set (c ∷ columns) set [] same = absurd (omega (arith, same))
  wide_set (c ∷ columns) set (x ∷ row) same = ap suc (wide_set columns set row (omega (arith, same)))

  -- ---- names of the key

  all_same : (f g : List ℕ → Option (List ℕ)) (names : List (List ℕ)) → list_all (is_column raw) names ≡ true → ((name : List ℕ) → is_column raw name ≡ true → f name ≡ g name) → map f names ≡ map g names
  all_same f g [] all same = refl
  all_same f g (name ∷ names) all same =
      ap (λ (x : Option (List ℕ)). x ∷ map f names) (same name (and_left (is_column raw name) (list_all (is_column raw) names) all))
      ∙ ap (λ (l : RawKey). g name ∷ l) (all_same f g names (and_right (is_column raw name) (list_all (is_column raw) names) all) same)

  own_from : (front names : List (List ℕ)) → raw.key ≡ front ++ names → list_all (is_key_name raw) names ≡ true
  own_from front [] is = refl
  own_from front (name ∷ names) is =
      and_both (is_key_name raw name) (list_all (is_key_name raw) names) (ap (list_any (bytes_eq name)) is ∙ any_here (bytes_eq name) front name names (text_itself name))
      (own_from (front ++ name ∷ []) names (is ∙ sym (append_assoc front (name ∷ []) names)))

  -- each name of the key is one
  own_names : list_all (is_key_name raw) raw.key ≡ true
  own_names = own_from [] raw.key refl

  -- ---- texts that can be read

  -- the text of a readable cell of a column spells a value of the column's type
  given_spells : (cells : List NamedCell) (name : List ℕ) → list_all (is_readable raw) cells ≡ true → is_some (text_given cells name) ≡ true → Spells (type_named raw name) (text_given cells name)
  given_spells cells name all some = by (cell_named cells name) refl some
    where
      by : (o : Option NamedCell) → cell_named cells name ≡ o → is_some (option_and_then (λ (c : NamedCell). c.text) o) ≡ true → Spells (type_named raw name) (option_and_then (λ (c : NamedCell). c.text) o)
      by None is there = cc
      by (Some c) is there =
          let one = found_cell (is_readable raw) cells name c is all in
          let fine : spells_cell (type_named raw c.column) c.text ≡ true = and_right (is_column raw c.column) (spells_cell (type_named raw c.column) c.text) one.0 in
          spells_there (type_named raw name) c.text there (ap (λ (n : List ℕ). spells_cell (type_named raw n) c.text) (sym one.1) ∙ fine)

  keys_spell : (cells : List NamedCell) (names : List (List ℕ)) → list_all (is_readable raw) cells ≡ true → list_all (λ (name : List ℕ). is_some (text_given cells name)) names ≡ true
      → AllZip (λ ty text. IsSomeAnd text (λ t. IsSome (value_of ty t))) (map (type_named raw) names) (map (text_given cells) names)
  keys_spell cells [] all some = tt
  keys_spell cells (name ∷ names) all some = (
    given_spells cells name all (and_left (is_some (text_given cells name)) (list_all (λ (n : List ℕ). is_some (text_given cells n)) names) some),
    keys_spell cells names all (and_right (is_some (text_given cells name)) (list_all (λ (n : List ℕ). is_some (text_given cells n)) names) some),
  )

  -- the texts of a readable key
  pub text_key_given : (cells : List NamedCell) → are_readable raw cells ≡ true → has_key_texts raw cells ≡ true → IsTextKey raw (key_texts raw cells)
  text_key_given cells readable some = keys_spell cells raw.key (and_left (list_all (is_readable raw) cells) (are_distinct bytes_eq (map (λ (c : NamedCell). c.column) cells)) readable) some

  -- a cell that is set spells a value, or leaves what did
  set_spells : (set : List NamedCell) (name : List ℕ) (before : Option (List ℕ)) → list_all (is_readable raw) set ≡ true → list_all (λ (c : NamedCell). is_some c.text || not (is_key_name raw c.column)) set ≡ true → is_key_name raw name ≡ true
      → Spells (type_named raw name) before → Spells (type_named raw name) (text_set set name before)
  set_spells set name before all keeps own was = by (cell_named set name) refl
    where
      by : (o : Option NamedCell) → cell_named set name ≡ o → Spells (type_named raw name) (text_or o before)
      by None is = was
      by (Some c) is =
          let one = found_cell (is_readable raw) set name c is all in
          let kept = found_cell (λ (x : NamedCell). is_some x.text || not (is_key_name raw x.column)) set name c is keeps in
          let fine : spells_cell (type_named raw c.column) c.text ≡ true = and_right (is_column raw c.column) (spells_cell (type_named raw c.column) c.text) one.0 in
          spells_there (type_named raw name) c.text (or_not (is_some c.text) (is_key_name raw c.column) kept.0 (ap (is_key_name raw) one.1 ∙ own))
          (ap (λ (n : List ℕ). spells_cell (type_named raw n) c.text) (sym one.1) ∙ fine)

  keys_set : (set : List NamedCell) (f : List ℕ → Option (List ℕ)) (names : List (List ℕ)) → list_all (is_readable raw) set ≡ true → list_all (λ (c : NamedCell). is_some c.text || not (is_key_name raw c.column)) set ≡ true → list_all (is_key_name raw) names ≡ true
      → AllZip (λ ty text. IsSomeAnd text (λ t. IsSome (value_of ty t))) (map (type_named raw) names) (map f names)
      → AllZip (λ ty text. IsSomeAnd text (λ t. IsSome (value_of ty t))) (map (type_named raw) names) (map (λ (name : List ℕ). text_set set name (f name)) names)
  keys_set set f [] all keeps own was = tt
  keys_set set f (name ∷ names) all keeps own was = (
    set_spells set name (f name) all keeps (and_left (is_key_name raw name) (list_all (is_key_name raw) names) own) was.0,
    keys_set set f names all keeps (and_right (is_key_name raw name) (list_all (is_key_name raw) names) own) was.1,
  )

  -- ---- keys of values

  -- texts alike in value stay so where the same cells are set
  typed_set : (set : List NamedCell) (f g : List ℕ → Option (List ℕ)) (names : List (List ℕ)) → typed_cells (map (type_named raw) names) (map f names) ≡ typed_cells (map (type_named raw) names) (map g names)
      → typed_cells (map (type_named raw) names) (map (λ (name : List ℕ). text_set set name (f name)) names) ≡ typed_cells (map (type_named raw) names) (map (λ (name : List ℕ). text_set set name (g name)) names)
  typed_set set f g [] same = refl
  typed_set set f g (name ∷ names) same =
      let first : typed_cell (type_named raw name) (f name) ≡ typed_cell (type_named raw name) (g name) = cc in
      let rest : typed_cells (map (type_named raw) names) (map f names) ≡ typed_cells (map (type_named raw) names) (map g names) = cc in
      ap (λ (v : Val). v ∷ typed_cells (map (type_named raw) names) (map (λ (n : List ℕ). text_set set n (f n)) names)) (one (cell_named set name) first)
      ∙ ap (λ (vs : List Val). typed_cell (type_named raw name) (text_set set name (g name)) ∷ vs) (typed_set set f g names rest)
    where
      one : (o : Option NamedCell) → typed_cell (type_named raw name) (f name) ≡ typed_cell (type_named raw name) (g name) → typed_cell (type_named raw name) (text_or o (f name)) ≡ typed_cell (type_named raw name) (text_or o (g name))
      one None told = told
      one (Some c) told = refl

  set_given : (set key : List NamedCell) (names : List (List ℕ)) → key_texts_set set names (map (text_given key) names) ≡ map (λ (name : List ℕ). text_set set name (text_given key name)) names
  set_given set key [] = refl
  set_given set key (name ∷ names) = ap (λ (l : RawKey). text_set set name (text_given key name) ∷ l) (set_given set key names)

-- ---- of a table that is captured

module _ (info : TableInfo) where
  columns_at : (places : List ℕ) → list_all (λ place. nat_lt place (length info.columns)) places ≡ true → list_all (is_column (catalogue_of info)) (map (name_at info.columns) places) ≡ true
  columns_at [] within = refl
  columns_at (p ∷ places) within =
      let low : nat_lt p (length info.columns) ≡ true = and_left (nat_lt p (length info.columns)) _ within in
      let lt : p < length info.columns = grind (arith, nat_tests) in
      and_both (is_column (catalogue_of info) (name_at info.columns p)) (list_all (is_column (catalogue_of info)) (map (name_at info.columns) places))
      (sym (ap (list_any (bytes_eq (name_at info.columns p))) (names_made info.columns (map raw_column info.columns) refl)) ∙ has_name info.columns p lt)
      (columns_at places (and_right (nat_lt p (length info.columns)) _ within))

  -- the names of its key are columns
  pub key_columns : list_all (is_column (catalogue_of info)) (catalogue_of info).key ≡ true
  key_columns = columns_at info.key (places_within info)

  -- the key of a row of given cells
  pub raw_key_given : (cells : List NamedCell) → raw_key (catalogue_of info) (row_given (catalogue_of info) cells) ≡ key_texts (catalogue_of info) cells
  raw_key_given cells = all_same (catalogue_of info) (text_named (catalogue_of info) (row_given (catalogue_of info) cells)) (text_given cells) (catalogue_of info).key key_columns (named_given (catalogue_of info) cells)

  pub text_key_row : (cells : List NamedCell) → is_readable_row (catalogue_of info) cells ≡ true → IsTextKey (catalogue_of info) (raw_key (catalogue_of info) (row_given (catalogue_of info) cells))
  text_key_row cells fine =
      subst (IsTextKey (catalogue_of info)) (sym (raw_key_given cells))
      (text_key_given (catalogue_of info) cells (and_left (are_readable (catalogue_of info) cells) (has_key_texts (catalogue_of info) cells) fine) (and_right (are_readable (catalogue_of info) cells) (has_key_texts (catalogue_of info) cells) fine))

  pub wide_given : (cells : List NamedCell) → length (row_given (catalogue_of info) cells) ≡ length (catalogue_of info).columns
  wide_given cells = length-map (catalogue_of info).columns (λ (column : RawColumn). text_given cells column.name)

  -- the texts of the key of a row that is set
  raw_key_set : (set : List NamedCell) (before : Texts) → length before ≡ length (catalogue_of info).columns → raw_key (catalogue_of info) (row_set (catalogue_of info).columns set before) ≡ map (λ (name : List ℕ). text_set set name (text_named (catalogue_of info) before name)) (catalogue_of info).key
  raw_key_set set before wide =
      all_same (catalogue_of info) (text_named (catalogue_of info) (row_set (catalogue_of info).columns set before)) (λ (name : List ℕ). text_set set name (text_named (catalogue_of info) before name)) (catalogue_of info).key key_columns
      (named_set (catalogue_of info) set before wide)

  pub text_key_set : (set : List NamedCell) (before : Texts) → length before ≡ length (catalogue_of info).columns → is_readable_set (catalogue_of info) set ≡ true → IsTextKey (catalogue_of info) (raw_key (catalogue_of info) before)
      → IsTextKey (catalogue_of info) (raw_key (catalogue_of info) (row_set (catalogue_of info).columns set before))
  text_key_set set before wide fine was =
      let readable : are_readable (catalogue_of info) set ≡ true = and_left (are_readable (catalogue_of info) set) (list_all (λ (c : NamedCell). is_some c.text || not (is_key_name (catalogue_of info) c.column)) set) fine in
      let keeps : list_all (λ (c : NamedCell). is_some c.text || not (is_key_name (catalogue_of info) c.column)) set ≡ true = and_right (are_readable (catalogue_of info) set) (list_all (λ (c : NamedCell). is_some c.text || not (is_key_name (catalogue_of info) c.column)) set) fine in
      let all : list_all (is_readable (catalogue_of info)) set ≡ true = and_left (list_all (is_readable (catalogue_of info)) set) (are_distinct bytes_eq (map (λ (c : NamedCell). c.column) set)) readable in
      subst (IsTextKey (catalogue_of info)) (sym (raw_key_set set before wide)) (keys_set (catalogue_of info) set (text_named (catalogue_of info) before) (catalogue_of info).key all keeps (own_names (catalogue_of info)) was)

  -- a row at a given key, set, has the key that the given key leads to
  pub key_in_set : (key set : List NamedCell) (before : Texts) → length before ≡ length (catalogue_of info).columns → key_in (catalogue_of info) before ≡ key_given (catalogue_of info) key
      → key_in (catalogue_of info) (row_set (catalogue_of info).columns set before) ≡ key_set (catalogue_of info) key set
  key_in_set key set before wide at =
      let names : List (List ℕ) = (catalogue_of info).key in
      let types : List PgType = map (type_named (catalogue_of info)) names in
      let same : typed_cells types (map (text_named (catalogue_of info) before) names) ≡ typed_cells types (map (text_given key) names) = ap (λ (k : Key). k.cells) at in
      ap (key_from (catalogue_of info)) (raw_key_set set before wide)
      ∙ (ap (λ (values : List Val). let k : Key = record { cells = values } in k) (typed_set (catalogue_of info) set (text_named (catalogue_of info) before) (text_given key) names same)
      ∙ ap (key_from (catalogue_of info)) (sym (set_given (catalogue_of info) set key names)))

  pub wide_row_set : (set : List NamedCell) (before : Texts) → length before ≡ length (catalogue_of info).columns → length (row_set (catalogue_of info).columns set before) ≡ length (catalogue_of info).columns
  wide_row_set set before wide = wide_set (catalogue_of info) (catalogue_of info).columns set before wide
