-- Columns at the places of a key, and columns by their names: what loops and look-ups find is what the catalogue names.
use Rattle.std.proofs.Common.{◌≡◌, ◌∙◌, ◌+◌, ◌<◌, ◌≤◌, inl, inr, ℕ, Bool, true, false, Option, Some, None, List, [], ◌∷◌, ◌++◌, length, map, take, drop, get_or, refl, sym, ap, subst, arith}
use Rattle.std.specs.Prelude.{◌&&◌, nat_lt, is_some, option_map, option_and_then, unwrap_or, slice_get, bytes_eq}
use Rattle.std.specs.List.{list_all}
use Rattle.std.proofs.lemmas.Bool.Decides.{nat_tests}
use Rattle.std.proofs.lemmas.List.{drop-map, drop_more, map_more}
use Rattle.std.proofs.lemmas.List.Folds.{list_all_at, list_all_more}
use Rattle.std.proofs.lemmas.Option.{slice_get-map, slice_get_read}
use Rattle.std.proofs.Math.ListN.{drop_of_length-le}
use Rattle.dbl_value_types.specs.declared.column_type.PgType.{PgType}
use Rattle.dbl_value_types.specs.declared.column_type.PgType.TheVariants as type
use Rattle.dbl_value_types.specs.Values.{oid_of, is_column_type}
use Rattle.dbl_value_types.specs.Types.{type_of}
use Rattle.dbl_value_types.proofs.TypeLemmas.{type_of-oid_of}
use Rattle.dbl_model_table.specs.declared.named_cell.NamedCell.{NamedCell}
use Rattle.dbl_model_table.specs.declared.table.Column.{Column}
use Rattle.dbl_model_table.specs.declared.table.RawColumn.{RawColumn}
use Rattle.dbl_model_table.specs.declared.table.TableInfo.{TableInfo}
use Rattle.dbl_model_table.specs.Infos.{raw_column, name_at, catalogue_of}
use Rattle.dbl_model_table.specs.Tables.{column_names, are_typed}
use Rattle.dbl_model_table.specs.Made.{raw_names, place_of}
use Rattle.dbl_model_table.proofs.Lists.{bool_case, is_some-position_from}
use Rattle.dbl_model_table.proofs.InfoLemmas.{typed_columns, places_within}
use Rattle.dbl_model_table.proofs.Making.{names_made, placed}
use Rattle.dbl_source_log.specs.Texts.{type_named}
use Rattle.dbl_tables_rows.specs.Cells.{key_texts_set, spells_cell, is_column, is_readable}
use Rattle.dbl_tables_rows.specs.Sending.{column_type}

-- ---- tests of all

-- what all pass, each passes
pub passes_at : {A : Type 0} (p : A → Bool) (xs : List A) (i : ℕ) (x : A) → list_all p xs ≡ true → i < length xs → p (get_or xs i x) ≡ true
passes_at p xs i x all lt = elim (bool_case (p (get_or xs i x))) [
  | inl passed ↦ passed
  | inr failed ↦ (let contra : true ≡ false = sym all ∙ list_all_at p xs i x lt failed in cc)
]

-- one more passes
pub all_pass_more : {A : Type 0} (p : A → Bool) (xs : List A) (i : ℕ) (x : A) → i < length xs → x ≡ get_or xs i x → list_all p (take i xs) ≡ true → p x ≡ true → list_all p (take (i + 1) xs) ≡ true
all_pass_more p xs i x lt is all one =
    list_all_more p xs i x lt ∙ (ap (λ (b : Bool). b && p (get_or xs i x)) all ∙ (sym (ap p is) ∙ one))

-- ---- columns and their types

column_there : (columns : List Column) (i : ℕ) (c : Column) → i < length columns → c ≡ get_or columns i c → slice_get columns i ≡ Some c
column_there columns i c lt is = slice_get_read columns (length columns) i c refl lt is

-- a column of columns that are typed has a type
pub typed_at : (columns : List Column) (i : ℕ) (c : Column) → are_typed columns ≡ true → i < length columns → c ≡ get_or columns i c → is_column_type c.ty ≡ true
typed_at columns i c typed lt is = ap (λ (x : Column). is_column_type x.ty) is ∙ passes_at (λ (x : Column). is_column_type x.ty) columns i c typed lt

-- the catalogue's type of a column is its own
pub type_is : (c : Column) → is_column_type c.ty ≡ true → column_type (raw_column c) ≡ c.ty
type_is c typed = ap (λ (o : Option PgType). unwrap_or o type.Text) (type_of-oid_of c.ty typed)

-- ---- cells by the names of columns

module _ (info : TableInfo) (cell : NamedCell) where
  -- a cell of a column that is there
  pub readable_there : (place : ℕ) (c : Column) → place_of (column_names info.columns) cell.column ≡ Some place → true ≡ nat_lt place (length info.columns) → c ≡ get_or info.columns place c → spells_cell c.ty cell.text ≡ is_readable (catalogue_of info) cell
  readable_there place c at test is =
      let lt : place < length info.columns = grind (arith, nat_tests) in
      let here : slice_get info.columns place ≡ Some c = column_there info.columns place c lt is in
      let raw_here : slice_get (map raw_column info.columns) place ≡ Some (raw_column c) = slice_get-map raw_column info.columns place ∙ ap (option_map raw_column) here in
      let there : place_of (raw_names (map raw_column info.columns)) cell.column ≡ Some place = ap (λ (names : List (List ℕ)). place_of names cell.column) (sym (names_made info.columns (map raw_column info.columns) refl)) ∙ at in
      let is_there : is_column (catalogue_of info) cell.column ≡ true = sym (is_some-position_from (bytes_eq cell.column) 0 (raw_names (map raw_column info.columns))) ∙ ap is_some there in
      let known : type_of (oid_of c.ty) ≡ Some c.ty = type_of-oid_of c.ty (typed_at info.columns place c (typed_columns info) lt is) in
      let ty : type_named (catalogue_of info) cell.column ≡ c.ty =
      ap (λ (o : Option ℕ). unwrap_or (option_and_then (λ (x : RawColumn). type_of x.oid) (option_and_then (slice_get (map raw_column info.columns)) o)) type.Text) there
      ∙ (ap (λ (o : Option RawColumn). unwrap_or (option_and_then (λ (x : RawColumn). type_of x.oid) o) type.Text) raw_here
      ∙ ap (λ (o : Option PgType). unwrap_or o type.Text) known) in
      sym (ap (λ (b : Bool). b && spells_cell (type_named (catalogue_of info) cell.column) cell.text) is_there ∙ ap (λ (t : PgType). spells_cell t cell.text) ty)

  -- a cell of none
  pub unreadable_none : place_of (column_names info.columns) cell.column ≡ None → false ≡ is_readable (catalogue_of info) cell
  unreadable_none none =
      let there : place_of (raw_names (map raw_column info.columns)) cell.column ≡ None = ap (λ (names : List (List ℕ)). place_of names cell.column) (sym (names_made info.columns (map raw_column info.columns) refl)) ∙ none in
      let not_there : is_column (catalogue_of info) cell.column ≡ false = sym (is_some-position_from (bytes_eq cell.column) 0 (raw_names (map raw_column info.columns))) ∙ ap is_some there in
      sym (ap (λ (b : Bool). b && spells_cell (type_named (catalogue_of info) cell.column) cell.text) not_there)

  -- no name has a place past the columns
  pub never_past : (place : ℕ) → place_of (column_names info.columns) cell.column ≡ Some place → false ≡ nat_lt place (length info.columns) → ⊥
  never_past place at test =
      let lt : place < length info.columns = (placed info.columns cell.column place at).1 in
      let past : length info.columns ≤ place = grind (arith, nat_tests) in
      omega arith

-- ---- the columns of a key

-- what is read of columns and of a key that are the table's
module _ (info : TableInfo) (columns : List Column) (key : List ℕ) (own : columns ≡ info.columns) (keys : key ≡ info.key) (i : ℕ) (lt : i < length key) where
  below : i < length info.key
  below = subst (λ (l : List ℕ). i < length l) keys lt

  place_is : get_or key i 0 ≡ get_or info.key i 0
  place_is = ap (λ (l : List ℕ). get_or l i 0) keys

  -- a place of the key is one of the columns
  within : get_or info.key i 0 < length info.columns
  within = let test : nat_lt (get_or info.key i 0) (length info.columns) ≡ true = passes_at (λ (place : ℕ). nat_lt place (length info.columns)) info.key i 0 (places_within info) below in grind (arith, nat_tests)

  -- a column at a place of the key has the name of the key's column
  pub name_there : (c : Column) → c ≡ get_or columns (get_or key i 0) c → c.name ≡ name_at info.columns (get_or info.key i 0)
  name_there c is =
      let here : c ≡ get_or info.columns (get_or info.key i 0) c = is ∙ (ap (λ (l : List Column). get_or l (get_or key i 0) c) own ∙ ap (λ (p : ℕ). get_or info.columns p c) place_is) in
      sym (ap (λ (o : Option Column). unwrap_or (option_map (λ (x : Column). x.name) o) []) (column_there info.columns (get_or info.key i 0) c within here))

  -- there is always one
  pub never_out : false ≡ nat_lt (get_or key i 0) (length columns) → ⊥
  never_out out =
      let low : get_or info.key i 0 < length info.columns = within in
      let test : false ≡ nat_lt (get_or info.key i 0) (length info.columns) = out ∙ (ap (λ (l : List Column). nat_lt (get_or key i 0) (length l)) own ∙ ap (λ (p : ℕ). nat_lt p (length info.columns)) place_is) in
      let past : length info.columns ≤ get_or info.key i 0 = grind (arith, nat_tests) in
      omega arith

  -- one more of what is made of each place
  pub key_more : {A : Type 0} (f : ℕ → A) → map f (take (i + 1) info.key) ≡ map f (take i info.key) ++ f (get_or info.key i 0) ∷ []
  key_more f = map_more f info.key i 0 below

  pub all_more : (p : ℕ → Bool) → list_all p (take i info.key) ≡ true → p (get_or info.key i 0) ≡ true → list_all p (take (i + 1) info.key) ≡ true
  all_more p all one = list_all_more p info.key i 0 below ∙ (ap (λ (b : Bool). b && p (get_or info.key i 0)) all ∙ one)

  pub not_all : (p : ℕ → Bool) → p (get_or info.key i 0) ≡ false → list_all p info.key ≡ false
  not_all p failed = list_all_at p info.key i 0 below failed

  -- the names that are left
  pub names_rest : drop i (map (name_at info.columns) info.key) ≡ name_at info.columns (get_or info.key i 0) ∷ drop (i + 1) (map (name_at info.columns) info.key)
  names_rest =
      drop-map (name_at info.columns) i info.key
      ∙ (ap (map (name_at info.columns)) (drop_more info.key i 0 below)
      ∙ ap (λ (l : List (List ℕ)). name_at info.columns (get_or info.key i 0) ∷ l) (sym (drop-map (name_at info.columns) (i + 1) info.key)))

pub names_past : (columns : List Column) (key : List ℕ) (i : ℕ) → length key ≤ i → drop i (map (name_at columns) key) ≡ []
names_past columns key i past = drop-map (name_at columns) i key ∙ ap (map (name_at columns)) (drop_of_length-le key past)

pub no_key_set : (set : List NamedCell) (names : List (List ℕ)) → key_texts_set set names [] ≡ []
no_key_set set [] = refl
no_key_set set (name ∷ names) = refl
