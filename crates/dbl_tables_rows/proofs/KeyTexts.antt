-- The texts of a key, by the places of its columns and by their names.
use Rattle.std.proofs.Common.{◌≡◌, ◌∙◌, ◌<◌, ◌≤◌, ℕ, Bool, true, false, get_or, Option, Some, None, List, [], ◌∷◌, length, map, refl, sym, ap, arith}
use Rattle.std.specs.Prelude.{◌||◌, ◌&&◌, nat_lt, is_some, option_map, option_and_then, unwrap_or, slice_get, bytes_eq}
use Rattle.std.specs.List.{list_any, list_all}
use Rattle.std.proofs.lemmas.Bool.Decides.{nat_tests}
use Rattle.std.proofs.lemmas.Option.{slice_get-map, slice_get_past, slice_get_read}
use Rattle.dbl_value_types.specs.declared.column_type.PgType.{PgType}
use Rattle.dbl_value_types.specs.declared.column_type.PgType.TheVariants as type
use Rattle.dbl_model_table.specs.declared.table.TableInfo.{TableInfo}
use Rattle.dbl_model_table.specs.declared.named_cell.NamedCell.{NamedCell}
use Rattle.dbl_model_table.specs.declared.row.Key.{Key}
use Rattle.dbl_model_table.specs.Tables.{column_names, type_at}
use Rattle.dbl_model_table.specs.Infos.{raw_column, name_at, catalogue_of}
use Rattle.dbl_model_table.specs.Made.{raw_names, place_of}
use Rattle.dbl_model_table.proofs.Lists.{and_left, and_right, is_some-position_from}
use Rattle.dbl_model_table.proofs.InfoLemmas.{distinct_columns, places_within, has_name, place_one}
use Rattle.dbl_model_table.proofs.Making.{names_made, placed}
use Rattle.dbl_source_log.specs.ModelHistory.History.{RawKey}
use Rattle.dbl_source_log.specs.ModelHistory.Typed.{typed_cells}
use Rattle.dbl_source_log.specs.declared.logged.LogTable.{LogTable}
use Rattle.dbl_source_log.specs.Texts.{Texts, text_named, raw_key, key_from}
use Rattle.dbl_source_log.proofs.CellTexts.{types_named}
use Rattle.dbl_tables_rows.specs.Cells.{text_given, key_texts, is_key_name, has_key_texts}

module _ (info : TableInfo) where
  -- the place of a column's name is its own
  pub place_named : (p : ℕ) → p < length info.columns → place_of (raw_names (catalogue_of info).columns) (name_at info.columns p) ≡ Some p
  place_named p lt =
      ap (λ (names : List (List ℕ)). place_of names (name_at info.columns p)) (sym (names_made info.columns (map raw_column info.columns) refl)) ∙ by (place_of (column_names info.columns) (name_at info.columns p)) refl
    where
      by : (o : Option ℕ) → place_of (column_names info.columns) (name_at info.columns p) ≡ o → o ≡ Some p
      by None none =
          let some : is_some (place_of (column_names info.columns) (name_at info.columns p)) ≡ true =
          is_some-position_from (bytes_eq (name_at info.columns p)) 0 (column_names info.columns) ∙ has_name info.columns p lt in
          let never : is_some {T = ℕ} None ≡ true = sym (ap (λ (o : Option ℕ). is_some o) none) ∙ some in
          cc
      by (Some q) there =
          let named = placed info.columns (name_at info.columns p) q there in
          ap (λ (n : ℕ). Some n) (place_one info.columns q p (distinct_columns info) named.1 lt named.0)

  texts_at : (texts : Texts) (places : List ℕ) → list_all (λ place. nat_lt place (length info.columns)) places ≡ true
      → map (text_named (catalogue_of info) texts) (map (name_at info.columns) places) ≡ map (λ (p : ℕ). unwrap_or (slice_get texts p) None) places
  texts_at texts [] within = refl
  texts_at texts (p ∷ places) within =
      let low : nat_lt p (length info.columns) ≡ true = and_left (nat_lt p (length info.columns)) _ within in
      let lt : p < length info.columns = grind (arith, nat_tests) in
      ap (λ (o : Option ℕ). unwrap_or (option_and_then (slice_get texts) o) None ∷ map (text_named (catalogue_of info) texts) (map (name_at info.columns) places)) (place_named p lt)
      ∙ ap (λ (l : Texts). unwrap_or (slice_get texts p) None ∷ l) (texts_at texts places (and_right (nat_lt p (length info.columns)) _ within))

  -- the texts of a row's key stand at the key's places
  pub row_key_is : (texts : Texts) → raw_key (catalogue_of info) texts ≡ map (λ (p : ℕ). unwrap_or (slice_get texts p) None) info.key
  row_key_is texts = texts_at texts info.key (places_within info)

  given_at : (cells : List NamedCell) (places : List ℕ) → map (text_given cells) (map (name_at info.columns) places) ≡ map (λ (p : ℕ). text_given cells (name_at info.columns p)) places
  given_at cells [] = refl
  given_at cells (p ∷ places) = ap (λ (l : RawKey). text_given cells (name_at info.columns p) ∷ l) (given_at cells places)

  -- those of given cells are found by its names
  pub key_texts_is : (cells : List NamedCell) → key_texts (catalogue_of info) cells ≡ map (λ (p : ℕ). text_given cells (name_at info.columns p)) info.key
  key_texts_is cells = given_at cells info.key

  has_at : (cells : List NamedCell) (places : List ℕ) → list_all (λ (name : List ℕ). is_some (text_given cells name)) (map (name_at info.columns) places) ≡ list_all (λ (p : ℕ). is_some (text_given cells (name_at info.columns p))) places
  has_at cells [] = refl
  has_at cells (p ∷ places) = ap (λ (b : Bool). is_some (text_given cells (name_at info.columns p)) && b) (has_at cells places)

  pub has_key_texts_is : (cells : List NamedCell) → has_key_texts (catalogue_of info) cells ≡ list_all (λ (p : ℕ). is_some (text_given cells (name_at info.columns p))) info.key
  has_key_texts_is cells = has_at cells info.key

  any_at : (name : List ℕ) (places : List ℕ) → list_any (bytes_eq name) (map (name_at info.columns) places) ≡ list_any (λ (p : ℕ). bytes_eq name (name_at info.columns p)) places
  any_at name [] = refl
  any_at name (p ∷ places) = ap (λ (b : Bool). bytes_eq name (name_at info.columns p) || b) (any_at name places)

  -- a name of the key is that of a column at one of its places
  pub is_key_name_is : (name : List ℕ) → is_key_name (catalogue_of info) name ≡ list_any (λ (p : ℕ). bytes_eq name (name_at info.columns p)) info.key
  is_key_name_is name = any_at name info.key

  abbrev as_log : LogTable
  as_log = record { raw = catalogue_of info; full = true }

  -- the values of a key's texts, by the types of its columns
  pub key_from_is : (texts : RawKey) → key_from (catalogue_of info) texts ≡ (let k : Key = record { cells = typed_cells (map (type_at info.columns) info.key) texts } in k)
  key_from_is texts = ap (λ (types : List PgType). let k : Key = record { cells = typed_cells types texts } in k) (types_named as_log info refl)

  -- the type of the key's column at a place of the key
  pub type_some : (i p : ℕ) → true ≡ nat_lt i (length info.key) → p ≡ get_or info.key i p → type_at info.columns p ≡ unwrap_or (slice_get (map (type_at info.columns) info.key) i) type.Text
  type_some i p test at =
      let lt : i < length info.key = grind (arith, nat_tests) in
      let there : slice_get info.key i ≡ Some p = slice_get_read info.key (length info.key) i p refl lt at in
      sym (ap (λ (o : Option PgType). unwrap_or o type.Text) (slice_get-map (type_at info.columns) info.key i ∙ ap (option_map (type_at info.columns)) there))

  pub type_none : (i : ℕ) → false ≡ nat_lt i (length info.key) → type.Text ≡ unwrap_or (slice_get (map (type_at info.columns) info.key) i) type.Text
  type_none i test =
      let past : length info.key ≤ i = grind (arith, nat_tests) in
      let none : slice_get info.key i ≡ None = slice_get_past info.key i past in
      sym (ap (λ (o : Option PgType). unwrap_or o type.Text) (slice_get-map (type_at info.columns) info.key i ∙ ap (option_map (type_at info.columns)) none))
