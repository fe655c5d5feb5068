-- Columns that an alteration leaves: their cells, their types, and with them the keys of rows.
use Rattle.std.proofs.Common.{◌≡◌, ◌∙◌, ◌+◌, ℕ, suc, Bool, true, false, cond, Option, Some, None, List, [], ◌∷◌, ◌++◌, length, map, refl, sym, ap, subst, arith}
use Rattle.std.specs.Prelude.{◌||◌, not, if◌then◌else◌, option_map, option_and_then, unwrap_or, filter, slice_get, bytes_eq, IsSome, IsSomeAnd}
use Rattle.std.specs.List.{AllZip, list_any, list_all, position_from}
use Rattle.std.proofs.lemmas.List.{length-append}
use Rattle.dbl_value_types.specs.declared.column_type.PgType.{PgType}
use Rattle.dbl_value_types.specs.declared.column_type.PgType.TheVariants as type
use Rattle.dbl_value_types.specs.Types.{type_of}
use Rattle.dbl_value_types.specs.Values.{value_of}
use Rattle.dbl_model_table.specs.declared.row.Key.{Key}
use Rattle.dbl_model_table.specs.declared.table.RawColumn.{RawColumn}
use Rattle.dbl_model_table.specs.declared.table.RawTable.{RawTable}
use Rattle.dbl_model_table.specs.Made.{raw_names, place_of, column_named}
use Rattle.dbl_model_table.proofs.Lists.{same_text, and_left, and_right}
use Rattle.dbl_model_history.specs.History.{RawKey}
use Rattle.dbl_model_history.specs.Typed.{typed_cells}
use Rattle.dbl_source_log.specs.Texts.{Texts, text_named, type_named, raw_key, raw_key_types, key_in}
use Rattle.dbl_source_log.specs.FitLogs.{IsTextKey}
use Rattle.dbl_tables_rows.specs.declared.demo_table.DemoTable.{DemoTable}
use Rattle.dbl_tables_rows.specs.Cells.{is_column}
use Rattle.dbl_tables_rows.specs.Sending.{raw_of}
use Rattle.dbl_tables_laws.proofs.GivenLemmas.{key_columns}
use Rattle.dbl_tables_altered.specs.declared.alteration.Alteration.{Alteration}
use Rattle.dbl_tables_altered.specs.declared.alteration.Alteration.TheVariants.{Add, Remove}
use Rattle.dbl_tables_altered.specs.Alterations.{removes, added_columns, added_cells, columns_after, raw_after, cells_left, row_after}
use Rattle.dbl_tables_epochs.specs.Epochs.{IsTableAfter}
use Rattle.dbl_tables_epochs.specs.Laws.{KeptCellsStay}

-- ---- the first of a name, column by column

-- one place further
place_shift : (test : List ℕ → Bool) (i : ℕ) (names : List (List ℕ)) → position_from test (i + 1) names ≡ option_map suc (position_from test i names)
place_shift test i [] = refl
place_shift test i (name ∷ names) = by (test name) (place_shift test (i + 1) names)
  where
    next : (n : ℕ) → n + 1 ≡ suc n
    next n = omega arith

    by : (b : Bool) → position_from test ((i + 1) + 1) names ≡ option_map suc (position_from test (i + 1) names)
        → cond b (Some (i + 1)) (position_from test ((i + 1) + 1) names) ≡ option_map suc (cond b (Some i) (position_from test (i + 1) names))
    by true later = ap Some (next i)
    by false later = later

-- The cell of the first column of a name, null if there is none.
abbrev cell_by : List RawColumn → Texts → List ℕ → Option (List ℕ)
cell_by [] row name = None
cell_by (column ∷ columns) [] name = None
cell_by (column ∷ columns) (text ∷ row) name = if bytes_eq name column.name then text else cell_by columns row name

-- The first column of a name.
abbrev column_by : List RawColumn → List ℕ → Option RawColumn
column_by [] name = None
column_by (column ∷ columns) name = if bytes_eq name column.name then Some column else column_by columns name

cell_is : (columns : List RawColumn) (row : Texts) (name : List ℕ)
    → unwrap_or (option_and_then (slice_get row) (place_of (raw_names columns) name)) None ≡ cell_by columns row name
cell_is [] row name = refl
cell_is (column ∷ columns) [] name = by (place_of (raw_names (column ∷ columns)) name)
  where
    by : (o : Option ℕ) → unwrap_or {T = Option (List ℕ)} (option_and_then (slice_get []) o) None ≡ None
    by None = refl
    by (Some p) = refl
cell_is (column ∷ columns) (text ∷ row) name = by (bytes_eq name column.name) (cell_is columns row name)
  where
    at : (o : Option ℕ) → unwrap_or (option_and_then (slice_get (text ∷ row)) (option_map suc o)) None ≡ unwrap_or (option_and_then (slice_get row) o) None
    at None = refl
    at (Some p) = refl

    by : (b : Bool) → unwrap_or (option_and_then (slice_get row) (place_of (raw_names columns) name)) None ≡ cell_by columns row name
        → unwrap_or (option_and_then (slice_get (text ∷ row)) (cond b (Some 0) (position_from (bytes_eq name) (0 + 1) (raw_names columns)))) None
        ≡ (if b then text else cell_by columns row name)
    by true later = refl
    by false later =
        ap (λ (o : Option ℕ). unwrap_or (option_and_then (slice_get (text ∷ row)) o) None) (place_shift (bytes_eq name) 0 (raw_names columns))
        ∙ (at (place_of (raw_names columns) name) ∙ later)

column_is : (columns : List RawColumn) (name : List ℕ) → column_named columns name ≡ column_by columns name
column_is [] name = refl
column_is (column ∷ columns) name = by (bytes_eq name column.name) (column_is columns name)
  where
    at : (o : Option ℕ) → option_and_then (slice_get (column ∷ columns)) (option_map suc o) ≡ option_and_then (slice_get columns) o
    at None = refl
    at (Some p) = refl

    by : (b : Bool) → option_and_then (slice_get columns) (place_of (raw_names columns) name) ≡ column_by columns name
        → option_and_then (slice_get (column ∷ columns)) (cond b (Some 0) (position_from (bytes_eq name) (0 + 1) (raw_names columns)))
        ≡ (if b then Some column else column_by columns name)
    by true later = refl
    by false later =
        ap (λ (o : Option ℕ). option_and_then (slice_get (column ∷ columns)) o) (place_shift (bytes_eq name) 0 (raw_names columns))
        ∙ (at (place_of (raw_names columns) name) ∙ later)

-- ---- what is left

-- The columns that an alteration doesn't remove.
abbrev left : Alteration → List RawColumn → List RawColumn
left alteration columns = filter (λ (column : RawColumn). not (removes alteration column.name)) columns

module _ (alteration : Alteration) (more : List RawColumn) (name : List ℕ) (kept : removes alteration name ≡ false) where
  -- a column that is removed has another name
  other_name : (column : RawColumn) → removes alteration column.name ≡ true → bytes_eq name column.name ≡ false
  other_name column removed = by (bytes_eq name column.name) refl
    where
      by : (b : Bool) → bytes_eq name column.name ≡ b → b ≡ false
      by true same = let contra : true ≡ false = sym removed ∙ (ap (removes alteration) (sym (same_text name column.name same)) ∙ kept) in cc
      by false other = refl

  cell_left_by : (columns : List RawColumn) (row added : Texts) → length row ≡ length columns → list_any (bytes_eq name) (raw_names columns) ≡ true
      → cell_by (left alteration columns ++ more) (cells_left alteration columns row ++ added) name ≡ cell_by columns row name
  cell_left_by [] row added wide there = cc
  cell_left_by (column ∷ columns) [] added wide there = absurd (omega (arith, wide))
  cell_left_by (column ∷ columns) (text ∷ row) added wide there =
      by (removes alteration column.name) (bytes_eq name column.name) refl refl there (λ later. cell_left_by columns row added (omega (arith, wide)) later)
    where
      by : (r s : Bool) → removes alteration column.name ≡ r → bytes_eq name column.name ≡ s → (s || list_any (bytes_eq name) (raw_names columns)) ≡ true
          → (list_any (bytes_eq name) (raw_names columns) ≡ true
          → cell_by (left alteration columns ++ more) (cells_left alteration columns row ++ added) name ≡ cell_by columns row name)
          → cell_by (cond (not r) (column ∷ left alteration columns) (left alteration columns) ++ more)
          ((if r then cells_left alteration columns row else text ∷ cells_left alteration columns row) ++ added) name
          ≡ (if s then text else cell_by columns row name)
      by true true removed same told later = let contra : true ≡ false = sym same ∙ other_name column removed in cc
      by true false removed other told later = later told
      by false true stays same told later = ap
          (λ (b : Bool). if b then text else cell_by (left alteration columns ++ more) (cells_left alteration columns row ++ added) name) same
      by false false stays other told later = ap
          (λ (b : Bool). if b then text else cell_by (left alteration columns ++ more) (cells_left alteration columns row ++ added) name) other ∙ later told

  column_left_by : (columns : List RawColumn) → list_any (bytes_eq name) (raw_names columns) ≡ true
      → column_by (left alteration columns ++ more) name ≡ column_by columns name
  column_left_by [] there = cc
  column_left_by (column ∷ columns) there = by (removes alteration column.name) (bytes_eq name column.name) refl refl there
      (λ later. column_left_by columns later)
    where
      by : (r s : Bool) → removes alteration column.name ≡ r → bytes_eq name column.name ≡ s → (s || list_any (bytes_eq name) (raw_names columns)) ≡ true
          → (list_any (bytes_eq name) (raw_names columns) ≡ true → column_by (left alteration columns ++ more) name ≡ column_by columns name)
          → column_by (cond (not r) (column ∷ left alteration columns) (left alteration columns) ++ more) name
          ≡ (if s then Some column else column_by columns name)
      by true true removed same told later = let contra : true ≡ false = sym same ∙ other_name column removed in cc
      by true false removed other told later = later told
      by false true stays same told later = ap (λ (b : Bool). if b then Some column else column_by (left alteration columns ++ more) name) same
      by false false stays other told later = ap (λ (b : Bool). if b then Some column else column_by (left alteration columns ++ more) name) other ∙ later told

pub kept_cells : KeptCellsStay
kept_cells alteration raw row name wide column kept =
    cell_is (columns_after alteration raw.columns) (row_after alteration raw.columns row) name
    ∙ (cell_left_by alteration (added_columns alteration) name kept raw.columns row (added_cells alteration) wide column
    ∙ sym (cell_is raw.columns row name))

pub kept_column : (alteration : Alteration) (raw : RawTable) (name : List ℕ) → is_column raw name ≡ true → removes alteration name ≡ false
    → column_named (columns_after alteration raw.columns) name ≡ column_named raw.columns name
kept_column alteration raw name column kept =
    column_is (columns_after alteration raw.columns) name
    ∙ (column_left_by alteration (added_columns alteration) name kept raw.columns column
    ∙ sym (column_is raw.columns name))

-- ---- the width

module _ (alteration : Alteration) where
  left_wide : (columns : List RawColumn) (row : Texts) → length row ≡ length columns
      → length (cells_left alteration columns row) ≡ length (left alteration columns)
  left_wide [] [] wide = refl
  left_wide [] (text ∷ row) wide = absurd (omega (arith, wide))
  left_wide (column ∷ columns) [] wide = absurd (omega (arith, wide))
  left_wide (column ∷ columns) (text ∷ row) wide = by (removes alteration column.name) (left_wide columns row (omega (arith, wide)))
    where
      by : (r : Bool) → length (cells_left alteration columns row) ≡ length (left alteration columns)
          → length (if r then cells_left alteration columns row else text ∷ cells_left alteration columns row)
          ≡ length (cond (not r) (column ∷ left alteration columns) (left alteration columns))
      by true later = later
      by false later = ap suc later

  one_added : (a : Alteration) → length (added_cells a) ≡ length (added_columns a)
  one_added (Add column text) = refl
  one_added (Remove removed) = refl

  pub wide_after : (columns : List RawColumn) (row : Texts) → length row ≡ length columns
      → length (row_after alteration columns row) ≡ length (columns_after alteration columns)
  wide_after columns row wide =
      length-append (cells_left alteration columns row) (added_cells alteration)
      ∙ (ap (λ (n : ℕ). n + length (added_cells alteration)) (left_wide columns row wide)
      ∙ (ap (λ (n : ℕ). length (left alteration columns) + n) (one_added alteration)
      ∙ sym (length-append (left alteration columns) (added_columns alteration))))

-- ---- the key

-- a column that is removed isn't there any more
removed_gone : (removed name : List ℕ) (columns : List RawColumn) → bytes_eq removed name ≡ true
    → list_any (bytes_eq name) (raw_names (left (Remove removed) columns ++ [])) ≡ false
removed_gone removed name [] same = refl
removed_gone removed name (column ∷ columns) same = by (bytes_eq removed column.name) refl (removed_gone removed name columns same)
  where
    by : (b : Bool) → bytes_eq removed column.name ≡ b → list_any (bytes_eq name) (raw_names (left (Remove removed) columns ++ [])) ≡ false
        → list_any (bytes_eq name) (raw_names (cond (not b) (column ∷ left (Remove removed) columns) (left (Remove removed) columns) ++ [])) ≡ false
    by true gone later = later
    by false stays later = ap (λ (b : Bool). b || list_any (bytes_eq name) (raw_names (left (Remove removed) columns ++ [])))
        (ap (λ (n : List ℕ). bytes_eq n column.name) (sym (same_text removed name same)) ∙ stays) ∙ later

-- a name that is a column before and after an alteration isn't removed
stays_there : (alteration : Alteration) (raw : RawTable) (name : List ℕ) → is_column (raw_after alteration raw) name ≡ true → removes alteration name ≡ false
stays_there (Add column text) raw name there = refl
stays_there (Remove removed) raw name there = by (bytes_eq removed name) refl
  where
    by : (b : Bool) → bytes_eq removed name ≡ b → b ≡ false
    by true same = let contra : true ≡ false = sym there ∙ removed_gone removed name raw.columns same in cc
    by false other = refl

module _ (alteration : Alteration) (table after : DemoTable) (changed : IsTableAfter alteration table after) where
  abbrev raw : RawTable
  raw = raw_of table

  abbrev new : RawTable
  new = raw_after alteration raw

  before_columns : list_all (is_column raw) raw.key ≡ true
  before_columns = key_columns table.info

  after_columns : list_all (is_column new) raw.key ≡ true
  after_columns = subst (λ (r : RawTable). list_all (is_column r) r.key ≡ true) changed.raw (key_columns after.info)

  texts_stay : (row : Texts) (names : List (List ℕ)) → length row ≡ length raw.columns → list_all (is_column raw) names ≡ true
      → list_all (is_column new) names ≡ true
      → map (text_named new (row_after alteration raw.columns row)) names ≡ map (text_named raw row) names
  texts_stay row [] wide before there = refl
  texts_stay row (name ∷ names) wide before there =
      let here : is_column new name ≡ true = and_left (is_column new name) (list_all (is_column new) names) there in
      let was : is_column raw name ≡ true = and_left (is_column raw name) (list_all (is_column raw) names) before in
      ap (λ (x : Option (List ℕ)). x ∷ map (text_named new (row_after alteration raw.columns row)) names)
      (kept_cells alteration raw row name wide was (stays_there alteration raw name here))
      ∙ ap (λ (l : RawKey). text_named raw row name ∷ l)
      (texts_stay row names wide (and_right (is_column raw name) (list_all (is_column raw) names) before)
      (and_right (is_column new name) (list_all (is_column new) names) there))

  columns_stay : (names : List (List ℕ)) → list_all (is_column raw) names ≡ true → list_all (is_column new) names ≡ true
      → map (column_named new.columns) names ≡ map (column_named raw.columns) names
  columns_stay [] before there = refl
  columns_stay (name ∷ names) before there =
      let here : is_column new name ≡ true = and_left (is_column new name) (list_all (is_column new) names) there in
      let was : is_column raw name ≡ true = and_left (is_column raw name) (list_all (is_column raw) names) before in
      ap (λ (x : Option RawColumn). x ∷ map (column_named new.columns) names) (kept_column alteration raw name was (stays_there alteration raw name here))
      ∙ ap (λ (l : List (Option RawColumn)). column_named raw.columns name ∷ l)
      (columns_stay names (and_right (is_column raw name) (list_all (is_column raw) names) before)
      (and_right (is_column new name) (list_all (is_column new) names) there))

  -- the columns of the key stay
  pub key_stays : map (column_named new.columns) raw.key ≡ map (column_named raw.columns) raw.key
  key_stays = columns_stay raw.key before_columns after_columns

  types_by : (r : RawTable) (names : List (List ℕ))
      → map (type_named r) names ≡ map (λ (o : Option RawColumn). unwrap_or (option_and_then (λ (column : RawColumn). type_of column.oid) o) type.Text)
      (map (column_named r.columns) names)
  types_by r [] = refl
  types_by r (name ∷ names) = ap (λ (l : List PgType). type_named r name ∷ l) (types_by r names)

  pub types_stay : raw_key_types new ≡ raw_key_types raw
  types_stay =
      types_by new raw.key
      ∙ (ap (map (λ (o : Option RawColumn). unwrap_or (option_and_then (λ (column : RawColumn). type_of column.oid) o) type.Text)) key_stays
      ∙ sym (types_by raw raw.key))

  module _ (row : Texts) (wide : length row ≡ length raw.columns) where
    pub key_texts_stay : raw_key new (row_after alteration raw.columns row) ≡ raw_key raw row
    key_texts_stay = texts_stay row raw.key wide before_columns after_columns

    -- a row has the key that it had
    pub same_key_after : key_in new (row_after alteration raw.columns row) ≡ key_in raw row
    same_key_after =
        ap (λ (texts : RawKey). let k : Key = record { cells = typed_cells (raw_key_types new) texts } in k) key_texts_stay
        ∙ ap (λ (types : List PgType). let k : Key = record { cells = typed_cells types (raw_key raw row) } in k) types_stay

    pub text_key_after : IsTextKey raw (raw_key raw row) → IsTextKey new (raw_key new (row_after alteration raw.columns row))
    text_key_after is =
        subst (IsTextKey new) (sym key_texts_stay)
        (subst (λ (types : List PgType). AllZip (λ ty text. IsSomeAnd text (λ t. IsSome (value_of ty t))) types (raw_key raw row)) (sym types_stay) is)
