-- Rows and keys that a reader reads of a change are the texts of the log, read as values.
use Rattle.std.proofs.Common.{◌≡◌, ◌∙◌, ◌+◌, ◌<◌, ℕ, zero, suc, Bool, true, false, Option, Some, None, List, [], ◌∷◌, length, map, refl, sym, ap, subst, arith}
use Rattle.std.specs.Prelude.{◌==◌, ◌||◌, ◌%◌, nat_lt, if◌then◌else◌, bytes_eq, is_some, option_map, option_and_then, unwrap_or, slice_get, Result, Ok, Err}
use Rattle.std.specs.List.{list_all}
use Rattle.std.proofs.lemmas.List.{length-map}
use Rattle.std.proofs.lemmas.Option.{slice_get-map}
use Rattle.std.proofs.lemmas.Bool.{eqb-true}
use Rattle.std.proofs.lemmas.Bool.Decides.{nat_tests}
use Rattle.dbl_pgmsg.specs.declared.messages.RelationColumn.{RelationColumn}
use Rattle.dbl_pgmsg.specs.declared.messages.TupleCell.{TupleCell}
use Rattle.dbl_pgmsg.specs.declared.messages.TupleCell.TheVariants as cell
use Rattle.dbl_model_table.specs.Value.declared.column_type.PgType.{PgType}
use Rattle.dbl_model_table.specs.Value.declared.column_type.PgType.TheVariants as type
use Rattle.dbl_model_table.specs.Value.declared.value.Val.{Val}
use Rattle.dbl_model_table.specs.Value.declared.value.Val.TheVariants as val
use Rattle.dbl_model_table.specs.Value.Values.{value_of, oid_of, type_of, is_column_type}
use Rattle.dbl_value_types.proofs.TypeLemmas.{type_of-oid_of}
use Rattle.dbl_model_table.specs.Value.Faults.{fault_of}
use Rattle.dbl_model_table.specs.declared.table.TableName.{TableName}
use Rattle.dbl_model_table.specs.declared.table.Column.{Column}
use Rattle.dbl_model_table.specs.declared.table.RawColumn.{RawColumn}
use Rattle.dbl_model_table.specs.declared.table.RawRow.{RawRow}
use Rattle.dbl_model_table.specs.declared.table.RawTable.{RawTable}
use Rattle.dbl_model_table.specs.declared.table.TableInfo.{TableInfo}
use Rattle.dbl_model_table.specs.declared.row.Row.{Row}
use Rattle.dbl_model_table.specs.declared.change.Cell.{Cell}
use Rattle.dbl_model_table.specs.declared.change.Cell.TheVariants as change
use Rattle.dbl_model_table.specs.Tables.{column_names, type_at}
use Rattle.dbl_model_table.specs.Infos.{raw_column, name_at, IsInfoOf, width}
use Rattle.dbl_model_table.specs.Keys.{cell_or_null}
use Rattle.dbl_model_table.specs.Made.{raw_names, place_of}
use Rattle.dbl_model_table.proofs.Lists.{and_left, and_right, is_some-position_from}
use Rattle.dbl_model_table.proofs.InfoLemmas.{distinct_columns, typed_columns, places_within, has_name, place_one}
use Rattle.dbl_model_table.proofs.Making.{names_made, placed}
use Rattle.dbl_source_model.specs.ModelHistory.History.{RawCell}
use Rattle.dbl_source_model.specs.ModelHistory.History.RawCell.{Given, Unchanged}
use Rattle.dbl_source_model.specs.ModelHistory.Typed.{typed_cell, typed_cells, typed_update}
use Rattle.dbl_source_model.specs.ModelCommit.declared.message_parts.Relation.{Relation}
use Rattle.dbl_source_model.specs.ModelCommit.declared.txn_error.TxnError.{TxnError}
use Rattle.dbl_source_model.specs.ModelCommit.declared.txn_error.TxnError.TheVariants as errors
use Rattle.dbl_source_model.specs.ModelCommit.Tuples.{◌>>=◌, some_or, spelled_value, is_key_place, has_flag, is_fixed, given_cell, filled_cell, new_cell, each_from, is_read, row_cell, row_of, filling, next_cell, new_cells}
use Rattle.dbl_source_log.specs.declared.logged.LogTable.{LogTable}
use Rattle.dbl_source_log.specs.Relations.{is_in_identity, relation_column}
use Rattle.dbl_source_log.specs.Texts.{Texts, text_named, raw_key, type_named, raw_key_types, sent_text, old_texts, filling_text, filled_text, new_text, new_texts}
use Rattle.dbl_source_log.proofs.RelationLemmas.{table_relation}

-- what stands before in a chain of readings
pub record Bound {A B : Type 0} (r : Result A TxnError) (f : A → Result B TxnError) (y : B) : Type 0 where
  pub item : A
  pub first : r ≡ Ok item
  pub rest : f item ≡ Ok y

pub bound : {A B : Type 0} (r : Result A TxnError) (f : A → Result B TxnError) (y : B) → (r >>= f) ≡ Ok y → Bound r f y
bound (Ok x) f y is = record { item = x; first = refl; rest = is }
bound (Err e) f y is = cc

abbrev pub types_in : List Column → List PgType
types_in columns = map (λ (column : Column). column.ty) columns

-- ---- one cell

spelled_typed : (table : TableName) (column : Column) (text : List ℕ) (v : Val) → spelled_value table column text ≡ Ok v → typed_cell column.ty (Some text) ≡ v
unfolding spelled_value
spelled_typed table column text v is = by (value_of column.ty text) refl is
  where
    by : (o : Option Val) → value_of column.ty text ≡ o → some_or o (errors.Value table column.name (fault_of column.ty text)) ≡ Ok v → typed_cell column.ty (Some text) ≡ v
    by None same told = cc
    by (Some w) same told = let e : w ≡ v = cc in ap (λ (o : Option Val). unwrap_or o (val.Text text)) same ∙ e

given_typed : (table : TableName) (in_key : Bool) (column : Column) (c : TupleCell) (v : Val) → given_cell table in_key column c ≡ Ok v → typed_cell column.ty (sent_text c) ≡ v
unfolding given_cell
given_typed table true column cell.Null v is = cc
given_typed table false column cell.Null v is = cc
given_typed table in_key column cell.Unchanged v is = cc
given_typed table in_key column (cell.Text text) v is = spelled_typed table column text v is

-- the flag of a column says whether it is part of the replica identity
flag_is : (b : Bool) → ((if b then 1 else 0) % 2 == 1) ≡ b
flag_is true = refl
flag_is false = refl

module _ (t : LogTable) (relation : Relation) where
  read_is : (whole : Bool) (place : ℕ) (raw : RawColumn) → slice_get relation.columns place ≡ Some (relation_column t raw) → is_read relation whole place ≡ (whole || is_in_identity t raw)
  read_is whole place raw there = ap (λ (o : Option RelationColumn). whole || has_flag o) there ∙ ap (λ (b : Bool). whole || b) (flag_is (is_in_identity t raw))

  row_cell_typed : (info : TableInfo) (whole : Bool) (place : ℕ) (column : Column) (raw : RawColumn) (c : TupleCell) (v : Val) → slice_get relation.columns place ≡ Some (relation_column t raw)
      → row_cell info relation whole place column c ≡ Ok v → typed_cell column.ty (if whole || is_in_identity t raw then sent_text c else None) ≡ v
  row_cell_typed info whole place column raw c v there is = by (is_read relation whole place) refl is
    where
      by : (b : Bool) → is_read relation whole place ≡ b → (if b then given_cell info.name (is_key_place info place) column c else Ok val.Null) ≡ Ok v → typed_cell column.ty (if whole || is_in_identity t raw then sent_text c else None) ≡ v
      by true read told =
          ap (λ (b : Bool). typed_cell column.ty (if b then sent_text c else None)) (sym (read_is whole place raw there) ∙ read) ∙ given_typed info.name (is_key_place info place) column c v told
      by false unread told =
          let e : val.Null ≡ v = cc in
          ap (λ (b : Bool). typed_cell column.ty (if b then sent_text c else None)) (sym (read_is whole place raw there) ∙ unread) ∙ e

  -- the Relation's columns from a place on are those of the table
  abbrev pub AreAt : ℕ → List RawColumn → Type 0
  AreAt place raws = (j : ℕ) → slice_get relation.columns (place + j) ≡ option_map (relation_column t) (slice_get raws j)

  at_here : (place : ℕ) (raw : RawColumn) (raws : List RawColumn) → AreAt place (raw ∷ raws) → slice_get relation.columns place ≡ Some (relation_column t raw)
  at_here place raw raws at = let e : place ≡ place + zero = omega arith in ap (slice_get relation.columns) e ∙ at zero

  at_next : (place : ℕ) (raw : RawColumn) (raws : List RawColumn) → AreAt place (raw ∷ raws) → AreAt (place + 1) raws
  at_next place raw raws at = λ j. let e : (place + 1) + j ≡ place + suc j = omega arith in ap (slice_get relation.columns) e ∙ at (suc j)

  pub rows_typed : (info : TableInfo) (whole : Bool) (place : ℕ) (columns : List Column) (raws : List RawColumn) (cells : List TupleCell) (values : List Val) → AreAt place raws → length raws ≡ length columns → length cells ≡ length columns
      → each_from (row_cell info relation whole) place columns cells ≡ Ok values → typed_cells (types_in columns) (old_texts t whole raws cells) ≡ values
  rows_typed info whole place [] raws [] values at wide len is = cc
  rows_typed info whole place [] raws (c ∷ cells) values at wide len is = absurd (omega (arith, len))
  rows_typed info whole place (column ∷ columns) [] cells values at wide len is = absurd (omega (arith, wide))
  rows_typed info whole place (column ∷ columns) (raw ∷ raws) [] values at wide len is = absurd (omega (arith, len))
  rows_typed info whole place (column ∷ columns) (raw ∷ raws) (c ∷ cells) values at wide len is =
      let a = bound (row_cell info relation whole place column c) (λ x. each_from (row_cell info relation whole) (place + 1) columns cells >>= λ xs. Ok (x ∷ xs)) values is in
      let b = bound (each_from (row_cell info relation whole) (place + 1) columns cells) (λ xs. Ok (a.item ∷ xs)) values a.rest in
      let e : a.item ∷ b.item ≡ values = (let h = b.rest in cc) in
      let head = row_cell_typed info whole place column raw c a.item (at_here place raw raws at) a.first in
      let tail = rows_typed info whole (place + 1) columns raws cells b.item (at_next place raw raws at) (omega (arith, wide)) (omega (arith, len)) b.first in
      ap (λ (v : Val). v ∷ typed_cells (types_in columns) (old_texts t whole raws cells)) head ∙ ap (λ (vs : List Val). a.item ∷ vs) tail ∙ e

-- all columns are sent of a whole row
pub whole_texts : (t : LogTable) (raws : List RawColumn) (cells : List TupleCell) → old_texts t true raws cells ≡ map sent_text cells
whole_texts t raws [] = refl
whole_texts t [] (c ∷ cells) = ap (λ (l : Texts). sent_text c ∷ l) (whole_texts t [] cells)
whole_texts t (raw ∷ raws) (c ∷ cells) = ap (λ (l : Texts). sent_text c ∷ l) (whole_texts t raws cells)

-- ---- the table's columns

module _ (t : LogTable) (info : TableInfo) (is_info : IsInfoOf t.raw info) where
  columns_are : map raw_column info.columns ≡ t.raw.columns
  columns_are = ap (λ (r : RawTable). r.columns) is_info

  pub wide : length t.raw.columns ≡ length info.columns
  wide = sym (ap length columns_are) ∙ length-map info.columns raw_column

  at_start : AreAt t (table_relation t) 0 t.raw.columns
  at_start = λ j. let e : 0 + j ≡ j = omega arith in ap (slice_get (table_relation t).columns) e ∙ slice_get-map (relation_column t) t.raw.columns j

  -- a row that was read is that of the log
  pub row_typed : (whole : Bool) (cells : List TupleCell) (r : Row) → row_of info (table_relation t) whole cells ≡ Ok r → typed_cells (types_in info.columns) (old_texts t whole t.raw.columns cells) ≡ r.cells
  unfolding row_of
  row_typed whole cells r is = by (length cells == width info) refl is
    where
      by : (b : Bool) → (length cells == width info) ≡ b
          → ((if b then each_from (row_cell info (table_relation t) whole) 0 info.columns cells else Err (errors.ColumnCount (width info) (length cells))) >>= λ values. Ok (record { cells = values })) ≡ Ok r
          → typed_cells (types_in info.columns) (old_texts t whole t.raw.columns cells) ≡ r.cells
      by false same told = cc
      by true same told =
          let a = bound (each_from (row_cell info (table_relation t) whole) 0 info.columns cells) (λ values. Ok (record { cells = values })) r told in
          let e : record { cells = a.item } ≡ r = (let h = a.rest in cc) in
          rows_typed t (table_relation t) info whole 0 info.columns t.raw.columns cells a.item at_start wide (eqb-true (length cells) (width info) same) a.first ∙ ap (λ (x : Row). x.cells) e

  -- ---- keys

  -- the value at a place of a row is that of its text
  pub typed_at : (types : List PgType) (texts : Texts) (p : ℕ) (ty : PgType) → slice_get types p ≡ Some ty → slice_get (typed_cells types texts) p ≡ option_map (typed_cell ty) (slice_get texts p)
  typed_at [] texts p ty is = cc
  typed_at (y ∷ types) [] p ty is = refl
  typed_at (y ∷ types) (x ∷ texts) zero ty is = let e : y ≡ ty = cc in ap (λ (z : PgType). Some (typed_cell z x)) e
  typed_at (y ∷ types) (x ∷ texts) (suc p) ty is = typed_at types texts p ty is

  some_column : (p : ℕ) → p < length info.columns → (column : Column) × (slice_get info.columns p ≡ Some column)
  some_column p lt = by info.columns p lt
    where
      by : (l : List Column) (i : ℕ) → i < length l → (column : Column) × (slice_get l i ≡ Some column)
      by [] i lt = absurd (omega arith)
      by (c ∷ l) zero lt = (c, refl)
      by (c ∷ l) (suc i) lt = by l i (omega arith)

  -- the place of a column's name is its own
  place_named : (p : ℕ) → p < length info.columns → place_of (raw_names t.raw.columns) (name_at info.columns p) ≡ Some p
  place_named p lt =
      ap (λ (names : List (List ℕ)). place_of names (name_at info.columns p)) (sym (names_made info.columns t.raw.columns columns_are)) ∙ by (place_of (column_names info.columns) (name_at info.columns p)) refl
    where
      by : (o : Option ℕ) → place_of (column_names info.columns) (name_at info.columns p) ≡ o → o ≡ Some p
      by None none =
          let some : is_some (place_of (column_names info.columns) (name_at info.columns p)) ≡ true =
          is_some-position_from (bytes_eq (name_at info.columns p)) 0 (column_names info.columns) ∙ has_name info.columns p lt in
          let never : is_some {T = ℕ} None ≡ true = sym (ap (λ (o : Option ℕ). is_some o) none) ∙ some in
          cc
      by (Some q) there =
          let named = placed info.columns (name_at info.columns p) q there in
          ap (λ (n : ℕ). Some n) (place_one info.columns q p (distinct_columns info) named.1 lt named.0)

  key_cell : (texts : Texts) (p : ℕ) → p < length info.columns → typed_cell (type_at info.columns p) (text_named t.raw texts (name_at info.columns p)) ≡ cell_or_null (typed_cells (types_in info.columns) texts) p
  key_cell texts p lt =
      let found = some_column p lt in
      let ty : PgType = found.0.ty in
      let type_is : type_at info.columns p ≡ ty = ap (λ (o : Option Column). unwrap_or (option_map (λ (c : Column). c.ty) o) type.Text) found.1 in
      let types_at : slice_get (types_in info.columns) p ≡ Some ty = slice_get-map (λ (c : Column). c.ty) info.columns p ∙ ap (option_map (λ (c : Column). c.ty)) found.1 in
      ap (λ (o : Option ℕ). typed_cell (type_at info.columns p) (unwrap_or (option_and_then (slice_get texts) o) None)) (place_named p lt)
      ∙ ap (λ (z : PgType). typed_cell z (unwrap_or (slice_get texts p) None)) type_is
      ∙ by ty (slice_get texts p)
      ∙ sym (ap (λ (o : Option Val). unwrap_or o val.Null) (typed_at (types_in info.columns) texts p ty types_at))
    where
      by : (z : PgType) (o : Option (Option (List ℕ))) → typed_cell z (unwrap_or o None) ≡ unwrap_or (option_map (typed_cell z) o) val.Null
      by z None = refl
      by z (Some x) = refl

  keys_typed : (texts : Texts) (places : List ℕ) → list_all (λ place. nat_lt place (length info.columns)) places ≡ true
      → typed_cells (map (type_at info.columns) places) (map (text_named t.raw texts) (map (name_at info.columns) places)) ≡ map (cell_or_null (typed_cells (types_in info.columns) texts)) places
  keys_typed texts [] within = refl
  keys_typed texts (p ∷ places) within =
      let low : nat_lt p (length info.columns) ≡ true = and_left (nat_lt p (length info.columns)) _ within in
      let lt : p < length info.columns = grind (arith, nat_tests) in
      ap (λ (v : Val). v ∷ typed_cells (map (type_at info.columns) places) (map (text_named t.raw texts) (map (name_at info.columns) places))) (key_cell texts p lt)
      ∙ ap (λ (vs : List Val). cell_or_null (typed_cells (types_in info.columns) texts) p ∷ vs) (keys_typed texts places (and_right (nat_lt p (length info.columns)) _ within))

  -- the key of a row's texts, read as values, is the key of its values
  pub key_typed : (texts : Texts) → typed_cells (map (type_at info.columns) info.key) (raw_key t.raw texts) ≡ map (cell_or_null (typed_cells (types_in info.columns) texts)) info.key
  key_typed texts =
      ap (λ (names : List (List ℕ)). typed_cells (map (type_at info.columns) info.key) (map (text_named t.raw texts) names)) (sym (ap (λ (r : RawTable). r.key) is_info)) ∙ keys_typed texts info.key (places_within info)

  -- ---- the types of the key's columns

  passes : (columns : List Column) (p : ℕ) (column : Column) → list_all (λ (c : Column). is_column_type c.ty) columns ≡ true → slice_get columns p ≡ Some column → is_column_type column.ty ≡ true
  passes [] p column all is = cc
  passes (c ∷ columns) zero column all is = let e : c ≡ column = cc in ap (λ (x : Column). is_column_type x.ty) (sym e) ∙ and_left (is_column_type c.ty) _ all
  passes (c ∷ columns) (suc p) column all is = passes columns p column (and_right (is_column_type c.ty) _ all) is

  type_there : (p : ℕ) → p < length info.columns → type_named t.raw (name_at info.columns p) ≡ type_at info.columns p
  type_there p lt =
      let found = some_column p lt in
      let column_there : slice_get t.raw.columns p ≡ Some (raw_column found.0) =
      ap (λ (l : List RawColumn). slice_get l p) (sym columns_are) ∙ slice_get-map raw_column info.columns p ∙ ap (option_map raw_column) found.1 in
      let known : type_of (oid_of found.0.ty) ≡ Some found.0.ty = type_of-oid_of found.0.ty (passes info.columns p found.0 (typed_columns info) found.1) in
      ap (λ (o : Option ℕ). unwrap_or (option_and_then (λ (c : RawColumn). type_of c.oid) (option_and_then (slice_get t.raw.columns) o)) type.Text) (place_named p lt)
      ∙ ap (λ (o : Option RawColumn). unwrap_or (option_and_then (λ (c : RawColumn). type_of c.oid) o) type.Text) column_there
      ∙ ap (λ (o : Option PgType). unwrap_or o type.Text) known
      ∙ sym (ap (λ (o : Option Column). unwrap_or (option_map (λ (c : Column). c.ty) o) type.Text) found.1)

  named_types : (places : List ℕ) → list_all (λ place. nat_lt place (length info.columns)) places ≡ true → map (type_named t.raw) (map (name_at info.columns) places) ≡ map (type_at info.columns) places
  named_types [] within = refl
  named_types (p ∷ places) within =
      let low : nat_lt p (length info.columns) ≡ true = and_left (nat_lt p (length info.columns)) _ within in
      let lt : p < length info.columns = grind (arith, nat_tests) in
      ap (λ (ty : PgType). ty ∷ map (type_named t.raw) (map (name_at info.columns) places)) (type_there p lt)
      ∙ ap (λ (types : List PgType). type_at info.columns p ∷ types) (named_types places (and_right (nat_lt p (length info.columns)) _ within))

  -- the catalogue's types of the key are those of the captured columns
  pub types_named : raw_key_types t.raw ≡ map (type_at info.columns) info.key
  types_named = ap (map (type_named t.raw)) (sym (ap (λ (r : RawTable). r.key) is_info)) ∙ named_types info.key (places_within info)

  -- ---- cells of an update

  -- one cell, read as a value or left unsent
  abbrev pub typed_one : PgType → RawCell → Cell
  typed_one ty (Given text) = change.Given (typed_cell ty text)
  typed_one ty Unchanged = change.Unchanged

  update_one : (ty : PgType) (types : List PgType) (c : RawCell) (cells : List RawCell) → typed_update (ty ∷ types) (c ∷ cells) ≡ typed_one ty c ∷ typed_update types cells
  update_one ty types (Given text) cells = refl
  update_one ty types Unchanged cells = refl

  new_typed : (in_key : Bool) (fill : Option Val) (text : Option (Option (List ℕ))) (column : Column) (c : TupleCell) (x : Cell) → fill ≡ option_map (typed_cell column.ty) text → new_cell info.name in_key fill column c ≡ Ok x → typed_one column.ty (new_text text c) ≡ x
  unfolding new_cell
  new_typed true fill text column cell.Null x same is = cc
  new_typed false fill text column cell.Null x same is = cc
  new_typed in_key fill text column (cell.Text s) x same is =
      let a = bound (spelled_value info.name column s) (λ v. Ok (change.Given v)) x is in
      let e : change.Given a.item ≡ x = (let h = a.rest in cc) in
      ap change.Given (spelled_typed info.name column s a.item a.first) ∙ e
  new_typed in_key fill text column cell.Unchanged x same is = by (is_fixed column.ty) is
    where
      by_fill : (o : Option (Option (List ℕ))) (b : Bool) → filled_cell info.name b (option_map (typed_cell column.ty) o) column ≡ Ok x → typed_one column.ty (filled_text o) ≡ x
      by_fill (Some s) b told = cc
      by_fill None true told = cc
      by_fill None false told = cc

      by : (b : Bool) → (if b then Err (errors.UnchangedCell info.name column.name) else filled_cell info.name in_key fill column) ≡ Ok x → typed_one column.ty (filled_text text) ≡ x
      by true told = cc
      by false told = by_fill text in_key (subst (λ (o : Option Val). filled_cell info.name in_key o column ≡ Ok x) same told)

  -- the old row as texts and as values
  abbrev pub WasTyped : Option RawRow → Option Row → Type 0
  WasTyped None None = Unit {0}
  WasTyped None (Some r) = ⊥
  WasTyped (Some row) None = ⊥
  WasTyped (Some row) (Some r) = typed_cells (types_in info.columns) row.cells ≡ r.cells

  filling_typed : (whole : Bool) (before : Option RawRow) (was : Option Row) (place : ℕ) (column : Column) (raw : RawColumn) → WasTyped before was → slice_get info.columns place ≡ Some column
      → slice_get (table_relation t).columns place ≡ Some (relation_column t raw) → filling (table_relation t) whole was place ≡ option_map (typed_cell column.ty) (filling_text t whole before raw place)
  filling_typed whole None None place column raw typed at there = refl
  filling_typed whole None (Some r) place column raw typed at there = absurd typed
  filling_typed whole (Some row) None place column raw typed at there = absurd typed
  filling_typed whole (Some row) (Some r) place column raw typed at there =
      let types_at : slice_get (types_in info.columns) place ≡ Some column.ty = slice_get-map (λ (c : Column). c.ty) info.columns place ∙ ap (option_map (λ (c : Column). c.ty)) at in
      ap (λ (b : Bool). if b then slice_get r.cells place else None) (read_is t (table_relation t) whole place raw there)
      ∙ ap (λ (l : List Val). if whole || is_in_identity t raw then slice_get l place else None) (sym typed)
      ∙ ap (λ (o : Option Val). if whole || is_in_identity t raw then o else None) (typed_at (types_in info.columns) row.cells place column.ty types_at)
      ∙ by (whole || is_in_identity t raw)
    where
      by : (b : Bool) → (if b then option_map (typed_cell column.ty) (slice_get row.cells place) else None) ≡ option_map (typed_cell column.ty) (if b then slice_get row.cells place else None)
      by true = refl
      by false = refl

  news_typed : (whole : Bool) (before : Option RawRow) (was : Option Row) (place : ℕ) (columns : List Column) (raws : List RawColumn) (cells : List TupleCell) (out : List Cell) → WasTyped before was → AreAt t (table_relation t) place raws
      → ((j : ℕ) → slice_get info.columns (place + j) ≡ slice_get columns j) → length raws ≡ length columns → length cells ≡ length columns
      → each_from (next_cell info (table_relation t) whole was) place columns cells ≡ Ok out → typed_update (types_in columns) (new_texts t whole before place raws cells) ≡ out
  news_typed whole before was place [] raws [] out typed at col same len is = cc
  news_typed whole before was place [] raws (c ∷ cells) out typed at col same len is = absurd (omega (arith, len))
  news_typed whole before was place (column ∷ columns) [] cells out typed at col same len is = absurd (omega (arith, same))
  news_typed whole before was place (column ∷ columns) (raw ∷ raws) [] out typed at col same len is = absurd (omega (arith, len))
  news_typed whole before was place (column ∷ columns) (raw ∷ raws) (c ∷ cells) out typed at col same len is =
      let a = bound (next_cell info (table_relation t) whole was place column c) (λ x. each_from (next_cell info (table_relation t) whole was) (place + 1) columns cells >>= λ xs. Ok (x ∷ xs)) out is in
      let b = bound (each_from (next_cell info (table_relation t) whole was) (place + 1) columns cells) (λ xs. Ok (a.item ∷ xs)) out a.rest in
      let e : a.item ∷ b.item ≡ out = (let h = b.rest in cc) in
      let here : slice_get info.columns place ≡ Some column = (let n : place ≡ place + zero = omega arith in ap (slice_get info.columns) n ∙ col zero) in
      let there = at_here t (table_relation t) place raw raws at in
      let text : Option (Option (List ℕ)) = filling_text t whole before raw place in
      let head : typed_one column.ty (new_text text c) ≡ a.item =
      new_typed (is_key_place info place) (filling (table_relation t) whole was place) text column c a.item (filling_typed whole before was place column raw typed here there) a.first in
      let tail = news_typed whole before was (place + 1) columns raws cells b.item typed (at_next t (table_relation t) place raw raws at)
      (λ j. let n : (place + 1) + j ≡ place + suc j = omega arith in ap (slice_get info.columns) n ∙ col (suc j)) (omega (arith, same)) (omega (arith, len)) b.first in
      update_one column.ty (types_in columns) (new_text text c) (new_texts t whole before (place + 1) raws cells)
      ∙ ap (λ (x : Cell). x ∷ typed_update (types_in columns) (new_texts t whole before (place + 1) raws cells)) head
      ∙ ap (λ (xs : List Cell). a.item ∷ xs) tail
      ∙ e

  pub new_cells_typed : (whole : Bool) (before : Option RawRow) (was : Option Row) (cells : List TupleCell) (out : List Cell) → WasTyped before was → new_cells info (table_relation t) whole was cells ≡ Ok out
      → typed_update (types_in info.columns) (new_texts t whole before 0 t.raw.columns cells) ≡ out
  unfolding new_cells
  new_cells_typed whole before was cells out typed is = by (length cells == width info) refl is
    where
      by : (b : Bool) → (length cells == width info) ≡ b → (if b then each_from (next_cell info (table_relation t) whole was) 0 info.columns cells else Err (errors.ColumnCount (width info) (length cells))) ≡ Ok out
          → typed_update (types_in info.columns) (new_texts t whole before 0 t.raw.columns cells) ≡ out
      by false same told = cc
      by true same told =
          news_typed whole before was 0 info.columns t.raw.columns cells out typed at_start (λ j. let n : 0 + j ≡ j = omega arith in ap (slice_get info.columns) n) wide (eqb-true (length cells) (width info) same) told
