-- A history's rows are its log's rows as texts, read as values, change by change; and a change that is fit for the ones is fit for
-- the others.
use Rattle.std.proofs.Common.{◌≡◌, ◌∙◌, inl, inr, ℕ, zero, suc, Bool, true, false, cond, Option, Some, None, List, [], ◌∷◌, length, map, refl, sym, ap, subst, arith}
use Rattle.std.specs.Prelude.{◌==◌, not, IsSome, IsSomeAnd, IfSome, if◌then◌else◌, is_some, option_map, option_and_then, unwrap_or, find, slice_get}
use Rattle.std.specs.List.{AllByRecursion, list_any}
use Rattle.std.specs.Str.{IsUtf8}
use Rattle.std.proofs.lemmas.Bool.{eqb-true, eqb-false}
use Rattle.std.proofs.lemmas.Bool.Decides.{nat_tests}
use Rattle.std.proofs.lemmas.Option.{slice_get-map}
use Rattle.dbl_model_table.specs.Value.declared.column_type.PgType.{PgType}
use Rattle.dbl_model_table.specs.Value.declared.column_type.PgType.TheVariants as type
use Rattle.dbl_model_table.specs.Value.declared.value.Val.{Val}
use Rattle.dbl_model_table.specs.Value.declared.value.Val.TheVariants as val
use Rattle.dbl_model_table.specs.declared.table.TableName.{TableName}
use Rattle.dbl_model_table.specs.declared.table.Column.{Column}
use Rattle.dbl_model_table.specs.declared.table.RawRow.{RawRow}
use Rattle.dbl_model_table.specs.declared.table.RawTable.{RawTable}
use Rattle.dbl_model_table.specs.declared.table.TableInfo.{TableInfo}
use Rattle.dbl_model_table.specs.declared.row.Key.{Key}
use Rattle.dbl_model_table.specs.declared.row.Row.{Row}
use Rattle.dbl_model_table.specs.declared.change.Change.{Change}
use Rattle.dbl_model_table.specs.declared.change.Change.TheVariants as change
use Rattle.dbl_model_table.specs.Tables.{is_watermark, same_name, are_distinct, type_at}
use Rattle.dbl_model_table.specs.Infos.{IsInfoOf, columns_of, key_places, number_of, width}
use Rattle.dbl_model_table.specs.Keys.{same_key, key_at, key_of, new_key_of, given_or_null}
use Rattle.dbl_model_table.specs.Rows.{Effect, Rows, all_given, updated, at_key, at_keys, effect_of, overlay, row_after, rows_after, table_of}
use Rattle.dbl_model_table.specs.Rows.Effect.{Stays, Whole, Ends}
use Rattle.dbl_model_table.proofs.Lists.{and_left, and_right, or_false, position_from-at, is_some-position_from}
use Rattle.dbl_model_table.proofs.InfoLemmas.{not_true}
use Rattle.dbl_source_model.specs.ModelHistory.History.{RawCell, RawChange, RawKey, name_of, entry_of}
use Rattle.dbl_source_model.specs.ModelHistory.History as raw
use Rattle.dbl_source_model.specs.ModelHistory.History.RawCell.{Given, Unchanged}
use Rattle.dbl_source_model.specs.ModelHistory.Ranges.{AreTextsInRange, IsRawCellInRange, IsRawChangeInRange}
use Rattle.dbl_source_model.specs.ModelHistory.Typed.{types_of, typed_cell, typed_cells, typed_update, typed_row, typed_key, typed_change}
use Rattle.dbl_source_model.specs.ModelHistory.Fit.{IsKeyOf, IsFitInsert, IsFitUpdate, IsFitDelete, IsFit, AreInfosOf}
use Rattle.dbl_model_history.proofs.RowLemmas.{effect_of-other_table}
use Rattle.dbl_source_log.specs.declared.logged.LogTable.{LogTable}
use Rattle.dbl_source_log.specs.Relations.{catalogue}
use Rattle.dbl_source_log.specs.Texts.{Texts, text_named, raw_key, key_from, key_in, given_text, all_texts, overlaid}
use Rattle.dbl_source_log.specs.TextRows.{TextRows, updated_texts, text_row_after, text_row_in, log_table_named, text_rows_after}
use Rattle.dbl_source_log.specs.Histories.{history_of}
use Rattle.dbl_source_log.specs.FitLogs.{IsFitTextInsert, IsFitTextUpdate, IsFitTextDelete, IsFitText, IsFitChange}
use Rattle.dbl_source_log.proofs.RelationLemmas.{all_at}
use Rattle.dbl_source_log.proofs.KeyTexts.{key_is, key_fit}
use Rattle.dbl_source_log.proofs.CellTexts.{types_in, wide, types_named}
use Rattle.dbl_source_log.proofs.ThemselvesLemmas.{name_same, name_itself}

-- ---- cells

pub overlaid_typed : (types : List PgType) (cells : List RawCell) (row : Texts) → overlay (typed_update types cells) (typed_cells types row) ≡ typed_cells types (overlaid cells row)
overlaid_typed types [] row = refl
overlaid_typed [] (Given text ∷ cells) [] = refl
overlaid_typed [] (Unchanged ∷ cells) [] = refl
overlaid_typed (ty ∷ types) (Given text ∷ cells) [] = refl
overlaid_typed (ty ∷ types) (Unchanged ∷ cells) [] = refl
overlaid_typed [] (Given text ∷ cells) (x ∷ row) = ap (λ (vs : List Val). typed_cell type.Text text ∷ vs) (overlaid_typed [] cells row)
overlaid_typed [] (Unchanged ∷ cells) (x ∷ row) = ap (λ (vs : List Val). typed_cell type.Text x ∷ vs) (overlaid_typed [] cells row)
overlaid_typed (ty ∷ types) (Given text ∷ cells) (x ∷ row) = ap (λ (vs : List Val). typed_cell ty text ∷ vs) (overlaid_typed types cells row)
overlaid_typed (ty ∷ types) (Unchanged ∷ cells) (x ∷ row) = ap (λ (vs : List Val). typed_cell ty x ∷ vs) (overlaid_typed types cells row)

pub all_typed : (types : List PgType) (cells : List RawCell) → all_given (typed_update types cells) ≡ option_map (typed_cells types) (all_texts cells)
all_typed [] [] = refl
all_typed (ty ∷ types) [] = refl
all_typed [] (Unchanged ∷ cells) = refl
all_typed (ty ∷ types) (Unchanged ∷ cells) = refl
all_typed [] (Given text ∷ cells) = ap (option_map (λ (r : List Val). typed_cell type.Text text ∷ r)) (all_typed [] cells) ∙ by (all_texts cells)
  where
    by : (o : Option Texts) → option_map (λ (r : List Val). typed_cell type.Text text ∷ r) (option_map (typed_cells []) o) ≡ option_map (typed_cells []) (option_map (λ (r : Texts). text ∷ r) o)
    by None = refl
    by (Some r) = refl
all_typed (ty ∷ types) (Given text ∷ cells) = ap (option_map (λ (r : List Val). typed_cell ty text ∷ r)) (all_typed types cells) ∙ by (all_texts cells)
  where
    by : (o : Option Texts) → option_map (λ (r : List Val). typed_cell ty text ∷ r) (option_map (typed_cells types) o) ≡ option_map (typed_cells (ty ∷ types)) (option_map (λ (r : Texts). text ∷ r) o)
    by None = refl
    by (Some r) = refl

-- an unsent cell is read as null
givens : (types : List PgType) (cells : List RawCell) → map given_or_null (typed_update types cells) ≡ typed_cells types (map given_text cells)
givens types [] = refl
givens [] (Given text ∷ cells) = ap (λ (vs : List Val). typed_cell type.Text text ∷ vs) (givens [] cells)
givens [] (Unchanged ∷ cells) = ap (λ (vs : List Val). val.Null ∷ vs) (givens [] cells)
givens (ty ∷ types) (Given text ∷ cells) = ap (λ (vs : List Val). typed_cell ty text ∷ vs) (givens types cells)
givens (ty ∷ types) (Unchanged ∷ cells) = ap (λ (vs : List Val). val.Null ∷ vs) (givens types cells)

length-typed_cells : (types : List PgType) (texts : Texts) → length (typed_cells types texts) ≡ length texts
length-typed_cells types [] = refl
length-typed_cells [] (x ∷ texts) = ap suc (length-typed_cells [] texts)
length-typed_cells (ty ∷ types) (x ∷ texts) = ap suc (length-typed_cells types texts)

length-typed_update : (types : List PgType) (cells : List RawCell) → length (typed_update types cells) ≡ length cells
length-typed_update types [] = refl
length-typed_update [] (Given text ∷ cells) = ap suc (length-typed_update [] cells)
length-typed_update [] (Unchanged ∷ cells) = ap suc (length-typed_update [] cells)
length-typed_update (ty ∷ types) (Given text ∷ cells) = ap suc (length-typed_update types cells)
length-typed_update (ty ∷ types) (Unchanged ∷ cells) = ap suc (length-typed_update types cells)

some_map : {A B : Type 0} (f : A → B) (o : Option A) → IsSome o → IsSome (option_map f o)
some_map f None some = cc
some_map f (Some x) some = refl

-- ---- texts in range

cell_in_range : (cells : Texts) (place : ℕ) → AreTextsInRange cells → IfSome (unwrap_or (slice_get cells place) None) IsUtf8
cell_in_range [] place all = tt
cell_in_range (x ∷ cells) zero all = all.0
cell_in_range (x ∷ cells) (suc place) all = cell_in_range cells place all.1

named_in_range : (cells : Texts) (o : Option ℕ) → AreTextsInRange cells → IfSome (unwrap_or (option_and_then (slice_get cells) o) None) IsUtf8
named_in_range cells None all = tt
named_in_range cells (Some place) all = cell_in_range cells place all

-- a key's texts are a row's
key_in_range : (table : RawTable) (cells : Texts) → AreTextsInRange cells → AreTextsInRange (raw_key table cells)
key_in_range table cells all = by table.key
  where
    by : (names : List (List ℕ)) → AreTextsInRange (map (text_named table cells) names)
    by [] = tt
    by (name ∷ names) = (named_in_range cells _ all, by names)

givens_in_range : (cells : List RawCell) → AllByRecursion IsRawCellInRange cells → AreTextsInRange (map given_text cells)
givens_in_range [] all = tt
givens_in_range (Given text ∷ cells) all = (all.0, givens_in_range cells all.1)
givens_in_range (Unchanged ∷ cells) all = (tt, givens_in_range cells all.1)

-- ---- names

none_passes : {X : Type 0} (p : X → Bool) (xs : List X) (i : ℕ) (x : X) → list_any p xs ≡ false → slice_get xs i ≡ Some x → p x ≡ false
none_passes p [] i x none is = cc
none_passes p (y ∷ xs) zero x none is = let e : y ≡ x = cc in ap p (sym e) ∙ (or_false (p y) (list_any p xs) none).0
none_passes p (y ∷ xs) (suc i) x none is = none_passes p xs i x (or_false (p y) (list_any p xs) none).1 is

abbrev name_in : TableInfo → TableName
name_in info = info.name

apart : (x : TableInfo) (xs : List TableInfo) (j : ℕ) (y : TableInfo) → list_any (same_name x.name) (map name_in xs) ≡ false → slice_get xs j ≡ Some y → same_name x.name y.name ≡ false
apart x xs j y none is = none_passes (same_name x.name) (map name_in xs) j y.name none (slice_get-map name_in xs j ∙ ap (option_map name_in) is)

-- captured tables have names of their own
one_place : (infos : List TableInfo) (i j : ℕ) (a b : TableInfo) → are_distinct same_name (map name_in infos) ≡ true → slice_get infos i ≡ Some a → slice_get infos j ≡ Some b → a.name ≡ b.name → i ≡ j
one_place [] i j a b distinct at there same = cc
one_place (x ∷ infos) zero zero a b distinct at there same = refl
one_place (x ∷ infos) zero (suc j) a b distinct at there same =
    let e : x ≡ a = cc in
    let other : same_name x.name b.name ≡ false = apart x infos j b (not_true _ (and_left _ _ distinct)) there in
    let one : same_name x.name b.name ≡ true = ap (λ (n : TableName). same_name x.name n) (sym same ∙ ap name_in (sym e)) ∙ name_itself x.name in
    cc
one_place (x ∷ infos) (suc i) zero a b distinct at there same =
    let e : x ≡ b = cc in
    let other : same_name x.name a.name ≡ false = apart x infos i a (not_true _ (and_left _ _ distinct)) at in
    let one : same_name x.name a.name ≡ true = ap (λ (n : TableName). same_name x.name n) (same ∙ ap name_in (sym e)) ∙ name_itself x.name in
    cc
one_place (x ∷ infos) (suc i) (suc j) a b distinct at there same = ap suc (one_place infos i j a b (and_right (not (list_any (same_name x.name) (map name_in infos))) _ distinct) at there same)

-- a captured table is found by its name
pub number_at : (infos : List TableInfo) (i : ℕ) (info : TableInfo) → are_distinct same_name (map name_in infos) ≡ true → slice_get infos i ≡ Some info → number_of infos info.name ≡ Some i
number_at infos i info distinct at = by (number_of infos info.name) refl
  where
    by : (o : Option ℕ) → number_of infos info.name ≡ o → o ≡ Some i
    by None none =
        let never : list_any (λ (x : TableInfo). same_name x.name info.name) infos ≡ false =
        sym (is_some-position_from (λ (x : TableInfo). same_name x.name info.name) 0 infos) ∙ ap (λ (o : Option ℕ). is_some o) none in
        let other : same_name info.name info.name ≡ false = none_passes (λ (x : TableInfo). same_name x.name info.name) infos i info never at in
        let one : same_name info.name info.name ≡ true = name_itself info.name in
        cc
    by (Some n) there =
        let found = position_from-at (λ (x : TableInfo). same_name x.name info.name) 0 infos n there in
        let place : n ≡ found.0 = omega (arith, found.1) in
        ap (λ (m : ℕ). Some m) (place ∙ one_place infos found.0 i found.2.0 info distinct found.2.1 at (name_same found.2.0.name info.name found.2.2))

-- the catalogue's entry of a name is the log's table of this name
pub entry_named : (us : List LogTable) (name : TableName) → is_watermark name ≡ false → find (λ r. same_name r.name name) (catalogue us) ≡ option_map (λ (t : LogTable). t.raw) (log_table_named us name)
entry_named [] name plain = refl
entry_named (u ∷ us) name plain = by (same_name u.raw.name name) refl (entry_named us name plain)
  where
    by_kept : (b : Bool) → same_name u.raw.name name ≡ false → find (λ r. same_name r.name name) (catalogue us) ≡ option_map (λ (t : LogTable). t.raw) (log_table_named us name)
        → find (λ r. same_name r.name name) (cond (not b) (u.raw ∷ catalogue us) (catalogue us)) ≡ option_map (λ (t : LogTable). t.raw) (log_table_named us name)
    by_kept true other rest = rest
    by_kept false other rest = ap (λ (b : Bool). cond b (Some u.raw) (find (λ r. same_name r.name name) (catalogue us))) other ∙ rest

    by : (b : Bool) → same_name u.raw.name name ≡ b → find (λ r. same_name r.name name) (catalogue us) ≡ option_map (λ (t : LogTable). t.raw) (log_table_named us name)
        → find (λ r. same_name r.name name) (catalogue (u ∷ us)) ≡ option_map (λ (t : LogTable). t.raw) (log_table_named (u ∷ us) name)
    by true same rest =
        let kept : is_watermark u.raw.name ≡ false = ap is_watermark (name_same u.raw.name name same) ∙ plain in
        ap (λ (b : Bool). find (λ r. same_name r.name name) (cond (not b) (u.raw ∷ catalogue us) (catalogue us))) kept
        ∙ ap (λ (b : Bool). cond b (Some u.raw) (find (λ r. same_name r.name name) (catalogue us))) same
        ∙ sym (ap (λ (b : Bool). option_map (λ (t : LogTable). t.raw) (cond b (Some u) (log_table_named us name))) same)
    by false other rest =
        by_kept (is_watermark u.raw.name) other rest ∙ sym (ap (λ (b : Bool). option_map (λ (t : LogTable). t.raw) (cond b (Some u) (log_table_named us name))) other)

-- ---- one captured table

module _ (infos : List TableInfo) (t : ℕ) (info : TableInfo) (there : slice_get infos t ≡ Some info) (table : LogTable) (is_info : IsInfoOf table.raw info) where
  abbrev types : List PgType
  types = types_in info.columns

  abbrev row_as : RawRow → Row
  row_as row = record { cells = typed_cells types row.cells }

  columns_here : columns_of infos t ≡ info.columns
  columns_here = ap (λ (o : Option TableInfo). unwrap_or (option_map (λ (x : TableInfo). x.columns) o) []) there

  places_here : key_places infos t ≡ info.key
  places_here = ap (λ (o : Option TableInfo). unwrap_or (option_map (λ (x : TableInfo). x.key) o) []) there

  row_here : (row : RawRow) → typed_row infos t row ≡ row_as row
  row_here row = ap (λ (columns : List Column). let r : Row = record { cells = typed_cells (types_in columns) row.cells } in r) columns_here

  key_here : (texts : RawKey) → typed_key infos t texts ≡ key_from table.raw texts
  key_here texts =
      ap (λ (columns : List Column). let k : Key = record { cells = typed_cells (map (type_at columns) (key_places infos t)) texts } in k) columns_here
      ∙ ap (λ (places : List ℕ). let k : Key = record { cells = typed_cells (map (type_at info.columns) places) texts } in k) places_here
      ∙ ap (λ (ts : List PgType). let k : Key = record { cells = typed_cells ts texts } in k) (sym (types_named table info is_info))

  key_placed : (texts : Texts) → key_at (key_places infos t) (typed_cells types texts) ≡ key_in table.raw texts
  key_placed texts = ap (λ (places : List ℕ). key_at places (typed_cells types texts)) places_here ∙ key_is table info is_info texts

  new_key : (cells : List RawCell) → new_key_of info (typed_update types cells) ≡ key_in table.raw (map given_text cells)
  new_key cells = ap (key_of info) (givens types cells) ∙ key_is table info is_info (map given_text cells)

  new_key_placed : (cells : List RawCell) → key_at (key_places infos t) (map given_or_null (typed_update types cells)) ≡ key_in table.raw (map given_text cells)
  new_key_placed cells = ap (key_at (key_places infos t)) (givens types cells) ∙ key_placed (map given_text cells)

  old_here : (old : Option RawRow) → option_map (typed_row infos t) old ≡ option_map row_as old
  old_here None = refl
  old_here (Some row) = ap (λ (r : Row). Some r) (row_here row)

  -- what each change is as values
  abbrev insert_as : RawRow → Change
  insert_as row = change.Insert t (row_as row)

  abbrev update_as : RawKey → Option RawRow → List RawCell → Change
  update_as from old cells = change.Update t (key_from table.raw from) (option_map row_as old) (typed_update types cells)

  abbrev delete_as : RawKey → RawRow → Change
  delete_as from old = change.Delete t (key_from table.raw from) (row_as old)

  insert_is : (name : TableName) (row : RawRow) → number_of infos name ≡ Some t → typed_change infos (raw.Insert name row) ≡ Some (insert_as row)
  insert_is name row is = ap (option_map (λ (n : ℕ). change.Insert n (typed_row infos n row))) is ∙ ap (λ (r : Row). Some (change.Insert t r)) (row_here row)

  update_is : (name : TableName) (from : RawKey) (old : Option RawRow) (cells : List RawCell) → number_of infos name ≡ Some t → typed_change infos (raw.Update name from old cells) ≡ Some (update_as from old cells)
  update_is name from old cells is =
      ap (option_map (λ (n : ℕ). change.Update n (typed_key infos n from) (option_map (typed_row infos n) old) (typed_update (types_of infos n) cells))) is
      ∙ ap (λ (k : Key). Some (change.Update t k (option_map (typed_row infos t) old) (typed_update (types_of infos t) cells))) (key_here from)
      ∙ ap (λ (o : Option Row). Some (change.Update t (key_from table.raw from) o (typed_update (types_of infos t) cells))) (old_here old)
      ∙ ap (λ (columns : List Column). Some (change.Update t (key_from table.raw from) (option_map row_as old) (typed_update (types_in columns) cells))) columns_here

  delete_is : (name : TableName) (from : RawKey) (old : RawRow) → number_of infos name ≡ Some t → typed_change infos (raw.Delete name from old) ≡ Some (delete_as from old)
  delete_is name from old is =
      ap (option_map (λ (n : ℕ). change.Delete n (typed_key infos n from) (typed_row infos n old))) is
      ∙ ap (λ (k : Key). Some (change.Delete t k (typed_row infos t old))) (key_here from)
      ∙ ap (λ (r : Row). Some (change.Delete t (key_from table.raw from) r)) (row_here old)

  clear_is : (name : TableName) → number_of infos name ≡ Some t → typed_change infos (raw.Clear name) ≡ Some (change.Clear t)
  clear_is name is = ap (option_map (λ (n : ℕ). change.Clear n)) is

  -- ---- its rows

  abbrev pub AgreeHere : Rows → (Key → Option Texts) → Type 0
  AgreeHere rows here = (key : Key) → rows t key ≡ option_map (typed_cells types) (here key)

  itself : (t == t) ≡ true
  itself = grind (arith, nat_tests)

  insert_rows : (name : TableName) (row : RawRow) (rows : Rows) (here : Key → Option Texts) → AgreeHere rows here → AgreeHere (rows_after infos (insert_as row) rows) (text_row_after table.raw (raw.Insert name row) here)
  insert_rows name row rows here agree = λ key.
      ap (λ (b : Bool). row_after (at_key b (same_key (key_at (key_places infos t) (row_as row).cells) key) (Whole (row_as row).cells)) (rows t key)) itself
      ∙ ap (λ (k : Key). row_after (at_key true (same_key k key) (Whole (row_as row).cells)) (rows t key)) (key_placed row.cells)
      ∙ by key (same_key (key_in table.raw row.cells) key)
    where
      by : (key : Key) (b : Bool) → row_after (at_key true b (Whole (typed_cells types row.cells))) (rows t key) ≡ option_map (typed_cells types) (if b then Some row.cells else here key)
      by key true = refl
      by key false = agree key

  update_rows : (name : TableName) (from : RawKey) (old : Option RawRow) (cells : List RawCell) (rows : Rows) (here : Key → Option Texts) → AgreeHere rows here
      → AgreeHere (rows_after infos (update_as from old cells) rows) (text_row_after table.raw (raw.Update name from old cells) here)
  update_rows name from old cells rows here agree = λ key.
      ap (λ (b : Bool). row_after (at_keys b (same_key (key_at (key_places infos t) (map given_or_null (typed_update types cells))) key) (same_key (key_from table.raw from) key) (updated (all_given (typed_update types cells)) (typed_update types cells))) (rows t key)) itself
      ∙ ap (λ (k : Key). row_after (at_keys true (same_key k key) (same_key (key_from table.raw from) key) (updated (all_given (typed_update types cells)) (typed_update types cells))) (rows t key)) (new_key_placed cells)
      ∙ by key (same_key (key_in table.raw (map given_text cells)) key) (same_key (key_from table.raw from) key)
    where
      over : (o : Option Texts) → option_map (overlay (typed_update types cells)) (option_map (typed_cells types) o) ≡ option_map (typed_cells types) (option_map (overlaid cells) o)
      over None = refl
      over (Some row) = ap (λ (vs : List Val). Some vs) (overlaid_typed types cells row)

      settles : (key : Key) (o : Option Texts) → row_after (updated (option_map (typed_cells types) o) (typed_update types cells)) (rows t key) ≡ option_map (typed_cells types) (updated_texts o cells (here key))
      settles key (Some row) = refl
      settles key None = ap (option_map (overlay (typed_update types cells))) (agree key) ∙ over (here key)

      by : (key : Key) (b o : Bool)
          → row_after (at_keys true b o (updated (all_given (typed_update types cells)) (typed_update types cells))) (rows t key)
          ≡ option_map (typed_cells types) (if b then updated_texts (all_texts cells) cells (here key) else (if o then None else here key))
      by key true o = ap (λ (g : Option (List Val)). row_after (updated g (typed_update types cells)) (rows t key)) (all_typed types cells) ∙ settles key (all_texts cells)
      by key false true = refl
      by key false false = agree key

  delete_rows : (name : TableName) (from : RawKey) (old : RawRow) (rows : Rows) (here : Key → Option Texts) → AgreeHere rows here → AgreeHere (rows_after infos (delete_as from old) rows) (text_row_after table.raw (raw.Delete name from old) here)
  delete_rows name from old rows here agree = λ key.
      ap (λ (b : Bool). row_after (at_key b (same_key (key_from table.raw from) key) Ends) (rows t key)) itself ∙ by key (same_key (key_from table.raw from) key)
    where
      by : (key : Key) (b : Bool) → row_after (at_key true b Ends) (rows t key) ≡ option_map (typed_cells types) (if b then None else here key)
      by key true = refl
      by key false = agree key

  clear_rows : (name : TableName) (rows : Rows) (here : Key → Option Texts) → AgreeHere (rows_after infos (change.Clear t) rows) (text_row_after table.raw (raw.Clear name) here)
  clear_rows name rows here = λ key. ap (λ (b : Bool). row_after (at_key b true Ends) (rows t key)) itself

  -- ---- what is fit

  wide_as : (n : ℕ) → n ≡ length table.raw.columns → n ≡ width info
  wide_as n is = is ∙ wide table info is_info

  insert_fit : (row : RawRow) (rows : Rows) (here : Key → Option Texts) → AgreeHere rows here → AreTextsInRange row.cells → IsFitTextInsert table.raw here row → IsFitInsert info (rows t) (row_as row)
  insert_fit row rows here agree utf8 fit = record {
    wide = length-typed_cells types row.cells ∙ wide_as (length row.cells) fit.wide;
    key = subst (IsKeyOf info) (sym (key_is table info is_info row.cells)) (key_fit table info is_info (raw_key table.raw row.cells) fit.key (key_in_range table.raw row.cells utf8));
    absent = ap (rows t) (key_is table info is_info row.cells) ∙ agree (key_in table.raw row.cells) ∙ ap (option_map (typed_cells types)) fit.absent;
  }

  update_fit : (name : TableName) (from : RawKey) (old : Option RawRow) (cells : List RawCell) (rows : Rows) (here : Key → Option Texts) → AgreeHere rows here → IsRawChangeInRange (raw.Update name from old cells)
      → IsFitTextUpdate table.raw here from old cells → IsFitUpdate info (rows t) (key_from table.raw from) (option_map row_as old) (typed_update types cells)
  update_fit name from old cells rows here agree range fit =
      let gives : AreTextsInRange (map given_text cells) = givens_in_range cells range.cells in
      record {
        wide = length-typed_update types cells ∙ wide_as (length cells) fit.wide;
        old_wide = old_too old fit.old_wide;
        old_key = key_fit table info is_info from fit.old_key range.key;
        new_key = subst (IsKeyOf info) (sym (new_key cells)) (key_fit table info is_info (raw_key table.raw (map given_text cells)) fit.new_key (key_in_range table.raw (map given_text cells) gives));
        present = subst IsSome (sym (agree (key_from table.raw from))) (some_map (typed_cells types) (here (key_from table.raw from)) fit.present);
        stays_or_moves = elim fit.stays_or_moves [ inl same ↦ inl (same ∙ sym (new_key cells)) | inr moves ↦ inr (moved moves) ];
      }
    where
      old_too : (o : Option RawRow) → IfSome o (λ row. length row.cells ≡ length table.raw.columns) → IfSome (option_map row_as o) (λ row. length row.cells ≡ width info)
      old_too None wide_so = tt
      old_too (Some row) wide_so = length-typed_cells types row.cells ∙ wide_as (length row.cells) wide_so

      moved : (here (key_in table.raw (map given_text cells)) ≡ None) × IsSome (all_texts cells) → (rows t (new_key_of info (typed_update types cells)) ≡ None) × IsSome (all_given (typed_update types cells))
      moved moves = (
        ap (rows t) (new_key cells) ∙ agree (key_in table.raw (map given_text cells)) ∙ ap (option_map (typed_cells types)) moves.0,
        subst IsSome (sym (all_typed types cells)) (some_map (typed_cells types) (all_texts cells) moves.1),
      )

  delete_fit : (from : RawKey) (old : RawRow) (rows : Rows) (here : Key → Option Texts) → AgreeHere rows here → AreTextsInRange from → IsFitTextDelete table.raw here from old → IsFitDelete info (rows t) (key_from table.raw from) (row_as old)
  delete_fit from old rows here agree utf8 fit = record {
    old_wide = length-typed_cells types old.cells ∙ wide_as (length old.cells) fit.old_wide;
    old_key = key_fit table info is_info from fit.old_key utf8;
    present = subst IsSome (sym (agree (key_from table.raw from))) (some_map (typed_cells types) (here (key_from table.raw from)) fit.present);
  }

-- ---- all captured tables

-- a table of the log that is captured, by its name and number
pub record IsHere (tables : List LogTable) (infos : List TableInfo) (name : TableName) (t : ℕ) : Type 0 where
  pub table : LogTable
  pub found : log_table_named tables name ≡ Some table
  pub info : TableInfo
  pub there : slice_get infos t ≡ Some info
  pub named : info.name ≡ name
  pub is_info : IsInfoOf table.raw info

made_here : (tables : List LogTable) (infos : List TableInfo) (name : TableName) (t : ℕ) (info : TableInfo) (o : Option LogTable) → log_table_named tables name ≡ o → slice_get infos t ≡ Some info → info.name ≡ name
    → IsSomeAnd (option_map (λ (x : LogTable). x.raw) o) (λ r. IsInfoOf r info) → IsHere tables infos name t
made_here tables infos name t info None is at same of = absurd of
made_here tables infos name t info (Some table) is at same of = record { table = table; found = is; info = info; there = at; named = same; is_info = of }

module _ (tables : List LogTable) (infos : List TableInfo) (captured : AreInfosOf (history_of tables []) infos) where
  pub here_at : (name : TableName) (t : ℕ) → is_watermark name ≡ false → number_of infos name ≡ Some t → IsHere tables infos name t
  here_at name t plain is =
      let found = position_from-at (λ (x : TableInfo). same_name x.name name) 0 infos t is in
      let place : t ≡ found.0 = omega (arith, found.1) in
      let info : TableInfo = found.2.0 in
      let same : info.name ≡ name = name_same info.name name found.2.2 in
      let each : IsSomeAnd (entry_of (history_of tables []) info.name) (λ r. IsInfoOf r info) = all_at (λ (x : TableInfo). IsSomeAnd (entry_of (history_of tables []) x.name) (λ r. IsInfoOf r x)) infos found.0 info captured.each found.2.1 in
      let entry : entry_of (history_of tables []) info.name ≡ option_map (λ (x : LogTable). x.raw) (log_table_named tables name) = ap (entry_of (history_of tables [])) same ∙ entry_named tables name plain in
      made_here tables infos name t info (log_table_named tables name) refl (ap (slice_get infos) place ∙ found.2.1) same (subst (λ (o : Option RawTable). IsSomeAnd o (λ r. IsInfoOf r info)) entry each)

  -- the rows of each captured table are the log's, read as values
  abbrev pub Agree : Rows → TextRows → Type 0
  Agree rows at = (i : ℕ) (info : TableInfo) (key : Key) → slice_get infos i ≡ Some info → rows i key ≡ option_map (typed_cells (types_in info.columns)) (at info.name key)

  -- a change of a table that isn't captured
  other_step : (c : RawChange) (rows : Rows) (at : TextRows) → number_of infos (name_of c) ≡ None → Agree rows at → Agree rows (text_rows_after tables c at)
  other_step c rows at none agree i info key there = by (same_name (name_of c) info.name) refl
    where
      by : (b : Bool) → same_name (name_of c) info.name ≡ b
          → rows i key ≡ option_map (typed_cells (types_in info.columns)) (if b then text_row_in (log_table_named tables info.name) c (at info.name) key else at info.name key)
      by false other = agree i info key there
      by true same =
          let own : number_of infos (name_of c) ≡ Some i = ap (number_of infos) (name_same (name_of c) info.name same) ∙ number_at infos i info captured.distinct there in
          let never : None ≡ Some i = sym none ∙ own in
          cc

  -- a change of a captured one
  own_step : (c : RawChange) (d : Change) (t : ℕ) (h : IsHere tables infos (name_of c) t) (rows : Rows) (at : TextRows) → number_of infos (name_of c) ≡ Some t → table_of d ≡ t → Agree rows at
      → ((key : Key) → rows_after infos d rows t key ≡ option_map (typed_cells (types_in h.info.columns)) (text_row_after h.table.raw c (at (name_of c)) key)) → Agree (rows_after infos d rows) (text_rows_after tables c at)
  own_step c d t h rows at number of agree own i info key there = by_place (t == i) refl
    where
      by_name : (b : Bool) → (t == i) ≡ false → same_name (name_of c) info.name ≡ b
          → rows i key ≡ option_map (typed_cells (types_in info.columns)) (if b then text_row_in (log_table_named tables info.name) c (at info.name) key else at info.name key)
      by_name false apart_so other = agree i info key there
      by_name true apart_so same =
          let one : number_of infos (name_of c) ≡ Some i = ap (number_of infos) (name_same (name_of c) info.name same) ∙ number_at infos i info captured.distinct there in
          let both : Some t ≡ Some i = sym number ∙ one in
          absurd (eqb-false t i apart_so (let e : t ≡ i = cc in e))

      by_place : (b : Bool) → (t == i) ≡ b → rows_after infos d rows i key ≡ option_map (typed_cells (types_in info.columns)) (text_rows_after tables c at info.name key)
      by_place false apart_so =
          let stays : effect_of infos d i key ≡ Stays = effect_of-other_table infos d i key (λ e. eqb-false t i apart_so (sym of ∙ e)) in
          ap (λ (e : Effect). row_after e (rows i key)) stays ∙ by_name (same_name (name_of c) info.name) apart_so refl
      by_place true same =
          let e : t ≡ i = eqb-true t i same in
          let some : Some h.info ≡ Some info = sym h.there ∙ ap (slice_get infos) e ∙ there in
          let f : h.info ≡ info = cc in
          let n : info.name ≡ name_of c = ap name_in (sym f) ∙ h.named in
          let text : text_rows_after tables c at info.name key ≡ text_row_after h.table.raw c (at (name_of c)) key =
          ap (λ (m : TableName). text_rows_after tables c at m key) n
          ∙ ap (λ (b : Bool). if b then text_row_in (log_table_named tables (name_of c)) c (at (name_of c)) key else at (name_of c) key) (name_itself (name_of c))
          ∙ ap (λ (o : Option LogTable). text_row_in o c (at (name_of c)) key) h.found in
          ap (λ (m : ℕ). rows_after infos d rows m key) (sym e)
          ∙ own key
          ∙ ap (λ (x : TableInfo). option_map (typed_cells (types_in x.columns)) (text_row_after h.table.raw c (at (name_of c)) key)) f
          ∙ ap (option_map (typed_cells (types_in info.columns))) (sym text)

  -- ---- one change

  abbrev pub rows_next : Rows → Option Change → Rows
  rows_next rows None = rows
  rows_next rows (Some d) = rows_after infos d rows

  pub record Stepped (rows : Rows) (at : TextRows) (c : RawChange) (o : Option Change) : Type 0 where
    pub fits : IfSome o (IsFit infos rows)
    pub agrees : Agree (rows_next rows o) (text_rows_after tables c at)

  agree_at : (name : TableName) (t : ℕ) (h : IsHere tables infos name t) (rows : Rows) (at : TextRows) → Agree rows at → (key : Key) → rows t key ≡ option_map (typed_cells (types_in h.info.columns)) (at name key)
  agree_at name t h rows at agree key = agree t h.info key h.there ∙ ap (λ (n : TableName). option_map (typed_cells (types_in h.info.columns)) (at n key)) h.named

  fit_at : (c : RawChange) (t : ℕ) (h : IsHere tables infos (name_of c) t) (at : TextRows) → IsFitChange tables at c → IsFitText h.table.raw (at (name_of c)) c
  fit_at c t h at fit = subst (λ (o : Option LogTable). IsSomeAnd o (λ x. IsFitText x.raw (at (name_of c)) c)) h.found fit.1

  none_typed : (c : RawChange) → number_of infos (name_of c) ≡ None → typed_change infos c ≡ None
  none_typed (raw.Insert name row) none = ap (option_map (λ (n : ℕ). change.Insert n (typed_row infos n row))) none
  none_typed (raw.Update name from old cells) none = ap (option_map (λ (n : ℕ). change.Update n (typed_key infos n from) (option_map (typed_row infos n) old) (typed_update (types_of infos n) cells))) none
  none_typed (raw.Delete name from old) none = ap (option_map (λ (n : ℕ). change.Delete n (typed_key infos n from) (typed_row infos n old))) none
  none_typed (raw.Clear name) none = ap (option_map (λ (n : ℕ). change.Clear n)) none

  stepped_here : (c : RawChange) (t : ℕ) (h : IsHere tables infos (name_of c) t) (rows : Rows) (at : TextRows) → number_of infos (name_of c) ≡ Some t → Agree rows at → IsFitChange tables at c → IsRawChangeInRange c
      → Stepped rows at c (typed_change infos c)
  stepped_here (raw.Insert name row) t h rows at number agree fit range =
      let own = agree_at name t h rows at agree in
      let fine = insert_fit infos t h.info h.there h.table h.is_info row rows (at name) own range.1 (fit_at (raw.Insert name row) t h at fit) in
      let d : Change = insert_as infos t h.info h.there h.table h.is_info row in
      let next : Stepped rows at (raw.Insert name row) (Some d) = record {
        fits = subst (λ (o : Option TableInfo). IsSomeAnd o (λ info. IsFitInsert info (rows t) (row_as infos t h.info h.there h.table h.is_info row))) (sym h.there) fine;
        agrees = own_step (raw.Insert name row) d t h rows at number refl agree (insert_rows infos t h.info h.there h.table h.is_info name row rows (at name) own);
      } in
      subst (Stepped rows at (raw.Insert name row)) (sym (insert_is infos t h.info h.there h.table h.is_info name row number)) next
  stepped_here (raw.Update name from old cells) t h rows at number agree fit range =
      let own = agree_at name t h rows at agree in
      let fine = update_fit infos t h.info h.there h.table h.is_info name from old cells rows (at name) own range (fit_at (raw.Update name from old cells) t h at fit) in
      let d : Change = update_as infos t h.info h.there h.table h.is_info from old cells in
      let next : Stepped rows at (raw.Update name from old cells) (Some d) = record {
        fits =
            subst (λ (o : Option TableInfo). IsSomeAnd o (λ info. IsFitUpdate info (rows t) (key_from h.table.raw from) (option_map (row_as infos t h.info h.there h.table h.is_info) old) (typed_update (types_in h.info.columns) cells)))
            (sym h.there) fine;
        agrees = own_step (raw.Update name from old cells) d t h rows at number refl agree (update_rows infos t h.info h.there h.table h.is_info name from old cells rows (at name) own);
      } in
      subst (Stepped rows at (raw.Update name from old cells)) (sym (update_is infos t h.info h.there h.table h.is_info name from old cells number)) next
  stepped_here (raw.Delete name from old) t h rows at number agree fit range =
      let own = agree_at name t h rows at agree in
      let fine = delete_fit infos t h.info h.there h.table h.is_info from old rows (at name) own range.1 (fit_at (raw.Delete name from old) t h at fit) in
      let d : Change = delete_as infos t h.info h.there h.table h.is_info from old in
      let next : Stepped rows at (raw.Delete name from old) (Some d) = record {
        fits = subst (λ (o : Option TableInfo). IsSomeAnd o (λ info. IsFitDelete info (rows t) (key_from h.table.raw from) (row_as infos t h.info h.there h.table h.is_info old))) (sym h.there) fine;
        agrees = own_step (raw.Delete name from old) d t h rows at number refl agree (delete_rows infos t h.info h.there h.table h.is_info name from old rows (at name) own);
      } in
      subst (Stepped rows at (raw.Delete name from old)) (sym (delete_is infos t h.info h.there h.table h.is_info name from old number)) next
  stepped_here (raw.Clear name) t h rows at number agree fit range =
      let next : Stepped rows at (raw.Clear name) (Some (change.Clear t)) = record {
        fits = subst IsSome (sym h.there) refl;
        agrees = own_step (raw.Clear name) (change.Clear t) t h rows at number refl agree (clear_rows infos t h.info h.there h.table h.is_info name rows (at name));
      } in
      subst (Stepped rows at (raw.Clear name)) (sym (clear_is infos t h.info h.there h.table h.is_info name number)) next

  pub stepped : (c : RawChange) (rows : Rows) (at : TextRows) → Agree rows at → IsFitChange tables at c → IsRawChangeInRange c → Stepped rows at c (typed_change infos c)
  stepped c rows at agree fit range = by (number_of infos (name_of c)) refl
    where
      by : (o : Option ℕ) → number_of infos (name_of c) ≡ o → Stepped rows at c (typed_change infos c)
      by None none =
          let next : Stepped rows at c None = record { fits = tt; agrees = other_step c rows at none agree } in
          subst (Stepped rows at c) (sym (none_typed c none)) next
      by (Some t) number = stepped_here c t (here_at (name_of c) t fit.0 number) rows at number agree fit range
