-- What a conforming source's rows are read as, and which fault they may have.
use Rattle.std.proofs.Common.{◌≡◌, ◌∙◌, ◌+◌, ◌-◌, ◌<◌, ◌≤◌, ◌⊎◌, ◌&&◌, ◌||◌, inl, inr, ℕ, zero, suc, Bool, true, false, Option, Some, None, List, [], ◌∷◌, length, map, refl, sym, ap, subst, arith}
use Rattle.std.specs.Prelude.{Result, Ok, Err, if◌then◌else◌, ◌==◌, is_some, unwrap_or, slice_get, nat_eq, nat_lt, IfSome, IsSomeAnd, find}
use Rattle.std.specs.List.{AllByRecursion, list_any}
use Rattle.std.proofs.lemmas.Bool.Decides.{Decides-eqb, Decides-ltb}
use Rattle.dbl_value_types.specs.declared.column_type.PgType.{PgType}
use Rattle.dbl_value_types.specs.declared.value.Val.{Val}
use Rattle.dbl_value_types.specs.declared.value.Val.TheVariants as val
use Rattle.dbl_value_types.specs.declared.error.ValueError.{ValueError}
use Rattle.dbl_value_types.specs.Values.{value_of, IsOf}
use Rattle.dbl_value_types.specs.Faults.{fault_of, value_fault}
use Rattle.dbl_value_types.proofs.KindLemmas.{null_spelled}
use Rattle.dbl_model_table.specs.declared.table.Column.{Column}
use Rattle.dbl_model_table.specs.declared.table.TableName.{TableName}
use Rattle.dbl_model_table.specs.declared.table.RawTable.{RawTable}
use Rattle.dbl_model_table.specs.declared.table.RawRow.{RawRow}
use Rattle.dbl_model_table.specs.declared.table.TableInfo.{TableInfo}
use Rattle.dbl_model_table.specs.declared.row.Key.{Key}
use Rattle.dbl_model_table.specs.declared.row.Row.{Row}
use Rattle.dbl_model_table.specs.Tables.{same_name, type_at}
use Rattle.dbl_model_table.specs.Infos.{IsInfoOf, number_of, column_types, width}
use Rattle.dbl_model_table.specs.Keys.{cell_or_null}
use Rattle.dbl_model_table.specs.Rows.{Rows, rows_at, all_changes, moment_of}
use Rattle.dbl_model_table.proofs.Lists.{and_left, and_right, and_both, same_text, text_itself, is_some-position_from, position_from-at}
use Rattle.dbl_model_table.proofs.InfoLemmas.{true_false}
use Rattle.dbl_model_history.specs.History.{History}
use Rattle.dbl_model_history.specs.Typed.{typed, typed_cell, typed_cells}
use Rattle.dbl_model_history.specs.Fit.{AreOf, IsKeyOf, AreInfosOf, IsFitHistory}
use Rattle.dbl_model_history.specs.KeyBounds.{IsAbove}
use Rattle.dbl_model_history.specs.KeyedRows.{AreFirst, last_key}
use Rattle.dbl_model_history.proofs.BoundLemmas.{first_is_there}
use Rattle.dbl_model_history.proofs.ImageLemmas.{table_one}
use Rattle.dbl_model_history.proofs.RowKeys.{fit_rows}
use Rattle.dbl_source.specs.SourceModel.declared.selected.Selected.{Selected as SelectAnswer}
use Rattle.dbl_source.specs.SourceModel.Selected.{rows_up_to, keyed_row, AreFirstOf, AreAnswered}
use Rattle.dbl_source.proofs.SourceModelGrowthLemmas.{rows_are}
use Rattle.dbl_source.proofs.SourceModelPlainLemmas.{typed_rows}
use Rattle.dbl_window.specs.declared.error.WindowError.{WindowError}
use Rattle.dbl_window.specs.declared.error.WindowError.TheVariants as window
use Rattle.dbl_window.specs.Plans.{Plan, Chunk}
use Rattle.dbl_window.specs.Reading.{◌>>=◌, is_of_key, null_read, value_read, cell_read, cells_read, comes_after, placed, with_key, row_read, rows_read, chunk_read}
use Rattle.dbl_window.specs.Selected.{IsCaptured, IsSelected, HasUnreadable}
use Rattle.dbl_window.proofs.CellLemmas.{cells_are}
use Rattle.dbl_window.proofs.OrderLemmas.{first_after}
use Rattle.dbl_window.proofs.ReadLemmas.{above_is, keyed_by, row_is, read_answered}

-- ---- the window's table among the captured ones

any_at : {X : Type 0} (p : X → Bool) (xs : List X) (i : ℕ) (x : X) → slice_get xs i ≡ Some x → p x ≡ true → list_any p xs ≡ true
any_at p [] i x at is = cc
any_at p (y ∷ xs) zero x at is = let same : y ≡ x = cc in ap (λ (b : Bool). b || list_any p xs) (ap p same ∙ is)
any_at p (y ∷ xs) (suc i) x at is = by (p y) (any_at p xs i x at is)
  where
    by : (b : Bool) → list_any p xs ≡ true → (b || list_any p xs) ≡ true
    by true later = refl
    by false later = later

named_so : (a b : TableName) → same_name a b ≡ true → a ≡ b
named_so a b is =
    let schema : a.schema ≡ b.schema = same_text a.schema b.schema (and_left _ _ is) in
    let name : a.name ≡ b.name = same_text a.name b.name (and_right _ _ is) in
    λ i. record { schema = schema i; name = name i }

pub number_is : (history : History) (infos : List TableInfo) (table : ℕ) (info : TableInfo) → AreInfosOf history infos → slice_get infos table ≡ Some info → number_of infos info.name ≡ Some table
number_is history infos table info are at = by (number_of infos info.name) refl
  where
    itself : same_name info.name info.name ≡ true
    itself = and_both _ _ (text_itself info.name.schema) (text_itself info.name.name)

    some : is_some (number_of infos info.name) ≡ true
    some = is_some-position_from (λ (i : TableInfo). same_name i.name info.name) 0 infos ∙ any_at (λ (i : TableInfo). same_name i.name info.name) infos table info at itself

    by : (o : Option ℕ) → number_of infos info.name ≡ o → o ≡ Some table
    by None none = let contra : false ≡ true = sym (ap is_some none) ∙ some in cc
    by (Some n) found =
        let place = position_from-at (λ (i : TableInfo). same_name i.name info.name) 0 infos n found in
        let same : place.0 ≡ table = table_one infos place.0 table place.2.0 info are.distinct place.2.1 at (named_so place.2.0.name info.name place.2.2) in
        ap (λ (k : ℕ). Some k) (omega (arith, place.1, same))

-- what is captured stays so, as the catalogue never changes
pub captured_stays : (s t : History) (infos : List TableInfo) → t.tables ≡ s.tables → AreInfosOf s infos → AreInfosOf t infos
captured_stays s t infos same are = record {
  distinct = are.distinct;
  each = subst (λ (tables : List RawTable). AllByRecursion (λ info. IsSomeAnd (find (λ raw. same_name raw.name info.name) tables) (λ raw. IsInfoOf raw info)) infos) (sym same) are.each;
}

-- the answered rows are the table's first ones at their place
pub first_answered : (infos : List TableInfo) (history : History) (plan : Plan) (from upto : ℕ) (answer : SelectAnswer) → IsFitHistory history → IsCaptured infos history plan → IfSome plan.above (IsKeyOf plan.info)
    → (answered : AreAnswered history from upto plan.info.name plan.above plan.limit answer)
    → AreFirst plan.info (rows_up_to infos history answered.place plan.table) plan.above plan.limit (map (keyed_row infos plan.table plan.info) answer.rows)
first_answered infos history plan from upto answer fit captured starts answered =
    let rows : List RawRow = answer.rows in
    let are = typed_rows history answered.place plan.info.name plan.above plan.limit rows infos fit.unaltered captured.are answered.are in
    let number : number_of infos plan.info.name ≡ Some plan.table = number_is history infos plan.table plan.info captured.are captured.here in
    let own : (info : TableInfo) × AreFirstOf infos plan.table info (rows_up_to infos history answered.place) plan.above plan.limit rows =
    subst (λ (o : Option ℕ). IfSome o (λ t. (info : TableInfo) × AreFirstOf infos t info (rows_up_to infos history answered.place) plan.above plan.limit rows)) number are in
    let both : Some own.0 ≡ Some plan.info = sym own.1.captured ∙ captured.here in
    let info_is : own.0 ≡ plan.info = cc in
    let first : IfSome plan.above (IsKeyOf own.0) → AreFirst own.0 (rows_up_to infos history answered.place plan.table) plan.above plan.limit (map (keyed_row infos plan.table own.0) rows) = own.1.first in
    (subst (λ (i : TableInfo). IfSome plan.above (IsKeyOf i) → AreFirst i (rows_up_to infos history answered.place plan.table) plan.above plan.limit (map (keyed_row infos plan.table i) rows)) info_is first) starts

-- ---- a step that goes wrong

pub record WrongLater {A B : Type 0} (r : Result A WindowError) (f : A → Result B WindowError) (e : WindowError) : Type 0 where
  pub value : A
  pub first : r ≡ Ok value
  pub then_is : f value ≡ Err e

pub went_wrong : {A B : Type 0} (r : Result A WindowError) (f : A → Result B WindowError) (e : WindowError) → r >>= f ≡ Err e → (r ≡ Err e) ⊎ WrongLater r f e
went_wrong (Ok x) f e h = inr (record { value = x; first = refl; then_is = h })
went_wrong (Err d) f e h = inl (let same : d ≡ e = cc in ap (λ (w : WindowError). Err w) same)

-- ---- a cell of a row that is read wrong, though no cell of the key is null

record IsBadCell (columns : List Column) (cells : List (Option (List ℕ))) (e : WindowError) : Type 0 where
  pub place : ℕ
  pub column : Column
  pub column_is : slice_get columns place ≡ Some column
  pub text : List ℕ
  pub cell_is : slice_get cells place ≡ Some (Some text)
  pub none : value_of column.ty text ≡ None
  pub is : e ≡ window.Cell column.name (fault_of column.ty text)

bad_value : (column : Column) (columns : List Column) (text : List ℕ) (cells : List (Option (List ℕ))) (e : WindowError) (o : Option Val) → value_of column.ty text ≡ o
    → value_read column text o ≡ Err e → IsBadCell (column ∷ columns) (Some text ∷ cells) e
bad_value column columns text cells e (Some v) is h = absurd (cc)
bad_value column columns text cells e None is h = record { place = zero; column = column; column_is = refl; text = text; cell_is = refl; none = is; is = cc }

null_fault : (number : ℕ) (in_key : Bool) (e : WindowError) → (in_key ≡ true → ⊥) → null_read number in_key ≡ Err e → ⊥
null_fault number true e apart h = apart refl
null_fault number false e apart h = cc

bad_cell : (info : TableInfo) (number place : ℕ) (column : Column) (columns : List Column) (cell : Option (List ℕ)) (cells : List (Option (List ℕ))) (e : WindowError)
    → (cell ≡ None → is_of_key info place ≡ true → ⊥) → cell_read info number place column cell ≡ Err e → IsBadCell (column ∷ columns) (cell ∷ cells) e
bad_cell info number place column columns None cells e apart h = absurd (null_fault number (is_of_key info place) e (apart refl) h)
bad_cell info number place column columns (Some text) cells e apart h = bad_value column columns text cells e (value_of column.ty text) refl h

bad_cells : (info : TableInfo) (number place : ℕ) (columns : List Column) (cells : List (Option (List ℕ))) (e : WindowError)
    → ((k : ℕ) → slice_get cells k ≡ Some None → is_of_key info (place + k) ≡ true → ⊥) → cells_read info number place columns cells ≡ Err e → IsBadCell columns cells e
bad_cells info number place [] cells e apart h = absurd (cc)
bad_cells info number place (column ∷ columns) [] e apart h = absurd (cc)
bad_cells info number place (column ∷ columns) (c ∷ cells) e apart h =
    by (went_wrong (cell_read info number place column c) (λ x. cells_read info number (place + 1) columns cells >>= λ xs. Ok (x ∷ xs)) e h)
    (bad_cells info number (place + 1) columns cells e later)
  where
    here : c ≡ None → is_of_key info place ≡ true → ⊥
    here null own =
        let same : place + 0 ≡ place = omega arith in
        apart zero (ap (λ (o : Option (List ℕ)). Some o) null) (ap (is_of_key info) same ∙ own)

    later : (k : ℕ) → slice_get cells k ≡ Some None → is_of_key info (place + 1 + k) ≡ true → ⊥
    later k at own = let same : place + suc k ≡ place + 1 + k = omega arith in apart (suc k) at (ap (is_of_key info) same ∙ own)

    moved : IsBadCell columns cells e → IsBadCell (column ∷ columns) (c ∷ cells) e
    moved bad = record {
      place = suc bad.place;
      column = bad.column;
      column_is = bad.column_is;
      text = bad.text;
      cell_is = bad.cell_is;
      none = bad.none;
      is = bad.is;
    }

    by : (cell_read info number place column c ≡ Err e) ⊎ WrongLater (cell_read info number place column c) (λ x. cells_read info number (place + 1) columns cells >>= λ xs. Ok (x ∷ xs)) e
        → (cells_read info number (place + 1) columns cells ≡ Err e → IsBadCell columns cells e) → IsBadCell (column ∷ columns) (c ∷ cells) e
    by (inl wrong) rest = bad_cell info number place column columns c cells e here wrong
    by (inr one) rest = elim (went_wrong (cells_read info number (place + 1) columns cells) (λ xs. Ok (one.value ∷ xs)) e one.then_is) [
      | inl more ↦ moved (rest more)
      | inr two ↦ (let contra : Ok (one.value ∷ two.value) ≡ Err e = two.then_is in absurd (cc))
    ]

-- ---- typed cells

typed_null : (types : List PgType) (cells : List (Option (List ℕ))) (k : ℕ) → slice_get cells k ≡ Some None → slice_get (typed_cells types cells) k ≡ Some val.Null
typed_null types [] k at = cc
typed_null [] (c ∷ cells) zero at = let none : c ≡ None = cc in ap (λ (o : Option (List ℕ)). slice_get (typed_cells [] (o ∷ cells)) 0) none
typed_null [] (c ∷ cells) (suc k) at = typed_null [] cells k at
typed_null (ty ∷ types) (c ∷ cells) zero at = let none : c ≡ None = cc in ap (λ (o : Option (List ℕ)). slice_get (typed_cells (ty ∷ types) (o ∷ cells)) 0) none
typed_null (ty ∷ types) (c ∷ cells) (suc k) at = typed_null types cells k at

typed_at : (columns : List Column) (cells : List (Option (List ℕ))) (k : ℕ) (column : Column) (cell : Option (List ℕ)) → slice_get columns k ≡ Some column → slice_get cells k ≡ Some cell
    → slice_get (typed_cells (map (λ c. c.ty) columns) cells) k ≡ Some (typed_cell column.ty cell)
typed_at [] cells k column cell here at = cc
typed_at (d ∷ columns) [] k column cell here at = cc
typed_at (d ∷ columns) (c ∷ cells) zero column cell here at =
    let column_is : d ≡ column = cc in
    let cell_is : c ≡ cell = cc in
    λ i. Some (typed_cell (column_is i).ty (cell_is i))
typed_at (d ∷ columns) (c ∷ cells) (suc k) column cell here at = typed_at columns cells k column cell here at

-- a key's cell isn't Null
not_null : (f : ℕ → PgType) (cells : List Val) (places : List ℕ) (p : ℕ) → list_any (nat_eq p) places ≡ true → AreOf (map f places) (map (cell_or_null cells) places)
    → slice_get cells p ≡ Some val.Null → ⊥
not_null f cells [] p any are at = cc
not_null f cells (q ∷ places) p any are at = by (nat_eq p q) refl (not_null f cells places p)
  where
    by : (b : Bool) → nat_eq p q ≡ b → (list_any (nat_eq p) places ≡ true → AreOf (map f places) (map (cell_or_null cells) places) → slice_get cells p ≡ Some val.Null → ⊥) → ⊥
    by true same rest =
        let place_is : p ≡ q = (Decides-eqb p q).0 same in
        let null : cell_or_null cells q ≡ val.Null = ap (λ (k : ℕ). cell_or_null cells k) (sym place_is) ∙ ap (λ (o : Option Val). unwrap_or o val.Null) at in
        let is : IsOf (f q) val.Null = subst (IsOf (f q)) null are.0 in
        null_spelled (f q) is.text is.spells
    by false apart rest = rest (sym (ap (λ (b : Bool). b || list_any (nat_eq p) places) apart) ∙ any) are.1 at

-- ---- a row of a conforming source

-- a fault of rows that are the table's: one of them has an unreadable cell
pub record IsUnreadable (info : TableInfo) (at : Key → Option (List Val)) (e : WindowError) : Type 0 where
  pub key : Key
  pub cells : List Val
  pub row : at key ≡ Some cells
  pub number : ℕ
  pub column : Column
  pub column_is : slice_get info.columns number ≡ Some column
  pub text : List ℕ
  pub cell : slice_get cells number ≡ Some (val.Text text)
  pub fault : value_fault column.ty text ≡ Some (fault_of column.ty text)
  pub is : e ≡ window.Cell column.name (fault_of column.ty text)

unreadable : (info : TableInfo) (at : Key → Option (List Val)) (raw : RawRow) (e : WindowError) → at (with_key info (typed_cells (column_types info) raw.cells)).0 ≡ Some (typed_cells (column_types info) raw.cells)
    → IsBadCell info.columns raw.cells e → IsUnreadable info at e
unreadable info at raw e row bad = record {
  key = (with_key info (typed_cells (column_types info) raw.cells)).0;
  cells = typed_cells (column_types info) raw.cells;
  row = row;
  number = bad.place;
  column = bad.column;
  column_is = bad.column_is;
  text = bad.text;
  cell = typed_at info.columns raw.cells bad.place bad.column (Some bad.text) bad.column_is bad.cell_is
      ∙ ap (λ (o : Option Val). Some (unwrap_or o (val.Text bad.text))) bad.none;
  fault = ap (λ (o : Option Val). if is_some o then None else Some (fault_of bad.column.ty bad.text)) bad.none;
  is = bad.is;
}

bad_row : (plan : Plan) (number : ℕ) (last : Option Key) (raw : RawRow) (e : WindowError) (b : Bool) → number < plan.limit → length raw.cells ≡ width plan.info
    → IsKeyOf plan.info (with_key plan.info (typed_cells (column_types plan.info) raw.cells)).0 → IsAbove last (with_key plan.info (typed_cells (column_types plan.info) raw.cells)).0
    → (nat_lt number plan.limit && (length raw.cells == width plan.info)) ≡ b
    → (if b then (cells_read plan.info number 0 plan.info.columns raw.cells >>= λ cells. placed number last (with_key plan.info cells)) else Err (window.BadChunk number)) ≡ Err e
    → IsBadCell plan.info.columns raw.cells e
bad_row plan number last raw e false counted wide key above test h =
    let both : (nat_lt number plan.limit && (length raw.cells == width plan.info)) ≡ true = and_both _ _ ((Decides-ltb number plan.limit).1 counted) ((Decides-eqb (length raw.cells) (width plan.info)).1 wide) in
    absurd (true_false (sym both ∙ test))
bad_row plan number last raw e true counted wide key above test h =
    elim (went_wrong (cells_read plan.info number 0 plan.info.columns raw.cells) (λ cells. placed number last (with_key plan.info cells)) e h) [
      | inl wrong ↦ bad_cells plan.info number 0 plan.info.columns raw.cells e apart wrong
      | inr later ↦ absurd (never later.value later.first later.then_is)
    ]
  where
    apart : (k : ℕ) → slice_get raw.cells k ≡ Some None → is_of_key plan.info (0 + k) ≡ true → ⊥
    apart k at own =
        let same : k ≡ 0 + k = omega arith in
        not_null (type_at plan.info.columns) (typed_cells (column_types plan.info) raw.cells) plan.info.key k (ap (is_of_key plan.info) same ∙ own) key (typed_null (column_types plan.info) raw.cells k at)

    never : (cells : List Val) → cells_read plan.info number 0 plan.info.columns raw.cells ≡ Ok cells → placed number last (with_key plan.info cells) ≡ Err e → ⊥
    never cells fine wrong =
        let cells_is : cells ≡ typed_cells (column_types plan.info) raw.cells = cells_are plan.info number 0 plan.info.columns raw.cells cells wide fine in
        let after_it : comes_after last (with_key plan.info cells).0 ≡ true =
        ap (λ (l : List Val). comes_after last (with_key plan.info l).0) cells_is ∙ above_is last (with_key plan.info (typed_cells (column_types plan.info) raw.cells)).0 above in
        let contra : Ok (with_key plan.info cells) ≡ Err e = sym (ap (λ (t : Bool). if t then Ok (with_key plan.info cells) else Err (window.BadChunk number)) after_it) ∙ wrong in
        cc

typed_width : (types : List PgType) (cells : List (Option (List ℕ))) → length (typed_cells types cells) ≡ length cells
typed_width types [] = refl
typed_width [] (c ∷ cells) = ap suc (typed_width [] cells)
typed_width (ty ∷ types) (c ∷ cells) = ap suc (typed_width types cells)

-- The rows of a conforming source are read without a fault, but for a cell that spells apart value.
pub bad_rows : (infos : List TableInfo) (plan : Plan) (at : Key → Option (List Val)) (number room : ℕ) (last : Option Key) (answered : List RawRow) (e : WindowError) → slice_get infos plan.table ≡ Some plan.info
    → ((key : Key) (cells : List Val) → at key ≡ Some cells → length cells ≡ width plan.info) → number + room ≤ plan.limit
    → AreFirst plan.info at last room (map (keyed_row infos plan.table plan.info) answered) → rows_read plan number last answered ≡ Err e → IsUnreadable plan.info at e
bad_rows infos plan at number room last [] e captured wide le are h = absurd (cc)
bad_rows infos plan at number room last (raw ∷ answered) e captured wide le are h =
    by (went_wrong (row_read plan number last raw) (λ entry. rows_read plan (number + 1) (Some entry.0) answered >>= λ entries. Ok (entry ∷ entries)) e h)
    (bad_rows infos plan at (number + 1) (room - 1) (Some (keyed_row infos plan.table plan.info raw).0) answered e captured wide fewer
    (first_after plan.info at last room (keyed_row infos plan.table plan.info raw) (map (keyed_row infos plan.table plan.info) answered) are))
  where
    some : suc (length (map (keyed_row infos plan.table plan.info) answered)) ≤ room
    some = are.few

    fewer : number + 1 + (room - 1) ≤ plan.limit
    fewer = omega (arith, le, some)

    counted : number < plan.limit
    counted = omega (arith, le, some)

    keyed : with_key plan.info (typed_cells (column_types plan.info) raw.cells) ≡ keyed_row infos plan.table plan.info raw
    keyed = keyed_by infos plan raw captured

    there : at (with_key plan.info (typed_cells (column_types plan.info) raw.cells)).0 ≡ Some (typed_cells (column_types plan.info) raw.cells)
    there = subst (λ (entry : Key × Row). at entry.0 ≡ Some entry.1.cells) (sym keyed)
        (first_is_there plan.info at last room (keyed_row infos plan.table plan.info raw) (map (keyed_row infos plan.table plan.info) answered) are)

    long : length raw.cells ≡ width plan.info
    long = sym (typed_width (column_types plan.info) raw.cells) ∙ wide (with_key plan.info (typed_cells (column_types plan.info) raw.cells)).0 (typed_cells (column_types plan.info) raw.cells) there

    here : row_read plan number last raw ≡ Err e → IsUnreadable plan.info at e
    here wrong = unreadable plan.info at raw e there
        (bad_row plan number last raw e (nat_lt number plan.limit && (length raw.cells == width plan.info)) counted long
        (subst (λ (entry : Key × Row). IsKeyOf plan.info entry.0) (sym keyed) are.keys.0)
        (subst (λ (entry : Key × Row). IsAbove last entry.0) (sym keyed) are.ordered.0) refl wrong)

    by : (row_read plan number last raw ≡ Err e) ⊎ WrongLater (row_read plan number last raw) (λ entry. rows_read plan (number + 1) (Some entry.0) answered >>= λ entries. Ok (entry ∷ entries)) e
        → (rows_read plan (number + 1) (Some (keyed_row infos plan.table plan.info raw).0) answered ≡ Err e → IsUnreadable plan.info at e) → IsUnreadable plan.info at e
    by (inl wrong) rest = here wrong
    by (inr one) rest = elim (went_wrong (rows_read plan (number + 1) (Some one.value.0) answered) (λ entries. Ok (one.value ∷ entries)) e one.then_is) [
      | inl more ↦ rest (subst (λ (x : Key × Row). rows_read plan (number + 1) (Some x.0) answered ≡ Err e) (row_is infos plan number last raw one.value captured one.first).same more)
      | inr two ↦ (let contra : Ok (one.value ∷ two.value) ≡ Err e = two.then_is in absurd (cc))
    ]

-- ---- a select

-- the rows at a place of a fit history are as wide as their table
pub wide_rows : (infos : List TableInfo) (history : History) (plan : Plan) (place : ℕ) → IsFitHistory history → IsCaptured infos history plan
    → (key : Key) (cells : List Val) → rows_up_to infos history place plan.table key ≡ Some cells → length cells ≡ width plan.info
wide_rows infos history plan place fit captured key cells there =
    let at_moment : rows_at infos (all_changes (typed infos history)) (moment_of (typed infos history) place 0) plan.table key ≡ Some cells =
    ap (λ (r : Rows). r plan.table key) (sym (rows_are infos history place)) ∙ there in
    let row = fit_rows infos (all_changes (typed infos history)) (moment_of (typed infos history) place 0) (fit.fit infos captured.are) plan.table key cells at_moment in
    let both : Some row.info ≡ Some plan.info = sym row.captured ∙ captured.here in
    let info_is : row.info ≡ plan.info = cc in
    row.wide ∙ ap width info_is

-- a fault of the rows that a conforming source answered is an unreadable cell of its history
pub honest_fault : (infos : List TableInfo) (history : History) (plan : Plan) (from upto : ℕ) (answer : SelectAnswer) (e : WindowError) → IsFitHistory history → IsCaptured infos history plan
    → IfSome plan.above (IsKeyOf plan.info) → (are : AreAnswered history from upto plan.info.name plan.above plan.limit answer) → rows_read plan 0 plan.above answer.rows ≡ Err e
    → IsUnreadable plan.info (rows_up_to infos history are.place plan.table) e
honest_fault infos history plan from upto answer e fit captured starts are h =
    bad_rows infos plan (rows_up_to infos history are.place plan.table) 0 plan.limit plan.above answer.rows e captured.here
    (wide_rows infos history plan are.place fit captured) (omega arith) (first_answered infos history plan from upto answer fit captured starts are) h

never_bad : (info : TableInfo) (at : Key → Option (List Val)) (row : ℕ) → IsUnreadable info at (window.BadChunk row) → ⊥
never_bad info at row bad = let e : window.BadChunk row ≡ window.Cell bad.column.name (fault_of bad.column.ty bad.text) = bad.is in cc

pub never_bad_chunk : (infos : List TableInfo) (history : History) (plan : Plan) (from upto : ℕ) (answer : SelectAnswer) (row : ℕ) → IsFitHistory history → IsCaptured infos history plan
    → IfSome plan.above (IsKeyOf plan.info) → AreAnswered history from upto plan.info.name plan.above plan.limit answer → rows_read plan 0 plan.above answer.rows ≡ Err (window.BadChunk row) → ⊥
never_bad_chunk infos history plan from upto answer row fit captured starts are h =
    never_bad plan.info (rows_up_to infos history are.place plan.table) row (honest_fault infos history plan from upto answer (window.BadChunk row) fit captured starts are h)

pub unreadable_cell : (infos : List TableInfo) (history : History) (plan : Plan) (from upto : ℕ) (answer : SelectAnswer) (name : List ℕ) (error : ValueError) → IsFitHistory history → IsCaptured infos history plan
    → IfSome plan.above (IsKeyOf plan.info) → AreAnswered history from upto plan.info.name plan.above plan.limit answer → rows_read plan 0 plan.above answer.rows ≡ Err (window.Cell name error)
    → HasUnreadable infos history plan name error
unreadable_cell infos history plan from upto answer name error fit captured starts are h =
    let bad = honest_fault infos history plan from upto answer (window.Cell name error) fit captured starts are h in
    let e : window.Cell name error ≡ window.Cell bad.column.name (fault_of bad.column.ty bad.text) = bad.is in
    let name_is : name ≡ bad.column.name = cc in
    let error_is : error ≡ fault_of bad.column.ty bad.text = cc in
    record {
      place = are.place;
      key = bad.key;
      cells = bad.cells;
      row = bad.row;
      number = bad.number;
      column = bad.column;
      column_is = bad.column_is;
      name_is = sym name_is;
      text = bad.text;
      cell = bad.cell;
      fault = bad.fault ∙ ap (λ (x : ValueError). Some x) (sym error_is);
    }

-- what was read of the rows that a conforming source answered is what was selected
pub selected_chunk : (infos : List TableInfo) (history : History) (from upto : ℕ) (answer : SelectAnswer) (chunk : Chunk) → IsFitHistory history → IsCaptured infos history chunk.plan
    → IfSome chunk.plan.above (IsKeyOf chunk.plan.info) → AreAnswered history from upto chunk.plan.info.name chunk.plan.above chunk.plan.limit answer
    → chunk.plan.version ≡ answer.version → chunk_read chunk.plan answer.rows ≡ Ok chunk.rows → chunk.through ≡ last_key chunk.plan.above chunk.rows → chunk.done ≡ nat_lt (length chunk.rows) chunk.plan.limit
    → IsSelected infos history from upto chunk
selected_chunk infos history from upto answer chunk fit captured starts are same read through done = record {
  place = are.place;
  not_before = are.not_before;
  not_after = are.not_after;
  version = same ∙ are.version;
  first = subst (λ (rows : List (Key × Row)). AreFirst chunk.plan.info (rows_up_to infos history are.place chunk.plan.table) chunk.plan.above chunk.plan.limit rows)
      (sym (read_answered infos chunk.plan answer.rows chunk.rows captured.here read).same) (first_answered infos history chunk.plan from upto answer fit captured starts are);
  through_is = through;
  done_is = done;
}
