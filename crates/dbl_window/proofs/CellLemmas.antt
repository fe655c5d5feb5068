-- Cells that are read are the typed ones, and make a row that fits.
use Rattle.std.proofs.Common.{◌≡◌, ◌∙◌, ◌+◌, ◌<◌, ◌⊎◌, inl, inr, ℕ, zero, suc, Bool, true, false, Option, Some, None, List, [], ◌∷◌, ◌++◌, ◌||◌, length, map, refl, sym, ap, subst, arith}
use Rattle.std.specs.Prelude.{Result, Ok, Err, IfOk, if◌then◌else◌, is_some, unwrap_or, slice_get, nat_eq, nat_lt}
use Rattle.std.specs.List.{list_any, list_all}
use Rattle.std.proofs.lemmas.List.{length_push}
use Rattle.std.proofs.lemmas.Bool.Decides.{Decides-eqb, Decides-ltb}
use Rattle.dbl_value_types.specs.declared.column_type.PgType.{PgType}
use Rattle.dbl_value_types.specs.declared.error.ValueError.{ValueError}
use Rattle.dbl_value_types.specs.declared.value.Val.{Val}
use Rattle.dbl_value_types.specs.declared.value.Val.TheVariants as val
use Rattle.dbl_value_types.specs.Faults.{fault_of, value_fault}
use Rattle.dbl_value_types.specs.Values.{value_of, IsOf, IsCellOf}
use Rattle.dbl_model_table.specs.declared.table.Column.{Column}
use Rattle.dbl_model_table.specs.declared.table.TableInfo.{TableInfo}
use Rattle.dbl_model_table.specs.Tables.{type_at}
use Rattle.dbl_model_table.specs.Keys.{cell_or_null}
use Rattle.dbl_model_table.proofs.Lists.{and_left, and_right, or_right}
use Rattle.dbl_model_table.proofs.InfoLemmas.{places_within}
use Rattle.dbl_model_history.specs.Typed.{typed_cell, typed_cells}
use Rattle.dbl_model_history.specs.Fit.{AreOf}
use Rattle.dbl_model_history.specs.FitsInfos.{AreCellsOf}
use Rattle.dbl_window.specs.declared.error.WindowError.{WindowError}
use Rattle.dbl_window.specs.Reading.{◌>>=◌, is_of_key, null_read, value_read, cell_read, cells_read, with_key}
use Rattle.dbl_window.specs.ReadParts.{ReadsPart, FitsColumnCell, FitCells}
use Rattle.dbl_window.specs.Changing.{FitsRow}

-- what was read by one step and another
pub record WentOn {A B : Type 0} (r : Result A WindowError) (f : A → Result B WindowError) (y : B) : Type 0 where
  pub value : A
  pub first : r ≡ Ok value
  pub then_is : f value ≡ Ok y

pub went_on : {A B : Type 0} (r : Result A WindowError) (f : A → Result B WindowError) (y : B) → r >>= f ≡ Ok y → WentOn r f y
went_on (Ok x) f y h = record { value = x; first = refl; then_is = h }
went_on (Err e) f y h = absurd (cc)

-- ---- what is read is typed

null_is : (number : ℕ) (in_key : Bool) (v : Val) → null_read number in_key ≡ Ok v → v ≡ val.Null
null_is number true v h = cc
null_is number false v h = cc

value_is : (column : Column) (text : List ℕ) (o : Option Val) (v : Val) → value_read column text o ≡ Ok v → v ≡ unwrap_or o (val.Text text)
value_is column text (Some w) v h = cc
value_is column text None v h = cc

cell_is : (info : TableInfo) (number place : ℕ) (column : Column) (cell : Option (List ℕ)) (v : Val) → cell_read info number place column cell ≡ Ok v → v ≡ typed_cell column.ty cell
cell_is info number place column None v h = null_is number (is_of_key info place) v h
cell_is info number place column (Some text) v h = value_is column text (value_of column.ty text) v h

pub cells_are : (info : TableInfo) (number place : ℕ) (columns : List Column) (cells : List (Option (List ℕ))) (values : List Val) → length cells ≡ length columns
    → cells_read info number place columns cells ≡ Ok values → values ≡ typed_cells (map (λ column. column.ty) columns) cells
cells_are info number place [] [] values long h = cc
cells_are info number place [] (c ∷ cells) values long h = absurd (omega (arith, long))
cells_are info number place (column ∷ columns) [] values long h = absurd (omega (arith, long))
cells_are info number place (column ∷ columns) (c ∷ cells) values long h =
    let one = went_on (cell_read info number place column c) (λ x. cells_read info number (place + 1) columns cells >>= λ xs. Ok (x ∷ xs)) values h in
    let more = went_on (cells_read info number (place + 1) columns cells) (λ xs. Ok (one.value ∷ xs)) values one.then_is in
    let told : Ok (one.value ∷ more.value) ≡ Ok values = more.then_is in
    let values_are : one.value ∷ more.value ≡ values = cc in
    let first : one.value ≡ typed_cell column.ty c = cell_is info number place column c one.value one.first in
    let rest : more.value ≡ typed_cells (map (λ column. column.ty) columns) cells =
    cells_are info number (place + 1) columns cells more.value (omega (arith, long)) more.first in
    sym values_are ∙ λ i. first i ∷ rest i

-- ---- cells that fit

cells_of_from : (columns : List Column) (cells : List Val) → length cells ≡ length columns
    → ((place : ℕ) (v : Val) → slice_get cells place ≡ Some v → IsCellOf (type_at columns place) v) → AreCellsOf (map (λ column. column.ty) columns) cells
cells_of_from [] [] long each = tt
cells_of_from [] (v ∷ cells) long each = absurd (omega (arith, long))
cells_of_from (column ∷ columns) [] long each = absurd (omega (arith, long))
cells_of_from (column ∷ columns) (v ∷ cells) long each =
    (each zero v refl, cells_of_from columns cells (omega (arith, long)) (λ place w at. each (suc place) w at))

there_is : (cells : List Val) (place : ℕ) → place < length cells → slice_get cells place ≡ Some (cell_or_null cells place)
there_is [] place lt = absurd (omega (arith, lt))
there_is (v ∷ cells) zero lt = refl
there_is (v ∷ cells) (suc place) lt = there_is cells place (omega (arith, lt))

-- the key's cells, for some last ones of its places
key_from : (info : TableInfo) (cells : List Val) → FitCells info cells → (places : List ℕ) → list_all (λ place. nat_lt place (length info.columns)) places ≡ true
    → ((place : ℕ) → list_any (nat_eq place) places ≡ true → is_of_key info place ≡ true) → AreOf (map (type_at info.columns) places) (map (cell_or_null cells) places)
key_from info cells fit [] within own = tt
key_from info cells fit (place ∷ places) within own =
    let lt : place < length info.columns = (Decides-ltb place (length info.columns)).0 (and_left (nat_lt place (length info.columns)) _ within) in
    let here : slice_get cells place ≡ Some (cell_or_null cells place) = there_is cells place (omega (arith, lt, fit.wide)) in
    let itself : nat_eq place place ≡ true = (Decides-eqb place place).1 refl in
    let is_own : is_of_key info place ≡ true = own place (ap (λ (b : Bool). b || list_any (nat_eq place) places) itself) in (
      (fit.each place (cell_or_null cells place) here).1 is_own,
      key_from info cells fit places (and_right (nat_lt place (length info.columns)) _ within)
          (λ p any. own p (ap (λ (b : Bool). nat_eq p place || b) any ∙ or_right (nat_eq p place))),
    )

pub row_fits : (info : TableInfo) (cells : List Val) → FitCells info cells → FitsRow info (with_key info cells)
row_fits info cells fit = record {
  cells = cells_of_from info.columns cells fit.wide (λ place v at. (fit.each place v at).0);
  own = refl;
  key = key_from info cells fit info.key (places_within info) (λ place any. any);
}

-- ---- one more cell

get_push : (cells : List Val) (v w : Val) (place : ℕ) → slice_get (cells ++ v ∷ []) place ≡ Some w → (slice_get cells place ≡ Some w) ⊎ ((place ≡ length cells) × (v ≡ w))
get_push [] v w zero at = inr (refl, cc)
get_push [] v w (suc place) at = absurd (cc)
get_push (x ∷ cells) v w zero at = inl at
get_push (x ∷ cells) v w (suc place) at = elim (get_push cells v w place at) [
  | inl early ↦ inl early
  | inr last ↦ inr (ap suc last.0, last.1)
]

-- the first cells of a row fit
pub record FitSoFar (info : TableInfo) (cells : List Val) (place : ℕ) : Type 0 where
  pub so_many : length cells ≡ place
  pub each : (at : ℕ) (v : Val) → slice_get cells at ≡ Some v → FitsColumnCell info at (type_at info.columns at) v

pub fit_push : (info : TableInfo) (cells : List Val) (place : ℕ) (v : Val) → FitSoFar info cells place → FitsColumnCell info place (type_at info.columns place) v → FitSoFar info (cells ++ v ∷ []) (place + 1)
fit_push info cells place v so_far fits = record {
  so_many = length_push cells v ∙ ap (λ (n : ℕ). n + 1) so_far.so_many;
  each = λ at w is. elim (get_push cells v w at is) [
    | inl early ↦ so_far.each at w early
    | inr last ↦ (
        let at_is : place ≡ at = sym so_far.so_many ∙ sym last.0 in
        subst (λ (x : Val). FitsColumnCell info at (type_at info.columns at) x) last.1 (subst (λ (n : ℕ). FitsColumnCell info n (type_at info.columns n) v) at_is fits)
        )
  ];
}

-- ---- one cell

-- what a text that spells no value has
pub record IsUnread (ty : PgType) (text : List ℕ) (e : ValueError) : Type 0 where
  pub none : value_of ty text ≡ None
  pub fault : fault_of ty text ≡ e

pub unread_is : (ty : PgType) (text : List ℕ) (e : ValueError) → value_fault ty text ≡ Some e → IsUnread ty text e
unread_is ty text e h = by (value_of ty text) refl h
  where
    by : (o : Option Val) → value_of ty text ≡ o → (if is_some o then None else Some (fault_of ty text)) ≡ Some e → IsUnread ty text e
    by (Some v) is told = absurd (cc)
    by None is told = record { none = is; fault = cc }

pub reads_same : {A : Type 0} (r read : Result A WindowError) → r ≡ read → ReadsPart r read
reads_same (Ok x) read same = sym same
reads_same (Err e) read same = inr (sym same)

pub null_fits : (info : TableInfo) (number place : ℕ) (ty : PgType) → IfOk (null_read number (is_of_key info place)) (FitsColumnCell info place ty)
null_fits info number place ty = by (is_of_key info place) refl
  where
    by : (b : Bool) → is_of_key info place ≡ b → IfOk (null_read number b) (FitsColumnCell info place ty)
    by true is = tt
    by false is = (inl refl, λ own. (let contra : true ≡ false = sym own ∙ is in absurd (cc)))

pub value_fits : (info : TableInfo) (place : ℕ) (ty : PgType) (v : Val) → IsOf ty v → FitsColumnCell info place ty v
value_fits info place ty v is = (inr is, λ own. is)
