-- The rows of a fit history are as wide as their tables, and stand at their own keys.
use Rattle.std.proofs.Common.{◌≡◌, ◌≢◌, ◌∙◌, ◌<◌, ℕ, zero, suc, Bool, true, false, Option, Some, None, List, [], ◌∷◌, length, map, take, refl, sym, ap, subst, arith}
use Rattle.std.specs.Prelude.{◌==◌, nat_lt, IsSome, IsSomeAnd, option_map, unwrap_or, slice_get}
use Rattle.std.specs.List.{list_all}
use Rattle.std.proofs.lemmas.List.{length-map}
use Rattle.std.proofs.lemmas.Bool.Decides.{Decides-eqb, Decides-ltb}
use Rattle.dbl_value_types.specs.declared.column_type.PgType.{PgType}
use Rattle.dbl_value_types.specs.declared.value.Val.{Val}
use Rattle.dbl_value_types.specs.declared.value.Val.TheVariants as val
use Rattle.dbl_value_types.specs.Values.{IsOf}
use Rattle.dbl_value_types.proofs.KindLemmas.{null_spelled}
use Rattle.dbl_model_table.specs.declared.row.Key.{Key}
use Rattle.dbl_model_table.specs.declared.row.Row.{Row}
use Rattle.dbl_model_table.specs.declared.change.Cell.{Cell}
use Rattle.dbl_model_table.specs.declared.change.Cell.TheVariants.{Given, Unchanged}
use Rattle.dbl_model_table.specs.declared.change.Change.{Change}
use Rattle.dbl_model_table.specs.declared.change.Change.TheVariants.{Insert, Update, Delete, Clear}
use Rattle.dbl_model_table.specs.declared.table.TableInfo.{TableInfo}
use Rattle.dbl_model_table.specs.Tables.{type_at}
use Rattle.dbl_model_table.specs.Infos.{key_places, width}
use Rattle.dbl_model_table.specs.Keys.{same_key, key_at, key_of, new_key_of, cell_or_null, given_or_null}
use Rattle.dbl_model_table.specs.Rows.{Effect, all_given, updated, at_key, at_keys, overlay, row_after, Rows, no_rows, rows_after, rows_from, rows_at}
use Rattle.dbl_model_table.specs.Rows.Effect.{Stays, Whole, Ends}
use Rattle.dbl_model_history.specs.Fit.{AreOf, IsKeyOf, IsFitInsert, IsFitUpdate, IsFit, AreFit, IsRowOf}
use Rattle.dbl_model_history.specs.Laws.{FitRowsAreRows}
use Rattle.dbl_model_table.proofs.Lists.{and_left, and_right}
use Rattle.dbl_model_table.proofs.KeyLemmas.{same_key-is}
use Rattle.dbl_model_history.proofs.RowLemmas.{length-overlay}
use Rattle.dbl_model_table.proofs.InfoLemmas.{places_within}

-- each row stands at its key
pub record AreKeyed (infos : List TableInfo) (at : Rows) : Type 0 where
  pub each : (table : ℕ) (key : Key) (row : List Val) → at table key ≡ Some row → IsRowOf infos table key row

pub some_and : {X : Type 0} (o : Option X) (P : X → Type 0) → IsSomeAnd o P → (x : X) × (o ≡ Some x) × P x
some_and None P h = elim h [ ]
some_and (Some x) P h = (x, refl, h)

pub is_some_value : {X : Type 0} (o : Option X) → IsSome o → (x : X) × (o ≡ Some x)
is_some_value None h = cc
is_some_value (Some x) h = (x, refl)

-- ---- cells of an update and the row under them

not_null : (ty : PgType) → IsOf ty val.Null → ⊥
not_null ty is = null_spelled ty is.text is.spells

overlaid_cell : (cells : List Cell) (row : List Val) (place : ℕ) → place < length row → cell_or_null (map given_or_null cells) place ≢ val.Null → cell_or_null (overlay cells row) place ≡ cell_or_null (map given_or_null cells) place
overlaid_cell [] row place lt given = absurd (given refl)
overlaid_cell (cell ∷ cells) [] place lt given = absurd (omega arith)
overlaid_cell (Given v ∷ cells) (x ∷ row) zero lt given = refl
overlaid_cell (Unchanged ∷ cells) (x ∷ row) zero lt given = absurd (given refl)
overlaid_cell (Given v ∷ cells) (x ∷ row) (suc place) lt given = overlaid_cell cells row place (omega arith) given
overlaid_cell (Unchanged ∷ cells) (x ∷ row) (suc place) lt given = overlaid_cell cells row place (omega arith) given

overlaid_key : (types : List PgType) (places : List ℕ) (cells : List Cell) (row : List Val) (long : ℕ) → length row ≡ long → list_all (λ place. nat_lt place long) places ≡ true → AreOf types (map (cell_or_null (map given_or_null cells)) places)
    → map (cell_or_null (overlay cells row)) places ≡ map (cell_or_null (map given_or_null cells)) places
overlaid_key types [] cells row long same within are = refl
overlaid_key [] (place ∷ places) cells row long same within are = elim are [ ]
overlaid_key (ty ∷ types) (place ∷ places) cells row long same within are =
    let lt : place < long = (Decides-ltb place long).0 (and_left _ _ within) in
    let first : cell_or_null (overlay cells row) place ≡ cell_or_null (map given_or_null cells) place =
    overlaid_cell cells row place (omega (arith, same, lt)) (λ null. not_null ty (subst (IsOf ty) null are.0)) in
    ap (λ (v : Val). v ∷ map (cell_or_null (overlay cells row)) places) first
    ∙ ap (λ (l : List Val). cell_or_null (map given_or_null cells) place ∷ l) (overlaid_key types places cells row long same (and_right (nat_lt place long) _ within) are.1)

pub given_row : (cells : List Cell) (row : List Val) → all_given cells ≡ Some row → map given_or_null cells ≡ row
given_row [] row h = cc
given_row (Given v ∷ cells) row h = step (all_given cells) h (given_row cells)
  where
    step : (o : Option (List Val)) → option_map (λ r. v ∷ r) o ≡ Some row → ((r : List Val) → o ≡ Some r → map given_or_null cells ≡ r) → v ∷ map given_or_null cells ≡ row
    step None e same = cc
    step (Some r) e same = let f : v ∷ r ≡ row = cc in ap (λ (l : List Val). v ∷ l) (same r refl) ∙ f
given_row (Unchanged ∷ cells) row h = cc

-- ---- one change

key_places-at : (infos : List TableInfo) (table : ℕ) (info : TableInfo) → slice_get infos table ≡ Some info → key_places infos table ≡ info.key
key_places-at infos table info at = ap (λ (o : Option TableInfo). unwrap_or (option_map (λ (i : TableInfo). i.key) o) []) at

-- an effect leaves a row of the table, or leaves what is there
abbrev Leaves : List TableInfo → ℕ → Key → Option (List Val) → Effect → Type 0
Leaves infos table key before effect = (row : List Val) → row_after effect before ≡ Some row → IsRowOf infos table key row

stays_row : (infos : List TableInfo) (table : ℕ) (key : Key) (before : Option (List Val)) → ((row : List Val) → before ≡ Some row → IsRowOf infos table key row) → Leaves infos table key before Stays
stays_row infos table key before was = was

ends_row : (infos : List TableInfo) (table : ℕ) (key : Key) (before : Option (List Val)) → Leaves infos table key before Ends
ends_row infos table key before row h = cc

at_key_row : (infos : List TableInfo) (table : ℕ) (key : Key) (before : Option (List Val)) (b k : Bool) (effect : Effect) → ((row : List Val) → before ≡ Some row → IsRowOf infos table key row)
    → (b ≡ true → k ≡ true → Leaves infos table key before effect) → Leaves infos table key before (at_key b k effect)
at_key_row infos table key before true true effect was here = here refl refl
at_key_row infos table key before true false effect was here = was
at_key_row infos table key before false k effect was here = was

at_keys_row : (infos : List TableInfo) (table : ℕ) (key : Key) (before : Option (List Val)) (b n o : Bool) (effect : Effect) → ((row : List Val) → before ≡ Some row → IsRowOf infos table key row)
    → (b ≡ true → n ≡ true → Leaves infos table key before effect) → Leaves infos table key before (at_keys b n o effect)
at_keys_row infos table key before true true o effect was here = here refl refl
at_keys_row infos table key before true false true effect was here = ends_row infos table key before
at_keys_row infos table key before true false false effect was here = was
at_keys_row infos table key before false n o effect was here = was

updated_row : (infos : List TableInfo) (table : ℕ) (key : Key) (before : Option (List Val)) (o : Option (List Val)) (cells : List Cell)
    → ((row : List Val) → o ≡ Some row → IsRowOf infos table key row) → (o ≡ None → (row : List Val) → before ≡ Some row → IsRowOf infos table key (overlay cells row)) → Leaves infos table key before (updated o cells)
updated_row infos table key before (Some new) cells whole part row h = whole row h
updated_row infos table key before None cells whole part row h = step before (part refl) h
  where
    step : (b : Option (List Val)) → ((r : List Val) → b ≡ Some r → IsRowOf infos table key (overlay cells r)) → option_map (overlay cells) b ≡ Some row → IsRowOf infos table key row
    step None each e = cc
    step (Some r) each e = let same : overlay cells r ≡ row = cc in subst (IsRowOf infos table key) same (each r refl)

insert_keyed : (infos : List TableInfo) (at : Rows) (t : ℕ) (new : Row) (table : ℕ) (key : Key) → AreKeyed infos at → IsFit infos at (Insert t new) → (t == table) ≡ true → same_key (key_at (key_places infos t) new.cells) key ≡ true
    → Leaves infos table key (at table key) (Whole new.cells)
insert_keyed infos at t new table key keyed fit here is row h =
    let info = some_and (slice_get infos t) (λ info. IsFitInsert info (at t) new) fit in
    let table_is : t ≡ table = (Decides-eqb t table).0 here in
    let key_is : key_of info.0 new.cells ≡ key = sym (ap (λ (places : List ℕ). key_at places new.cells) (key_places-at infos t info.0 info.1)) ∙ same_key-is (key_at (key_places infos t) new.cells) key is in
    let cells : new.cells ≡ row = cc in
    subst (IsRowOf infos table key) cells (record {
      info = info.0;
      captured = ap (slice_get infos) (sym table_is) ∙ info.1;
      wide = info.2.wide;
      is_key = subst (IsKeyOf info.0) key_is info.2.key;
      key_is = key_is;
    })

update_keyed : (infos : List TableInfo) (at : Rows) (t : ℕ) (from : Key) (old : Option Row) (cells : List Cell) (table : ℕ) (key : Key) → AreKeyed infos at → IsFit infos at (Update t from old cells) → (t == table) ≡ true
    → same_key (key_at (key_places infos t) (map given_or_null cells)) key ≡ true → Leaves infos table key (at table key) (updated (all_given cells) cells)
update_keyed infos at t from old cells table key keyed fit here is =
    let info = some_and (slice_get infos t) (λ info. IsFitUpdate info (at t) from old cells) fit in
    let table_is : t ≡ table = (Decides-eqb t table).0 here in
    let captured : slice_get infos table ≡ Some info.0 = ap (slice_get infos) (sym table_is) ∙ info.1 in
    let key_is : new_key_of info.0 cells ≡ key = sym (ap (λ (places : List ℕ). key_at places (map given_or_null cells)) (key_places-at infos t info.0 info.1)) ∙ same_key-is (key_at (key_places infos t) (map given_or_null cells)) key is in
    updated_row infos table key (at table key) (all_given cells) cells
    (λ row whole.
    let same : map given_or_null cells ≡ row = given_row cells row whole in
    record {
      info = info.0;
      captured = captured;
      wide = ap length (sym same) ∙ (length-map cells given_or_null ∙ info.2.wide);
      is_key = subst (IsKeyOf info.0) key_is info.2.new_key;
      key_is = ap (key_of info.0) (sym same) ∙ key_is;
    })
    (λ partial row there.
    let was = keyed.each table key row there in
    let one : Some was.info ≡ Some info.0 = sym was.captured ∙ captured in
    let info_is : was.info ≡ info.0 = cc in
    let long : length row ≡ width info.0 = was.wide ∙ ap width info_is in
    let cells_key : map (cell_or_null (overlay cells row)) info.0.key ≡ map (cell_or_null (map given_or_null cells)) info.0.key =
    overlaid_key (map (type_at info.0.columns) info.0.key) info.0.key cells row (width info.0) long (places_within info.0) info.2.new_key in
    record {
      info = info.0;
      captured = captured;
      wide = length-overlay cells row ∙ long;
      is_key = subst (IsKeyOf info.0) key_is info.2.new_key;
      key_is = (λ i. record { cells = cells_key i }) ∙ key_is;
    })

pub keyed_after : (infos : List TableInfo) (at : Rows) (c : Change) → AreKeyed infos at → IsFit infos at c → AreKeyed infos (rows_after infos c at)
keyed_after infos at (Insert t new) keyed fit = record {
  each = λ table key. at_key_row infos table key (at table key) (t == table) (same_key (key_at (key_places infos t) new.cells) key) (Whole new.cells) (keyed.each table key) (insert_keyed infos at t new table key keyed fit);
}
keyed_after infos at (Update t from old cells) keyed fit = record {
  each = λ table key. at_keys_row infos table key (at table key) (t == table) (same_key (key_at (key_places infos t) (map given_or_null cells)) key) (same_key from key) (updated (all_given cells) cells) (keyed.each table key)
      (update_keyed infos at t from old cells table key keyed fit);
}
keyed_after infos at (Delete t from old) keyed fit = record {
  each = λ table key. at_key_row infos table key (at table key) (t == table) (same_key from key) Ends (keyed.each table key) (λ here is. ends_row infos table key (at table key));
}
keyed_after infos at (Clear t) keyed fit = record {
  each = λ table key. at_key_row infos table key (at table key) (t == table) true Ends (keyed.each table key) (λ here is. ends_row infos table key (at table key));
}

pub keyed_from : (infos : List TableInfo) (at : Rows) (changes : List Change) → AreKeyed infos at → AreFit infos at changes → AreKeyed infos (rows_from infos at changes)
keyed_from infos at [] keyed fit = keyed
keyed_from infos at (c ∷ changes) keyed fit = keyed_from infos (rows_after infos c at) changes (keyed_after infos at c keyed fit.0) fit.1

-- changes that are fit are so up to each place
pub fit_take : (infos : List TableInfo) (at : Rows) (changes : List Change) (n : ℕ) → AreFit infos at changes → AreFit infos at (take n changes)
fit_take infos at changes zero fit = tt
fit_take infos at [] (suc n) fit = tt
fit_take infos at (c ∷ changes) (suc n) fit = (fit.0, fit_take infos (rows_after infos c at) changes n fit.1)

pub keyed-none : (infos : List TableInfo) → AreKeyed infos no_rows
keyed-none infos = record { each = λ table key row h. cc }

-- at each moment of a fit history
pub keyed_at : (infos : List TableInfo) (changes : List Change) (moment : ℕ) → AreFit infos no_rows changes → AreKeyed infos (rows_at infos changes moment)
keyed_at infos changes moment fit = keyed_from infos no_rows (take moment changes) (keyed-none infos) (fit_take infos no_rows changes moment fit)

pub fit_rows : FitRowsAreRows
fit_rows infos changes moment fit table key row h = (keyed_at infos changes moment fit).each table key row h
