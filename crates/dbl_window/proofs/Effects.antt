-- A change of the window's table, by what is captured of this table alone.
use Rattle.std.proofs.Common.{◌≡◌, ◌≢◌, ◌∙◌, ℕ, suc, Bool, true, false, Option, Some, None, List, [], ◌∷◌, length, map, refl, sym, ap, ap₂, subst}
use Rattle.std.specs.Prelude.{if◌then◌else◌, option_map, unwrap_or, slice_get}
use Rattle.std.proofs.lemmas.Bool.Decides.{Decides-eqb}
use Rattle.dbl_value_types.specs.declared.column_type.PgType.{PgType}
use Rattle.dbl_value_types.specs.declared.value.Val.{Val}
use Rattle.dbl_model_table.specs.declared.table.Column.{Column}
use Rattle.dbl_model_table.specs.declared.row.Key.{Key}
use Rattle.dbl_model_table.specs.declared.row.Row.{Row}
use Rattle.dbl_model_table.specs.declared.change.Cell.{Cell}
use Rattle.dbl_model_table.specs.declared.change.Cell.TheVariants.{Given, Unchanged}
use Rattle.dbl_model_table.specs.declared.change.Change.{Change}
use Rattle.dbl_model_table.specs.declared.change.Change.TheVariants.{Insert, Update, Delete, Clear}
use Rattle.dbl_model_table.specs.declared.table.TableInfo.{TableInfo}
use Rattle.dbl_model_table.specs.Tables.{type_at}
use Rattle.dbl_model_table.specs.Infos.{key_places, column_types}
use Rattle.dbl_model_table.specs.Keys.{same_key, key_at, key_of, new_key_of, cell_or_null, given_or_null}
use Rattle.dbl_model_table.specs.Rows.{Effect, all_given, updated, at_key, at_keys, effect_of, overlay, table_of}
use Rattle.dbl_model_table.specs.Rows.Effect.{Whole, Ends}
use Rattle.dbl_model_table.proofs.InfoLemmas.{places_within}
use Rattle.dbl_model_table.proofs.KeyLemmas.{same_key-is}
use Rattle.dbl_model_history.specs.Fit.{IsKeyOf}
use Rattle.dbl_model_history.specs.FitsInfos.{AreCellsOf, AreSentOf}
use Rattle.dbl_model_history.specs.KeyedRows.{row_in, row_left}
use Rattle.dbl_window.specs.Changing.{FitsRow, effect_at, IsLeftBy}
use Rattle.dbl_window.proofs.Overlays.{overlaid_key}

places_at : (infos : List TableInfo) (table : ℕ) (info : TableInfo) → slice_get infos table ≡ Some info → key_places infos table ≡ info.key
places_at infos table info at = ap (λ (o : Option TableInfo). unwrap_or (option_map (λ (i : TableInfo). i.key) o) []) at

pub effect_here : (infos : List TableInfo) (table : ℕ) (info : TableInfo) (change : Change) (key : Key) → slice_get infos table ≡ Some info → table_of change ≡ table
    → effect_of infos change table key ≡ effect_at info change key
effect_here infos table info (Insert t row) key at here =
    ap₂ (λ (b : Bool) (ps : List ℕ). at_key b (same_key (key_at ps row.cells) key) (Whole row.cells))
    ((Decides-eqb t table).1 here) (ap (key_places infos) here ∙ places_at infos table info at)
effect_here infos table info (Update t from old cells) key at here =
    ap₂ (λ (b : Bool) (ps : List ℕ). at_keys b (same_key (key_at ps (map given_or_null cells)) key) (same_key from key) (updated (all_given cells) cells))
    ((Decides-eqb t table).1 here) (ap (key_places infos) here ∙ places_at infos table info at)
effect_here infos table info (Delete t from old) key at here = ap (λ (b : Bool). at_key b (same_key from key) Ends) ((Decides-eqb t table).1 here)
effect_here infos table info (Clear t) key at here = ap (λ (b : Bool). at_key b true Ends) ((Decides-eqb t table).1 here)

-- what a change leaves by its table's info, it leaves for every list of captured tables
pub left_by : (table : ℕ) (info : TableInfo) (change : Change) (old new : List (Key × Row)) → table_of change ≡ table
    → ((key : Key) → row_in new key ≡ row_left (effect_at info change key) (row_in old key)) → IsLeftBy table info change old new
left_by table info change old new here left infos at key =
    left key ∙ ap (λ (effect : Effect). row_left effect (row_in old key)) (sym (effect_here infos table info change key at here))

-- ---- what is left, case by case

pub left-whole : (b : Bool) (cells : List Val) (row : Option (List Val)) → row_left (at_key true b (Whole cells)) row ≡ (if b then None else row)
left-whole true cells row = refl
left-whole false cells row = refl

pub left-ends : (b : Bool) (row : Option (List Val)) → row_left (at_key true b Ends) row ≡ (if b then None else row)
left-ends true row = refl
left-ends false row = refl

-- so where this is done in two steps
pub left_in_turn : (n o : Bool) (effect : Effect) (old middle new : Option (List Val)) → middle ≡ (if n then row_left effect old else old)
    → new ≡ (if n then middle else (if o then None else middle)) → new ≡ row_left (at_keys true n o effect) old
left_in_turn true o effect old middle new first second = second ∙ first
left_in_turn false true effect old middle new first second = second
left_in_turn false false effect old middle new first second = second ∙ first

pub left-part : (given : Option (List Val)) (cells : List Cell) (row : Option (List Val)) → given ≡ None → row_left (updated given cells) row ≡ option_map (overlay cells) row
left-part None cells row none = refl
left-part (Some new) cells row none = cc

-- where the keys are the same, an update moves nothing away
pub left_alone : (from to k : Key) (row : Option (List Val)) → from ≡ to → row ≡ (if same_key to k then row else (if same_key from k then None else row))
left_alone from to k row same = by (same_key to k) (same_key from k) (ap (λ (x : Key). same_key x k) same)
  where
    by : (n o : Bool) → o ≡ n → row ≡ (if n then row else (if o then None else row))
    by true o is = refl
    by false true is = cc
    by false false is = refl

-- where they differ, the row at the new key isn't the one that goes
pub left_since : (from to k : Key) (row : Option (List Val)) → from ≢ to → (if same_key from k then None else row) ≡ (if same_key to k then row else (if same_key from k then None else row))
left_since from to k row other = by (same_key to k) (same_key from k) refl refl
  where
    by : (n o : Bool) → same_key to k ≡ n → same_key from k ≡ o → (if o then None else row) ≡ (if n then row else (if o then None else row))
    by true true is_to is_from = absurd (other (same_key-is from k is_from ∙ sym (same_key-is to k is_to)))
    by true false is_to is_from = refl
    by false o is_to is_from = refl

-- a row that fits goes on fitting under an update's cells
sent_over : (types : List PgType) (cells : List Cell) (row : List Val) → AreSentOf types cells → AreCellsOf types row → AreCellsOf types (overlay cells row)
sent_over [] [] [] sent are = tt
sent_over [] [] (x ∷ row) sent are = elim are [ ]
sent_over [] (cell ∷ cells) row sent are = elim sent [ ]
sent_over (ty ∷ types) [] row sent are = elim sent [ ]
sent_over (ty ∷ types) (cell ∷ cells) [] sent are = elim are [ ]
sent_over (ty ∷ types) (Given v ∷ cells) (x ∷ row) sent are = (sent.0, sent_over types cells row sent.1 are.1)
sent_over (ty ∷ types) (Unchanged ∷ cells) (x ∷ row) sent are = (are.0, sent_over types cells row sent.1 are.1)

cells_long : (columns : List Column) (row : List Val) → AreCellsOf (map (λ c. c.ty) columns) row → length row ≡ length columns
cells_long [] [] are = refl
cells_long [] (x ∷ row) are = elim are [ ]
cells_long (column ∷ columns) [] are = elim are [ ]
cells_long (column ∷ columns) (x ∷ row) are = ap suc (cells_long columns row are.1)

pub fits_over : (info : TableInfo) (key : Key) (cells : List Cell) (row new : Row) → AreSentOf (column_types info) cells → new_key_of info cells ≡ key → IsKeyOf info key → FitsRow info (key, row)
    → new.cells ≡ overlay cells row.cells → FitsRow info (key, new)
fits_over info key cells row new sent key_is is_key fits is = record {
  cells = subst (AreCellsOf (column_types info)) (sym is) (sent_over (column_types info) cells row.cells sent fits.cells);
  own = ap (key_of info) is ∙ ((λ i. record { cells = same i }) ∙ key_is);
  key = is_key;
}
  where
    same : map (cell_or_null (overlay cells row.cells)) info.key ≡ map (cell_or_null (map given_or_null cells)) info.key
    same = overlaid_key (map (type_at info.columns) info.key) info.key cells row.cells (length info.columns) (cells_long info.columns row.cells fits.cells) (places_within info)
        (subst (IsKeyOf info) (sym key_is) is_key)

-- a row that is taken out, and put back with an update's cells over it
pub laid_over : (key k : Key) (old middle new : Key → Option (List Val)) (cells : List Cell) (row after : List Val) → old key ≡ Some row → after ≡ overlay cells row
    → middle k ≡ (if same_key key k then None else old k) → new k ≡ (if same_key key k then Some after else middle k)
    → new k ≡ (if same_key key k then option_map (overlay cells) (old k) else old k)
laid_over key k old middle new cells row after here is = by (same_key key k) refl
  where
    by : (b : Bool) → same_key key k ≡ b → middle k ≡ (if b then None else old k) → new k ≡ (if b then Some after else middle k)
        → new k ≡ (if b then option_map (overlay cells) (old k) else old k)
    by true same gone put =
        put ∙ (ap (λ (r : List Val). Some r) is ∙ ap (option_map (overlay cells)) (sym here ∙ ap old (same_key-is key k same)))
    by false apart stays put = put ∙ stays

-- and where there is none, nothing is laid over
pub none_laid : (key k : Key) (old new : Key → Option (List Val)) (cells : List Cell) → old key ≡ None → new k ≡ (if same_key key k then None else old k)
    → new k ≡ (if same_key key k then option_map (overlay cells) (old k) else old k)
none_laid key k old new cells none = by (same_key key k) refl
  where
    by : (b : Bool) → same_key key k ≡ b → new k ≡ (if b then None else old k) → new k ≡ (if b then option_map (overlay cells) (old k) else old k)
    by true same gone = gone ∙ ap (option_map (overlay cells)) (sym none ∙ ap old (same_key-is key k same))
    by false apart stays = stays
