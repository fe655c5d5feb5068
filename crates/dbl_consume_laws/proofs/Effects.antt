-- What a change does to one cell at the source.
use Rattle.std.proofs.Common.{◌≡◌, ◌∙◌, inl, inr, ℕ, zero, suc, Bool, true, false, List, [], ◌∷◌, Option, Some, None, length, map, refl, sym, ap, subst, arith}
use Rattle.std.specs.Prelude.{◌==◌, IsSome, option_map, option_and_then, unwrap_or, slice_get}
use Rattle.std.proofs.lemmas.Bool.Decides.{Decides-eqb}
use Rattle.dbl_value_types.specs.declared.value.Val.{Val}
use Rattle.dbl_value_types.specs.Values.{json_of}
use Rattle.dbl_model_table.specs.declared.row.Key.{Key}
use Rattle.dbl_model_table.specs.declared.table.Column.{Column}
use Rattle.dbl_model_table.specs.declared.table.TableInfo.{TableInfo}
use Rattle.dbl_model_table.specs.declared.change.Cell.{Cell}
use Rattle.dbl_model_table.specs.declared.change.Cell.TheVariants.{Given, Unchanged}
use Rattle.dbl_model_table.specs.declared.change.Change.{Change}
use Rattle.dbl_model_table.specs.declared.change.Change.TheVariants.{Insert, Update, Delete, Clear}
use Rattle.dbl_model_table.specs.Infos.{width, columns_of, key_places, column_of}
use Rattle.dbl_model_table.specs.Keys.{same_key, key_at, new_key_of, given_or_null}
use Rattle.dbl_model_table.specs.Rows.{Effect, Rows, all_given, updated, at_key, at_keys, effect_of, IsWholeEffect, overlay, row_after}
use Rattle.dbl_model_table.specs.Rows.Effect.{Stays, Whole, Part, Ends}
use Rattle.dbl_model_history.specs.Fit.{IsFitUpdate, IsFit}
use Rattle.dbl_model_history.specs.Image.{row_json_texts, image_at}
use Rattle.dbl_model_table.proofs.KeyLemmas.{same_key-is}
use Rattle.dbl_model_history.proofs.RowKeys.{AreKeyed, some_and, is_some_value}
use Rattle.dbl_consume_laws.specs.Cells.{named_column_cell, cell_op}
use Rattle.dbl_consume_laws.specs.Effects.{effect_op}
use Rattle.dbl_consume_laws.proofs.AgeingCells.{source_after, IsSound}

-- ---- the text of a row's cell

abbrev pub text_in : TableInfo → Option (List Val) → List ℕ → Option (List ℕ)
text_in info row column = option_and_then (λ cells. option_map json_of (named_column_cell info.columns cells column)) row

columns_at : (infos : List TableInfo) (table : ℕ) (info : TableInfo) → slice_get infos table ≡ Some info → columns_of infos table ≡ info.columns
columns_at infos table info at = ap (λ (o : Option TableInfo). unwrap_or (option_map (λ (i : TableInfo). i.columns) o) []) at

pub image-text : (infos : List TableInfo) (at : Rows) (table : ℕ) (info : TableInfo) (key : Key) (column : List ℕ) → slice_get infos table ≡ Some info → image_at infos at table key column ≡ text_in info (at table key) column
image-text infos at table info key column captured =
    ap (λ (columns : List Column). option_and_then (λ texts. texts column) (option_map (row_json_texts columns) (at table key))) (columns_at infos table info captured)
    ∙ by (at table key)
  where
    by : (o : Option (List Val)) → option_and_then (λ texts. texts column) (option_map (row_json_texts info.columns) o) ≡ text_in info o column
    by None = refl
    by (Some cells) = refl

-- ---- an effect on one cell

-- a row as wide as the cells is there
abbrev pub IsReady : Effect → Option (List Val) → Type 0
IsReady Stays row = Unit {0}
IsReady (Whole new) row = Unit {0}
IsReady (Part cells) row = (r : List Val) × (row ≡ Some r) × (length cells ≡ length r)
IsReady Ends row = Unit {0}

overlaid : (cells : List Cell) (row : List Val) (i : ℕ) → length cells ≡ length row → option_map json_of (slice_get (overlay cells row) i) ≡ source_after (cell_op (slice_get cells i)) (option_map json_of (slice_get row i))
overlaid [] [] i long = refl
overlaid [] (x ∷ row) i long = absurd (omega (arith, long))
overlaid (cell ∷ cells) [] i long = absurd (omega (arith, long))
overlaid (Given v ∷ cells) (x ∷ row) zero long = refl
overlaid (Given v ∷ cells) (x ∷ row) (suc i) long = overlaid cells row i (omega (arith, long))
overlaid (Unchanged ∷ cells) (x ∷ row) zero long = refl
overlaid (Unchanged ∷ cells) (x ∷ row) (suc i) long = overlaid cells row i (omega (arith, long))

overlaid_at : (cells : List Cell) (row : List Val) (place : Option ℕ) → length cells ≡ length row
    → option_map json_of (option_and_then (slice_get (overlay cells row)) place) ≡ source_after (cell_op (option_and_then (slice_get cells) place)) (option_map json_of (option_and_then (slice_get row) place))
overlaid_at cells row None long = refl
overlaid_at cells row (Some i) long = overlaid cells row i long

whole_cell : (o : Option Val) (before : Option (List ℕ)) → option_map json_of o ≡ source_after (cell_op (option_map Given o)) before
whole_cell None before = refl
whole_cell (Some v) before = refl

-- what the effect leaves of the cell
pub cell-after : (info : TableInfo) (e : Effect) (row : Option (List Val)) (column : List ℕ) → IsReady e row → text_in info (row_after e row) column ≡ source_after (effect_op info e column) (text_in info row column)
cell-after info Stays row column ready = refl
cell-after info (Whole new) row column ready = whole_cell (named_column_cell info.columns new column) (text_in info row column)
cell-after info (Part cells) row column ready =
    subst (λ (o : Option (List Val)). text_in info (option_map (overlay cells) o) column ≡ source_after (effect_op info (Part cells) column) (text_in info o column)) (sym ready.1)
    (overlaid_at cells ready.0 (column_of info.columns column) ready.2)
cell-after info Ends row column ready = refl

-- where a cell is left unsent, the row has one
kept : (cells : List Cell) (row : List Val) (i : ℕ) → length cells ≡ length row → slice_get cells i ≡ Some Unchanged → (text : List ℕ) × (option_map json_of (slice_get row i) ≡ Some text)
kept [] row i long is = cc
kept (cell ∷ cells) [] i long is = absurd (omega (arith, long))
kept (cell ∷ cells) (x ∷ row) zero long is = (json_of x, refl)
kept (cell ∷ cells) (x ∷ row) (suc i) long is = kept cells row i (omega (arith, long)) is

sound_cell : (o : Option Cell) (before : Option (List ℕ)) → (o ≡ Some Unchanged → (text : List ℕ) × (before ≡ Some text)) → IsSound (cell_op o) ⊥ before
sound_cell None before there = tt
sound_cell (Some (Given v)) before there = tt
sound_cell (Some Unchanged) before there = (there refl, λ w. w)

sound_at : (cells : List Cell) (row : List Val) (place : Option ℕ) → length cells ≡ length row → IsSound (cell_op (option_and_then (slice_get cells) place)) ⊥ (option_map json_of (option_and_then (slice_get row) place))
sound_at cells row None long = tt
sound_at cells row (Some i) long = sound_cell (slice_get cells i) (option_map json_of (slice_get row i)) (kept cells row i long)

sound_whole : (o : Option Val) (before : Option (List ℕ)) (W : Type 0) → IsSound (cell_op (option_map Given o)) W before
sound_whole None before W = tt
sound_whole (Some v) before W = tt

-- an effect that leaves the cell isn't whole, and one that keeps it finds it there
pub sound : (info : TableInfo) (e : Effect) (row : Option (List Val)) (column : List ℕ) → IsReady e row → IsSound (effect_op info e column) (IsWholeEffect e) (text_in info row column)
sound info Stays row column ready = λ w. w
sound info (Whole new) row column ready = sound_whole (named_column_cell info.columns new column) (text_in info row column) (Unit {0})
sound info (Part cells) row column ready =
    subst (λ (o : Option (List Val)). IsSound (effect_op info (Part cells) column) ⊥ (text_in info o column)) (sym ready.1) (sound_at cells ready.0 (column_of info.columns column) ready.2)
sound info Ends row column ready = tt

-- ---- a change that fits finds the row that it needs

ready_at : (b k : Bool) (e : Effect) (row : Option (List Val)) → IsReady e row → IsReady (at_key b k e) row
ready_at true true e row h = h
ready_at true false e row h = tt
ready_at false k e row h = tt

ready_update : (b n o : Bool) (g : Option (List Val)) (cells : List Cell) (row : Option (List Val)) → (b ≡ true → n ≡ true → g ≡ None → IsReady (Part cells) row) → IsReady (at_keys b n o (updated g cells)) row
ready_update true true o None cells row h = h refl refl refl
ready_update true true o (Some new) cells row h = tt
ready_update true false true g cells row h = tt
ready_update true false false g cells row h = tt
ready_update false n o g cells row h = tt

places_at : (infos : List TableInfo) (table : ℕ) (info : TableInfo) → slice_get infos table ≡ Some info → key_places infos table ≡ info.key
places_at infos table info at = ap (λ (o : Option TableInfo). unwrap_or (option_map (λ (i : TableInfo). i.key) o) []) at

not_both : {X : Type 0} (o : Option X) → o ≡ None → IsSome o → ⊥
not_both None none some = cc
not_both (Some x) none some = cc

pub ready : (infos : List TableInfo) (at : Rows) (c : Change) (table : ℕ) (key : Key) → AreKeyed infos at → IsFit infos at c → IsReady (effect_of infos c table key) (at table key)
ready infos at (Insert t row) table key keyed fit = ready_at (t == table) (same_key (key_at (key_places infos t) row.cells) key) (Whole row.cells) (at table key) tt
ready infos at (Delete t from old) table key keyed fit = ready_at (t == table) (same_key from key) Ends (at table key) tt
ready infos at (Clear t) table key keyed fit = ready_at (t == table) true Ends (at table key) tt
ready infos at (Update t from old cells) table key keyed fit =
    ready_update (t == table) (same_key (key_at (key_places infos t) (map given_or_null cells)) key) (same_key from key) (all_given cells) cells (at table key) here
  where
    here : (t == table) ≡ true → same_key (key_at (key_places infos t) (map given_or_null cells)) key ≡ true → all_given cells ≡ None → IsReady (Part cells) (at table key)
    here of_table of_key partial =
        let f = some_and (slice_get infos t) (λ info. IsFitUpdate info (at t) from old cells) fit in
        let table_is : t ≡ table = (Decides-eqb t table).0 of_table in
        let new_is : new_key_of f.0 cells ≡ key =
        sym (ap (λ (places : List ℕ). key_at places (map given_or_null cells)) (places_at infos t f.0 f.1)) ∙ same_key-is (key_at (key_places infos t) (map given_or_null cells)) key of_key in
        let stays : from ≡ new_key_of f.0 cells = elim f.2.stays_or_moves [ inl e ↦ e | inr moves ↦ absurd (not_both (all_given cells) partial moves.1) ] in
        let there = is_some_value (at t from) f.2.present in
        let row_is : at table key ≡ Some there.0 = ap (λ (u : ℕ). at u key) (sym table_is) ∙ (ap (at t) (sym (stays ∙ new_is)) ∙ there.1) in
        let row = keyed.each table key there.0 row_is in
        let one : Some row.info ≡ Some f.0 = sym row.captured ∙ (ap (slice_get infos) (sym table_is) ∙ f.1) in
        let info_is : row.info ≡ f.0 = cc in
        (there.0, row_is, f.2.wide ∙ sym (row.wide ∙ ap width info_is))
