-- One more cell of a row, and one more row of a chunk.
use Rattle.std.proofs.Common.{◌≡◌, ◌∙◌, ◌+◌, ◌<◌, ◌&&◌, ℕ, Bool, true, false, Option, Some, List, [], ◌∷◌, ◌++◌, length, get_or, drop, refl, sym, ap, ap₂, subst}
use Rattle.std.specs.Prelude.{Result, Ok, Err, if◌then◌else◌, ◌==◌, nat_lt, option_map, unwrap_or}
use Rattle.std.proofs.lemmas.List.{drop_more}
use Rattle.std.proofs.lemmas.Option.{slice_get-get_or}
use Rattle.dbl_value_types.specs.declared.column_type.PgType.TheVariants as type
use Rattle.dbl_value_types.specs.declared.value.Val.{Val}
use Rattle.dbl_model_table.specs.declared.table.Column.{Column}
use Rattle.dbl_model_table.specs.declared.table.RawRow.{RawRow}
use Rattle.dbl_model_table.specs.declared.table.TableInfo.{TableInfo}
use Rattle.dbl_model_table.specs.declared.row.Key.{Key}
use Rattle.dbl_model_table.specs.declared.row.Row.{Row}
use Rattle.dbl_model_table.specs.Tables.{type_at}
use Rattle.dbl_model_table.specs.Infos.{width}
use Rattle.dbl_model_history.specs.KeyBounds.{IsAbove}
use Rattle.dbl_window.specs.declared.error.WindowError.{WindowError}
use Rattle.dbl_window.specs.declared.error.WindowError.TheVariants as window
use Rattle.dbl_window.specs.Plans.{Plan}
use Rattle.dbl_window.specs.Reading.{◌>>=◌, cell_read, cells_read, comes_after, placed, with_key, row_read, rows_read}
use Rattle.dbl_window.proofs.Loops.{with_front, push_front}
use Rattle.dbl_window.proofs.CellLemmas.{went_on}
use Rattle.dbl_window.proofs.ReadLemmas.{placed_by}

pub cells_more : (info : TableInfo) (number place : ℕ) (column : Column) (values : List Val) (items rest : List (Option (List ℕ))) (cell : Option (List ℕ)) (value : Val) (whole : Result (List Val) WindowError)
    → with_front values (cells_read info number place (drop place info.columns) items) ≡ whole → place < length info.columns → column ≡ get_or info.columns place column → items ≡ cell ∷ rest
    → cell_read info number place column cell ≡ Ok value → with_front (values ++ value ∷ []) (cells_read info number (place + 1) (drop (place + 1) info.columns) rest) ≡ whole
cells_more info number place column values items rest cell value whole so_far lt is items_are read =
    let columns_are : drop place info.columns ≡ column ∷ drop (place + 1) info.columns =
    drop_more info.columns place column lt ∙ ap (λ (x : Column). x ∷ drop (place + 1) info.columns) (sym is) in
    let more : Result (List Val) WindowError = cells_read info number (place + 1) (drop (place + 1) info.columns) rest in
    sym (push_front values value more)
    ∙ (sym (ap (λ (r : Result Val WindowError). with_front values (r >>= λ x. more >>= λ xs. Ok (x ∷ xs))) read)
    ∙ (sym (ap₂ (λ (cs : List Column) (l : List (Option (List ℕ))). with_front values (cells_read info number place cs l)) columns_are items_are) ∙ so_far))

pub type_there : (info : TableInfo) (place : ℕ) (column : Column) → place < length info.columns → column ≡ get_or info.columns place column → type_at info.columns place ≡ column.ty
type_there info place column lt is =
    ap (λ (o : Option Column). unwrap_or (option_map (λ (c : Column). c.ty) o) type.Text) (slice_get-get_or info.columns place column lt ∙ ap (λ (x : Column). Some x) (sym is))

pub rows_more : (plan : Plan) (number : ℕ) (last : Option Key) (front : List (Key × Row)) (items rest : List RawRow) (raw : RawRow) (entry : Key × Row) (whole : Result (List (Key × Row)) WindowError)
    → with_front front (rows_read plan number last items) ≡ whole → items ≡ raw ∷ rest → row_read plan number last raw ≡ Ok entry
    → with_front (front ++ entry ∷ []) (rows_read plan (number + 1) (Some entry.0) rest) ≡ whole
rows_more plan number last front items rest raw entry whole so_far items_are read =
    sym (push_front front entry (rows_read plan (number + 1) (Some entry.0) rest))
    ∙ (sym (ap (λ (r : Result (Key × Row) WindowError). with_front front (r >>= λ e. rows_read plan (number + 1) (Some e.0) rest >>= λ entries. Ok (e ∷ entries))) read)
    ∙ (sym (ap (λ (l : List RawRow). with_front front (rows_read plan number last l)) items_are) ∙ so_far))

above_by : (plan : Plan) (number : ℕ) (last : Option Key) (raw : RawRow) (entry : Key × Row) (b : Bool)
    → (if b then (cells_read plan.info number 0 plan.info.columns raw.cells >>= λ cells. placed number last (with_key plan.info cells)) else Err (window.BadChunk number)) ≡ Ok entry → IsAbove last entry.0
above_by plan number last raw entry false h = absurd (cc)
above_by plan number last raw entry true h =
    let read = went_on (cells_read plan.info number 0 plan.info.columns raw.cells) (λ cells. placed number last (with_key plan.info cells)) entry h in
    let here = placed_by number last (with_key plan.info read.value) entry (comes_after last (with_key plan.info read.value).0) refl read.then_is in
    subst (λ (e : Key × Row). IsAbove last e.0) (sym here.same) here.above

-- a row that was read is after the last key
pub row_above : (plan : Plan) (number : ℕ) (last : Option Key) (raw : RawRow) (entry : Key × Row) → row_read plan number last raw ≡ Ok entry → IsAbove last entry.0
row_above plan number last raw entry h = above_by plan number last raw entry (nat_lt number plan.limit && (length raw.cells == width plan.info)) h
