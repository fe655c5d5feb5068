-- Rows that are read without a fault are the answered ones, in key order.
use Rattle.std.proofs.Common.{◌≡◌, ◌∙◌, ◌+◌, ◌<◌, ◌≤◌, ◌&&◌, ℕ, Bool, true, false, Option, Some, None, List, [], ◌∷◌, length, map, refl, sym, ap, subst, arith}
use Rattle.std.specs.Prelude.{Ok, Err, if◌then◌else◌, ◌==◌, nat_lt, option_map, unwrap_or, slice_get}
use Rattle.std.specs.Ordering.{is_lt}
use Rattle.std.specs.declared.cmp.Ordering.{Ordering}
use Rattle.std.specs.declared.cmp.Ordering.TheVariants.{Less, Equal, Greater}
use Rattle.std.proofs.lemmas.Bool.Decides.{Decides-eqb, Decides-ltb}
use Rattle.dbl_value_types.specs.declared.column_type.PgType.{PgType}
use Rattle.dbl_model_table.specs.declared.table.Column.{Column}
use Rattle.dbl_model_table.specs.declared.table.RawRow.{RawRow}
use Rattle.dbl_model_table.specs.declared.table.TableInfo.{TableInfo}
use Rattle.dbl_model_table.specs.declared.row.Key.{Key}
use Rattle.dbl_model_table.specs.declared.row.Row.{Row}
use Rattle.dbl_model_table.specs.Infos.{column_types, width}
use Rattle.dbl_model_table.specs.Keys.{key_cmp}
use Rattle.dbl_model_table.proofs.Lists.{and_left, and_right}
use Rattle.dbl_model_history.specs.Typed.{types_of, typed_cells}
use Rattle.dbl_model_history.specs.KeyBounds.{IsAbove}
use Rattle.dbl_model_history.specs.KeyedRows.{AreAbove}
use Rattle.dbl_source.specs.SourceModel.Selected.{keyed_row}
use Rattle.dbl_window.specs.declared.error.WindowError.TheVariants as window
use Rattle.dbl_window.specs.Plans.{Plan}
use Rattle.dbl_window.specs.Reading.{◌>>=◌, cells_read, comes_after, placed, with_key, row_read, rows_read, chunk_read}
use Rattle.dbl_window.specs.Laws.{ReadRowsAreAnswered}
use Rattle.dbl_window.proofs.CellLemmas.{went_on, cells_are}

-- ---- a key's place

less_is : (o : Ordering) → is_lt o ≡ true → o ≡ Less
less_is Less h = refl
less_is Equal h = cc
less_is Greater h = cc

pub beyond_is : (last : Option Key) (key : Key) → comes_after last key ≡ true → IsAbove last key
beyond_is None key h = tt
beyond_is (Some bound) key h = less_is (key_cmp bound key) h

pub above_is : (last : Option Key) (key : Key) → IsAbove last key → comes_after last key ≡ true
above_is None key above = refl
above_is (Some bound) key above = ap is_lt above

-- what a row in its place is
pub record IsPlaced (number : ℕ) (last : Option Key) (entry found : Key × Row) : Type 0 where
  pub same : found ≡ entry
  pub above : IsAbove last entry.0

pub placed_by : (number : ℕ) (last : Option Key) (entry found : Key × Row) (b : Bool) → comes_after last entry.0 ≡ b
    → (if b then Ok entry else Err (window.BadChunk number)) ≡ Ok found → IsPlaced number last entry found
placed_by number last entry found true subsequent h =
    let back : entry ≡ found = cc in
    record { same = sym back; above = beyond_is last entry.0 subsequent }
placed_by number last entry found false subsequent h = absurd (cc)

-- ---- one row

-- as the source's history reads it
pub typed_by : (infos : List TableInfo) (table : ℕ) (info : TableInfo) → slice_get infos table ≡ Some info → types_of infos table ≡ column_types info
typed_by infos table info at =
    ap (λ (o : Option TableInfo). map (λ (column : Column). column.ty) (unwrap_or (option_map (λ (i : TableInfo). i.columns) o) [])) at

pub keyed_by : (infos : List TableInfo) (plan : Plan) (raw : RawRow) → slice_get infos plan.table ≡ Some plan.info
    → with_key plan.info (typed_cells (column_types plan.info) raw.cells) ≡ keyed_row infos plan.table plan.info raw
keyed_by infos plan raw at =
    ap (λ (types : List PgType). with_key plan.info (typed_cells types raw.cells)) (sym (typed_by infos plan.table plan.info at))

-- a row that was read
pub record IsRowRead (infos : List TableInfo) (plan : Plan) (number : ℕ) (last : Option Key) (raw : RawRow) (entry : Key × Row) : Type 0 where
  pub same : entry ≡ keyed_row infos plan.table plan.info raw
  pub above : IsAbove last entry.0
  pub counted : number < plan.limit

row_by : (infos : List TableInfo) (plan : Plan) (number : ℕ) (last : Option Key) (raw : RawRow) (entry : Key × Row) (b : Bool) → slice_get infos plan.table ≡ Some plan.info
    → (nat_lt number plan.limit && (length raw.cells == width plan.info)) ≡ b
    → (if b then (cells_read plan.info number 0 plan.info.columns raw.cells >>= λ cells. placed number last (with_key plan.info cells)) else Err (window.BadChunk number)) ≡ Ok entry
    → IsRowRead infos plan number last raw entry
row_by infos plan number last raw entry false at test h = absurd (cc)
row_by infos plan number last raw entry true at test h =
    let read = went_on (cells_read plan.info number 0 plan.info.columns raw.cells) (λ cells. placed number last (with_key plan.info cells)) entry h in
    let wide : length raw.cells ≡ length plan.info.columns =
    (Decides-eqb (length raw.cells) (width plan.info)).0 (and_right (nat_lt number plan.limit) (length raw.cells == width plan.info) test) in
    let cells : read.value ≡ typed_cells (column_types plan.info) raw.cells = cells_are plan.info number 0 plan.info.columns raw.cells read.value wide read.first in
    let here = placed_by number last (with_key plan.info read.value) entry (comes_after last (with_key plan.info read.value).0) refl read.then_is in
    record {
      same = here.same ∙ (ap (with_key plan.info) cells ∙ keyed_by infos plan raw at);
      above = subst (λ (e : Key × Row). IsAbove last e.0) (sym here.same) here.above;
      counted = (Decides-ltb number plan.limit).0 (and_left (nat_lt number plan.limit) (length raw.cells == width plan.info) test);
    }

pub row_is : (infos : List TableInfo) (plan : Plan) (number : ℕ) (last : Option Key) (raw : RawRow) (entry : Key × Row) → slice_get infos plan.table ≡ Some plan.info
    → row_read plan number last raw ≡ Ok entry → IsRowRead infos plan number last raw entry
row_is infos plan number last raw entry at h = row_by infos plan number last raw entry (nat_lt number plan.limit && (length raw.cells == width plan.info)) at refl h

-- ---- all rows

pub record AreRead (infos : List TableInfo) (plan : Plan) (number : ℕ) (last : Option Key) (answered : List RawRow) (rows : List (Key × Row)) : Type 0 where
  pub same : rows ≡ map (keyed_row infos plan.table plan.info) answered
  pub ordered : AreAbove last rows
  pub few : number ≤ plan.limit → number + length rows ≤ plan.limit

pub rows_are : (infos : List TableInfo) (plan : Plan) (number : ℕ) (last : Option Key) (answered : List RawRow) (rows : List (Key × Row)) → slice_get infos plan.table ≡ Some plan.info
    → rows_read plan number last answered ≡ Ok rows → AreRead infos plan number last answered rows
rows_are infos plan number last [] rows at h =
    let none : [] ≡ rows = cc in
    record {
      same = sym none;
      ordered = subst (AreAbove last) none tt;
      few = λ le. (let long : length rows ≡ 0 = ap length (sym none) in omega (arith, le, long));
    }
rows_are infos plan number last (raw ∷ answered) rows at h =
    let one = went_on (row_read plan number last raw) (λ entry. rows_read plan (number + 1) (Some entry.0) answered >>= λ entries. Ok (entry ∷ entries)) rows h in
    let more = went_on (rows_read plan (number + 1) (Some one.value.0) answered) (λ entries. Ok (one.value ∷ entries)) rows one.then_is in
    let told : Ok (one.value ∷ more.value) ≡ Ok rows = more.then_is in
    let rows_is : one.value ∷ more.value ≡ rows = cc in
    let row = row_is infos plan number last raw one.value at one.first in
    let rest = rows_are infos plan (number + 1) (Some one.value.0) answered more.value at more.first in
    let counted : number < plan.limit = row.counted in
    let few : number + 1 + length more.value ≤ plan.limit = rest.few (omega (arith, counted)) in
    record {
      same = sym rows_is ∙ λ i. row.same i ∷ rest.same i;
      ordered = subst (AreAbove last) rows_is (row.above, rest.ordered);
      few = λ le. (let long : length rows ≡ length (one.value ∷ more.value) = ap length (sym rows_is) in omega (arith, few, long));
    }

pub read_answered : ReadRowsAreAnswered
unfolding chunk_read
read_answered infos plan answered rows at h =
    let are = rows_are infos plan 0 plan.above answered rows at h in
    record {
      same = are.same;
      ordered = are.ordered;
      few = (let few : 0 + length rows ≤ plan.limit = are.few (omega arith) in omega (arith, few));
    }
