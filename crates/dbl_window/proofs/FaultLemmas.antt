-- Errors that no row has: the source's, and that its table was altered.
use Rattle.std.proofs.Common.{◌≡◌, ◌+◌, inl, inr, ◌&&◌, ℕ, Bool, true, false, Option, Some, None, List, [], ◌∷◌, length, sym}
use Rattle.std.specs.Prelude.{Ok, Err, if◌then◌else◌, ◌==◌, nat_lt}
use Rattle.dbl_value_types.specs.declared.error.ValueError.{ValueError}
use Rattle.dbl_value_types.specs.declared.value.Val.{Val}
use Rattle.dbl_value_types.specs.Faults.{fault_of}
use Rattle.dbl_value_types.specs.Values.{value_of}
use Rattle.dbl_model_table.specs.declared.table.Column.{Column}
use Rattle.dbl_model_table.specs.declared.table.RawRow.{RawRow}
use Rattle.dbl_model_table.specs.declared.table.TableInfo.{TableInfo}
use Rattle.dbl_model_table.specs.declared.row.Key.{Key}
use Rattle.dbl_model_table.specs.declared.row.Row.{Row}
use Rattle.dbl_model_table.specs.Infos.{width}
use Rattle.dbl_window.specs.declared.error.WindowError.{WindowError}
use Rattle.dbl_window.specs.declared.error.WindowError.TheVariants as window
use Rattle.dbl_window.specs.Plans.{Plan}
use Rattle.dbl_window.specs.Reading.{◌>>=◌, is_of_key, null_read, value_read, cell_read, cells_read, comes_after, placed, with_key, row_read, rows_read}
use Rattle.dbl_window.proofs.HonestLemmas.{went_wrong}

module _ (e : WindowError) (never_bad : (row : ℕ) → e ≡ window.BadChunk row → ⊥) (never_cell : (name : List ℕ) (error : ValueError) → e ≡ window.Cell name error → ⊥) where
  null_never : (number : ℕ) (in_key : Bool) → null_read number in_key ≡ Err e → ⊥
  null_never number true h = never_bad number (let same : window.BadChunk number ≡ e = cc in sym same)
  null_never number false h = cc

  value_never : (column : Column) (text : List ℕ) (o : Option Val) → value_read column text o ≡ Err e → ⊥
  value_never column text (Some v) h = cc
  value_never column text None h = never_cell column.name (fault_of column.ty text) (let same : window.Cell column.name (fault_of column.ty text) ≡ e = cc in sym same)

  cell_never : (info : TableInfo) (number place : ℕ) (column : Column) (cell : Option (List ℕ)) → cell_read info number place column cell ≡ Err e → ⊥
  cell_never info number place column None h = null_never number (is_of_key info place) h
  cell_never info number place column (Some text) h = value_never column text (value_of column.ty text) h

  cells_never : (info : TableInfo) (number place : ℕ) (columns : List Column) (cells : List (Option (List ℕ))) → cells_read info number place columns cells ≡ Err e → ⊥
  cells_never info number place [] cells h = cc
  cells_never info number place (column ∷ columns) [] h = cc
  cells_never info number place (column ∷ columns) (c ∷ cells) h =
      elim (went_wrong (cell_read info number place column c) (λ x. cells_read info number (place + 1) columns cells >>= λ xs. Ok (x ∷ xs)) e h) [
        | inl wrong ↦ cell_never info number place column c wrong
        | inr one ↦ elim (went_wrong (cells_read info number (place + 1) columns cells) (λ xs. Ok (one.value ∷ xs)) e one.then_is) [
          | inl more ↦ cells_never info number (place + 1) columns cells more
          | inr two ↦ (let contra : Ok (one.value ∷ two.value) ≡ Err e = two.then_is in cc)
        ]
      ]

  placed_never : (number : ℕ) (entry : Key × Row) (b : Bool) → (if b then Ok entry else Err (window.BadChunk number)) ≡ Err e → ⊥
  placed_never number entry true h = cc
  placed_never number entry false h = never_bad number (let same : window.BadChunk number ≡ e = cc in sym same)

  row_never : (plan : Plan) (number : ℕ) (last : Option Key) (raw : RawRow) (b : Bool)
      → (if b then (cells_read plan.info number 0 plan.info.columns raw.cells >>= λ cells. placed number last (with_key plan.info cells)) else Err (window.BadChunk number)) ≡ Err e → ⊥
  row_never plan number last raw false h = never_bad number (let same : window.BadChunk number ≡ e = cc in sym same)
  row_never plan number last raw true h = elim (went_wrong (cells_read plan.info number 0 plan.info.columns raw.cells) (λ cells. placed number last (with_key plan.info cells)) e h) [
    | inl wrong ↦ cells_never plan.info number 0 plan.info.columns raw.cells wrong
    | inr later ↦ placed_never number (with_key plan.info later.value) (comes_after last (with_key plan.info later.value).0) later.then_is
  ]

  pub reads_never : (plan : Plan) (number : ℕ) (last : Option Key) (rows : List RawRow) → rows_read plan number last rows ≡ Err e → ⊥
  reads_never plan number last [] h = cc
  reads_never plan number last (raw ∷ rows) h =
      elim (went_wrong (row_read plan number last raw) (λ entry. rows_read plan (number + 1) (Some entry.0) rows >>= λ entries. Ok (entry ∷ entries)) e h) [
        | inl wrong ↦ row_never plan number last raw (nat_lt number plan.limit && (length raw.cells == width plan.info)) wrong
        | inr one ↦ elim (went_wrong (rows_read plan (number + 1) (Some one.value.0) rows) (λ entries. Ok (one.value ∷ entries)) e one.then_is) [
          | inl more ↦ reads_never plan (number + 1) (Some one.value.0) rows more
          | inr two ↦ (let contra : Ok (one.value ∷ two.value) ≡ Err e = two.then_is in cc)
        ]
      ]

-- the rows never fail as a source does
pub reads_never_fail : (plan : Plan) (rows : List RawRow) → rows_read plan 0 plan.above rows ≡ Err window.Failed → ⊥
reads_never_fail plan rows h = reads_never window.Failed (λ row is. (let wrong : ⊥ = cc in wrong)) (λ name error is. (let wrong : ⊥ = cc in wrong)) plan 0 plan.above rows h

-- nor do they tell that their table was altered
pub reads_never_move : (plan : Plan) (version : ℕ) (rows : List RawRow) → rows_read plan 0 plan.above rows ≡ Err (window.Moved version) → ⊥
reads_never_move plan version rows h = reads_never (window.Moved version) (λ row is. (let wrong : ⊥ = cc in wrong)) (λ name error is. (let wrong : ⊥ = cc in wrong)) plan 0 plan.above rows h
