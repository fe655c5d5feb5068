-- The rows of a window after its select.
use Rattle.std.specs.Prelude.{◌≡◌, ◌≢◌, ◌⊎◌, ℕ, ◌≤◌, nat_lt, Option, Some, Result, Ok, Err, MatchResult, List, length, slice_get}
use Rattle.dbl_value_types.specs.declared.value.Val.{Val}
use Rattle.dbl_value_types.specs.declared.value.Val.TheVariants as val
use Rattle.dbl_value_types.specs.declared.error.ValueError.{ValueError}
use Rattle.dbl_value_types.specs.Faults.{value_fault}
use Rattle.dbl_model_table.specs.declared.row.Key.{Key}
use Rattle.dbl_model_table.specs.declared.row.Row.{Row}
use Rattle.dbl_model_table.specs.declared.table.Column.{Column}
use Rattle.dbl_model_table.specs.declared.table.TableInfo.{TableInfo}
use Rattle.dbl_model_history.specs.History.{History}
use Rattle.dbl_model_history.specs.Fit.{AreInfosOf}
use Rattle.dbl_model_history.specs.InForce.{version_at}
use Rattle.dbl_model_history.specs.KeyedRows.{AreFirst, last_key}
use Rattle.dbl_source.specs.SourceModel.Standings.{SourceState}
use Rattle.dbl_source.specs.SourceModel.declared.selected.Selected.{Selected as SelectAnswer}
use Rattle.dbl_source.specs.SourceModel.Selected.{rows_up_to}
use Rattle.dbl_source.specs.SourceModel.Trace.{Trace, RowsSelected, LastAnswerIs}
use Rattle.dbl_window.specs.declared.error.WindowError.{WindowError}
use Rattle.dbl_window.specs.declared.error.WindowError.TheVariants.{Failed, Memory}
use Rattle.dbl_window.specs.Plans.{Plan, Chunk}
use Rattle.dbl_window.specs.Reading.{answer_read}

-- Whether the window's table is captured, with this description. Stated of the catalogue before all commits: no table is altered.
pub record IsCaptured (infos : List TableInfo) (history : History) (plan : Plan) : Type 0 where
  pub are : AreInfosOf history infos
  pub here : slice_get infos plan.table ≡ Some plan.info

-- Whether the chunk has the table's first rows after its key, as they were at one position of the history, not before the last of the first
-- `from` commits, nor after the first `upto`; and the table had the window's version there.
pub record IsSelected (infos : List TableInfo) (history : History) (from upto : ℕ) (chunk : Chunk) : Type 0 where
  pub place : ℕ
  pub not_before : from ≤ place
  pub not_after : place ≤ upto
  pub version : chunk.plan.version ≡ version_at history place chunk.plan.info.name
  pub first : AreFirst chunk.plan.info (rows_up_to infos history place chunk.plan.table) chunk.plan.above chunk.plan.limit chunk.rows
  -- The last key that was read, and whether fewer rows were read than requested.
  pub through_is : chunk.through ≡ last_key chunk.plan.above chunk.rows
  pub done_is : chunk.done ≡ nat_lt (length chunk.rows) chunk.plan.limit

-- Whether, for any captured tables besides the window's own, the chunk is selected between two states of the source.
abbrev pub SelectsChunk : Plan → Chunk → SourceState → SourceState → Type 0
SelectsChunk plan chunk s t =
    (infos : List TableInfo) → IsCaptured infos s.history plan
    → IsSelected infos t.history (length s.history.commits) (length t.history.commits) chunk

-- Whether at some position of the history the table has a row whose cell in the column of this name doesn't parse, with this error. In the
-- history such a cell is kept as its text.
pub record HasUnreadable (infos : List TableInfo) (history : History) (plan : Plan) (name : List ℕ) (error : ValueError) : Type 0 where
  pub place : ℕ
  pub key : Key
  pub cells : List Val
  pub row : rows_up_to infos history place plan.table key ≡ Some cells
  pub number : ℕ
  pub column : Column
  pub column_is : slice_get plan.info.columns number ≡ Some column
  pub name_is : column.name ≡ name
  pub text : List ℕ
  pub cell : slice_get cells number ≡ Some (val.Text text)
  pub fault : value_fault column.ty text ≡ Some error

-- Whether at some position between two states of a history the window's table has this version, which isn't the window's.
pub record HasMoved (old new : History) (plan : Plan) (version : ℕ) : Type 0 where
  pub place : ℕ
  pub not_before : length old.commits ≤ place
  pub not_after : place ≤ length new.commits
  pub is : version ≡ version_at new place plan.info.name
  pub other : version ≢ plan.version

-- For private clauses: whether the chunk has the answer's rows as they are read, or the error is the answer's first one, unless the source
-- failed or memory ran out.
abbrev pub IsReadAs : Plan → SelectAnswer → Result Chunk WindowError → Type 0
IsReadAs plan answer result =
    MatchResult result (λ chunk. answer_read plan answer ≡ Ok chunk.rows)
    (λ e. (e ≡ Failed) ⊎ ((e ≡ Memory) ⊎ (answer_read plan answer ≡ Err e)))

-- Whether some answer is read as this, a chunk's rows or its first error, and a source that reports its answers answered it last.
pub record IsReadOf (plan : Plan) (told : Option Trace) (read : Result (List (Key × Row)) WindowError) : Type 0 where
  pub answer : SelectAnswer
  pub told_so : LastAnswerIs told (RowsSelected answer)
  pub read_is : answer_read plan answer ≡ read

-- Whether, if the source reports its answers, the chunk has the answered rows as they are read, or the error is the answer's first one,
-- unless the source failed or memory ran out.
abbrev pub IsChunkReadFrom : Plan → Option Trace → Result Chunk WindowError → Type 0
IsChunkReadFrom plan told result =
    MatchResult result (λ chunk. IsReadOf plan told (Ok chunk.rows))
    (λ e. (e ≡ Failed) ⊎ ((e ≡ Memory) ⊎ IsReadOf plan told (Err e)))
