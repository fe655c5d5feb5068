-- Theorems over the definitions of windows.
use Rattle.std.specs.Prelude.{◌≡◌, ◌⊎◌, ◌↔◌, ℕ, ◌≤◌, Some, Ok, Err, List, [], ◌∷◌, ◌++◌, length, map, take, drop, slice_get}
use Rattle.dbl_model_table.specs.declared.row.Key.{Key}
use Rattle.dbl_model_table.specs.declared.row.Row.{Row}
use Rattle.dbl_model_table.specs.declared.table.RawRow.{RawRow}
use Rattle.dbl_model_table.specs.declared.table.TableInfo.{TableInfo}
use Rattle.dbl_model_table.specs.declared.change.Change.{Change}
use Rattle.dbl_model_table.specs.declared.change.Change.TheVariants.{Clear}
use Rattle.dbl_model_table.specs.Rows.{table_of, all_changes}
use Rattle.dbl_model_history.specs.History.{History}
use Rattle.dbl_model_history.specs.Typed.{typed}
use Rattle.dbl_model_history.specs.KeyedRows.{AreAbove, last_key}
use Rattle.dbl_model_event.specs.Snapshots.{AreInKeyOrder}
use Rattle.dbl_source.specs.SourceModel.Growth.{Grows, Marks}
use Rattle.dbl_source.specs.SourceModel.Selected.{keyed_row}
use Rattle.dbl_window.specs.declared.error.WindowError.{WindowError}
use Rattle.dbl_window.specs.Plans.{Plan, Chunk}
use Rattle.dbl_window.specs.Reading.{row_read, chunk_read}
use Rattle.dbl_window.specs.Changing.{AreLeft}
use Rattle.dbl_window.specs.Selected.{IsSelected}
use Rattle.dbl_window.specs.Promise.{WasGiven}

-- The part of rows that changes keep is a unique list in key order.
abbrev pub LeftRowsAreOne : Type 0
LeftRowsAreOne = (infos : List TableInfo) (table : ℕ) (selected : List (Key × Row)) (changes : List Change) (a b : List (Key × Row))
    → AreInKeyOrder a → AreInKeyOrder b → AreLeft infos table selected changes a → AreLeft infos table selected changes b → a ≡ b

-- Without a change all rows are kept, and one further change applies to the rows that earlier ones kept.
abbrev pub LeftRowsGoOn : Type 0
LeftRowsGoOn = (infos : List TableInfo) (table : ℕ) (selected : List (Key × Row)) (changes more : List Change) (rows : List (Key × Row))
    → AreLeft infos table selected [] selected
    × (AreLeft infos table selected changes rows → (others : List (Key × Row)) → AreLeft infos table rows more others
    → AreLeft infos table selected (changes ++ more) others)

-- Changes of other tables keep all rows, so that a window needs to see only those of its table.
abbrev pub OtherTablesLeaveRows : Type 0
OtherTablesLeaveRows = (infos : List TableInfo) (table : ℕ) (change : Change) (rows : List (Key × Row))
    → (table_of change ≡ table → ⊥) → AreLeft infos table rows (change ∷ []) rows

-- A table's truncation keeps no row, and no rows are the only result of it.
abbrev pub ClearsLeaveNothing : Type 0
ClearsLeaveNothing = (infos : List TableInfo) (table : ℕ) (rows others : List (Key × Row))
    → AreLeft infos table rows (Clear table ∷ []) others ↔ (others ≡ [])

-- Whether rows that were read without an error are the answered ones, each cell read by its column, in key order after the window's key,
-- and at most as many as were requested.
pub record AreRowsRead (infos : List TableInfo) (plan : Plan) (answered : List RawRow) (rows : List (Key × Row)) : Type 0 where
  pub same : rows ≡ map (keyed_row infos plan.table plan.info) answered
  pub ordered : AreAbove plan.above rows
  pub few : length rows ≤ plan.limit

-- Rows that were read without an error are the answered ones.
abbrev pub ReadRowsAreAnswered : Type 0
ReadRowsAreAnswered = (infos : List TableInfo) (plan : Plan) (answered : List RawRow) (rows : List (Key × Row))
    → slice_get infos plan.table ≡ Some plan.info → chunk_read plan answered ≡ Ok rows → AreRowsRead infos plan answered rows

-- Whether the row with this number has this error, after rows that have none.
pub record IsFirstFault (plan : Plan) (answered : List RawRow) (e : WindowError) : Type 0 where
  pub number : ℕ
  pub raw : RawRow
  pub before : List (Key × Row)
  pub here : slice_get answered number ≡ Some raw
  pub fine : chunk_read plan (take number answered) ≡ Ok before
  pub fault : row_read plan number (last_key plan.above before) raw ≡ Err e

-- The error of answered rows is that of the first row that has one.
abbrev pub FaultsAreFirst : Type 0
FaultsAreFirst = (plan : Plan) (answered : List RawRow) (e : WindowError) → chunk_read plan answered ≡ Err e → IsFirstFault plan answered e

-- Selected rows stay selected when the history grows and watermarks are written.
abbrev pub SelectedRowsStay : Type 0
SelectedRowsStay = (infos : List TableInfo) (old new : History) (from upto : ℕ) (value : List ℕ) (chunk : Chunk)
    → upto ≤ length old.commits → Grows old new ⊎ Marks value old new
    → IsSelected infos old from upto chunk → IsSelected infos new from upto chunk

-- The changes of the commits between two watermarks, the last of the first `low` and of the first `high` commits.
abbrev pub between : List TableInfo → History → ℕ → ℕ → List Change
between infos history low high = all_changes (drop low (take high (typed infos history)))

-- A window that was selected between its watermarks, and then saw the changes between them, in order, keeps its promise.
abbrev pub SelectedRowsWereGiven : Type 0
SelectedRowsWereGiven = (infos : List TableInfo) (history : History) (low high : ℕ) (selected chunk : Chunk)
    → IsSelected infos history low high selected
    → chunk.plan ≡ selected.plan → chunk.through ≡ selected.through → chunk.done ≡ selected.done
    → AreLeft infos selected.plan.table selected.rows (between infos history low high) chunk.rows
    → WasGiven infos (typed infos history) low high chunk
