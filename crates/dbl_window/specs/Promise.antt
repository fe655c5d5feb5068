-- The guarantee of a closed window. After the DBLog paper, made exact.
use Rattle.std.specs.Prelude.{◌≡◌, ℕ, ◌≤◌, ◌<◌, IsTrue, Some, List, length, take, drop, slice_get}
use Rattle.dbl_model_table.specs.declared.row.Key.{Key}
use Rattle.dbl_model_table.specs.declared.row.Row.{Row}
use Rattle.dbl_model_table.specs.declared.table.TableInfo.{TableInfo}
use Rattle.dbl_model_table.specs.declared.change.Commit.{Commit}
use Rattle.dbl_model_table.specs.Rows.{Rows, no_rows, rows_from, all_changes}
use Rattle.dbl_model_history.specs.KeyedRows.{AreFirst, last_key}
use Rattle.dbl_model_event.specs.declared.closed.Closed.{Closed}
use Rattle.dbl_consume_laws.specs.Windows.{IsRightWindow}
use Rattle.dbl_window.specs.Plans.{Chunk}
use Rattle.dbl_window.specs.Changing.{AreLeft}

-- The rows after a number of first commits.
abbrev pub rows_after_first : List TableInfo → List Commit → ℕ → Rows
rows_after_first infos commits place = rows_from infos no_rows (all_changes (take place commits))

-- The point in the history after a number of first commits.
abbrev pub moment_after_first : List Commit → ℕ → ℕ
moment_after_first commits place = length (all_changes (take place commits))

-- Whether the window read its rows at one position between its watermarks, the last of the first `low` and of the first `high` commits, and
-- has what the changes between them keep of these rows.
pub record WasGiven (infos : List TableInfo) (commits : List Commit) (low high : ℕ) (chunk : Chunk) : Type 0 where
  pub selected : List (Key × Row)
  pub place : ℕ
  pub not_before : low ≤ place
  pub not_after : place ≤ high
  pub first : AreFirst chunk.plan.info (rows_after_first infos commits place chunk.plan.table) chunk.plan.above chunk.plan.limit selected
  pub through_is : chunk.through ≡ last_key chunk.plan.above selected
  pub done_is : IsTrue chunk.done → length selected < chunk.plan.limit
  pub left : AreLeft infos chunk.plan.table selected (all_changes (drop low (take high commits))) chunk.rows

-- A window that saw the changes between its watermarks is right at its high watermark, for every history and any captured tables besides
-- its own.
abbrev pub KeepsPromise : Chunk → Closed → Type 0
KeepsPromise chunk closed =
    (infos : List TableInfo) (commits : List Commit) (low high : ℕ)
    → slice_get infos chunk.plan.table ≡ Some chunk.plan.info → WasGiven infos commits low high chunk
    → IsRightWindow infos (all_changes commits) (moment_after_first commits low) (moment_after_first commits high) chunk.plan.above closed

-- The closed window of a chunk.
abbrev pub closed_of : Chunk → Closed
closed_of chunk = record { table = chunk.plan.table; rows = chunk.rows; through = chunk.through; done = chunk.done }

-- Whether a closed window has the contents of its chunk.
pub record IsClosedOf (chunk : Chunk) (closed : Closed) : Type 0 where
  pub table : closed.table ≡ chunk.plan.table
  pub rows : closed.rows ≡ chunk.rows
  pub through : closed.through ≡ chunk.through
  pub done : closed.done ≡ chunk.done
