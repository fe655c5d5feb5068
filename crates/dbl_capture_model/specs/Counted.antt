-- How many windows a session has read, compared with the rows of its tables.
use Rattle.std.specs.Prelude.{◌≡◌, ℕ, ◌+◌, ◌*◌, ◌≤◌, false, Some, List, length, count_by, slice_get}
use Rattle.std.specs.List.{AllByRecursion, AllZip}
use Rattle.dbl_value_types.specs.declared.value.Val.{Val}
use Rattle.dbl_model_table.specs.declared.row.Key.{Key}
use Rattle.dbl_model_table.specs.declared.table.TableInfo.{TableInfo}
use Rattle.dbl_faithful.specs.ModelHistory.History.{History}
use Rattle.dbl_faithful.specs.ModelHistory.KeyBounds.{IsUpTo}
use Rattle.dbl_faithful.specs.ModelHistory.declared.cursor.Cursor.{Cursor}
use Rattle.dbl_follow.specs.SourceModel.Growth.{marks_in}
use Rattle.dbl_follow.specs.SourceModel.Selected.{rows_up_to}
use Rattle.dbl_faithful.specs.Onward.{IsLaterCursor}
use Rattle.dbl_follow.specs.Window.Plans.{Chunk}
use Rattle.dbl_follow.specs.Window.Selected.{IsSelected}
use Rattle.dbl_follow.specs.declared.window.Window.{Window}
use Rattle.dbl_follow.specs.declared.window.Window.TheVariants.{Absent, Armed, Open}

-- The number of windows that are armed or open: one or none.
abbrev pub waiting : Window → ℕ
waiting Absent = 0
waiting (Armed chunk) = 1
waiting (Open chunk) = 1

-- The number of tables that are read to their end.
abbrev pub ended_of : List Cursor → ℕ
ended_of cursors = count_by (λ cursor. cursor.done) cursors

-- A pair of a captured table and a key that had a row at some point in the history, and that the table's cursor has reached.
pub record WasRead (infos : List TableInfo) (history : History) (cursors : List Cursor) (pair : ℕ × Key) : Type 0 where
  pub place : ℕ
  pub row : List Val
  pub within : place ≤ length history.commits
  pub was : rows_up_to infos history place pair.0 pair.1 ≡ Some row
  pub cursor : Cursor
  pub cursor_is : slice_get cursors pair.0 ≡ Some cursor
  pub read : IsUpTo cursor.last pair.1

-- No pair is listed twice.
pub record AreApart (pairs : List (ℕ × Key)) : Type 0 where
  pub apart : (i j : ℕ) (pair : ℕ × Key) → slice_get pairs i ≡ Some pair → slice_get pairs j ≡ Some pair → i ≡ j

-- The rows of a window were read at one point in the history, after the cursor of its table, which isn't finished. Changes may have removed
-- some of them since.
pub record IsOnTable (infos : List TableInfo) (limit : ℕ) (history : History) (cursors : List Cursor) (chunk : Chunk) : Type 0 where
  pub captured : slice_get infos chunk.plan.table ≡ Some chunk.plan.info
  pub limit_is : chunk.plan.limit ≡ limit
  pub cursor : Cursor
  pub cursor_is : slice_get cursors chunk.plan.table ≡ Some cursor
  pub not_done : cursor.done ≡ false
  pub above : chunk.plan.above ≡ cursor.last
  pub selected : Chunk
  pub plan : selected.plan ≡ chunk.plan
  pub through : selected.through ≡ chunk.through
  pub done : selected.done ≡ chunk.done
  pub from : ℕ
  pub upto : ℕ
  pub within : upto ≤ length history.commits
  pub rows : IsSelected infos history from upto selected

-- A window that is armed or open is one of the table that is being read.
abbrev pub IsWaiting : List TableInfo → ℕ → History → List Cursor → Window → Type 0
IsWaiting infos limit history cursors Absent = Unit {0}
IsWaiting infos limit history cursors (Armed chunk) = IsOnTable infos limit history cursors chunk
IsWaiting infos limit history cursors (Open chunk) = IsOnTable infos limit history cursors chunk

-- A pair of an unfinished captured table and a key that its cursor hasn't reached.
abbrev pub WasUnread : List Cursor → ℕ × Key → Type 0
WasUnread cursors pair =
    (cursor : Cursor) → slice_get cursors pair.0 ≡ Some cursor → (cursor.done ≡ false) × (IsUpTo cursor.last pair.1 → ⊥)

-- What the closed windows make of the cursors: no cursor falls, and each window ended its table or was full. A full window read `chunk`
-- rows that were unread before, and no other window read them.
pub record HaveComeOn (infos : List TableInfo) (chunk closed : ℕ) (history : History) (begun cursors : List Cursor) : Type 0 where
  pub full : ℕ
  pub ended : ℕ
  pub each : closed ≡ full + ended
  pub tables : ended_of begun + ended ≡ ended_of cursors
  pub read : List (ℕ × Key)
  pub many : length read ≡ full * chunk
  pub were : AllByRecursion (WasRead infos history cursors) read
  pub unread : AllByRecursion (WasUnread begun) read
  pub apart : AreApart read
  pub later : AllZip IsLaterCursor begun cursors

-- Two watermarks were written for each window that was read; each window is closed, but for one that may be waiting.
pub record IsCounted (infos : List TableInfo) (chunk number closed : ℕ) (old new : History) (window : Window)
    (begun cursors : List Cursor) : Type 0 where
  pub marks : length (marks_in new.commits) ≡ length (marks_in old.commits) + 2 * number
  pub windows : number ≡ closed + waiting window
  pub waits : IsWaiting infos chunk new cursors window
  pub come : HaveComeOn infos chunk closed new begun cursors
