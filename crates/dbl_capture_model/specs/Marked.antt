-- The window that a session waits for, and the watermarks of it in the history. After Andreakis and Papapanagiotou, "DBLog: A Watermark
-- Based Change-Data-Capture Framework" (2020).
use Rattle.std.specs.Prelude.{◌≡◌, ℕ, ◌+◌, ◌≤◌, ◌<◌, ◌^◌, Some, List, slice_get}
use Rattle.dbl_model_table.specs.declared.table.TableInfo.{TableInfo}
use Rattle.dbl_faithful.specs.ModelHistory.History.{RawCommit, History}
use Rattle.dbl_faithful.specs.ModelHistory.History.RawBody.{Mark}
use Rattle.dbl_faithful.specs.ModelHistory.MarkTexts.{Side, mark_text}
use Rattle.dbl_follow.specs.Window.Plans.{Chunk, low_text, high_text}
use Rattle.dbl_follow.specs.Window.Changing.{AreLeft}
use Rattle.dbl_follow.specs.Window.Selected.{IsSelected}
use Rattle.dbl_follow.specs.Window.Laws.{between}
use Rattle.dbl_follow.specs.declared.window.Window.{Window}
use Rattle.dbl_follow.specs.declared.window.Window.TheVariants.{Absent, Armed, Open}

-- The commit with this index in the history is a watermark with this text.
pub record IsMarkAt (history : History) (value : List ℕ) (place : ℕ) : Type 0 where
  pub commit : RawCommit
  pub stands : slice_get history.commits place ≡ Some commit
  pub is_mark : commit.body ≡ Mark value

-- ---- watermarks of one session

-- Each watermark of this incarnation has the number of a window that was read and is above the position `begun`; and no two have one text.
pub record AreOwnMarks (incarnation number begun : ℕ) (history : History) : Type 0 where
  pub numbered : (place n : ℕ) (side : Side) (commit : RawCommit) → n < 2 ^ 64 → slice_get history.commits place ≡ Some commit
      → commit.body ≡ Mark (mark_text incarnation n side) → (n ≤ number) × (begun < commit.lsn.0)
  pub once : (place other n : ℕ) (side : Side) (one two : RawCommit) → n < 2 ^ 64 → slice_get history.commits place ≡ Some one
      → slice_get history.commits other ≡ Some two → one.body ≡ Mark (mark_text incarnation n side)
      → two.body ≡ Mark (mark_text incarnation n side)
      → place ≡ other

-- ---- the window

-- Both watermarks of an armed window are in the history, the low one first, and weren't read yet.
pub record IsArmedBefore (history : History) (read : ℕ) (chunk : Chunk) : Type 0 where
  pub low : ℕ
  pub high : ℕ
  pub low_is : IsMarkAt history (low_text chunk.plan) low
  pub high_is : IsMarkAt history (high_text chunk.plan) high
  pub not_yet : read ≤ low
  pub order : low < high

-- The high watermark of an open window is in the history and wasn't read yet.
pub record IsOpenBefore (history : History) (read : ℕ) (chunk : Chunk) : Type 0 where
  pub high : ℕ
  pub high_is : IsMarkAt history (high_text chunk.plan) high
  pub not_yet : read ≤ high

-- The watermarks that a window waits for are in the history and weren't read yet, whoever wrote their texts.
abbrev pub IsAwaited : History → ℕ → Window → Type 0
IsAwaited history read Absent = Unit {0}
IsAwaited history read (Armed chunk) = IsArmedBefore history read chunk
IsAwaited history read (Open chunk) = IsOpenBefore history read chunk

-- The window's rows were selected between its watermarks, which have the indexes `low` and `high` in the history.
pub record IsSelectedBetweenMarks (infos : List TableInfo) (history : History) (selected : Chunk) (low high : ℕ) : Type 0 where
  pub low_is : IsMarkAt history (low_text selected.plan) low
  pub high_is : IsMarkAt history (high_text selected.plan) high
  pub rows : IsSelected infos history (low + 1) high selected

-- An armed window, whose low watermark wasn't read yet.
pub record IsArmedAt (infos : List TableInfo) (history : History) (read : ℕ) (chunk : Chunk) : Type 0 where
  pub low : ℕ
  pub high : ℕ
  pub marked : IsSelectedBetweenMarks infos history chunk low high
  pub not_yet : read ≤ low

-- An open window, whose high watermark wasn't read yet: it has the selected rows that the changes read since its low watermark left.
pub record IsOpenAt (infos : List TableInfo) (history : History) (read : ℕ) (chunk : Chunk) : Type 0 where
  pub low : ℕ
  pub high : ℕ
  pub selected : Chunk
  pub marked : IsSelectedBetweenMarks infos history selected low high
  pub plan : chunk.plan ≡ selected.plan
  pub through : chunk.through ≡ selected.through
  pub done : chunk.done ≡ selected.done
  pub opened : low < read
  pub not_yet : read ≤ high
  pub left : AreLeft infos selected.plan.table selected.rows (between infos history (low + 1) read) chunk.rows

-- The window agrees with the history, of which the first `read` commits were read.
abbrev pub IsWindowAt : List TableInfo → History → ℕ → Window → Type 0
IsWindowAt infos history read Absent = Unit {0}
IsWindowAt infos history read (Armed chunk) = IsArmedAt infos history read chunk
IsWindowAt infos history read (Open chunk) = IsOpenAt infos history read chunk

-- The window is this session's, and the last one that it read.
abbrev pub IsOwnWindow : ℕ → ℕ → Window → Type 0
IsOwnWindow incarnation number Absent = Unit {0}
IsOwnWindow incarnation number (Armed chunk) = (chunk.plan.incarnation ≡ incarnation) × (chunk.plan.number ≡ number)
IsOwnWindow incarnation number (Open chunk) = (chunk.plan.incarnation ≡ incarnation) × (chunk.plan.number ≡ number)
