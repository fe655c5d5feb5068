-- How many watermarks a session writes, compared with the windows that it closes, and how far these advance its cursors.
use Rattle.std.specs.Prelude.{◌≡◌, ◌⊎◌, ℕ, ◌+◌, ◌*◌, ◌<◌, ◌^◌, ◌≤◌, true, false, if◌then◌else◌, is_some, not, position, Option, Some, None, List, [], ◌++◌, length}
use Rattle.std.specs.List.{AllByRecursion, list_all}
use Rattle.dbl_model_table.specs.declared.change.Commit.{Commit}
use Rattle.dbl_capture_work.specs.ModelHistory.declared.cursor.Cursor.{Cursor}
use Rattle.dbl_capture_work.specs.ModelHistory.History.{RawCommit, History}
use Rattle.dbl_capture_work.specs.SourceModel.Growth.{marks_in}
use Rattle.dbl_capture_work.specs.Offset.declared.offset.Offset.{Offset}
use Rattle.dbl_capture_work.specs.Faithful.Lag.{IsUnread}
use Rattle.dbl_capture_work.specs.Faithful.Kept.{HasGrown}
use Rattle.dbl_record.specs.declared.record.Record.{Record}
use Rattle.dbl_capture_work.specs.Follow.Steps.{mark_of, records_by}
use Rattle.dbl_capture_work.specs.Follow.declared.window.Window.TheVariants.{Absent}
use Rattle.dbl_capture_work.specs.CaptureModel.Counted.{HaveComeOn, waiting}
use Rattle.dbl_capture_work.specs.CaptureModel.Entries.{SessionStart}
use Rattle.dbl_capture_work.specs.CaptureModel.Going.{IsReading}
use Rattle.dbl_capture_work.specs.CaptureModel.Stages.{Stage}
use Rattle.dbl_capture_work.specs.declared.report.Ending.{Ending}
use Rattle.dbl_capture_work.specs.declared.report.Ending.TheVariants.{Complete, Budget}
use Rattle.dbl_capture_work.specs.declared.report.Report.{Report}
use Rattle.dbl_capture_work.specs.declared.work.SessionState.{SessionState}
use Rattle.dbl_capture_work.specs.Takes.{ReportsStep, WasStepped}
use Rattle.dbl_capture_work.specs.Works.{IsArmedWork}

-- ---- watermarks

-- The watermarks of a window that isn't closed: two if the stored cursors have an unfinished table.
abbrev pub marks_of_open : Option Offset → ℕ
marks_of_open None = 0
marks_of_open (Some offset) = if list_all (λ cursor. cursor.done) offset.cursors then 0 else 2

-- The watermarks beyond those of closed windows: the next window's if the budget was used up, and none if the session is complete.
abbrev pub marks_more : Ending → Option Offset → ℕ
marks_more Complete stored = 0
marks_more Budget stored = marks_of_open stored

-- Exactly two watermarks were added for each closed window, and so many more.
abbrev pub AddsExactly : ℕ → ℕ → History → History → Type 0
AddsExactly chunks more old new = length (marks_in new.commits) ≡ length (marks_in old.commits) + 2 * chunks + more

-- At most two watermarks were added for each closed window, and two more.
abbrev pub AddsNoMore : ℕ → History → History → Type 0
AddsNoMore chunks old new = length (marks_in new.commits) ≤ length (marks_in old.commits) + 2 * (chunks + 1)

-- `AddsNoMore`, or no watermark was added if no offset is stored.
abbrev pub AddsAtMost : Option Offset → ℕ → History → History → Type 0
AddsAtMost None chunks old new = marks_in new.commits ≡ marks_in old.commits
AddsAtMost (Some offset) chunks old new = AddsNoMore chunks old new

-- ---- cursors

-- The cursors with which a session began: those of the offset that it found, or else unread ones.
abbrev pub WereBegun : Option Offset → List Cursor → Type 0
WereBegun None cursors = AllByRecursion IsUnread cursors
WereBegun (Some found) cursors = cursors ≡ found.cursors

-- The closed windows, each of at most `chunk` rows, advanced the cursors from those at the beginning to those of the stored offset.
pub record HaveBrought (chunk chunks : ℕ) (history : History) (found stored : Option Offset) : Type 0 where
  pub begun : List Cursor
  pub begun_with : WereBegun found begun
  pub offset : Offset
  pub is : stored ≡ Some offset
  pub advanced : HaveComeOn offset.infos chunk chunks history begun offset.cursors

-- The history is the older one with further commits.
abbrev pub IsLonger : History → History → Type 0
IsLonger old new = (more : List RawCommit) × HasGrown old new more

-- The stored offset is the one that was found, or at most so many closed windows advanced the cursors to its own.
abbrev pub AdvancesAtMost : ℕ → ℕ → History → Option Offset → Option Offset → Type 0
AdvancesAtMost chunk chunks history found stored =
    (stored ≡ found) ⊎ ((windows : ℕ) × (windows ≤ chunks) × HaveBrought chunk windows history found stored)

-- Exactly so many watermarks were added, and the closed windows advanced the cursors to those of the stored offset.
abbrev pub EndsExactly : SessionStart → Option Offset → ℕ → ℕ → History → Type 0
EndsExactly entry stored chunks more history =
    AddsExactly chunks more entry.history history × HaveBrought entry.config.chunk chunks history entry.offset stored

-- ---- windows

-- The windows that were read are the closed ones, and one that may wait.
abbrev pub AreClosed : SessionState → ℕ → Type 0
AreClosed work chunks = work.number ≡ chunks + waiting work.follower.window

-- A window that is read becomes the one that waits.
abbrev pub ReadWindowsWait : Type 0
ReadWindowsWait = (old new : SessionState) (table chunks : ℕ) → old.follower.window ≡ Absent → IsArmedWork table old new
    → AreClosed old chunks → AreClosed new chunks

-- A report counts the window that a followed commit closes, while fewer than 2^64 windows were read.
abbrev pub StepsCloseWindows : Type 0
StepsCloseWindows = (commit : Commit) (old new : SessionState) (put rest : List Record) (before after : Report) → old.number < 2 ^ 64
    → WasStepped commit old new → records_by old.follower commit old.now_ms ≡ put ++ rest → (put ≡ []) ⊎ (is_some (mark_of commit) ≡ false)
    → ReportsStep (is_some (mark_of commit)) rest before after true
    → AreClosed old before.chunks → AreClosed new after.chunks

-- ---- what is left

-- If a conforming source gained at most two watermarks since the session's last state, and none while a window waits, the session added at
-- most two for each closed window, and two more.
abbrev pub FewMarksAreLeft : Type 0
FewMarksAreLeft = (entry : SessionStart) (stage : Stage) (history : History) (more : List RawCommit) (chunks : ℕ)
    → stage.number ≡ chunks + waiting stage.following.window
    → HasGrown stage.history history more → length (marks_in more) + 2 * waiting stage.following.window ≤ 2
    → IsReading entry stage → AddsNoMore chunks entry.history history

-- If no window is left to read, the number of watermarks is exact, and the closed windows account for the cursors.
abbrev pub MarksAreExact : Type 0
MarksAreExact = (entry : SessionStart) (stage : Stage) (offset : Offset) (chunks : ℕ)
    → stage.number ≡ chunks + waiting stage.following.window
    → offset.infos ≡ stage.first.infos → offset.cursors ≡ stage.following.cursors
    → (stage.following.window ≡ Absent → position (λ cursor. not cursor.done) stage.following.cursors ≡ None)
    → IsReading entry stage
    → EndsExactly entry (Some offset) chunks (marks_more Budget (Some offset)) stage.history
    × (stage.following.window ≡ Absent → EndsExactly entry (Some offset) chunks (marks_more Complete (Some offset)) stage.history)
