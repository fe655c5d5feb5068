-- How many watermarks a session over a conforming source may leave at any end.
use Rattle.std.specs.Prelude.{◌≡◌, ℕ, ◌≤◌, not, position, Some, None}
use Rattle.dbl_capture_work.specs.ModelHistory.History.{History}
use Rattle.dbl_capture_work.specs.SourceModel.Growth.{Grows, marks_in}
use Rattle.dbl_capture_work.specs.SourceModel.Standings.{CrashState}
use Rattle.dbl_capture_work.specs.Offset.declared.offset.Offset.{Offset}
use Rattle.dbl_capture_work.specs.Window.Plans.{Plan}
use Rattle.dbl_capture_work.specs.Follow.declared.window.Window.TheVariants.{Absent}
use Rattle.dbl_capture_work.specs.CaptureModel.Entries.{SessionStart}
use Rattle.dbl_capture_work.specs.CaptureModel.Going.{IsGoing}
use Rattle.dbl_capture_work.specs.CaptureModel.Stages.{Stage}
use Rattle.dbl_capture_work.specs.declared.report.Ending.TheVariants.{Budget, Complete}
use Rattle.dbl_capture_work.specs.declared.work.SessionState.{SessionState}
use Rattle.dbl_capture_work.specs.Windowed.{MayHaveMarks, own_marks}
use Rattle.dbl_capture_laws.specs.Sessions.{IsWorkOf, state_at_stage}
use Rattle.dbl_capture_laws.specs.Written.{AddsNoMore, AreClosed, EndsExactly, marks_more}

-- Commits of others add no watermark.
abbrev pub OthersAddNoMarks : Type 0
OthersAddNoMarks = (old new : History) → Grows old new → marks_in new.commits ≡ marks_in old.commits

-- At most two watermarks are left for each closed window, and two more, if others have committed since.
abbrev pub OthersLeaveFewMarks : Type 0
OthersLeaveFewMarks = (entry : SessionStart) (stage : Stage) (work : SessionState) (left : History) (chunks later : ℕ)
    → IsWorkOf entry stage work → IsGoing entry stage → AreClosed work chunks → chunks ≤ later → Grows stage.history left
    → AddsNoMore later entry.history left

-- A stop within a window leaves at most two watermarks for each closed window, and two more.
abbrev pub WindowsLeaveFewMarks : Type 0
WindowsLeaveFewMarks = (entry : SessionStart) (stage : Stage) (work : SessionState) (plan : Plan) (left : CrashState) (chunks : ℕ)
    → IsWorkOf entry stage work → IsGoing entry stage → AreClosed work chunks → work.follower.window ≡ Absent
    → MayHaveMarks (own_marks plan) (state_at_stage stage) left
    → AddsNoMore chunks entry.history left.history

-- A session that has stored its cursors, and has no window left to read, leaves exactly the reported watermarks, and the closed windows
-- account for its cursors.
abbrev pub EndsLeaveExactMarks : Type 0
EndsLeaveExactMarks = (entry : SessionStart) (stage : Stage) (work : SessionState) (offset : Offset) (chunks : ℕ)
    → IsWorkOf entry stage work → IsGoing entry stage → AreClosed work chunks → offset.infos ≡ stage.first.infos
    → offset.cursors ≡ work.follower.cursors
    → (work.follower.window ≡ Absent → position (λ cursor. not cursor.done) work.follower.cursors ≡ None)
    → EndsExactly entry (Some offset) chunks (marks_more Budget (Some offset)) stage.history
    × (work.follower.window ≡ Absent → EndsExactly entry (Some offset) chunks (marks_more Complete (Some offset)) stage.history)
