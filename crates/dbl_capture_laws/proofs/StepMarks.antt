-- How many watermarks may be left.
use Rattle.std.proofs.Common.{◌≡◌, ◌∙◌, ◌+◌, ◌*◌, ◌≤◌, ℕ, Some, None, List, [], ◌∷◌, ◌++◌, length, refl, sym, ap, subst, arith, append-nil}
use Rattle.std.specs.Prelude.{not}
use Rattle.std.specs.List.{position}
use Rattle.dbl_capture_work.specs.ModelHistory.declared.cursor.Cursor.{Cursor}
use Rattle.dbl_capture_work.specs.ModelHistory.History.{RawBody, RawCommit}
use Rattle.dbl_capture_work.specs.ModelHistory.History.RawBody.{Changes, Mark, Alter}
use Rattle.dbl_capture_work.specs.SourceModel.Growth.{AreOthers, HasChanges, mark_in_body, marks_in}
use Rattle.dbl_capture_work.specs.Follow.declared.window.Window.{Window}
use Rattle.dbl_capture_work.specs.Follow.declared.window.Window.TheVariants.{Absent, Armed, Open}
use Rattle.dbl_capture_work.specs.Follow.Followed.{Following}
use Rattle.dbl_capture_work.specs.CaptureModel.Counted.{waiting}
use Rattle.dbl_capture_work.specs.CaptureModel.Entries.{SessionStart}
use Rattle.dbl_capture_work.specs.CaptureModel.Stages.{Stage}
use Rattle.dbl_capture_work.specs.declared.report.Ending.TheVariants.{Budget, Complete}
use Rattle.dbl_capture_work.specs.declared.work.SessionState.{SessionState}
use Rattle.dbl_capture_laws.specs.Sessions.{IsWorkOf}
use Rattle.dbl_capture_laws.proofs.Marks.{own_few}
use Rattle.dbl_capture_laws.specs.Written.{AreClosed, EndsExactly, marks_more}
use Rattle.dbl_capture_laws.proofs.Written.{few_marks_are_left, marks_append, marks_are_exact}
use Rattle.dbl_capture_laws.specs.Marks.{EndsLeaveExactMarks, OthersAddNoMarks, OthersLeaveFewMarks, WindowsLeaveFewMarks}

-- others' commits have no watermark
no_marks : (commits : List RawCommit) → AreOthers commits → marks_in commits ≡ []
no_marks [] others = refl
no_marks (c ∷ commits) others = by c.body others.0 (no_marks commits others.1)
  where
    by : (body : RawBody) → HasChanges body → marks_in commits ≡ [] → mark_in_body body ++ marks_in commits ≡ []
    by (Changes changes) has rest = rest
    by (Mark value) has rest = absurd has
    by (Alter name columns rows) has rest = rest

pub others_add_no_marks : OthersAddNoMarks
others_add_no_marks old new g =
    ap marks_in g.commits
    ∙ (marks_append old.commits g.others
    ∙ (ap (λ (l : List (List ℕ)). marks_in old.commits ++ l) (no_marks g.others g.are_others) ∙ append-nil (marks_in old.commits)))

one_waits : (w : Window) → waiting w ≤ 1
one_waits Absent = omega arith
one_waits (Armed chunk) = omega arith
one_waits (Open chunk) = omega arith

room : (k w : ℕ) → k ≡ 0 → w ≤ 1 → k + 2 * w ≤ 2
room k w none le = omega (arith, none, le)

room_absent : (k : ℕ) → k ≤ 2 → k + 2 * 0 ≤ 2
room_absent k le = omega (arith, le)

more_room : (a e c k : ℕ) → a ≤ e + 2 * (c + 1) → c ≤ k → a ≤ e + 2 * (k + 1)
more_room a e c k one two = omega (arith, one, two)

-- the windows that a report counts, by the stage
windows_at : (entry : SessionStart) (stage : Stage) (work : SessionState) (chunks : ℕ) → IsWorkOf entry stage work → AreClosed work chunks → stage.number ≡ chunks + waiting stage.following.window
windows_at entry stage work chunks is closed = sym is.number_is ∙ (closed ∙ ap (λ (f : Following). chunks + waiting f.window) is.follower_is)

pub others_leave_few_marks : OthersLeaveFewMarks
others_leave_few_marks entry stage work left chunks later is going closed le g =
    more_room (length (marks_in left.commits)) (length (marks_in entry.history.commits)) chunks later
    (few_marks_are_left entry stage left g.others chunks (windows_at entry stage work chunks is closed) (record { tables = g.tables; commits = g.commits })
    (room (length (marks_in g.others)) (waiting stage.following.window) (ap (λ (l : List (List ℕ)). length l) (no_marks g.others g.are_others)) (one_waits stage.following.window)) going.reading) le

pub windows_leave_few_marks : WindowsLeaveFewMarks
windows_leave_few_marks entry stage work plan left chunks is going closed absent may =
    few_marks_are_left entry stage left.history may.more chunks (windows_at entry stage work chunks is closed) may.grown
    (subst (λ (w : Window). length (marks_in may.more) + 2 * waiting w ≤ 2) (sym absent_at) (room_absent (length (marks_in may.more)) (own_few plan may.more may.count may.marks))) going.reading
  where
    absent_at : stage.following.window ≡ Absent
    absent_at = sym (ap (λ (f : Following). f.window) is.follower_is) ∙ absent

pub ends_leave_exact_marks : EndsLeaveExactMarks
ends_leave_exact_marks entry stage work offset chunks is going closed infos cursors none =
    (all.0, λ absent. all.1 (sym (ap (λ (f : Following). f.window) is.follower_is) ∙ absent))
  where
    none_at : stage.following.window ≡ Absent → position (λ (c : Cursor). not c.done) stage.following.cursors ≡ None
    none_at absent = subst (λ (f : Following). position (λ (c : Cursor). not c.done) f.cursors ≡ None) is.follower_is (none (ap (λ (f : Following). f.window) is.follower_is ∙ absent))

    all : EndsExactly entry (Some offset) chunks (marks_more Budget (Some offset)) stage.history × (stage.following.window ≡ Absent → EndsExactly entry (Some offset) chunks (marks_more Complete (Some offset)) stage.history)
    all = marks_are_exact entry stage offset chunks (windows_at entry stage work chunks is closed) infos (cursors ∙ ap (λ (f : Following). f.cursors) is.follower_is) none_at going.reading
