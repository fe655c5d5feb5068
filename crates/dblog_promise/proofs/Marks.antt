-- Marks that stand when a session begins are none of its own.
use Rattle.std.proofs.Common.{◌≡◌, ℕ, ◌<◌, ◌^◌, Some, List, ◌∙◌}
use Rattle.std.specs.Prelude.{slice_get}
use Rattle.dbl_model_history.specs.History.{RawCommit, History}
use Rattle.dbl_model_history.specs.History.RawBody.{Mark}
use Rattle.dbl_model_history.specs.MarkTexts.{Side, Low, High, mark_text}
use Rattle.dbl_capture_laws.specs.Follow.declared.window.Window.{Window}
use Rattle.dbl_capture_laws.specs.Follow.declared.window.Window.TheVariants.{Absent, Armed, Open}
use Rattle.dbl_capture_laws.specs.Follow.Followed.{awaited}
use Rattle.dbl_capture_laws.proofs.FollowStepLemmas.{nothing_done}
use Rattle.dbl_capture_laws.specs.Offset.declared.offset.Offset.{Offset}
use Rattle.dbl_capture_laws.specs.CaptureModel.Entries.{SessionStart, WasFaithful}
use Rattle.dbl_capture_laws.specs.CaptureModel.Marked.{IsOwnWindow}
use Rattle.dbl_capture_laws.proofs.CaptureModelStarting.{earlier_marks}
use Rattle.dblog_promise.specs.Runs.{BeginsSession}
use Rattle.dblog_promise.specs.RestartLaws.{OldMarksAreOthers, OldMarksDoNothing}

pub old_marks_are_others : OldMarksAreOthers
old_marks_are_others entry history first place number side commit faithful is less at =
    earlier_marks entry history first entry.offset is.grows is.incarnation_fits is.began faithful place number side commit less at

same_text : (a b n m : ℕ) (side : Side) (value : List ℕ) → a ≡ b → n ≡ m → Some (mark_text a n side) ≡ Some value → Mark value ≡ Mark (mark_text b m side)
same_text a b n m side value one two is = cc

module _ (entry : SessionStart) (history : History) (first : Offset) (place number : ℕ) (raw : RawCommit) (value : List ℕ) (faithful : WasFaithful entry) (is : BeginsSession entry history first) (less : number < 2 ^ 64)
    (at : slice_get history.commits place ≡ Some raw) (body : raw.body ≡ Mark value) where
  -- no window of the session waits for it
  none_waits : (window : Window) → IsOwnWindow first.incarnation number window → awaited window ≡ Some value → ⊥
  none_waits Absent own waits = cc
  none_waits (Armed chunk) own waits =
      old_marks_are_others entry history first place number Low raw faithful is less at
      (body ∙ same_text chunk.plan.incarnation first.incarnation chunk.plan.number number Low value own.0 own.1 waits)
  none_waits (Open chunk) own waits =
      old_marks_are_others entry history first place number High raw faithful is less at
      (body ∙ same_text chunk.plan.incarnation first.incarnation chunk.plan.number number High value own.0 own.1 waits)

pub old_marks_do_nothing : OldMarksDoNothing
old_marks_do_nothing entry history first place number raw value old new commit faithful is less at body mark own steps =
    nothing_done old new commit value entry.now mark (none_waits entry history first place number raw value faithful is less at body old.window own) steps
