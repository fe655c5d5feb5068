-- How many watermarks a session has written where it ends normally.
use Rattle.std.proofs.Common.{◌≡◌, ◌∙◌, ◌+◌, ℕ, Bool, Option, Some, None, List, Result, Ok, Err, refl, sym, ap, subst}
use Rattle.std.specs.Prelude.{IfOk, OnOk, not}
use Rattle.std.specs.List.{position}
use Rattle.dbl_topic.specs.Model.{SinkModel}
use Rattle.dbl_capture_work.specs.Source.Model.{SourceModel}
use Rattle.dbl_capture_work.specs.Disk.Model.{DiskModel}
use Rattle.dbl_capture_work.specs.ModelHistory.declared.cursor.Cursor.{Cursor}
use Rattle.dbl_capture_work.specs.SourceModel.Standings.{CrashState, left_of}
use Rattle.dbl_capture_work.specs.Offset.declared.offset.Offset.{Offset}
use Rattle.dbl_capture_work.specs.OffsetStore.Stores.{StoreOn}
use Rattle.dbl_capture_work.specs.Follow.declared.window.Window.{Window}
use Rattle.dbl_capture_work.specs.Follow.declared.window.Window.TheVariants.{Absent, Armed, Open}
use Rattle.dbl_capture_work.specs.Follow.Followed.{Following}
use Rattle.dbl_capture_work.specs.CaptureModel.Counted.{waiting}
use Rattle.dbl_capture_work.specs.CaptureModel.Entries.{SessionStart}
use Rattle.dbl_capture_work.specs.declared.halt.Halt.{Halt}
use Rattle.dbl_capture_work.specs.declared.report.Ending.{Ending}
use Rattle.dbl_capture_work.specs.declared.report.Ending.TheVariants.{Budget, Complete}
use Rattle.dbl_capture_work.specs.declared.work.SessionState.{SessionState}
use Rattle.dbl_capture_work.specs.Works.{next_offset_of}
use Rattle.dbl_capture_laws.proofs.Opened.{closed_rest, like_none, window_like}
use Rattle.dbl_capture_laws.proofs.Within.{open_absent, open_cursors}
use Rattle.dbl_capture_laws.specs.Ends.{HasNoneNext, table_to_read}
use Rattle.dbl_capture_laws.specs.Sessions.{InSession, state_at_stage}
use Rattle.dbl_capture_laws.specs.Written.{AreClosed, EndsExactly, marks_more}
use Rattle.dbl_capture_laws.proofs.Written.{marks_are_exact}

-- ---- no window is next

-- a store doesn't change it
table_same : (window : Window) (work : SessionState) → table_to_read window (record work { since = 0 }) ≡ table_to_read window work
table_same Absent work = refl
table_same (Armed chunk) work = refl
table_same (Open chunk) work = refl

pub none_settled : (armed work new : SessionState) → HasNoneNext armed → work ≡ armed → new ≡ record work { since = 0 } → HasNoneNext new
none_settled armed work new none same settled = subst HasNoneNext (sym settled) (table_same work.follower.window work ∙ subst HasNoneNext (sym same) none)

pub absent_settled : (work new : SessionState) → work.follower.window ≡ Absent → new ≡ record work { since = 0 } → new.follower.window ≡ Absent
absent_settled work new absent settled = subst (λ (w : SessionState). w.follower.window ≡ Absent) (sym settled) absent

-- ---- answers

pub exactly_by : (r : Result Ending Halt) (A B N W : Type 0) (P : Ending → Type 0) → OnOk r A → OnOk r B → OnOk r N → (r ≡ Ok Complete → W) → (A → B → N → P Budget) → (A → B → N → W → P Complete) → IfOk r P
exactly_by (Ok Complete) A B N W P a b n w budget complete = complete a b n (w refl)
exactly_by (Ok Budget) A B N W P a b n w budget complete = budget a b n
exactly_by (Err h) A B N W P a b n w budget complete = tt

-- ---- watermarks

module _ {S K D : Type 0} {tell : Bool} {source_model : SourceModel S} {sink_model : SinkModel K} {model : DiskModel D} {entry : SessionStart} {work : SessionState} {src : S} {sink : K} {store : StoreOn D}
    (t : InSession tell source_model sink_model model entry work src sink store) where
  counted : (chunks : ℕ) → AreClosed work chunks → t.stage.number ≡ chunks + waiting t.stage.following.window
  counted chunks closed = sym t.work_is.number_is ∙ (closed_rest t.ahead chunks closed ∙ ap (λ (f : Following). chunks + waiting f.window) t.work_is.follower_is)

  cursors_are : (next_offset_of work).cursors ≡ t.stage.following.cursors
  cursors_are = open_cursors t.stage.messages work t.ahead ∙ ap (λ (f : Following). f.cursors) t.work_is.follower_is

  infos_are : (next_offset_of work).infos ≡ t.stage.first.infos
  infos_are = ap (λ (o : Offset). o.infos) t.work_is.offset_is

  none_open : HasNoneNext work → t.stage.following.window ≡ Absent → position (λ cursor. not cursor.done) t.stage.following.cursors ≡ None
  none_open none absent =
      let own : work.follower.window ≡ Absent = like_none t.ahead.start.window work.follower.window (window_like t.ahead) (ap (λ (f : Following). f.window) t.work_is.follower_is ∙ absent) in
      subst (λ (l : List Cursor). position (λ cursor. not cursor.done) l ≡ None) cursors_are (ap (λ (w : Window). table_to_read w work) (sym own) ∙ none)

  pub exact_budget : (stored : Option Offset) (chunks : ℕ) → stored ≡ Some (next_offset_of work) → AreClosed work chunks → HasNoneNext work → EndsExactly entry stored chunks (marks_more Budget stored) t.stage.history
  exact_budget stored chunks is closed none =
      subst (λ (o : Option Offset). EndsExactly entry o chunks (marks_more Budget o) t.stage.history) (sym is)
      (marks_are_exact entry t.stage (next_offset_of work) chunks (counted chunks closed) infos_are cursors_are (none_open none) t.going.reading).0

  pub exact_complete : (stored : Option Offset) (chunks : ℕ) → stored ≡ Some (next_offset_of work) → AreClosed work chunks → HasNoneNext work → work.follower.window ≡ Absent → EndsExactly entry stored chunks (marks_more Complete stored) t.stage.history
  exact_complete stored chunks is closed none absent =
      subst (λ (o : Option Offset). EndsExactly entry o chunks (marks_more Complete o) t.stage.history) (sym is)
      ((marks_are_exact entry t.stage (next_offset_of work) chunks (counted chunks closed) infos_are cursors_are (none_open none) t.going.reading).1 (ap (λ (f : Following). f.window) (sym t.work_is.follower_is) ∙ open_absent t.stage.messages work t.ahead absent))

  pub exact_left : (stored : Option Offset) (chunks more : ℕ) (left : CrashState) → left ≡ left_of (state_at_stage t.stage) → EndsExactly entry stored chunks more t.stage.history → EndsExactly entry stored chunks more left.history
  exact_left stored chunks more left same exact = subst (λ (l : CrashState). EndsExactly entry stored chunks more l.history) (sym same) exact
