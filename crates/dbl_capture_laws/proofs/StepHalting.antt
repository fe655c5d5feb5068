-- The cause of a session's halt, at each of its calls.
use Rattle.std.proofs.Common.{◌≡◌, ◌⊎◌, inl, inr, ◌+◌, ℕ, ℤ, Option, Some, None, List, [], ◌∷◌, refl, sym, subst}
use Rattle.dbl_pgmsg.specs.declared.messages.Message.{Message}
use Rattle.dbl_model_table.specs.declared.change.Change.{Change}
use Rattle.dbl_model_table.specs.declared.change.Commit.{Commit}
use Rattle.dbl_model_table.specs.declared.config.Config.{Config}
use Rattle.dbl_capture_work.specs.ModelCommit.declared.piece.Piece.TheVariants.{Changed}
use Rattle.dbl_capture_work.specs.SourceModel.Trace.{Trace, IsTakenBy, Read, LastAnswerIs}
use Rattle.dbl_capture_work.specs.Offset.declared.offset.Offset.{Offset}
use Rattle.dbl_capture_work.specs.Offset.Offsets.{IsOffset}
use Rattle.dbl_capture_work.specs.SourceLog.declared.error.SourceError.{SourceError}
use Rattle.dbl_capture_work.specs.SourceLog.declared.error.SourceError.TheVariants as source
use Rattle.dbl_capture_work.specs.Follow.declared.window.Window.TheVariants.{Absent}
use Rattle.dbl_capture_work.specs.Follow.Followed.{awaited}
use Rattle.dbl_capture_work.specs.Follow.Steps.{clash_by, records_by}
use Rattle.dbl_capture_work.specs.declared.halt.Halt.{Halt}
use Rattle.dbl_capture_work.specs.declared.halt.Halt.TheVariants as halt
use Rattle.dbl_capture_work.specs.declared.report.Report.{Report}
use Rattle.dbl_capture_work.specs.declared.work.SessionState.{SessionState}
use Rattle.dbl_capture_work.specs.Begins.{IsTooLong}
use Rattle.dbl_capture_work.specs.Causes.{IsChunkHalt, IsLongRecord}
use Rattle.dbl_capture_work.specs.Halts.{source_halt}
use Rattle.dbl_capture_work.specs.Takes.{HasTakenPiece, IsClashIn, IsMessageHalt, IsTxnHalt, WasTaken}
use Rattle.dbl_capture_work.specs.Works.{IsOpenTable, next_offset_of}
use Rattle.dbl_capture_laws.specs.Halted.{IsHalt}
use Rattle.dbl_capture_laws.specs.Written.{AreClosed}
use Rattle.dbl_capture_laws.specs.Underway.{IsBetweenMessages, IsOpenHalt}
use Rattle.dbl_capture_laws.specs.Carried.{HasReadSinceStart, Beginning, IsReadUpTo, IsResting}
use Rattle.dbl_capture_laws.proofs.Causes.{bytes_halt, marks_are_missed, messages_halt, offsets_halt, windows_halt}
use Rattle.dbl_capture_laws.proofs.Ended.{has_taken}
use Rattle.dbl_capture_laws.proofs.OpenCommits.{IsOpenCause, open_newest}
use Rattle.dbl_capture_laws.proofs.Unread.{sessions_halt_unread}

module _ (config : Config) (now : ℤ) (held stored : Option Offset) (report : Report) (told : Option Trace) where
  pub memory_caused : (h : Halt) → h ≡ halt.Memory → IsHalt config now held stored report told h
  memory_caused h is = subst (IsHalt config now held stored report told) (sym is) tt

  pub source_caused : (e : SourceError) → IsHalt config now held stored report told (source_halt e)
  source_caused source.Failed = tt
  source_caused source.Memory = tt

  -- before it reads
  pub open_caused : (h : Halt) → IsOpenHalt config held stored told h → IsHalt config now held stored report told h
  open_caused h is = sessions_halt_unread config now held stored report told h is

-- while it reads
module _ (b : Beginning) (ms : List Message) (stored : Option Offset) (work : SessionState) where
  pub between : (report : Report) (r : IsResting b ms stored work report) → IsBetweenMessages work r.is.offset report.chunks
  between report r = record { cursors = r.same; windows = r.is.windows }

  held_as : (report : Report) (told : Option Trace) (is : IsReadUpTo b ms stored work report) (after : Report) (h : Halt) → IsHalt b.config b.now b.held (Some is.offset) after told h → IsHalt b.config b.now b.held stored after told h
  held_as report told is after h x =
      subst (λ (o : Option Offset). IsHalt b.config b.now b.held o after told h) (sym is.stored_is) x

  -- for the rows of its next window
  pub chunk_caused : (report : Report) (table : ℕ) (told : Option Trace) (h : Halt) → IsResting b ms stored work report → work.follower.window ≡ Absent → IsOpenTable work table → IsChunkHalt work table told h
      → IsHalt b.config b.now b.held stored report told h
  chunk_caused report table told h r absent unread chunk =
      held_as report told r.is report h (windows_halt b.config b.now b.held b.first r.is.offset work report table told h r.is.of (between report r) absent unread chunk)

  -- for the newest bytes, or the message that they spell
  pub taken_caused : (before : Report) (found old new : Option Trace) (bytes : List ℕ) (h : Halt) → IsResting b ms stored work before → HasReadSinceStart found old ms → IsTakenBy (bytes ∷ []) old new
      → (h ≡ halt.Memory) ⊎ (IsMessageHalt (before.messages + 1) bytes h ⊎ IsTxnHalt (before.messages + 1) b.first.lsn ms bytes work h)
      → IsHalt b.config b.now b.held stored (record before { messages = before.messages + 1 }) new h
  taken_caused before found old new bytes h r a one (inl memory) = memory_caused b.config b.now b.held stored (record before { messages = before.messages + 1 }) new h memory
  taken_caused before found old new bytes h r a one (inr (inl message)) =
      held_as before new r.is (record before { messages = before.messages + 1 }) h
      (bytes_halt b.config b.now b.held b.first r.is.offset work before (record before { messages = before.messages + 1 }) found a.begun old new bytes h r.is.of a.begun_unread (has_taken b ms stored work before found old r.is a) one refl message)
  taken_caused before found old new bytes h r a one (inr (inr txn)) =
      held_as before new r.is (record before { messages = before.messages + 1 }) h
      (messages_halt b.config b.now b.held b.first r.is.offset work before (record before { messages = before.messages + 1 }) found a.begun old new bytes h r.is.of (between before r) a.begun_unread (has_taken b ms stored work before found old r.is a) r.is.so_far one refl (inl txn))

  -- for the records of the commit that it ends
  pub follow_caused : (before report : Report) (found old new : Option Trace) (bytes : List ℕ) (next : SessionState) (commit : Commit) (h : Halt) → IsResting b ms stored work before → HasReadSinceStart found old ms → IsTakenBy (bytes ∷ []) old new
      → WasTaken b.first.lsn ms bytes work next (Some commit) → report.messages ≡ before.messages + 1 → report.chunks ≡ before.chunks
      → (h ≡ halt.Memory) ⊎ ((h ≡ halt.Sink) ⊎ (IsClashIn (clash_by next.follower commit) h ⊎ ((clash_by next.follower commit ≡ None) × IsLongRecord (records_by next.follower commit next.now_ms) h)))
      → IsHalt b.config b.now b.held stored report new h
  follow_caused before report found old new bytes next commit h r a one w counted same (inl memory) = memory_caused b.config b.now b.held stored report new h memory
  follow_caused before report found old new bytes next commit h r a one w counted same (inr (inl failed)) = subst (IsHalt b.config b.now b.held stored report new) (sym failed) tt
  follow_caused before report found old new bytes next commit h r a one w counted same (inr (inr either)) =
      held_as before new r.is report h
      (messages_halt b.config b.now b.held b.first r.is.offset work before report found a.begun old new bytes h r.is.of (record { cursors = r.same; windows = subst (AreClosed work) (sym same) r.is.windows }) a.begun_unread (has_taken b ms stored work before found old r.is a) r.is.so_far one counted (inr (inr (next, commit, w, either))))

  -- for the records of changes that it states
  pub changes_caused : (before report : Report) (found old new : Option Trace) (bytes : List ℕ) (next : SessionState) (changes : List Change) (h : Halt) → IsResting b ms stored work before → HasReadSinceStart found old ms → IsTakenBy (bytes ∷ []) old new
      → (p : HasTakenPiece b.first.lsn ms bytes work next (Changed changes)) → report.messages ≡ before.messages + 1 → report.chunks ≡ before.chunks
      → (h ≡ halt.Memory) ⊎ ((h ≡ halt.Sink) ⊎ IsOpenCause next (p.taken.message ∷ ms) h)
      → IsHalt b.config b.now b.held stored report new h
  changes_caused before report found old new bytes next changes h r a one p counted same (inl memory) = memory_caused b.config b.now b.held stored report new h memory
  changes_caused before report found old new bytes next changes h r a one p counted same (inr (inl failed)) = subst (IsHalt b.config b.now b.held stored report new) (sym failed) tt
  changes_caused before report found old new bytes next changes h r a one p counted same (inr (inr either)) =
      held_as before new r.is report h
      (messages_halt b.config b.now b.held b.first r.is.offset work before report found a.begun old new bytes h r.is.of (record { cursors = r.same; windows = subst (AreClosed work) (sym same) r.is.windows }) a.begun_unread (has_taken b ms stored work before found old r.is a) r.is.so_far one counted
      (inr (inl (open_newest b.first.lsn ms bytes work next changes h p r.is.so_far either))))

  -- for a watermark that it waits for
  pub missed_caused : (report : Report) (found told : Option Trace) (value : List ℕ) → IsResting b ms stored work report → HasReadSinceStart found told ms → awaited work.follower.window ≡ Some value → LastAnswerIs told (Read None)
      → IsHalt b.config b.now b.held stored report told (halt.WatermarkMissing value work.offset.lsn)
  missed_caused report found told value r a waits answer =
      held_as report told r.is report (halt.WatermarkMissing value work.offset.lsn)
      (marks_are_missed b.config b.now b.held b.first r.is.offset work report found a.begun told value r.is.of (between report r) a.begun_unread (has_taken b ms stored work report found told r.is a) r.is.opened waits answer)

  -- for its next offset
  pub store_caused : (report : Report) (found told : Option Trace) (h : Halt) → IsReadUpTo b ms stored work report → HasReadSinceStart found told ms → IsOffset (next_offset_of work) → (h ≡ halt.Memory) ⊎ ((h ≡ halt.Offsets) ⊎ IsTooLong (next_offset_of work) h)
      → IsHalt b.config b.now b.held stored report told h
  store_caused report found told h is a asked (inl memory) = memory_caused b.config b.now b.held stored report told h memory
  store_caused report found told h is a asked (inr (inl failed)) = subst (IsHalt b.config b.now b.held stored report told) (sym failed) tt
  store_caused report found told h is a asked (inr (inr long)) =
      held_as report told is report h
      (offsets_halt b.config b.now b.held b.first is.offset work report found a.begun told h is.of a.begun_unread (has_taken b ms stored work report found told is a) is.moves asked long)
