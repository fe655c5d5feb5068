-- What a session has read is extended from call to call, and its report counts it.
use Rattle.std.specs.Prelude.{◌≡◌, ℕ, ℤ, ◌+◌, ◌≤◌, ◌++◌, Option, Some, List, [], ◌∷◌, length}
use Rattle.dbl_base.specs.declared.lsn.Lsn.{Lsn}
use Rattle.dbl_pgmsg.specs.declared.messages.Message.{Message}
use Rattle.dbl_pgmsg.specs.Grammar.{Spells}
use Rattle.dbl_model_table.specs.declared.config.Config.{Config}
use Rattle.dbl_capture_work.specs.ModelCommit.Stated.{ended_commit, list_of}
use Rattle.dbl_capture_work.specs.SourceModel.Standings.{SourceState}
use Rattle.dbl_capture_work.specs.SourceModel.Trace.{Trace, IsTakenAnew, IsTakenBy}
use Rattle.dbl_capture_work.specs.Offset.declared.offset.Offset.{Offset}
use Rattle.dbl_capture_work.specs.CaptureModel.Stages.{IsOfSession}
use Rattle.dbl_capture_work.specs.declared.halt.Halt.{Halt}
use Rattle.dbl_capture_work.specs.declared.report.Report.{Report}
use Rattle.dbl_capture_work.specs.declared.work.SessionState.{SessionState}
use Rattle.dbl_capture_work.specs.Begins.{IsOffsetFor}
use Rattle.dbl_capture_work.specs.Works.{BeginsWithOffset, IsWork, next_offset_of}
use Rattle.dbl_capture_laws.specs.Reported.{HasReadSo, HasSettled, HasStood, HasStopped, HasTakenMessages, IsFollowed, IsLeftOut}
use Rattle.dbl_capture_laws.specs.Reported.{IsPlacedOf, StandsAfter, StoodAtLast, TellsSoMany, course_from, course_of, end_after}

-- ---- the beginning

-- A session begins with nothing read, by the source's trace, and by its state if that is where reading begins.
abbrev pub SessionsBeginUnread : Type 0
SessionsBeginUnread = (first : Offset) (now : ℤ) (chunk every : ℕ) (work : SessionState) (told : Option Trace) (report : Report)
    (t : SourceState)
    → BeginsWithOffset first now chunk every work → report.messages ≡ 0 → report.commits ≡ 0
    → HasTakenMessages first.lsn first.end_lsn told told report work
    × (t.reading ≡ Some (record { after = first.lsn; messages = [] }) → StandsAfter first.lsn first.end_lsn report work t)

-- ---- one message more

-- The next message is taken, and the commit that it ends, if any, is followed.
pub record ReadsOne (ms : List Message) (m : Message) (before report : Report) (old new : SessionState) : Type 0 where
  pub infos : new.offset.infos ≡ old.offset.infos
  pub end_is : new.offset.end_lsn ≡ end_after old.offset.end_lsn (list_of (ended_commit old.offset.infos m ms))
  pub messages : report.messages ≡ before.messages + 1
  pub commits : report.commits ≡ before.commits + length (list_of (ended_commit old.offset.infos m ms))

-- One message more is taken, by the source's trace.
abbrev pub MessagesAreTaken : Type 0
MessagesAreTaken = (after end : Lsn) (start old new : Option Trace) (before report : Report) (work next : SessionState) (bytes : List ℕ)
    (m : Message)
    → (t : HasTakenMessages after end start old before work) → IsTakenBy (bytes ∷ []) old new → Spells bytes m
    → ReadsOne t.messages m before report work next → IsWork after (m ∷ t.messages) next
    → HasTakenMessages after end start new report next

-- One message more is taken, by the source's state.
abbrev pub SourcesStandAfter : Type 0
SourcesStandAfter = (after end : Lsn) (before report : Report) (work next : SessionState) (s t : SourceState) (m : Message)
    → (b : StandsAfter after end before work s) → t.reading ≡ Some (record { after = after; messages = m ∷ b.messages })
    → ReadsOne b.messages m before report work next → IsWork after (m ∷ b.messages) next
    → StandsAfter after end report next t

-- ---- when it stops

-- A stop between two messages has followed all that was read.
abbrev pub HaltsBetween : Type 0
HaltsBetween = (after end : Lsn) (start old new : Option Trace) (before report : Report) (work : SessionState) (h : Halt)
    → HasTakenMessages after end start old before work → IsTakenBy [] old new → IsLeftOut h 0
    → report.messages ≡ before.messages → report.commits ≡ before.commits
    → HasStopped (course_of after work) start new report h

-- A stop at one message more doesn't count what that states.
abbrev pub HaltsAtMessages : Type 0
HaltsAtMessages =
    (after end : Lsn) (start old new : Option Trace) (before report : Report) (work : SessionState) (bytes : List ℕ) (h : Halt)
    → HasTakenMessages after end start old before work → IsTakenBy (bytes ∷ []) old new → IsLeftOut h 1
    → report.messages ≡ before.messages + 1 → report.commits ≡ before.commits
    → HasStopped (course_of after work) start new report h

-- A stop has followed all but at most the newest message, by the source's state.
abbrev pub SourcesStoodSo : Type 0
SourcesStoodSo = (after end : Lsn) (before report : Report) (work : SessionState) (s t : SourceState) (newest : List Message) (h : Halt)
    → (b : StandsAfter after end before work s) → t.reading ≡ Some (record { after = after; messages = newest ++ b.messages })
    → IsLeftOut h (length newest) → report.messages ≡ before.messages + length newest → report.commits ≡ before.commits
    → HasStood (course_of after work) report t h

-- ---- a whole session

-- A stop's report counts the commits that were followed and the messages that were read, by the source's trace.
abbrev pub StopsAreFollowed : Type 0
StopsAreFollowed = (config : Config) (now : ℤ) (found begun told : Option Trace) (first stored : Offset) (held : Option Offset)
    (report : Report) (h : Halt)
    → IsOffsetFor config held first → IsOfSession first stored → IsTakenAnew found begun
    → HasStopped (course_from first now) begun told report h
    → IsFollowed config now held (Some stored) report told h × TellsSoMany report.messages told

-- A stop's report counts the commits that were followed and the messages that were read, by the source's state.
abbrev pub StoodAreFollowed : Type 0
StoodAreFollowed = (config : Config) (now : ℤ) (first stored : Offset) (held : Option Offset) (report : Report) (t : SourceState) (h : Halt)
    → IsOffsetFor config held first → IsOfSession first stored
    → HasStood (course_from first now) report t h → HasReadSo config now held (Some stored) report t h

-- A normal end has stored the last commit that was read, by the source's trace.
abbrev pub EndsStandAtLast : Type 0
EndsStandAtLast = (config : Config) (found begun told : Option Trace) (first : Offset) (held : Option Offset) (report : Report)
    (work : SessionState)
    → IsOffsetFor config held first → IsPlacedOf first work.offset → IsTakenAnew found begun
    → HasTakenMessages first.lsn first.end_lsn begun told report work
    → StoodAtLast config work.now_ms held (Some (next_offset_of work)) report told

-- A normal end has stored and confirmed the last commit that was read, by the source's state.
abbrev pub SourcesSettle : Type 0
SourcesSettle = (config : Config) (first : Offset) (held : Option Offset) (report : Report) (work : SessionState) (t : SourceState)
    → IsOffsetFor config held first → IsPlacedOf first work.offset → StandsAfter first.lsn first.end_lsn report work t
    → work.offset.lsn.0 ≤ t.confirmed.0
    → HasSettled config work.now_ms held (Some (next_offset_of work)) report t
