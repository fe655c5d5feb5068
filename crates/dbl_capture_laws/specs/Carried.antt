-- What a session keeps from call to call, by the messages that it has taken, and what its report says at its end.
use Rattle.std.specs.Prelude.{◌≡◌, ◌⊎◌, ℕ, ℤ, ◌+◌, ◌<◌, ◌≤◌, ◌^◌, ◌∷◌, ◌++◌, [], false, is_some, true, Option, Some, None, IfSome, Ok, Err, List, length}
use Rattle.dbl_base.specs.declared.lsn.Lsn.{Lsn}
use Rattle.dbl_pgmsg.specs.declared.messages.Message.{Message}
use Rattle.dbl_pgmsg.specs.Grammar.{Spells}
use Rattle.dbl_model_table.specs.declared.config.Config.{Config}
use Rattle.dbl_model_table.specs.declared.change.Commit.{Commit}
use Rattle.dbl_capture_work.specs.ModelCommit.Stated.{commits_of}
use Rattle.dbl_capture_work.specs.SourceModel.Standings.{SourceState}
use Rattle.dbl_capture_work.specs.SourceModel.Trace.{Trace, IsTakenAnew, IsTakenBy}
use Rattle.dbl_capture_work.specs.Offset.declared.offset.Offset.{Offset}
use Rattle.dbl_capture_work.specs.Follow.declared.window.Window.TheVariants.{Absent}
use Rattle.dbl_record.specs.declared.record.Record.{Record}
use Rattle.dbl_capture_work.specs.Follow.Steps.{mark_of, records_by}
use Rattle.dbl_capture_work.specs.declared.halt.Halt.{Halt}
use Rattle.dbl_capture_work.specs.declared.halt.Halt.TheVariants as halt
use Rattle.dbl_capture_work.specs.declared.report.Ending.{Ending}
use Rattle.dbl_capture_work.specs.declared.report.Report.{Report}
use Rattle.dbl_capture_work.specs.declared.work.SessionState.{SessionState}
use Rattle.dbl_capture_work.specs.Begins.{IsOffsetFor}
use Rattle.dbl_capture_work.specs.Takes.{IsMessageHalt, ReportsStep, WasStepped, WasTaken, closes}
use Rattle.dbl_capture_work.specs.Works.{AreShort, CouldBeSentSoFar, IsArmedWork, BeginsWithOffset, IsOpenTable, IsWork, next_offset_of}
use Rattle.dbl_capture_laws.specs.Written.{AreClosed}
use Rattle.dbl_capture_laws.specs.Reported.{AreSpelled, HasReadMessages, HasSettled, HasStoodAfter}
use Rattle.dbl_capture_laws.specs.Reported.{IsFollowed, IsLeftOut, StoodAtLast, TellsSoMany, end_after}
use Rattle.dbl_capture_laws.specs.Halted.{MovesOne}
use Rattle.dbl_capture_laws.specs.Musts.{MustHaltStood, MustHaltTold}
use Rattle.dbl_capture_laws.specs.Underway.{IsNewestHalt, IsOfFirst, IsOpenHalt, IsOpenedBy, IsSentNewest}

-- ---- what a session keeps

-- A session's configuration and the time of its records; the offset that it found, and the first one that it stored.
pub record Beginning : Type 0 where
  pub config : Config
  pub now : ℤ
  pub held : Option Offset
  pub first : Offset

-- The invariant after a message: the messages were taken, and their commits followed and counted. At most one cursor has moved since a
-- store, and no offset is stored beyond the session's position.
pub record IsReadUpTo (b : Beginning) (ms : List Message) (stored : Option Offset) (work : SessionState) (report : Report) : Type 0 where
  pub offset : Offset
  pub stored_is : stored ≡ Some offset
  pub of : IsOfFirst b.config b.now b.held b.first offset work
  pub upto : offset.lsn.0 ≤ work.offset.lsn.0
  pub is : IsWork b.first.lsn ms work
  pub so_far : CouldBeSentSoFar work ms
  pub end_is : work.offset.end_lsn ≡ end_after b.first.end_lsn (commits_of work.offset.infos ms)
  pub many : length ms ≡ report.messages
  pub followed : report.commits ≡ length (commits_of work.offset.infos ms)
  pub opened : IsOpenedBy work.follower.window (commits_of work.offset.infos ms)
  pub windows : AreClosed work report.chunks
  pub moves : MovesOne offset.cursors work.follower.cursors

-- The invariant between two messages: no cursor has moved since a store.
pub record IsResting (b : Beginning) (ms : List Message) (stored : Option Offset) (work : SessionState) (report : Report) : Type 0 where
  pub is : IsReadUpTo b ms stored work report
  pub same : is.offset.cursors ≡ work.follower.cursors

-- The source's trace, if known, has the bytes of these messages since reading began, and of no others.
pub record HasReadSinceStart (found told : Option Trace) (ms : List Message) : Type 0 where
  pub begun : Option Trace
  pub begun_unread : IsTakenAnew found begun
  pub read : List (List ℕ)
  pub taken : IsTakenBy read begun told
  pub spelled : AreSpelled read ms

-- In the source's state exactly these messages were read.
abbrev pub StandsAt : Beginning → List Message → SourceState → Type 0
StandsAt b ms t = t.reading ≡ Some (record { after = b.first.lsn; messages = ms })

-- ---- what its report says when it stops

-- The report and the error agree with the messages of the source's trace.
pub record HasHaltedTold (config : Config) (now : ℤ) (held stored : Option Offset) (found told : Option Trace) (report : Report)
    (h : Halt) : Type 0 where
  pub followed : IsFollowed config now held stored report told h
  pub read : HasReadMessages (Err h) report.messages found told
  pub must : (t : Trace) → told ≡ Some t → MustHaltTold config now held stored report t (Err h)

-- The report and the error agree with the messages of the source's state.
pub record HasHaltedStood (config : Config) (now : ℤ) (held stored : Option Offset) (report : Report) (s t : SourceState)
    (h : Halt) : Type 0 where
  pub stood : HasStoodAfter config now held stored report s t h
  pub must : MustHaltStood config now held stored report t (Err h)

-- Why a step stops at the newest message: out of memory, malformed bytes, an invalid message or record, or a failed sink.
abbrev pub IsNewestCause : ℕ → Lsn → List Message → List ℕ → SessionState → Halt → Type 0
IsNewestCause number after ms bytes work h =
    (h ≡ halt.Memory) ⊎ (IsMessageHalt number bytes h ⊎ (IsNewestHalt number after ms bytes work h
    ⊎ ((h ≡ halt.Sink) × IsSentNewest after ms bytes work)))

-- ---- from step to step

-- A session begins between two messages, with none taken.
abbrev pub SessionsBeginAtRest : Type 0
SessionsBeginAtRest = (b : Beginning) (every : ℕ) (work : SessionState) (report : Report)
    → IsOffsetFor b.config b.held b.first → BeginsWithOffset b.first b.now b.config.chunk every work
    → report.messages ≡ 0 → report.commits ≡ 0 → report.chunks ≡ 0
    → IsResting b [] (Some b.first) work report

-- Reading a window keeps the invariant between two messages.
abbrev pub WindowsLetItRest : Type 0
WindowsLetItRest = (b : Beginning) (ms : List Message) (stored : Option Offset) (old new : SessionState) (table : ℕ) (report : Report)
    → IsResting b ms stored old report → old.follower.window ≡ Absent → IsOpenTable old table → IsArmedWork table old new
    → IsResting b ms stored new report

-- A message without a commit keeps the invariant between two messages.
abbrev pub MessagesLetItRest : Type 0
MessagesLetItRest = (b : Beginning) (ms : List Message) (stored : Option Offset) (old next : SessionState) (before report : Report)
    (bytes : List ℕ)
    → IsResting b ms stored old before → (w : WasTaken b.first.lsn ms bytes old next None) → CouldBeSentSoFar next (w.message ∷ ms)
    → report.messages ≡ before.messages + 1 → report.commits ≡ before.commits → report.chunks ≡ before.chunks
    → IsResting b (w.message ∷ ms) stored next report

-- A followed commit leads to the invariant after a message, and between two messages if it closes no window.
abbrev pub CommitsLeaveItRead : Type 0
CommitsLeaveItRead = (b : Beginning) (ms : List Message) (stored : Option Offset) (old next new : SessionState) (before report : Report)
    (bytes : List ℕ) (commit : Commit) (put rest : List Record)
    → IsResting b ms stored old before → (w : WasTaken b.first.lsn ms bytes old next (Some commit)) → WasStepped commit next new
    → AreShort (records_by next.follower commit next.now_ms) → old.number < 2 ^ 64
    → records_by next.follower commit next.now_ms ≡ put ++ rest → (put ≡ []) ⊎ (is_some (mark_of commit) ≡ false)
    → ReportsStep (is_some (mark_of commit)) rest (record before { messages = before.messages + 1 }) report true
    → IsReadUpTo b (w.message ∷ ms) stored new report
    × (closes next commit ≡ false → IsResting b (w.message ∷ ms) stored new report)

-- A store leads to the invariant between two messages.
abbrev pub StoresLetItRest : Type 0
StoresLetItRest = (b : Beginning) (ms : List Message) (stored : Option Offset) (old new : SessionState) (before report : Report)
    → IsReadUpTo b ms stored old before → new ≡ record old { since = 0 } → report ≡ record before { position = report.position }
    → IsResting b ms (Some (next_offset_of old)) new report

-- ---- when it stops

-- A stop before reading counts no message, by the source's trace.
abbrev pub HaltsUnreadAreTold : Type 0
HaltsUnreadAreTold = (config : Config) (now : ℤ) (held stored : Option Offset) (found told : Option Trace) (report : Report) (h : Halt)
    → IsOpenHalt config held stored told h → report.messages ≡ 0 → report.commits ≡ 0
    → IsTakenBy [] found told ⊎ IsTakenAnew found told
    → HasHaltedTold config now held stored found told report h

-- A stop before reading counts no message, by the source's state.
abbrev pub HaltsUnreadAreStood : Type 0
HaltsUnreadAreStood = (config : Config) (now : ℤ) (held stored : Option Offset) (told : Option Trace) (report : Report)
    (s t : SourceState) (h : Halt)
    → IsOpenHalt config held stored told h → report.messages ≡ 0 → report.commits ≡ 0
    → (t.reading ≡ s.reading) ⊎ IfSome t.reading (λ r. r.messages ≡ [])
    → HasHaltedStood config now held stored report s t h

-- A stop between two messages counts all that was read, by the source's trace. The next offset may be stored.
abbrev pub HaltsBetweenAreTold : Type 0
HaltsBetweenAreTold = (b : Beginning) (ms : List Message) (stored later : Option Offset) (work : SessionState) (before report : Report)
    (found old new : Option Trace) (h : Halt)
    → IsReadUpTo b ms stored work before → HasReadSinceStart found old ms → IsTakenBy [] old new → IsLeftOut h 0
    → report.messages ≡ before.messages → report.commits ≡ before.commits → (later ≡ stored) ⊎ (later ≡ Some (next_offset_of work))
    → HasHaltedTold b.config b.now b.held later found new report h

-- A stop between two messages counts all that was read, by the source's state. The next offset may be stored.
abbrev pub HaltsBetweenAreStood : Type 0
HaltsBetweenAreStood = (b : Beginning) (ms : List Message) (stored later : Option Offset) (work : SessionState) (before report : Report)
    (s t : SourceState) (h : Halt)
    → IsReadUpTo b ms stored work before → StandsAt b ms t → IsLeftOut h 0
    → report.messages ≡ before.messages → report.commits ≡ before.commits → (later ≡ stored) ⊎ (later ≡ Some (next_offset_of work))
    → HasHaltedStood b.config b.now b.held later report s t h

-- A stop at the newest message counts all others, with the required error, by the source's trace.
abbrev pub HaltsAtMessagesAreTold : Type 0
HaltsAtMessagesAreTold = (b : Beginning) (ms : List Message) (stored : Option Offset) (work : SessionState) (before report : Report)
    (found old new : Option Trace) (bytes : List ℕ) (h : Halt)
    → IsReadUpTo b ms stored work before → HasReadSinceStart found old ms → IsTakenBy (bytes ∷ []) old new
    → IsNewestCause report.messages b.first.lsn ms bytes work h
    → report.messages ≡ before.messages + 1 → report.commits ≡ before.commits
    → HasHaltedTold b.config b.now b.held stored found new report h

-- A stop at the newest message counts all others, with the required error, by the source's state.
abbrev pub HaltsAtMessagesAreStood : Type 0
HaltsAtMessagesAreStood = (b : Beginning) (ms : List Message) (stored : Option Offset) (work : SessionState) (before report : Report)
    (s t : SourceState) (m : Message) (bytes : List ℕ) (h : Halt)
    → IsReadUpTo b ms stored work before → Spells bytes m → StandsAt b (m ∷ ms) t
    → IsNewestCause report.messages b.first.lsn ms bytes work h
    → report.messages ≡ before.messages + 1 → report.commits ≡ before.commits
    → HasHaltedStood b.config b.now b.held stored report s t h

-- ---- when it ends normally

-- A normal end counts all that was read, and no message requires an error, by the source's trace.
abbrev pub EndsAreTold : Type 0
EndsAreTold = (b : Beginning) (ms : List Message) (work : SessionState) (report : Report) (found told : Option Trace) (ending : Ending)
    → IsReadUpTo b ms (Some (next_offset_of work)) work report → HasReadSinceStart found told ms
    → StoodAtLast b.config b.now b.held (Some (next_offset_of work)) report told × TellsSoMany report.messages told
    × ((t : Trace) → told ≡ Some t → MustHaltTold b.config b.now b.held (Some (next_offset_of work)) report t (Ok ending))

-- A normal end counts all that was read, and its offset is confirmed, by the source's state.
abbrev pub EndsAreStood : Type 0
EndsAreStood = (b : Beginning) (ms : List Message) (work : SessionState) (report : Report) (t : SourceState) (ending : Ending)
    → IsReadUpTo b ms (Some (next_offset_of work)) work report → StandsAt b ms t → work.offset.lsn.0 ≤ t.confirmed.0
    → HasSettled b.config b.now b.held (Some (next_offset_of work)) report t
    × MustHaltStood b.config b.now b.held (Some (next_offset_of work)) report t (Ok ending)
