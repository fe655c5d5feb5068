-- A session in progress, and the causes of its errors.
use Rattle.std.specs.Prelude.{◌≡◌, ◌≢◌, ◌⊎◌, ℕ, ℤ, ◌+◌, ◌∷◌, ◌++◌, [], Contains, Option, Some, None, Result, Ok, Err, List, length}
use Rattle.dbl_base.specs.declared.lsn.Lsn.{Lsn}
use Rattle.dbl_pgmsg.specs.declared.messages.Message.{Message}
use Rattle.dbl_pgmsg.specs.Grammar.{Spells}
use Rattle.dbl_model_table.specs.declared.change.Commit.{Commit}
use Rattle.dbl_model_table.specs.declared.config.Config.{Config}
use Rattle.dbl_model_table.specs.declared.table.TableName.{TableName}
use Rattle.dbl_model_table.specs.declared.change.Change.{Change}
use Rattle.dbl_capture_work.specs.ModelCommit.Stated.{commits_of, stated}
use Rattle.dbl_capture_work.specs.ModelEvent.Clashes.{clash_of}
use Rattle.dbl_capture_work.specs.ModelEvent.EventJson.{envelopes}
use Rattle.dbl_capture_work.specs.SourceModel.Standings.{SourceState}
use Rattle.dbl_capture_work.specs.SourceModel.declared.started.Started.TheVariants.{Gone}
use Rattle.dbl_capture_work.specs.SourceModel.Trace.{Trace, Began, IsTakenAnew, IsTakenBy, Read, LastAnswerIs}
use Rattle.dbl_capture_work.specs.Offset.declared.offset.Offset.{Offset}
use Rattle.dbl_capture_work.specs.Offset.Offsets.{IsOffset}
use Rattle.dbl_capture_work.specs.Window.Plans.{low_text, high_text}
use Rattle.dbl_capture_work.specs.Follow.declared.window.Window.{Window}
use Rattle.dbl_capture_work.specs.Follow.declared.window.Window.TheVariants.{Absent, Armed, Open}
use Rattle.dbl_capture_work.specs.Follow.Followed.{awaited}
use Rattle.dbl_capture_work.specs.Follow.Steps.{clash_by, records_by}
use Rattle.dbl_capture_work.specs.CaptureModel.Stages.{IsOfSession}
use Rattle.dbl_capture_work.specs.declared.halt.Halt.{Halt}
use Rattle.dbl_capture_work.specs.declared.halt.Halt.TheVariants as halt
use Rattle.dbl_capture_work.specs.declared.report.Ending.{Ending}
use Rattle.dbl_capture_work.specs.declared.report.Report.{Report}
use Rattle.dbl_capture_work.specs.declared.work.SessionState.{SessionState}
use Rattle.dbl_capture_work.specs.Begins.{IsExhausted, IsModelFault, IsOffsetFor, IsTooLong}
use Rattle.dbl_capture_work.specs.Causes.{IsChunkHalt, IsLongRecord}
use Rattle.dbl_capture_work.specs.Takes.{IsClashIn, IsLongSoFar, IsMessageHalt, IsTxnHalt, WasStepped, WasTaken}
use Rattle.dbl_capture_work.specs.Works.{CouldBeSentSoFar, IsOpenTable, IsWork, next_offset_of, open_commit}
use Rattle.dbl_capture_laws.specs.Found.{HasStored}
use Rattle.dbl_capture_laws.specs.Written.{AreClosed}
use Rattle.dbl_capture_laws.specs.Reported.{HasTakenMessages, IsPlacedOf, StandsAfter}
use Rattle.dbl_capture_laws.specs.Halted.{IsOpenAmong, IsHalt, IsHaltOfStood, MovesOne}
use Rattle.dbl_capture_laws.specs.Musts.{MustHaltBy}

-- ---- before reading begins

-- The possible errors before the first store.
abbrev pub IsBeginHalt : Config → Option Offset → Option Trace → Halt → Type 0
IsBeginHalt config old told h =
    (h ≡ halt.Memory) ⊎ ((h ≡ halt.Source) ⊎ ((h ≡ halt.Offsets) ⊎ (IsExhausted old h
    ⊎ (((old ≡ None) × ((name : TableName) × Contains config.tables name × IsModelFault name told h))
    ⊎ ((offset : Offset) × IsOffset offset × IsOffsetFor config old offset × IsTooLong offset h)))))

-- The source returned that the log after the stored offset is gone.
pub record IsGoneHalt (config : Config) (old new : Option Offset) (told : Option Trace) (h : Halt) : Type 0 where
  pub stored : HasStored config old new
  pub first : Lsn
  pub is : h ≡ halt.Gone stored.offset.lsn first
  pub last_answer : LastAnswerIs told (Began (Gone first))

-- The possible errors before reading begins.
abbrev pub IsOpenHalt : Config → Option Offset → Option Offset → Option Trace → Halt → Type 0
IsOpenHalt config old new told h =
    (IsBeginHalt config old told h × (new ≡ old)) ⊎ (IsGoneHalt config old new told h ⊎ ((h ≡ halt.Memory) ⊎ (h ≡ halt.Source)))

-- The cause of an error before reading begins.
abbrev pub SessionsHaltUnread : Type 0
SessionsHaltUnread = (config : Config) (now : ℤ) (old new : Option Offset) (report : Report) (told : Option Trace) (h : Halt)
    → IsOpenHalt config old new told h → IsHalt config now old new report told h

-- ---- while the session reads

-- The session began with this first offset, and an offset of it is stored.
pub record IsOfFirst (config : Config) (now : ℤ) (held : Option Offset) (first stored : Offset) (work : SessionState) : Type 0 where
  pub for_config : IsOffsetFor config held first
  pub of : IsOfSession first stored
  pub placed : IsPlacedOf first work.offset
  pub time : work.now_ms ≡ now
  pub most : work.chunk ≡ config.chunk

-- Between two messages, the stored cursors are the follower's, and each window is counted, but for one that may wait.
pub record IsBetweenMessages (work : SessionState) (stored : Offset) (chunks : ℕ) : Type 0 where
  pub cursors : stored.cursors ≡ work.follower.cursors
  pub windows : AreClosed work chunks

-- An open window was opened by its low watermark, which is among the commits, with no high watermark after it.
abbrev pub IsOpenedBy : Window → List Commit → Type 0
IsOpenedBy Absent commits = Unit {0}
IsOpenedBy (Armed chunk) commits = Unit {0}
IsOpenedBy (Open chunk) commits = IsOpenAmong (low_text chunk.plan) (high_text chunk.plan) commits

-- A followed commit keeps an open window opened by its low watermark.
abbrev pub StepsOpenWindows : Type 0
StepsOpenWindows = (commit : Commit) (old new : SessionState) (commits : List Commit)
    → WasStepped commit old new → IsOpenedBy old.follower.window commits → IsOpenedBy new.follower.window (commits ++ commit ∷ [])

-- Following a commit moves no cursor but that of the window that it closes, which is of the first unfinished table.
abbrev pub StepsMoveOneCursor : Type 0
StepsMoveOneCursor = (after : Lsn) (ms : List Message) (commit : Commit) (old new : SessionState) (stored : Offset) (chunks : ℕ)
    → IsWork after ms old → IsBetweenMessages old stored chunks → WasStepped commit old new
    → MovesOne stored.cursors new.follower.cursors

-- ---- the causes of errors

-- The cause of an error for the rows of a window.
abbrev pub WindowsHalt : Type 0
WindowsHalt = (config : Config) (now : ℤ) (held : Option Offset) (first stored : Offset) (work : SessionState) (report : Report) (table : ℕ)
    (told : Option Trace) (h : Halt)
    → IsOfFirst config now held first stored work → IsBetweenMessages work stored report.chunks → work.follower.window ≡ Absent
    → IsOpenTable work table → IsChunkHalt work table told h
    → IsHalt config now held (Some stored) report told h

-- The cause of an error for malformed bytes.
abbrev pub BytesHalt : Type 0
BytesHalt = (config : Config) (now : ℤ) (held : Option Offset) (first stored : Offset) (work : SessionState) (before report : Report)
    (found begun old new : Option Trace) (bytes : List ℕ) (h : Halt)
    → IsOfFirst config now held first stored work → IsTakenAnew found begun → HasTakenMessages first.lsn first.end_lsn begun old before work
    → IsTakenBy (bytes ∷ []) old new → report.messages ≡ before.messages + 1 → IsMessageHalt report.messages bytes h
    → IsHalt config now held (Some stored) report new h

-- The newest message states changes with which the open transaction has a value equal to the placeholder, or else a record that is too long
-- and isn't one of its last two. Before it there was none.
pub record IsOpenNewestHalt (after : Lsn) (ms : List Message) (bytes : List ℕ) (work : SessionState) (h : Halt) : Type 0 where
  pub next : SessionState
  pub taken : WasTaken after ms bytes work next None
  pub changes : List Change
  pub states : stated work.offset.infos taken.message ms ≡ Ok changes
  pub some : changes ≢ []
  pub before : CouldBeSentSoFar work ms
  pub is : IsClashIn (clash_of work.offset.identity work.offset.infos (open_commit work.offset.infos (taken.message ∷ ms))) h
      ⊎ ((clash_of work.offset.identity work.offset.infos (open_commit work.offset.infos (taken.message ∷ ms)) ≡ None)
      × IsLongSoFar (envelopes work.offset.identity work.offset.infos (open_commit work.offset.infos (taken.message ∷ ms)) work.now_ms) h)

-- The newest message is invalid, or the changes that it states, or a record of its commit. `work` is the session before the open
-- transaction.
abbrev pub IsNewestHalt : ℕ → Lsn → List Message → List ℕ → SessionState → Halt → Type 0
IsNewestHalt number after ms bytes work h =
    IsTxnHalt number after ms bytes work h
    ⊎ (IsOpenNewestHalt after ms bytes work h
    ⊎ ((next : SessionState) × (commit : Commit) × WasTaken after ms bytes work next (Some commit)
    × (IsClashIn (clash_by next.follower commit) h
    ⊎ ((clash_by next.follower commit ≡ None) × IsLongRecord (records_by next.follower commit next.now_ms) h))))

-- The cause of an error for the newest message or its commit, by the source's trace.
abbrev pub MessagesHalt : Type 0
MessagesHalt = (config : Config) (now : ℤ) (held : Option Offset) (first stored : Offset) (work : SessionState) (before report : Report)
    (found begun old new : Option Trace) (bytes : List ℕ) (h : Halt)
    → IsOfFirst config now held first stored work → IsBetweenMessages work stored report.chunks → IsTakenAnew found begun
    → (t : HasTakenMessages first.lsn first.end_lsn begun old before work) → CouldBeSentSoFar work t.messages
    → IsTakenBy (bytes ∷ []) old new → report.messages ≡ before.messages + 1
    → IsNewestHalt report.messages first.lsn t.messages bytes work h
    → IsHalt config now held (Some stored) report new h

-- The cause of an error for the newest message or its commit, by the source's state.
abbrev pub SourcesStoodAtHalts : Type 0
SourcesStoodAtHalts = (config : Config) (now : ℤ) (held : Option Offset) (first stored : Offset) (work : SessionState)
    (before report : Report) (s t : SourceState) (m : Message) (bytes : List ℕ) (h : Halt)
    → IsOfFirst config now held first stored work → IsBetweenMessages work stored report.chunks
    → (b : StandsAfter first.lsn first.end_lsn before work s) → CouldBeSentSoFar work b.messages
    → t.reading ≡ Some (record { after = first.lsn; messages = m ∷ b.messages }) → report.messages ≡ before.messages + 1
    → Spells bytes m
    → IsNewestHalt report.messages first.lsn b.messages bytes work h
    → IsHaltOfStood config now held (Some stored) report t h

-- The cause of an error for a missing watermark, after the log was read to its end.
abbrev pub MarksAreMissed : Type 0
MarksAreMissed = (config : Config) (now : ℤ) (held : Option Offset) (first stored : Offset) (work : SessionState) (report : Report)
    (found begun told : Option Trace) (value : List ℕ)
    → IsOfFirst config now held first stored work → IsBetweenMessages work stored report.chunks → IsTakenAnew found begun
    → (t : HasTakenMessages first.lsn first.end_lsn begun told report work)
    → IsOpenedBy work.follower.window (commits_of work.offset.infos t.messages)
    → awaited work.follower.window ≡ Some value → LastAnswerIs told (Read None)
    → IsHalt config now held (Some stored) report told (halt.WatermarkMissing value work.offset.lsn)

-- The cause of an error for an offset that is too long, by the source's trace.
abbrev pub OffsetsHalt : Type 0
OffsetsHalt = (config : Config) (now : ℤ) (held : Option Offset) (first stored : Offset) (work : SessionState) (report : Report)
    (found begun told : Option Trace) (h : Halt)
    → IsOfFirst config now held first stored work → IsTakenAnew found begun
    → HasTakenMessages first.lsn first.end_lsn begun told report work
    → MovesOne stored.cursors work.follower.cursors → IsOffset (next_offset_of work) → IsTooLong (next_offset_of work) h
    → IsHalt config now held (Some stored) report told h

-- The cause of an error for an offset that is too long, by the source's state.
abbrev pub SourcesStoodAtOffsets : Type 0
SourcesStoodAtOffsets = (config : Config) (now : ℤ) (held : Option Offset) (first stored : Offset) (work : SessionState) (report : Report)
    (t : SourceState) (h : Halt)
    → IsOfFirst config now held first stored work → StandsAfter first.lsn first.end_lsn report work t
    → MovesOne stored.cursors work.follower.cursors → IsOffset (next_offset_of work) → IsTooLong (next_offset_of work) h
    → IsHaltOfStood config now held (Some stored) report t h

-- The records of the newest message's changes, or of the commit that it ends, have no value equal to the placeholder.
abbrev pub IsSentNewest : Lsn → List Message → List ℕ → SessionState → Type 0
IsSentNewest after ms bytes work =
    ((next : SessionState) × (commit : Commit) × WasTaken after ms bytes work next (Some commit) × (clash_by next.follower commit ≡ None))
    ⊎ ((next : SessionState) × (w : WasTaken after ms bytes work next None)
    × (clash_of work.offset.identity work.offset.infos (open_commit work.offset.infos (w.message ∷ ms)) ≡ None))

-- ---- required errors

-- Messages that were taken and followed require no error.
abbrev pub TakenMessagesAskNothing : Type 0
TakenMessagesAskNothing = (config : Config) (now : ℤ) (held : Option Offset) (first stored : Offset) (work : SessionState)
    (ms : List Message) (result : Result Ending Halt)
    → IsOfFirst config now held first stored work → IsWork first.lsn ms work → CouldBeSentSoFar work ms
    → MustHaltBy now stored (record { after = first.lsn; messages = ms }) result

-- A stop at the newest message returns the error that it or its commit requires.
abbrev pub NewestMessagesHalt : Type 0
NewestMessagesHalt = (config : Config) (now : ℤ) (held : Option Offset) (first stored : Offset) (work : SessionState) (ms : List Message)
    (m : Message) (bytes : List ℕ) (number : ℕ) (h : Halt)
    → IsOfFirst config now held first stored work → IsWork first.lsn ms work → Spells bytes m → number ≡ length (m ∷ ms)
    → CouldBeSentSoFar work ms
    → (h ≡ halt.Memory) ⊎ (IsNewestHalt number first.lsn ms bytes work h ⊎ ((h ≡ halt.Sink) × IsSentNewest first.lsn ms bytes work))
    → MustHaltBy now stored (record { after = first.lsn; messages = m ∷ ms }) (Err h)
