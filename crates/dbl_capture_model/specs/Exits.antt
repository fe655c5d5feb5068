-- What a session may leave if it ends at one of its steps.
use Rattle.std.specs.Prelude.{◌≡◌, ◌⊎◌, ℕ, ℤ, ◌+◌, ◌<◌, ◌≤◌, true, Some, None, List, ◌++◌, length, take}
use Rattle.std.specs.List.{AllByRecursion}
use Rattle.dbl_pgmsg.specs.declared.messages.Message.{Message}
use Rattle.dbl_record.specs.declared.record.Record.{Record}
use Rattle.dbl_record.specs.Cuts.{cut}
use Rattle.dbl_model_table.specs.declared.change.Commit.{Commit}
use Rattle.dbl_model_table.specs.declared.change.Head.{Head}
use Rattle.dbl_model_table.specs.Heads.{commit_so_far}
use Rattle.dbl_faithful.specs.ModelHistory.History.{RawCommit, History}
use Rattle.dbl_faithful.specs.ModelHistory.Fit.{AreInfosOf, IsFitHistory}
use Rattle.dbl_faithful.specs.ModelHistory.Ranges.{IsMomentInRange}
use Rattle.dbl_faithful.specs.ModelEvent.Clashes.{clash_of}
use Rattle.dbl_faithful.specs.ModelEvent.EventJson.{envelopes}
use Rattle.dbl_follow.specs.ModelCommit.Past.{begin_of}
use Rattle.dbl_follow.specs.ModelCommit.Stated.{open_changes}
use Rattle.dbl_follow.specs.SourceModel.Growth.{Grows, marks_in}
use Rattle.dbl_follow.specs.SourceModel.Standings.{CrashState}
use Rattle.dbl_follow.specs.SourceModel.Stated.{to_state}
use Rattle.dbl_faithful.specs.Offset.declared.offset.Offset.{Offset}
use Rattle.dbl_faithful.specs.Lag.{IsMarkedBy}
use Rattle.dbl_faithful.specs.Kept.{HasGrown}
use Rattle.dbl_follow.specs.declared.window.Window.TheVariants.{Absent}
use Rattle.dbl_follow.specs.Followed.{Following}
use Rattle.dbl_follow.specs.Steps.{records_by}
use Rattle.dbl_capture_model.specs.Entries.{SessionStart, StoodInLog, WasFaithful}
use Rattle.dbl_capture_model.specs.Stages.{Stage, read_at, next_offset}
use Rattle.dbl_capture_model.specs.Going.{BeganWith, IsReading, IsGoing}
use Rattle.dbl_capture_model.specs.Steps.{WasFollowed}
use Rattle.dbl_capture_model.specs.Outcomes.{FollowsSession, HasFewMarks, IsComplete}

-- ---- before reading begins

-- A stop before the first store keeps the session's guarantees.
abbrev pub UnreadSessionsFollow : Type 0
UnreadSessionsFollow = (entry : SessionStart) (left : CrashState)
    → WasFaithful entry → IsFitHistory entry.history → IsFitHistory left.history → Grows entry.history left.history
    → left.confirmed ≡ entry.confirmed → FollowsSession entry left entry.groups entry.offset

-- A stop with the first offset stored, before reading, keeps the session's guarantees.
abbrev pub FirstOffsetsFollow : Type 0
FirstOffsetsFollow = (entry : SessionStart) (history : History) (left : CrashState) (first : Offset)
    → WasFaithful entry → IsFitHistory entry.history → IsFitHistory left.history → Grows entry.history history
    → Grows history left.history → AreInfosOf history first.infos → BeganWith entry history first
    → left.confirmed ≡ entry.confirmed
    → FollowsSession entry left entry.groups (Some first)

-- ---- while it reads

-- What a call of the source may leave: the history is extended by commits of others and watermarks of the session, and the confirmed LSN
-- doesn't fall, nor pass the stored one.
pub record MayBeLeft (stage : Stage) (left : CrashState) : Type 0 where
  pub more : List RawCommit
  pub grown : HasGrown stage.history left.history more
  pub marks : AllByRecursion (λ commit. IsMarkedBy stage.first.incarnation commit.body) more
  pub fit : IsFitHistory left.history
  pub no_fall : stage.confirmed.0 ≤ left.confirmed.0
  pub confirmed : left.confirmed.0 ≤ stage.stored.lsn.0

-- A stop in a call of the source keeps the session's guarantees.
abbrev pub SourcesMayEnd : Type 0
SourcesMayEnd = (entry : SessionStart) (stage : Stage) (left : CrashState)
    → WasFaithful entry → MayBeLeft stage left → IsGoing entry stage → FollowsSession entry left stage.groups (Some stage.stored)

-- A stop in an append, with a prefix of a commit's records appended, keeps the session's guarantees.
abbrev pub SinksMayEnd : Type 0
SinksMayEnd = (entry : SessionStart) (stage : Stage) (m : Message) (commit : Commit) (new : Following) (n : ℕ)
    → WasFaithful entry → IsMomentInRange entry.now → stage.since < entry.config.every → WasFollowed stage entry.now m commit new
    → IsGoing entry stage
    → FollowsSession entry (record { history = stage.history; confirmed = stage.confirmed })
    (stage.groups ++ cut (take n (records_by stage.following commit entry.now))) (Some stage.stored)

-- A stop in a store, with the next offset stored, keeps the session's guarantees.
abbrev pub StoresMayEnd : Type 0
StoresMayEnd = (entry : SessionStart) (stage : Stage) (left : CrashState)
    → WasFaithful entry → MayBeLeft stage left → IsGoing entry stage → FollowsSession entry left stage.groups (Some (next_offset stage))

-- ---- within a transaction

-- The records are a prefix of those of the open transaction so far, none of which has a value equal to the placeholder: none of them, or
-- not all. The last one isn't appended before the transaction's end, so that none of the prefix is marked as the last of its commit.
pub record IsOpenPart (stage : Stage) (now : ℤ) (part : List Record) : Type 0 where
  pub head : Head
  pub begun : begin_of stage.messages ≡ Some head
  pub no_clash : clash_of stage.first.identity stage.first.infos (commit_so_far head (open_changes stage.first.infos stage.messages)) ≡ None
  pub count : ℕ
  pub few : count
      < length (envelopes stage.first.identity stage.first.infos (commit_so_far head (open_changes stage.first.infos stage.messages)) now)
  pub is : part
      ≡ take count
      (envelopes stage.first.identity stage.first.infos (commit_so_far head (open_changes stage.first.infos stage.messages)) now)

-- A stop within a transaction, with a part of its records appended, and the stored offset or the next one, keeps the session's guarantees.
abbrev pub PartsMayBeLeft : Type 0
PartsMayBeLeft = (entry : SessionStart) (stage : Stage) (left : CrashState) (part : List Record) (offset : Offset)
    → WasFaithful entry → IsMomentInRange entry.now → stage.since < entry.config.every → MayBeLeft stage left
    → IsOpenPart stage entry.now part → (offset ≡ stage.stored) ⊎ (offset ≡ next_offset stage) → IsGoing entry stage
    → FollowsSession entry left (stage.groups ++ cut part) (Some offset)

-- No transaction is open once every commit of the history was read.
abbrev pub ReadHistoriesAreClosed : Type 0
ReadHistoriesAreClosed = (entry : SessionStart) (stage : Stage)
    → length (to_state stage.first.infos stage.first.lsn stage.history) ≤ length (read_at stage)
    → IsGoing entry stage → begin_of stage.messages ≡ None

-- ---- windows

-- Beyond the watermarks of the windows that were read, a session may write only those of one window more, if a table is unfinished.
abbrev pub FewMarksAreWritten : Type 0
FewMarksAreWritten = (entry : SessionStart) (stage : Stage) (history : History) (more : List RawCommit)
    → 1 ≤ entry.config.chunk → HasGrown stage.history history more → length (marks_in more) ≤ 2
    → ((length (marks_in more) ≡ 0 → IsReading entry stage
    → HasFewMarks stage.first.infos entry.config.chunk entry.history history)
    × (stage.following.window ≡ Absent → (AllByRecursion (λ cursor. cursor.done ≡ true) stage.following.cursors → ⊥)
    → IsReading entry stage → HasFewMarks stage.first.infos entry.config.chunk entry.history history))

-- ---- the end

-- A session that has read every commit of the history has no window waiting, if its offset was in the log.
abbrev pub WindowsAreRead : Type 0
WindowsAreRead = (entry : SessionStart) (stage : Stage) (more : List Commit)
    → read_at stage ≡ to_state stage.first.infos stage.first.lsn stage.history ++ more → StoodInLog entry → IsGoing entry stage
    → stage.following.window ≡ Absent

-- A session is complete if it has read every commit that existed when it began, every table is finished, and the next offset is stored and
-- confirmed.
abbrev pub ReadSessionsAreComplete : Type 0
ReadSessionsAreComplete = (entry : SessionStart) (stage : Stage) (left : CrashState) (more : List Commit)
    → WasFaithful entry → read_at stage ≡ to_state stage.first.infos stage.first.lsn entry.history ++ more
    → AllByRecursion (λ cursor. cursor.done ≡ true) stage.following.cursors → MayBeLeft stage left
    → stage.lsn.0 ≤ left.confirmed.0 → IsGoing entry stage
    → IsComplete entry left stage.groups (next_offset stage)
