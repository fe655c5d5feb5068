-- The invariant of a session between two of its calls, over lists.
use Rattle.std.specs.Prelude.{◌≡◌, ◌⊎◌, ℕ, ◌+◌, ◌^◌, ◌<◌, ◌≤◌, Option, Some, None, List, ◌++◌, length, max, slice_get}
use Rattle.std.specs.List.{AllByRecursion, AllZip}
use Rattle.dbl_record.specs.declared.record.Record.{Record}
use Rattle.dbl_record.specs.Cuts.{cut, joined}
use Rattle.dbl_pgmsg.specs.Grammar.{FitsFields}
use Rattle.dbl_faithful.specs.ModelHistory.History.{RawCommit, History}
use Rattle.dbl_faithful.specs.ModelHistory.Fit.{AreInfosOf, IsFitHistory}
use Rattle.dbl_faithful.specs.ModelHistory.Cursors.{AreCursorsOf}
use Rattle.dbl_faithful.specs.ModelHistory.Laws.{AreDistinctTables}
use Rattle.dbl_follow.specs.ModelCommit.Blocks.{AreWithoutFault}
use Rattle.dbl_follow.specs.SourceModel.Stated.{to_state, ReadsRight}
use Rattle.dbl_faithful.specs.Offset.declared.offset.Offset.{Offset}
use Rattle.dbl_faithful.specs.Stores.{IsCommitAt, IsPositionOf, top_position}
use Rattle.dbl_faithful.specs.Lag.{IsUnread, IsDescribedAt, IsOffsetOf}
use Rattle.dbl_faithful.specs.Kept.{HasGrown, IsTakenOver}
use Rattle.dbl_faithful.specs.Onward.{IsFirstOffset, IsLaterCursor, Adds}
use Rattle.dbl_capture_model.specs.Entries.{SessionStart, StoodInLog, WasFaithful}
use Rattle.dbl_capture_model.specs.Stages.{Stage, records_of_stage, next_offset}
use Rattle.dbl_capture_model.specs.Stages.{read_at, PartsHistory, IsOfSession, later_count, far_at}
use Rattle.dbl_capture_model.specs.Delivered.{IsDelivered}
use Rattle.dbl_capture_model.specs.Marked.{AreOwnMarks, IsAwaited, IsWindowAt, IsOwnWindow}
use Rattle.dbl_capture_model.specs.Counted.{IsCounted}
use Rattle.dbl_capture_model.specs.Reports.{ReportsWindowsOnce}

-- ---- where a session begins

-- No table is started, and the position is the start. The tables are distinct, each as the source describes it at some point of the
-- history, in the version there.
pub record IsUnstarted (history : History) (first : Offset) : Type 0 where
  pub at_start : first.lsn ≡ first.start
  pub unread : AllZip (λ info cursor. IsUnread cursor) first.infos first.cursors
  pub distinct : AreDistinctTables first.infos
  pub infos : AllZip (IsDescribedAt history) first.infos first.versions

-- The offset that a session stores first: the stored one with the next incarnation, or else one of the configured tables at the head of the
-- history, with no table started.
abbrev pub IsFirstOf : SessionStart → History → Offset → Option Offset → Type 0
IsFirstOf entry history first None =
    IsFirstOffset entry.config entry.history history first × IsUnstarted history first
IsFirstOf entry history first (Some old) = IsTakenOver old first × (first.incarnation ≡ old.incarnation + 1)

-- The first offset follows from what was stored when the session began.
abbrev pub BeganWith : SessionStart → History → Offset → Type 0
BeganWith entry history first = IsFirstOf entry history first entry.offset

-- The position above which the session's own watermarks are: the greatest of the records that it found and of the commits read before it.
abbrev pub begun_after : SessionStart → Offset → ℕ
begun_after entry first = max (top_position (joined entry.groups)) first.lsn.0

-- ---- the part that a conforming source ensures

-- The history was only extended since the session began, its catalogue has the captured tables, and the confirmed LSN didn't fall. The
-- messages that were read state its commits without a fault, and each closed window has one progress record in the topic log.
pub record IsReading (entry : SessionStart) (stage : Stage) : Type 0 where
  pub began : BeganWith entry stage.history stage.first
  pub first_small : stage.first.incarnation < 2 ^ 64
  pub of_session : IsOfSession stage.first stage.stored
  pub stored_later : AllZip IsLaterCursor stage.first.cursors stage.stored.cursors
  pub no_fall : entry.confirmed.0 ≤ stage.confirmed.0
  pub more : List RawCommit
  pub grown : HasGrown entry.history stage.history more
  pub fit : IsFitHistory stage.history
  pub infos : AreInfosOf stage.history stage.first.infos
  pub fields : AllByRecursion FitsFields stage.messages
  pub accepted : AreWithoutFault stage.first.infos stage.first.lsn stage.messages
  pub right : ReadsRight stage.first.infos stage.first.lsn (to_state stage.first.infos stage.first.lsn stage.history) stage.messages
  pub follows_identity : stage.following.identity ≡ stage.first.identity
  pub follows_infos : stage.following.infos ≡ stage.first.infos
  pub cursors : AreCursorsOf stage.first.infos stage.following.cursors
  pub closed : ℕ
  pub counted : IsCounted stage.first.infos entry.config.chunk stage.number closed entry.history stage.history
      stage.following.window stage.first.cursors stage.following.cursors
  pub told : ReportsWindowsOnce closed entry.groups stage.groups

-- ---- the part that an offset in the log ensures

-- The history is split at the session's position, and the watermarks that its window waits for weren't read yet.
pub record IsPlacedInHistory (stage : Stage) : Type 0 where
  pub position : IsPositionOf stage.history stage.lsn.0
  pub parts : PartsHistory stage
  pub awaited : IsAwaited stage.history (later_count parts) stage.following.window

-- ---- the part that faithful stores ensure

-- How far the topic log is ahead of the stored offset: no record is above the last commit that was followed, unless the session found it;
-- and `since` commits were followed after the stored LSN, at most `every`.
pub record IsNear (entry : SessionStart) (stage : Stage) : Type 0 where
  pub before : List RawCommit
  pub since : List RawCommit
  pub later : List RawCommit
  pub spelled : stage.history.commits ≡ before ++ (since ++ later)
  pub settled : AllByRecursion (λ commit. commit.lsn.0 ≤ stage.stored.lsn.0) before
  pub followed : AllByRecursion (λ commit. commit.lsn.0 ≤ stage.lsn.0) since
  pub many : length since ≡ stage.since
  pub over : AllByRecursion (λ commit. stage.lsn.0 < commit.lsn.0) later
  pub few : stage.since ≤ entry.config.every
  pub top : (top_position (records_of_stage stage) ≤ stage.lsn.0)
      ⊎ (top_position (records_of_stage stage) ≡ top_position (joined entry.groups))

-- The topic log has all records of the commits that were followed; the stored offset and the next one agree with it; the appended records
-- are above where the session began, in batches. Nobody else wrote the texts of its watermarks, so that its window saw the changes between
-- them.
pub record KeepsStage (entry : SessionStart) (stage : Stage) (parts : PartsHistory stage) : Type 0 where
  pub order : stage.first.start.0 ≤ stage.first.lsn.0
  pub small : stage.number < 2 ^ 64
  pub own_marks : AreOwnMarks stage.first.incarnation stage.number (begun_after entry stage.first) stage.history
  pub own_window : IsOwnWindow stage.first.incarnation stage.number stage.following.window
  pub window : IsWindowAt stage.first.infos stage.history (later_count parts) stage.following.window
  pub from : stage.first.lsn.0 ≤ stage.stored.lsn.0
  pub to : stage.stored.lsn.0 ≤ stage.lsn.0
  pub stored_is : IsOffsetOf stage.history stage.confirmed (records_of_stage stage) stage.stored
  pub next_is : IsOffsetOf stage.history stage.confirmed (records_of_stage stage) (next_offset stage)
  pub up : IsDelivered stage.first.identity stage.first.infos stage.history stage.first.start.0 stage.first.lsn.0 stage.lsn.0
      (far_at entry stage) (parts.old ++ read_at stage) parts.later 0 (records_of_stage stage)
  pub adds : Adds stage.first.lsn.0 (joined entry.groups) (records_of_stage stage)
  pub within : AllByRecursion (λ item. item.position ≤ stage.lsn.0) adds.more
  pub grouped : stage.groups ≡ entry.groups ++ cut adds.more
  pub near : IsNear entry stage
  -- The records that the session found have positions of commits of the history.
  pub stand : (place : ℕ) (item : Record) → slice_get (joined entry.groups) place ≡ Some item → IsCommitAt stage.history item.position

-- The invariant of a session. The part on its position requires that the offset it found is in the log; the part on the topic log and the
-- offset requires that the stores were faithful.
pub record IsGoing (entry : SessionStart) (stage : Stage) : Type 0 where
  pub reading : IsReading entry stage
  pub placed : StoodInLog entry → IsPlacedInHistory stage
  pub kept : (stood : StoodInLog entry) → WasFaithful entry → KeepsStage entry stage (placed stood).parts
