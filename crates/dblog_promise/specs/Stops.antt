-- What a session may leave if it stops at any of its calls: at a normal end, by an error or by a crash.
use Rattle.std.specs.Prelude.{◌≡◌, ℕ, ◌<◌, ◌≤◌, true, Option, Some, List, ◌++◌, take}
use Rattle.std.specs.List.{AllByRecursion}
use Rattle.dbl_pgmsg.specs.declared.messages.Message.{Message}
use Rattle.dbl_record.specs.declared.record.Record.{Record}
use Rattle.dbl_record.specs.Cuts.{cut}
use Rattle.dbl_model_table.specs.declared.change.Commit.{Commit}
use Rattle.dbl_model_history.specs.History.{History}
use Rattle.dbl_model_history.specs.Fit.{IsFitHistory}
use Rattle.dbl_source.specs.SourceModel.Growth.{Grows}
use Rattle.dbl_source.specs.SourceModel.Standings.{CrashState}
use Rattle.dbl_source.specs.SourceModel.Stated.{to_state}
use Rattle.dbl_capture_laws.specs.Offset.declared.offset.Offset.{Offset}
use Rattle.dbl_capture_laws.specs.Follow.Followed.{Following}
use Rattle.dbl_capture_laws.specs.Follow.Steps.{records_by}
use Rattle.dbl_capture_laws.specs.CaptureModel.Entries.{SessionStart}
use Rattle.dbl_capture_laws.specs.CaptureModel.Stages.{Stage, read_at, next_offset}
use Rattle.dbl_capture_laws.specs.CaptureModel.Steps.{WasFollowed}
use Rattle.dbl_capture_laws.specs.CaptureModel.Exits.{MayBeLeft}
use Rattle.dblog_promise.specs.Runs.{BeginsSession, Run}

-- The source's state while no call of it is in progress.
abbrev pub source_at : Stage → CrashState
source_at stage = record { history = stage.history; confirmed = stage.confirmed }

-- What a session that stops may leave of source, sink and store.
pub data Stops (entry : SessionStart) : CrashState → List (List Record) → Option Offset → Type 0 where
  -- Before the first store: what the session found, and the commits of others.
  before_the_first_store : (left : CrashState)
      → Grows entry.history left.history → IsFitHistory left.history → left.confirmed ≡ entry.confirmed
      → Stops entry left entry.groups entry.offset
  -- During or after the first store: the first offset.
  with_the_first_offset : (history : History) (left : CrashState) (first : Offset) → BeginsSession entry history first
      → Grows history left.history → IsFitHistory left.history → left.confirmed ≡ entry.confirmed
      → Stops entry left entry.groups (Some first)
  -- In a call of the source, or between two calls: others have committed, watermarks of the session may have been written, and the
  -- confirmed LSN isn't above the stored one.
  at_the_source : (stage : Stage) (left : CrashState) → Run entry stage → MayBeLeft stage left
      → Stops entry left stage.groups (Some stage.stored)
  -- While the records of a commit are appended: a prefix of them.
  at_the_sink : (stage : Stage) (m : Message) (commit : Commit) (new : Following) (n : ℕ) → Run entry stage
      → stage.since < entry.config.every → WasFollowed stage entry.now m commit new
      → Stops entry (source_at stage) (stage.groups ++ cut (take n (records_by stage.following commit entry.now)))
      (Some stage.stored)
  -- During a store: the next offset.
  at_the_store : (stage : Stage) (left : CrashState) → Run entry stage → MayBeLeft stage left
      → Stops entry left stage.groups (Some (next_offset stage))

-- A session completes at a stage: it has read every commit that existed when it began, each of its tables is read to its end, and the last
-- commit that it has read is stored and confirmed.
pub record Completes (entry : SessionStart) (stage : Stage) (left : CrashState) : Type 0 where
  pub run : Run entry stage
  pub more : List Commit
  pub read : read_at stage ≡ to_state stage.first.infos stage.first.lsn entry.history ++ more
  pub done : AllByRecursion (λ cursor. cursor.done ≡ true) stage.following.cursors
  pub may_be_left : MayBeLeft stage left
  pub confirmed : stage.lsn.0 ≤ left.confirmed.0
