-- When a session over crash-consistent disks must succeed: what it was asked for, what it may meet, and that no device failed.
use Rattle.std.specs.Prelude.{◌≡◌, ◌≢◌, ◌⊎◌, ◌≤◌, ℕ, ℤ, ◌++◌, Option, Some, None, List, [], ◌∷◌, reverse}
use Rattle.dbl_lines.specs.declared.status.Status.{Status}
use Rattle.dbl_lines.specs.declared.status.Status.TheVariants.{Done, BudgetSpent, SourceFailed, TopicsFailed}
use Rattle.dbl_lines.specs.declared.status.Status.TheVariants.{OffsetsFailed, StdinFailed, StdoutFailed, OutOfMemory, RecordRefused}
use Rattle.std.specs.List.{AllByRecursion}
use Rattle.dbl_base.specs.declared.lsn.Lsn.{Lsn}
use Rattle.dbl_pgmsg.specs.declared.messages.Message.{Message}
use Rattle.dbl_model_table.specs.declared.config.Config.{Config}
use Rattle.dbl_model_table.specs.declared.table.TableInfo.{TableInfo}
use Rattle.dbl_model_table.specs.declared.table.TableName.{TableName}
use Rattle.dbl_model_commit.specs.declared.txn_error.TxnError.TheVariants.{MovedUnchanged}
use Rattle.dbl_model_commit.specs.Stated.{transaction_fault}
use Rattle.dbl_demo_wal.specs.Standings.{messages_sent}
use Rattle.dbl_demo_wal.specs.Wals.{Wal}
use Rattle.dbl_source_model.specs.Standings.{Reading}
use Rattle.dblog_laws.specs.Supported.{CanBegin, CanSend, OffsetsAreShort, WindowsAreSupported}
use Rattle.dbl_model_history.specs.History.{History}
use Rattle.dbl_offset_content.specs.declared.offset.Offset.{Offset}
use Rattle.dblog_run.specs.CaptureLaws.Sessions.{Captures}
use Rattle.dblog_run.specs.Promise.Restarts.{restart_at}
use Rattle.dblog_run.specs.Promise.Causes.{standing_left}
use Rattle.dblog_run.specs.Promise.Contents.{Contents, ReadAs, found_in, history_at, records_of_contents}
use Rattle.dblog_run.specs.Promise.Kept.{IsKept}
use Rattle.dblog_run.specs.Connect.declared.asked.Asked.{Asked}
use Rattle.dblog_run.specs.Connect.Asked.{limit_of}
use Rattle.dblog_run.specs.Connect.Ends.{HasBegun}

-- ---- what a session may meet

-- A session reads after the LSN of the offset that it found, or else after a position at or above all commits that existed.
abbrev pub ReadsFromOffset : History → Option Offset → Lsn → Type 0
ReadsFromOffset history None after = AllByRecursion (λ commit. commit.lsn.0 ≤ after.0) history.commits
ReadsFromOffset history (Some offset) after = after ≡ offset.lsn

-- A session may have read these messages, newest first, of those that the source's log is sent as.
pub record MayHaveRead (old : Contents) (wal : Wal) (reading : Reading) : Type 0 where
  pub from : ReadsFromOffset (history_at old) old.offset reading.after
  pub rest : List Message
  pub front : messages_sent wal reading.after ≡ reverse reading.messages ++ rest

-- None of the messages, the newest first, is an update that moves a key and leaves a cell unsent.
abbrev pub HaveNoUnsentMove : List TableInfo → Lsn → List Message → Type 0
HaveNoUnsentMove infos after [] = Unit {0}
HaveNoUnsentMove infos after (m ∷ ms) =
    ((table : TableName) (column : List ℕ) → transaction_fault infos after m ms ≢ Some (MovedUnchanged table column))
    × HaveNoUnsentMove infos after ms

-- The source's log, as a session leaves it, is supported for the captured tables: no update that may be read moves a key and leaves a cell
-- unsent, no record has a value equal to the placeholder, and no record and no offset is too long. Such a log has no other error
-- (`TransactionsOfWalsMoveAtMost`, `RowsOfWalsAreReadable`).
pub record IsSupportedOver (config : Config) (now : ℤ) (old left : Contents) : Type 0 where
  pub messages : (infos : List TableInfo) (reading : Reading) → Captures config (history_at old) old.offset infos
      → MayHaveRead old left.wal reading
      → HaveNoUnsentMove infos reading.after reading.messages
  pub commits : (infos : List TableInfo) (reading : Reading) → Captures config (history_at old) old.offset infos
      → MayHaveRead old left.wal reading
      → CanSend (restart_at config now (found_in old)) (history_at left) infos reading
  pub windows : (infos : List TableInfo) → Captures config (history_at old) old.offset infos
      → WindowsAreSupported (restart_at config now (found_in old)) (standing_left left) (records_of_contents left) infos
  pub offsets : OffsetsAreShort (restart_at config now (found_in old)) (standing_left left) (records_of_contents left)

-- A crash may leave bytes of the three disks that are read as these contents.
pub record MayLeaveContents (wals logs stores : List ℕ → Type 0) (left : Contents) : Type 0 where
  pub w : List ℕ
  pub t : List ℕ
  pub f : List ℕ
  pub wal : wals w
  pub topics : logs t
  pub offsets : stores f
  pub read : ReadAs w t f left

-- The command fits the disks, `capture` without a stored offset and `resume` with one; each table can be captured, or an incarnation is
-- left; and the session may leave contents that are crash-consistent (clause `kept` of `run`) and supported.
pub record IsSupportedRun (asked : Asked) (now : ℤ) (wals logs stores : List ℕ → Type 0) (w t f : List ℕ) : Type 0 where
  pub begun : HasBegun asked w t f
  pub can : CanBegin begun.config (history_at begun.held) begun.held.offset
  pub left : Contents
  pub may : MayLeaveContents wals logs stores left
  pub kept : IsKept left
  pub supported : IsSupportedOver begun.config now begun.held left

-- ---- that no device failed

-- The exit status reports no failed device, as it does if no fault count rose, by the clauses `wal_failed`, `topics_failed`,
-- `offsets_failed`, `output_failed` and `input_failed` of `run`.
pub record NoneFailed (status : Status) : Type 0 where
  pub wal : status ≢ SourceFailed
  pub topics : status ≢ TopicsFailed
  pub offsets : status ≢ OffsetsFailed
  pub output : status ≢ StdoutFailed
  pub input : status ≢ StdinFailed

-- The arguments name no maximum length of a record's value, or the exit status reports no refused record.
abbrev pub NoneRefused : Asked → Status → Type 0
NoneRefused asked status = (limit_of asked ≡ None) ⊎ (status ≢ RecordRefused)

-- ---- the exit status

-- The status of a command that succeeded, or ran out of memory.
abbrev pub IsDoneStatus : Status → Type 0
IsDoneStatus status = (status ≡ Done) ⊎ (status ≡ OutOfMemory)

-- The status of a session that succeeded, used up its message budget, or ran out of memory.
abbrev pub IsSessionDone : Status → Type 0
IsSessionDone status = (status ≡ Done) ⊎ ((status ≡ BudgetSpent) ⊎ (status ≡ OutOfMemory))
