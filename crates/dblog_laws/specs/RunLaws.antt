-- When a run must succeed. The premises are the clauses of the program's `run`.
use Rattle.std.specs.Prelude.{◌≡◌, ◌≢◌, ◌⊎◌, ℕ, ℤ, ◌<◌, ◌≤◌, IfErr, Option, Some, Ok, Err, List, [], length}
use Rattle.dbl_lines.specs.declared.status.Status.{Status}
use Rattle.dbl_lines.specs.declared.status.Status.TheVariants.{Done, BudgetSpent, OutOfMemory}
use Rattle.dbl_base.specs.Streams.{FaultCounted, input_limit}
use Rattle.dbl_disk.specs.Model.{DiskModel}
use Rattle.dbl_value_types.specs.declared.error.ValueError.{ValueError}
use Rattle.dbl_model_table.specs.declared.table.TableName.{TableName}
use Rattle.dbl_model_commit.specs.declared.txn_error.TxnError.{TxnError}
use Rattle.dbl_model_commit.specs.declared.txn_error.TxnError.TheVariants.{MovedUnchanged}
use Rattle.dbl_demo_wal.specs.Workloads.{IsWorkload, Workload}
use Rattle.dblog_run.specs.DemoLaws.Made.{IsFreshWal}
use Rattle.dbl_cli_commands.specs.declared.commands.Command.{Command}
use Rattle.dbl_cli.specs.Commands.{Spells}
use Rattle.dblog_run.specs.Init.declared.disks.Disks.{Disks}
use Rattle.dblog_run.specs.Init.Fresh.{IsEmptyLog, IsEmptyStore}
use Rattle.dblog_run.specs.CaptureWork.declared.halt.Halt.TheVariants as halt
use Rattle.dblog_run.specs.CaptureWork.declared.report.Ending.TheVariants.{Budget, Complete}
use Rattle.dblog_run.specs.Promise.Kept.{AreKept}
use Rattle.dblog_run.specs.Connect.declared.asked.Asked.{Asked}
use Rattle.dblog_run.specs.Connect.ConnectEnds.declared.summary.Summary.{Summary}
use Rattle.dblog_run.specs.Connect.ConnectEnds.declared.error.ConnectError.TheVariants.{Halted}
use Rattle.dblog_run.specs.Connect.Asked.{budget_of}
use Rattle.dblog_run.specs.Connect.Disks.{AreKeptDisks}
use Rattle.dblog_run.specs.Connect.Ends.{ConnectEnd}
use Rattle.dblog_run.specs.Connect.Errors.{IsConnectError, IsExternalConnectError}
use Rattle.dblog_run.specs.Capture.Runs.{AnswersCapture, AnswersKept, RunsSession, RunsSessionOn}
use Rattle.dblog_run.specs.Capture.Generated.{EndsGenerated, WasCaptured, plainly}
use Rattle.dblog_run.specs.Streams.Answers.{RunAnswer, EndsAs}
use Rattle.dblog_run.specs.Disks.{OfDisk}
use Rattle.dblog_run.specs.Means.{RunInput, InputFails, Runs, SpellSome, StandsAlone, WalFails, uses_offsets, uses_topics}
use Rattle.dblog_laws.specs.Commands.{CanRun}
use Rattle.dblog_laws.specs.Sessions.{IsDoneStatus, IsSessionDone, IsSupportedRun, NoneFailed, NoneRefused}

-- ---- sessions

-- A supported session over crash-consistent disks ends normally, unless a disk failed, memory ran out or a record was refused.
abbrev pub SupportedSessionsSucceed : (wals logs new_wals new_logs new_stores : List ℕ → Type 0) → Type 0
SupportedSessionsSucceed wals logs new_wals new_logs new_stores = (asked : Asked) (now : ℤ) (w t f : List ℕ) (end : ConnectEnd)
    → AnswersCapture asked now wals logs new_wals new_logs new_stores w t f end
    → AnswersKept asked now new_wals new_logs new_stores w t f end
    → IfErr end IsConnectError → IsSupportedRun asked now new_wals new_logs new_stores w t f
    → IfErr end IsExternalConnectError

-- A supported `capture` or `resume` exits with 0, 3 or 12, if no device failed and no record was refused: by the clause `session` of `run`.
abbrev pub SupportedRunsSucceed : (wals logs stores new_wals new_logs new_stores : List ℕ → Type 0) → Type 0
SupportedRunsSucceed wals logs stores new_wals new_logs new_stores =
    (asked : Asked) (now : ℤ) (told_wal told_topics told_offsets : Option (List ℕ)) (status : Status) (before after : Option (List ℕ))
    → RunsSession asked now told_wal told_topics told_offsets wals logs stores new_wals new_logs new_stores status before after
    → AreKept told_wal told_topics told_offsets wals logs stores
    → (w t f : List ℕ) → told_wal ≡ Some w → told_topics ≡ Some t → told_offsets ≡ Some f
    → IsSupportedRun asked now new_wals new_logs new_stores w t f → NoneFailed status → NoneRefused asked status
    → IsSessionDone status

-- Over crash-consistent disks no session stops at a cell that parses as no value: by the clauses `session` and `kept` of `run`.
abbrev pub NoCellStopsSessions : {W T F : Type 0} → DiskModel W → DiskModel T → DiskModel F → Type 0
NoCellStopsSessions {W} {T} {F} wal_model topics_model offsets_model =
    (asked : Asked) (now : ℤ) (old new : Disks W T F) (status : Status) (before after : Option (List ℕ))
    → AreKeptDisks wal_model topics_model offsets_model old → AreKeptDisks wal_model topics_model offsets_model new
    → (runs : RunsSessionOn wal_model topics_model offsets_model asked now old new status before after)
    → (table : TableName) (column : List ℕ) (error : ValueError) → runs.end ≢ Err (Halted (halt.Cell table column error))

-- Over crash-consistent disks a session stops at an invalid transaction only if an update moves a key and leaves a cell unsent: by the same
-- clauses.
abbrev pub OnlyUnsentMovesStopSessions : {W T F : Type 0} → DiskModel W → DiskModel T → DiskModel F → Type 0
OnlyUnsentMovesStopSessions {W} {T} {F} wal_model topics_model offsets_model =
    (asked : Asked) (now : ℤ) (old new : Disks W T F) (status : Status) (before after : Option (List ℕ))
    → AreKeptDisks wal_model topics_model offsets_model old → AreKeptDisks wal_model topics_model offsets_model new
    → (runs : RunsSessionOn wal_model topics_model offsets_model asked now old new status before after)
    → (number : ℕ) (error : TxnError) → runs.end ≡ Err (Halted (halt.Txn number error))
    → (table : TableName) × (column : List ℕ) × (error ≡ MovedUnchanged table column)

-- A session that exits with 3 has read exactly as many messages as its budget allows, and one that exits with 0 fewer.
pub record EndsBy (budget : ℕ) (status : Status) (end : ConnectEnd) : Type 0 where
  pub spent : status ≡ BudgetSpent
      → (summary : Summary) × (end ≡ Ok summary) × (summary.ending ≡ Budget) × (summary.report.messages ≡ budget)
  pub complete : status ≡ Done → (summary : Summary) × (end ≡ Ok summary) × (summary.ending ≡ Complete) × (summary.report.messages < budget)

-- The exit status of `capture` and `resume` says whether the message budget was used up.
abbrev pub StatusesTellBudgets : (wals logs stores new_wals new_logs new_stores : List ℕ → Type 0) → Type 0
StatusesTellBudgets wals logs stores new_wals new_logs new_stores =
    (asked : Asked) (now : ℤ) (told_wal told_topics told_offsets : Option (List ℕ)) (status : Status) (before after : Option (List ℕ))
    → (runs : RunsSession asked now told_wal told_topics told_offsets wals logs stores new_wals new_logs new_stores status before after)
    → EndsBy (budget_of asked) status runs.end

-- ---- a generated workload

-- `gen --run` on three empty disks exits with 0, 3 or 12, if the workload can be run, the capture of its stores is supported, and no device
-- failed: by the clause `generating` of `run`.
abbrev pub SupportedGeneratedRunsSucceed : {W T F : Type 0} → DiskModel W → DiskModel T → DiskModel F → Type 0
SupportedGeneratedRunsSucceed {W} {T} {F} wal_model topics_model offsets_model =
    (text : List ℕ) (workload : Workload) (now : ℤ) (old new : Disks W T F) (status : Status) (before after : Option (List ℕ))
    → EndsGenerated wal_model topics_model offsets_model text now old new status before after
    → wal_model.seen old.wal ≡ Some [] → topics_model.seen old.topics ≡ Some [] → offsets_model.seen old.offsets ≡ Some []
    → length text ≤ input_limit → IsWorkload text workload
    → ((w t f : List ℕ) → IsFreshWal text w → IsEmptyLog t → IsEmptyStore f
    → IsSupportedRun plainly now (wal_model.may_leave new.wal) (topics_model.may_leave new.topics)
    (offsets_model.may_leave new.offsets) w t f)
    → NoneFailed status → IsSessionDone status

-- The `init` part of `gen --run` succeeds for a text that can be run, or memory ran out. A generated text is proved to be such a one
-- (`generated_workloads_can_run` of `dbl_gen_laws`), and so short if it has few rows and groups (`workloads_are_short` of `dbl_gen`).
abbrev pub GeneratedInitsSucceed : {W T F : Type 0} → DiskModel W → DiskModel T → DiskModel F → Type 0
GeneratedInitsSucceed {W} {T} {F} wal_model topics_model offsets_model =
    (text : List ℕ) (workload : Workload) (now : ℤ) (old new : Disks W T F) (status : Status) (before after : Option (List ℕ))
    → EndsGenerated wal_model topics_model offsets_model text now old new status before after
    → wal_model.seen old.wal ≡ Some [] → topics_model.seen old.topics ≡ Some [] → offsets_model.seen old.offsets ≡ Some []
    → length text ≤ input_limit → IsWorkload text workload → NoneFailed status
    → (status ≡ OutOfMemory)
    ⊎ WasCaptured wal_model topics_model offsets_model text now old new status before after

-- The exit status of `gen --run` says whether its capture used up its message budget.
abbrev pub GeneratedStatusesTellBudgets : {W T F : Type 0} → DiskModel W → DiskModel T → DiskModel F → Type 0
GeneratedStatusesTellBudgets {W} {T} {F} wal_model topics_model offsets_model =
    (text : List ℕ) (now : ℤ) (old new : Disks W T F) (status : Status) (before after : Option (List ℕ))
    → EndsGenerated wal_model topics_model offsets_model text now old new status before after
    → (status ≡ Done) ⊎ (status ≡ BudgetSpent)
    → (captured : WasCaptured wal_model topics_model offsets_model text now old new status before after)
    × EndsBy (budget_of plainly) status captured.runs.end

-- ---- the other commands

-- A command without a session exits with 0 or 12, if its input is what it requires and no device failed: by the clause `told` of `run`.
abbrev pub OtherRunsSucceed : Type 0
OtherRunsSucceed = (words : List (List ℕ)) (command : Command) (now : ℤ) (given : RunInput)
    (input_was input_is wal_was wal_is topics_was topics_is offsets_was offsets_is : ℕ) (status : Status) (before after : Option (List ℕ))
    → Spells words command → CanRun command now given
    → Runs words now given
    (OfDisk (SpellSome words uses_topics × FaultCounted topics_was topics_is)
    (SpellSome words uses_offsets × FaultCounted offsets_was offsets_is)) status before after
    ⊎ (InputFails words input_was input_is status before after ⊎ WalFails words wal_was wal_is status before after)
    → NoneFailed status → IsDoneStatus status

-- `gen` exits with 0 or 12, if no device failed, for any streams and disks: by the clause `alone` of `run`.
abbrev pub PrintedWorkloadsSucceed : Type 0
PrintedWorkloadsSucceed = (command : Command) (answer : RunAnswer) (status : Status) (before after : Option (List ℕ))
    → StandsAlone command answer → EndsAs answer status before after → NoneFailed status → IsDoneStatus status
