-- How many messages a session reads at most, by its workload: a budget above that isn't used up.
use Rattle.std.specs.Prelude.{IfOk, ◌≡◌, ◌≢◌, ℕ, ℤ, ◌+◌, ◌*◌, ◌/◌, ◌<◌, ◌≤◌, Option, Some, None, List, [], ◌∷◌, length, drop}
use Rattle.dbl_lines.specs.declared.status.Status.{Status}
use Rattle.dbl_lines.specs.declared.status.Status.TheVariants.{BudgetSpent}
use Rattle.dbl_base.specs.declared.lsn.Lsn.{Lsn}
use Rattle.dbl_pgmsg.specs.declared.messages.Message.{Message}
use Rattle.dbl_model_table.specs.declared.row.Key.{Key}
use Rattle.dbl_model_table.specs.declared.table.TableInfo.{TableInfo}
use Rattle.dbl_cli_commands.specs.declared.commands.CaptureOptions.{CaptureOptions}
use Rattle.dbl_cli_commands.specs.declared.commands.ResumeOptions.{ResumeOptions}
use Rattle.dbl_source_log.specs.declared.logged.Logged.{Logged}
use Rattle.dbl_source_log.specs.declared.logged.LogTable.{LogTable}
use Rattle.dbl_source_log.specs.Fair.{IsFairLog}
use Rattle.dbl_source_log.specs.Numbers.{commits_upto}
use Rattle.dbl_source_log.specs.Sent.{messages_in, sent_after}
use Rattle.dbl_source_model.specs.Growth.{marks_in}
use Rattle.dbl_offset_content.specs.declared.offset.Offset.{Offset}
use Rattle.dbl_offset.specs.Stores.{IsStore}
use Rattle.dblog_run.specs.Init.declared.disks.Disks.{Disks}
use Rattle.dblog_run.specs.CaptureModel.Outcomes.{CoverRows}
use Rattle.dbl_disk.specs.Model.{DiskModel}
use Rattle.dbl_demo_wal.specs.Standings.{history_in, messages_sent}
use Rattle.dbl_demo_wal.specs.Wals.{IsWal, Wal}
use Rattle.dbl_demo_wal.specs.Workloads.{Workload, log_at, steps_of}
use Rattle.dblog_run.specs.CaptureLaws.Sessions.{Captures}
use Rattle.dblog_run.specs.Promise.Contents.{Contents, ReadAs, history_at}
use Rattle.dblog_run.specs.Promise.Headline.{GuaranteesAfterCrash}
use Rattle.dblog_run.specs.Promise.Kept.{AreKept}
use Rattle.dblog_run.specs.Promise.Tables.{whole_history}
use Rattle.dblog_run.specs.Connect.declared.asked.Asked.TheVariants.{Again, First}
use Rattle.dblog_run.specs.Connect.Asked.{config_of, workload_tables, tables_or}
use Rattle.dbl_cli_commands.specs.declared.commands.Command.TheVariants.{Capture, Resume}
use Rattle.dblog_run.specs.Sessions.{IsCompleteRun, asks_by}
use Rattle.dblog_run.specs.Connect.Ends.{ConnectEnd}
use Rattle.dblog_run.specs.Capture.Generated.{WasCaptured, plain_capture}
use Rattle.dblog_run.specs.Capture.Runs.{RunsSession}
use Rattle.dblog_laws.specs.Sessions.{MayLeaveContents}

-- ---- what a log is sent as

-- The messages of a log's commits: each is sent as its Begin, its changes and its Commit, and a watermark is one change. Relations aren't
-- counted.
abbrev pub sizes : List Logged → ℕ
sizes [] = 0
sizes (entry ∷ log) = 2 + length (messages_in entry) + sizes log

-- A fair log is sent as at most the messages of its commits, a Relation of each table, and `more` messages, for the Relation of the
-- watermarks.
abbrev pub SentMessagesAreFew : ℕ → Type 0
SentMessagesAreFew more = (tables : List LogTable) (after : Lsn) (log : List Logged) → IsFairLog tables log
    → length (sent_after tables after log) ≤ sizes (drop (commits_upto after) log) + length tables + more

-- ---- of a workload

-- The messages of commits that consist of changes.
abbrev pub commit_sizes : List (List Message) → ℕ
commit_sizes [] = 0
commit_sizes (messages ∷ commits) = 2 + length messages + commit_sizes commits

-- The messages of the whole serial run of a workload after the commit of its rows.
abbrev pub serial_size : Workload → ℕ
serial_size w = commit_sizes (drop (length (log_at w 0)) (log_at w (length (steps_of w))))

-- The bound for a workload and so many windows, each with two watermarks of three messages; and a Relation of each table, and `more`
-- messages.
abbrev pub most_messages : ℕ → Workload → ℕ → ℕ
most_messages more w windows = serial_size w + 6 * windows + length w.tables + more

-- The log of a workload, after its rows, is sent as at most so many messages.
abbrev pub FewMessagesAreSent : ℕ → Type 0
FewMessagesAreSent more = (bytes : List ℕ) (wal : Wal) (after : Lsn) (windows : ℕ) → IsWal bytes wal
    → length (log_at wal.workload 0) ≤ commits_upto after → length (marks_in (history_in wal).commits) ≤ 2 * windows
    → length (messages_sent wal after) ≤ most_messages more wal.workload windows

-- ---- budgets

-- A session that ended normally has read at most `most` messages, and doesn't exit with 3 if its budget is larger.
pub record ReadsFew (most budget : ℕ) (status : Status) (end : ConnectEnd) : Type 0 where
  pub few : IfOk end (λ summary. summary.report.messages ≤ most)
  pub unspent : most < budget → status ≢ BudgetSpent

-- The disks contain these bytes, and no offset is stored in anything that a crash may leave of the offset store.
pub record AreUnstarted (wals logs stores : List ℕ → Type 0) (w t f : List ℕ) : Type 0 where
  pub wal : wals w
  pub topics : logs t
  pub offsets : stores f
  pub unstored : (image : List ℕ) → stores image → IsStore image None

-- The list has each pair of a captured table and a key that had a row at some point of the whole serial run.
abbrev pub CoverWhole : CaptureOptions → Contents → List (ℕ × Key) → Type 0
CoverWhole options held pairs = (infos : List TableInfo)
    → Captures (config_of options (workload_tables held.wal)) (history_at held) None infos
    → CoverRows infos (whole_history held.wal) pairs

-- The greatest number of windows that a capture opens, if so many pairs of a table and a key had rows.
abbrev pub most_windows : CaptureOptions → Contents → ℕ → ℕ
most_windows options held pairs = length (tables_or options.tables (workload_tables held.wal)) + pairs / options.chunk

-- A `capture` over crash-consistent disks, on which no session has run, doesn't use up a message budget above the workload's bound: by the
-- clauses `session` and `headline` of `run`.
abbrev pub GenerousBudgetsSuffice : ℕ → (wals logs stores new_wals new_logs new_stores : List ℕ → Type 0) → Type 0
GenerousBudgetsSuffice more wals logs stores new_wals new_logs new_stores =
    (options : CaptureOptions) (now : ℤ) (told_wal told_topics told_offsets : Option (List ℕ)) (status : Status)
    (before after : Option (List ℕ))
    → (runs : RunsSession (First options) now told_wal told_topics told_offsets wals logs stores new_wals new_logs new_stores status
    before after)
    → AreKept told_wal told_topics told_offsets wals logs stores
    → ((w t f : List ℕ) → new_wals w → new_logs t → new_stores f
    → GuaranteesAfterCrash (IsCompleteRun (Capture options) status) (asks_by (Capture options)) wals logs stores w t f)
    → (w t f : List ℕ) → told_wal ≡ Some w → told_topics ≡ Some t → told_offsets ≡ Some f → AreUnstarted wals logs stores w t f
    → (left : Contents) → MayLeaveContents new_wals new_logs new_stores left
    → (held : Contents) → ReadAs w t f held → (pairs : List (ℕ × Key)) → CoverWhole options held pairs
    → ReadsFew (most_messages more held.wal.workload (most_windows options held (length pairs))) options.messages status runs.end

-- A crash may leave the disks' bytes, and anything that it may leave of the source's log and of the offset store is read as these contents.
pub record AreAtRest (wals logs stores : List ℕ → Type 0) (held : Contents) (w t f : List ℕ) : Type 0 where
  pub wal : wals w
  pub topics : logs t
  pub offsets : stores f
  pub wal_only : (image : List ℕ) → wals image → IsWal image held.wal
  pub offsets_only : (image : List ℕ) → stores image → IsStore image held.offset

-- A `resume` over such disks doesn't use up a message budget above the workload's bound and the messages that were unsent when it began.
abbrev pub GenerousBudgetsSufficeAgain : ℕ → (wals logs stores new_wals new_logs new_stores : List ℕ → Type 0) → Type 0
GenerousBudgetsSufficeAgain more wals logs stores new_wals new_logs new_stores =
    (options : ResumeOptions) (now : ℤ) (told_wal told_topics told_offsets : Option (List ℕ))
    (status : Status) (before after : Option (List ℕ))
    → (runs : RunsSession (Again options) now told_wal told_topics told_offsets wals logs stores new_wals new_logs new_stores status
    before after)
    → AreKept told_wal told_topics told_offsets wals logs stores
    → ((w t f : List ℕ) → new_wals w → new_logs t → new_stores f
    → GuaranteesAfterCrash (IsCompleteRun (Resume options) status) (asks_by (Resume options)) wals logs stores w t f)
    → (w t f : List ℕ) → told_wal ≡ Some w → told_topics ≡ Some t → told_offsets ≡ Some f
    → (held : Contents) → ReadAs w t f held → AreAtRest wals logs stores held w t f
    → (left : Contents) → MayLeaveContents new_wals new_logs new_stores left → (offset : Offset) → held.offset ≡ Some offset
    → (pairs : List (ℕ × Key)) → CoverRows offset.infos (whole_history held.wal) pairs
    → ReadsFew
    (length (messages_sent held.wal offset.lsn)
    + most_messages more held.wal.workload (length offset.infos + length pairs / options.chunk)) options.messages status runs.end

-- ---- of a generated workload

-- The capture of `gen --run` on three empty disks doesn't use up a message budget above the workload's bound: by the clause `generating` of
-- `run`.
abbrev pub GeneratedBudgetsSuffice : ℕ → {W T F : Type 0} → DiskModel W → DiskModel T → DiskModel F → Type 0
GeneratedBudgetsSuffice more {W} {T} {F} wal_model topics_model offsets_model =
    (text : List ℕ) (now : ℤ) (old new : Disks W T F) (status : Status) (before after : Option (List ℕ))
    → (captured : WasCaptured wal_model topics_model offsets_model text now old new status before after)
    → wal_model.seen old.wal ≡ Some [] → topics_model.seen old.topics ≡ Some [] → offsets_model.seen old.offsets ≡ Some []
    → (left : Contents)
    → MayLeaveContents (wal_model.may_leave new.wal) (topics_model.may_leave new.topics) (offsets_model.may_leave new.offsets) left
    → (w t f : List ℕ) → wal_model.seen captured.made.wal ≡ Some w → topics_model.seen captured.made.topics ≡ Some t
    → offsets_model.seen captured.made.offsets ≡ Some f
    → (held : Contents) → ReadAs w t f held → (pairs : List (ℕ × Key)) → CoverWhole plain_capture held pairs
    → ReadsFew (most_messages more held.wal.workload (most_windows plain_capture held (length pairs))) plain_capture.messages status
    captured.runs.end
