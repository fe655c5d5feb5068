-- The status and the lines of a session's result.
use Rattle.std.specs.Prelude.{◌≡◌, ◌⊎◌, ℕ, Option, Ok, Err, List, [], ◌∷◌, ◌++◌, codes, decimal}
use Rattle.dbl_base.specs.Lines.{lines_text}
use Rattle.dblog_init.specs.declared.error.Store.{Store}
use Rattle.dblog_init.specs.declared.error.Store.TheVariants.{Wal, Topics, Offsets}
use Rattle.dblog_init.specs.Errors.{store_name}
use Rattle.dblog_connect_ends.specs.declared.error.ConnectError.{ConnectError}
use Rattle.dblog_connect_ends.specs.declared.error.ConnectError.TheVariants as connect
use Rattle.dblog_connect_ends.specs.Ends.{ConnectEnd}
use Rattle.dblog_capture_text.specs.Halts.{halt_line, halt_status}
use Rattle.dblog_capture_text.specs.Reports.{ending_status, report_lines}
use Rattle.dbl_lines.specs.declared.status.Status.{Status}
use Rattle.dbl_lines.specs.declared.status.Status.TheVariants.{Done, BudgetSpent, StartMismatch, MalformedLog, Unsupported, SourceFailed}
use Rattle.dbl_lines.specs.declared.status.Status.TheVariants.{TopicsFailed, OffsetsFailed, OutOfMemory, InvalidStore, LogGone}
use Rattle.dbl_lines.specs.declared.status.Status.TheVariants.{RecordRefused}
use Rattle.dbl_lines.specs.declared.run_error.RunError.TheVariants.{Memory}
use Rattle.dbl_lines.specs.Faults.{fault_line}
use Rattle.dbl_lines.specs.Says.{IsCutShort, Writes}

-- The exit status of a failed disk.
abbrev pub store_status : Store → Status
store_status Wal = SourceFailed
store_status Topics = TopicsFailed
store_status Offsets = OffsetsFailed

-- The exit status of an error of the connector.
abbrev pub connect_status : ConnectError → Status
connect_status (connect.Failed store) = store_status store
connect_status (connect.NotAStore store at) = InvalidStore
connect_status (connect.BadEntry store index) = InvalidStore
connect_status connect.AlreadyStarted = StartMismatch
connect_status connect.NotStarted = StartMismatch
connect_status (connect.Halted halt) = halt_status halt
connect_status (connect.Refused position ordinal) = RecordRefused
connect_status connect.Memory = OutOfMemory

-- The line of an error of the connector, without its newline.
abbrev pub connect_line : ConnectError → List ℕ
connect_line (connect.Failed Wal) = codes "dblog: source failed"
connect_line (connect.Failed store) = codes "dblog: " ++ (store_name store ++ codes " failed")
connect_line (connect.NotAStore store at) = codes "dblog: not a store: " ++ (store_name store ++ (codes " at " ++ decimal at))
connect_line (connect.BadEntry store index) = codes "dblog: bad entry " ++ (decimal index ++ (codes " in " ++ store_name store))
connect_line connect.AlreadyStarted = codes "dblog: already started"
connect_line connect.NotStarted = codes "dblog: not started"
connect_line (connect.Halted halt) = halt_line halt
connect_line (connect.Refused position ordinal) =
    codes "dblog: record refused at " ++ (decimal position ++ (codes " " ++ decimal ordinal))
connect_line connect.Memory = fault_line Memory

-- The exit status of a session.
abbrev pub session_status : ConnectEnd → Status
session_status (Ok summary) = ending_status summary.ending
session_status (Err e) = connect_status e

-- The lines of a session: its report, or the line of its error only.
abbrev pub session_lines : ConnectEnd → List (List ℕ)
session_lines (Ok summary) = report_lines summary.ending summary.report
session_lines (Err e) = connect_line e ∷ []

-- The lines of a session were to be written and its status returned, or those of out of memory.
abbrev pub SaysSession : ConnectEnd → Status → Option (List ℕ) → Option (List ℕ) → Type 0
SaysSession end status before after =
    Writes (session_status end) (lines_text (session_lines end)) status before after
    ⊎ Writes OutOfMemory (lines_text (fault_line Memory ∷ [])) status before after

-- The statuses of a session, for every behaviour of the disks and the output.
abbrev pub IsSessionStatus : Status → Type 0
IsSessionStatus status = (status ≡ Done) ⊎ ((status ≡ BudgetSpent) ⊎ ((status ≡ StartMismatch) ⊎ ((status ≡ MalformedLog)
    ⊎ ((status ≡ Unsupported) ⊎ ((status ≡ InvalidStore) ⊎ ((status ≡ LogGone)
    ⊎ ((status ≡ SourceFailed)
    ⊎ (((status ≡ TopicsFailed) ⊎ ((status ≡ OffsetsFailed) ⊎ (status ≡ RecordRefused))) ⊎ IsCutShort status))))))))

-- The statuses of a session that ended normally.
abbrev pub IsNormalStatus : Status → Type 0
IsNormalStatus status = (status ≡ Done) ⊎ (status ≡ BudgetSpent)
