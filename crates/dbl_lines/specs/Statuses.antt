-- The exit statuses of the program.
use Rattle.std.specs.Prelude.{ℕ}
use Rattle.dbl_lines.specs.declared.status.Status.{Status}
use Rattle.dbl_lines.specs.declared.status.Status.TheVariants.{Done, InvalidArguments, BudgetSpent, StartMismatch, MalformedLog}
use Rattle.dbl_lines.specs.declared.status.Status.TheVariants.{Unsupported, SourceFailed, TopicsFailed, OffsetsFailed, StdinFailed}
use Rattle.dbl_lines.specs.declared.status.Status.TheVariants.{StdoutFailed, OutOfMemory, InvalidInput, InvalidStore, LogGone}
use Rattle.dbl_lines.specs.declared.status.Status.TheVariants.{RecordRefused}

-- the exit status with which the process ends
abbrev pub code_of : Status → ℕ
code_of Done = 0
code_of InvalidArguments = 2
code_of BudgetSpent = 3
code_of StartMismatch = 4
code_of MalformedLog = 5
code_of Unsupported = 6
code_of SourceFailed = 7
code_of TopicsFailed = 8
code_of OffsetsFailed = 9
code_of StdinFailed = 10
code_of StdoutFailed = 11
code_of OutOfMemory = 12
code_of InvalidInput = 13
code_of InvalidStore = 14
code_of LogGone = 15
code_of RecordRefused = 17
