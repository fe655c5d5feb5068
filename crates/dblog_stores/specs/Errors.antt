-- The errors of a command: the status and the line of each, and the errors of its parts.
use Rattle.std.specs.Prelude.{ℕ, ◌++◌, List, codes, decimal}
use Rattle.dbl_journal.specs.declared.error.JournalError.TheVariants as journal
use Rattle.dbl_topic.specs.declared.error.TopicError.{TopicError}
use Rattle.dbl_topic.specs.declared.error.TopicError.TheVariants as topic
use Rattle.dbl_offset.specs.declared.error.OffsetError.{OffsetError}
use Rattle.dbl_offset.specs.declared.error.OffsetError.TheVariants as offset
use Rattle.dbl_lines.specs.declared.status.Status.{Status}
use Rattle.dbl_lines.specs.declared.status.Status.TheVariants.{StartMismatch, TopicsFailed, OffsetsFailed}
use Rattle.dbl_lines.specs.declared.status.Status.TheVariants.{StdoutFailed, OutOfMemory, InvalidStore}
use Rattle.dbl_lines.specs.declared.error.PrintError.{PrintError}
use Rattle.dbl_lines.specs.declared.error.PrintError.TheVariants as print
use Rattle.dblog_stores.specs.declared.error.CommandError.{CommandError}
use Rattle.dblog_stores.specs.declared.error.CommandError.TheVariants.{OutputFailed, Memory, Failed, NotStarted, NotAStore, BadEntry}
use Rattle.dblog_stores.specs.declared.error.Store.{Store}
use Rattle.dblog_stores.specs.declared.error.Store.TheVariants.{Topics, Offsets}

-- The printed name of a store.
abbrev pub store_name : Store → List ℕ
store_name Topics = codes "topics"
store_name Offsets = codes "offsets"

-- The program's exit status for an error.
abbrev pub error_status : CommandError → Status
error_status OutputFailed = StdoutFailed
error_status Memory = OutOfMemory
error_status (Failed Topics) = TopicsFailed
error_status (Failed Offsets) = OffsetsFailed
error_status NotStarted = StartMismatch
error_status (NotAStore store at) = InvalidStore
error_status (BadEntry store index) = InvalidStore

-- The error's line, without its newline.
abbrev pub error_line : CommandError → List ℕ
error_line OutputFailed = codes "dblog: output failed"
error_line Memory = codes "dblog: out of memory"
error_line (Failed store) = codes "dblog: " ++ store_name store ++ codes " failed"
error_line NotStarted = codes "dblog: not started"
error_line (NotAStore store at) = codes "dblog: not a store: " ++ store_name store ++ codes " at " ++ decimal at
error_line (BadEntry store index) = codes "dblog: bad entry " ++ decimal index ++ codes " in " ++ store_name store

-- ---- for private clauses: the errors of the parts

-- The error of printing lines.
abbrev pub print_error : PrintError → CommandError
print_error print.OutputFailed = OutputFailed
print_error print.Memory = Memory

-- The error of a topic log.
abbrev pub topic_error : TopicError → CommandError
topic_error (topic.Journal journal.Failed) = Failed Topics
topic_error (topic.Journal (journal.NotAJournal at)) = NotAStore Topics at
topic_error (topic.Journal (journal.EntryTooLong len)) = Memory
topic_error (topic.Journal journal.Memory) = Memory
topic_error (topic.BadEntry index) = BadEntry Topics index
topic_error topic.Memory = Memory

-- The error of an offset store.
abbrev pub offset_error : OffsetError → CommandError
offset_error offset.Failed = Failed Offsets
offset_error (offset.NotAStore at) = NotAStore Offsets at
offset_error (offset.BadOffset index) = BadEntry Offsets index
offset_error (offset.TooLong len) = Memory
offset_error offset.Memory = Memory
