-- The errors of the parts of the connector, as its own.
use Rattle.dbl_journal.specs.declared.error.JournalError.TheVariants as journal
use Rattle.dbl_topic.specs.declared.error.TopicError.{TopicError}
use Rattle.dbl_topic.specs.declared.error.TopicError.TheVariants as topic
use Rattle.dbl_offset.specs.declared.error.OffsetError.{OffsetError}
use Rattle.dbl_offset.specs.declared.error.OffsetError.TheVariants as offset
use Rattle.dbl_demo.specs.DemoWorkload.declared.error.DemoError.{DemoError}
use Rattle.dbl_demo.specs.DemoWorkload.declared.error.DemoError.TheVariants as demo
use Rattle.dbl_capture_work.specs.declared.halt.Halt.{Halt}
use Rattle.dbl_capture_work.specs.declared.halt.Halt.TheVariants as halt
use Rattle.dblog_init.specs.declared.error.Store.{Store}
use Rattle.dblog_init.specs.declared.error.Store.TheVariants.{Wal, Topics, Offsets}
use Rattle.dblog_connect_ends.specs.declared.error.ConnectError.{ConnectError}
use Rattle.dblog_connect_ends.specs.declared.error.ConnectError.TheVariants.{Failed, NotAStore, BadEntry, AlreadyStarted}
use Rattle.dblog_connect_ends.specs.declared.error.ConnectError.TheVariants.{NotStarted, Halted, Refused, Memory}

-- The error of opening a source.
abbrev pub demo_error : DemoError → ConnectError
demo_error (demo.Journal journal.Failed) = Failed Wal
demo_error (demo.Journal (journal.NotAJournal at)) = NotAStore Wal at
demo_error (demo.Journal (journal.EntryTooLong len)) = Memory
demo_error (demo.Journal journal.Memory) = Memory
demo_error (demo.Script e) = Memory
demo_error (demo.Model e) = Memory
demo_error (demo.BadEntry index) = BadEntry Wal index
demo_error demo.Memory = Memory

-- The error of opening a topic log.
abbrev pub topic_error : TopicError → ConnectError
topic_error (topic.Journal journal.Failed) = Failed Topics
topic_error (topic.Journal (journal.NotAJournal at)) = NotAStore Topics at
topic_error (topic.Journal (journal.EntryTooLong len)) = Memory
topic_error (topic.Journal journal.Memory) = Memory
topic_error (topic.BadEntry index) = BadEntry Topics index
topic_error topic.Memory = Memory

-- The error of opening an offset store.
abbrev pub offset_error : OffsetError → ConnectError
offset_error offset.Failed = Failed Offsets
offset_error (offset.NotAStore at) = NotAStore Offsets at
offset_error (offset.BadOffset index) = BadEntry Offsets index
offset_error (offset.TooLong len) = Memory
offset_error offset.Memory = Memory

-- The error of a halt: a failed device is its disk, and out of memory a variant of its own.
abbrev pub halt_error : Halt → ConnectError
halt_error halt.Source = Failed Wal
halt_error halt.Sink = Failed Topics
halt_error halt.Offsets = Failed Offsets
halt_error halt.Memory = Memory
halt_error h = Halted h

-- ---- kinds of errors

-- A disk failed, memory ran out, or a record was refused.
abbrev pub IsExternalConnectError : ConnectError → Type 0
IsExternalConnectError (Failed store) = Unit {0}
IsExternalConnectError (Refused position ordinal) = Unit {0}
IsExternalConnectError Memory = Unit {0}
IsExternalConnectError e = ⊥

-- The halt is neither a failed device nor out of memory.
abbrev pub IsOwnHalt : Halt → Type 0
IsOwnHalt halt.Source = ⊥
IsOwnHalt halt.Sink = ⊥
IsOwnHalt halt.Offsets = ⊥
IsOwnHalt halt.Memory = ⊥
IsOwnHalt h = Unit {0}

-- The error came before the disk of this store was opened, in their order.
abbrev pub IsBeforeStore : Store → ConnectError → Type 0
IsBeforeStore Wal e = ⊥
IsBeforeStore Topics (NotAStore Wal at) = Unit {0}
IsBeforeStore Topics (BadEntry Wal index) = Unit {0}
IsBeforeStore Topics e = ⊥
IsBeforeStore Offsets (NotAStore Offsets at) = ⊥
IsBeforeStore Offsets (BadEntry Offsets index) = ⊥
IsBeforeStore Offsets (NotAStore store at) = Unit {0}
IsBeforeStore Offsets (BadEntry store index) = Unit {0}
IsBeforeStore Offsets e = ⊥

-- A halt in an error is neither a failed device nor out of memory.
abbrev pub IsConnectError : ConnectError → Type 0
IsConnectError (Halted h) = IsOwnHalt h
IsConnectError e = Unit {0}

-- The disks have contents with which the command can't begin.
abbrev pub IsConnectRefusal : ConnectError → Type 0
IsConnectRefusal (NotAStore store at) = Unit {0}
IsConnectRefusal (BadEntry store index) = Unit {0}
IsConnectRefusal AlreadyStarted = Unit {0}
IsConnectRefusal NotStarted = Unit {0}
IsConnectRefusal e = ⊥

-- The error isn't that this disk, or one that is opened before it, has no valid store.
abbrev pub IsAfterOpening : Store → ConnectError → Type 0
IsAfterOpening Wal (NotAStore Wal at) = ⊥
IsAfterOpening Wal (BadEntry Wal index) = ⊥
IsAfterOpening Wal e = Unit {0}
IsAfterOpening Topics (NotAStore Offsets at) = Unit {0}
IsAfterOpening Topics (BadEntry Offsets index) = Unit {0}
IsAfterOpening Offsets (NotAStore store at) = ⊥
IsAfterOpening Offsets (BadEntry store index) = ⊥
IsAfterOpening Topics (NotAStore store at) = ⊥
IsAfterOpening Topics (BadEntry store index) = ⊥
IsAfterOpening store e = Unit {0}
