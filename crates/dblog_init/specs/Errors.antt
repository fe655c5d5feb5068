-- The errors of the parts of `init`, as its own.
use Rattle.std.specs.Prelude.{ℕ, List, codes}
use Rattle.dbl_base.specs.declared.input.InputError.{InputError}
use Rattle.dbl_base.specs.declared.input.InputError.TheVariants as input
use Rattle.dbl_journal.specs.declared.error.JournalError.TheVariants as journal
use Rattle.dbl_topic.specs.declared.error.TopicError.{TopicError}
use Rattle.dbl_topic.specs.declared.error.TopicError.TheVariants as topic
use Rattle.dbl_offset.specs.declared.error.OffsetError.{OffsetError}
use Rattle.dbl_offset.specs.declared.error.OffsetError.TheVariants as offset
use Rattle.dbl_demo.specs.DemoWorkload.declared.error.DemoError.{DemoError}
use Rattle.dbl_demo.specs.DemoWorkload.declared.error.DemoError.TheVariants as demo
use Rattle.dblog_init.specs.declared.error.InitError.{InitError}
use Rattle.dblog_init.specs.declared.error.InitError.TheVariants.{Failed, InputFailed, InputTooLong, Script, Model, Memory}
use Rattle.dblog_init.specs.declared.error.Store.{Store}
use Rattle.dblog_init.specs.declared.error.Store.TheVariants.{Wal, Topics, Offsets}

-- The printed name of a store.
abbrev pub store_name : Store → List ℕ
store_name Wal = codes "wal"
store_name Topics = codes "topics"
store_name Offsets = codes "offsets"

-- The error of reading the input.
abbrev pub input_error : InputError → InitError
input_error input.Failed = InputFailed
input_error input.TooLong = InputTooLong
input_error input.Memory = Memory

-- The error of making a source.
abbrev pub demo_error : DemoError → InitError
demo_error (demo.Journal journal.Failed) = Failed Wal
demo_error (demo.Journal e) = Memory
demo_error (demo.Script e) = Script e
demo_error (demo.Model e) = Model e
demo_error (demo.BadEntry index) = Memory
demo_error demo.Memory = Memory

-- The error of making a topic log.
abbrev pub topic_error : TopicError → InitError
topic_error (topic.Journal journal.Failed) = Failed Topics
topic_error e = Memory

-- The error of making an offset store.
abbrev pub offset_error : OffsetError → InitError
offset_error offset.Failed = Failed Offsets
offset_error e = Memory
