-- Errors of sinks and of topic logs.
use Rattle.dbl_journal.specs.declared.error.JournalError.{JournalError}
use Rattle.dbl_journal.specs.declared.error.JournalError.TheVariants as journal
use Rattle.dbl_topic.specs.declared.error.SinkError.{SinkError}
use Rattle.dbl_topic.specs.declared.error.SinkError.TheVariants as sink
use Rattle.dbl_topic.specs.declared.error.TopicError.{TopicError}
use Rattle.dbl_topic.specs.declared.error.TopicError.TheVariants.{Journal, Memory}

-- a journal's error as one of the topic log; `Memory` stays `Memory`
abbrev pub topic_fault : JournalError → TopicError
topic_fault journal.Memory = Memory
topic_fault journal.Failed = Journal journal.Failed
topic_fault (journal.NotAJournal at) = Journal (journal.NotAJournal at)
topic_fault (journal.EntryTooLong len) = Journal (journal.EntryTooLong len)

-- a journal's append error as one of a sink; `NotAJournal` doesn't occur there
abbrev pub sink_fault : JournalError → SinkError
sink_fault journal.Failed = sink.Failed
sink_fault (journal.NotAJournal at) = sink.Failed
sink_fault (journal.EntryTooLong len) = sink.TooLong len
sink_fault journal.Memory = sink.Memory
