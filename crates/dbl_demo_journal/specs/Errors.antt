-- The errors of a journal, as a source's own.
use Rattle.dbl_journal.specs.declared.error.JournalError.{JournalError}
use Rattle.dbl_journal.specs.declared.error.JournalError.TheVariants as journal
use Rattle.dbl_source_log.specs.declared.error.SourceError.{SourceError}
use Rattle.dbl_source_log.specs.declared.error.SourceError.TheVariants as source

-- The error of appending an entry that isn't too long to an open journal, and of reading one.
abbrev pub source_error : JournalError → SourceError
source_error journal.Failed = source.Failed
source_error (journal.NotAJournal at) = source.Memory
source_error (journal.EntryTooLong len) = source.Memory
source_error journal.Memory = source.Memory
