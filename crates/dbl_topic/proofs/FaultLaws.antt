-- A journal's errors, as those of a topic log.
use Rattle.std.proofs.Common.{◌≡◌, refl}
use Rattle.dbl_journal.specs.declared.error.JournalError.{JournalError}
use Rattle.dbl_journal.specs.declared.error.JournalError.TheVariants as journal
use Rattle.dbl_topic.specs.declared.error.TopicError.{TopicError}
use Rattle.dbl_topic.specs.declared.error.TopicError.TheVariants.{Journal}
use Rattle.dbl_topic.specs.Faults.{topic_fault}

pub failed_of : (e : JournalError) (f : TopicError) → f ≡ topic_fault e → f ≡ Journal journal.Failed → e ≡ journal.Failed
failed_of journal.Failed f is failed = refl
failed_of journal.Memory f is failed = cc
failed_of (journal.NotAJournal at) f is failed = cc
failed_of (journal.EntryTooLong len) f is failed = cc
