-- The errors of the parts, as those of a command.
use Rattle.std.proofs.Common.{◌≡◌, ◌∙◌, ◌⊎◌, ℕ, List, refl, sym, ap, subst, inl, inr}
use Rattle.dbl_journal.specs.Form.{IsFaultAt}
use Rattle.dbl_journal.specs.declared.error.JournalError.TheVariants as journal
use Rattle.dbl_topic.specs.declared.error.TopicError.{TopicError}
use Rattle.dbl_topic.specs.declared.error.TopicError.TheVariants as topic
use Rattle.dbl_topic.specs.Logs.{HasBadEntry}
use Rattle.dbl_offset.specs.Stores.{HasBadOffset, IsNoStoreAt}
use Rattle.dbl_offset.specs.declared.error.OffsetError.{OffsetError}
use Rattle.dbl_offset.specs.declared.error.OffsetError.TheVariants as offset
use Rattle.dbl_lines.specs.declared.error.PrintError.{PrintError}
use Rattle.dbl_lines.specs.declared.error.PrintError.TheVariants as print
use Rattle.dblog_stores.specs.declared.error.CommandError.{CommandError}
use Rattle.dblog_stores.specs.declared.error.CommandError.TheVariants.{OutputFailed, Memory, Failed}
use Rattle.dblog_stores.specs.declared.error.Store.{Store}
use Rattle.dblog_stores.specs.declared.error.Store.TheVariants.{Topics, Offsets}
use Rattle.dblog_stores.specs.Answers.{HasNoOffset, IsNoLog}
use Rattle.dblog_stores.specs.Ends.{IsErrorOf, IsExternalCommandError}
use Rattle.dblog_stores.specs.Errors.{offset_error, print_error, topic_error}

-- ---- of a topic log

failed_topic : (error : TopicError) → topic_error error ≡ Failed Topics → error ≡ topic.Journal journal.Failed
failed_topic (topic.Journal journal.Failed) e = refl
failed_topic (topic.Journal (journal.NotAJournal at)) e = cc
failed_topic (topic.Journal (journal.EntryTooLong len)) e = cc
failed_topic (topic.Journal journal.Memory) e = cc
failed_topic (topic.BadEntry index) e = cc
failed_topic topic.Memory e = cc

pub topic_failed : (error : TopicError) (told : CommandError) → told ≡ topic_error error → told ≡ Failed Topics → error ≡ topic.Journal journal.Failed
topic_failed error told is e = failed_topic error (sym is ∙ e)

pub topic_tells : (error : TopicError) (told : CommandError) → told ≡ topic_error error → error ≡ topic.Journal journal.Failed → told ≡ Failed Topics
topic_tells error told is e = is ∙ ap topic_error e

kind_of_topic : (error : TopicError) → IsErrorOf Topics (topic_error error)
kind_of_topic (topic.Journal journal.Failed) = refl
kind_of_topic (topic.Journal (journal.NotAJournal at)) = refl
kind_of_topic (topic.Journal (journal.EntryTooLong len)) = tt
kind_of_topic (topic.Journal journal.Memory) = tt
kind_of_topic (topic.BadEntry index) = refl
kind_of_topic topic.Memory = tt

pub topic_kind : (error : TopicError) (told : CommandError) → told ≡ topic_error error → IsErrorOf Topics told
topic_kind error told is = subst (IsErrorOf Topics) (sym is) (kind_of_topic error)

no_log_of : (bytes : List ℕ) (error : TopicError) → ((index : ℕ) → error ≡ topic.BadEntry index → HasBadEntry bytes index) → ((at : ℕ) → error ≡ topic.Journal (journal.NotAJournal at) → IsFaultAt bytes at) → IsExternalCommandError (topic_error error) ⊎ IsNoLog bytes (topic_error error)
no_log_of bytes (topic.Journal journal.Failed) bad fault = inl tt
no_log_of bytes (topic.Journal (journal.NotAJournal at)) bad fault = inr (fault at refl)
no_log_of bytes (topic.Journal (journal.EntryTooLong len)) bad fault = inl tt
no_log_of bytes (topic.Journal journal.Memory) bad fault = inl tt
no_log_of bytes (topic.BadEntry index) bad fault = inr (bad index refl)
no_log_of bytes topic.Memory bad fault = inl tt

pub no_log_told : (bytes : List ℕ) (error : TopicError) (told : CommandError) → told ≡ topic_error error → ((index : ℕ) → error ≡ topic.BadEntry index → HasBadEntry bytes index) → ((at : ℕ) → error ≡ topic.Journal (journal.NotAJournal at) → IsFaultAt bytes at)
    → IsExternalCommandError told ⊎ IsNoLog bytes told
no_log_told bytes error told is bad fault = subst (λ e. IsExternalCommandError e ⊎ IsNoLog bytes e) (sym is) (no_log_of bytes error bad fault)

-- a group of a log that is held isn't read, or not all
pub group_cut : (error : TopicError) (told : CommandError) (number : ℕ) → told ≡ topic_error error → (error ≡ topic.Memory) ⊎ ((error ≡ topic.BadEntry number) ⊎ (error ≡ topic.Journal journal.Failed)) → (error ≡ topic.BadEntry number → ⊥) → IsExternalCommandError told
group_cut error told number is (inl e) good = subst IsExternalCommandError (sym (is ∙ ap topic_error e)) tt
group_cut error told number is (inr (inl e)) good = absurd (good e)
group_cut error told number is (inr (inr e)) good = subst IsExternalCommandError (sym (is ∙ ap topic_error e)) tt

-- ---- of an offset store

failed_offset : (error : OffsetError) → offset_error error ≡ Failed Offsets → error ≡ offset.Failed
failed_offset offset.Failed e = refl
failed_offset (offset.NotAStore at) e = cc
failed_offset (offset.BadOffset index) e = cc
failed_offset (offset.TooLong len) e = cc
failed_offset offset.Memory e = cc

pub offset_failed : (error : OffsetError) (told : CommandError) → told ≡ offset_error error → told ≡ Failed Offsets → error ≡ offset.Failed
offset_failed error told is e = failed_offset error (sym is ∙ e)

pub offset_tells : (error : OffsetError) (told : CommandError) → told ≡ offset_error error → error ≡ offset.Failed → told ≡ Failed Offsets
offset_tells error told is e = is ∙ ap offset_error e

kind_of_offset : (error : OffsetError) → IsErrorOf Offsets (offset_error error)
kind_of_offset offset.Failed = refl
kind_of_offset (offset.NotAStore at) = refl
kind_of_offset (offset.BadOffset index) = refl
kind_of_offset (offset.TooLong len) = tt
kind_of_offset offset.Memory = tt

pub offset_kind : (error : OffsetError) (told : CommandError) → told ≡ offset_error error → IsErrorOf Offsets told
offset_kind error told is = subst (IsErrorOf Offsets) (sym is) (kind_of_offset error)

no_offset_of : (bytes : List ℕ) (error : OffsetError) → ((at : ℕ) → error ≡ offset.NotAStore at → IsNoStoreAt bytes at) → ((index : ℕ) → error ≡ offset.BadOffset index → HasBadOffset bytes index) → IsExternalCommandError (offset_error error) ⊎ HasNoOffset bytes (offset_error error)
no_offset_of bytes offset.Failed fault bad = inl tt
no_offset_of bytes (offset.NotAStore at) fault bad = inr (fault at refl)
no_offset_of bytes (offset.BadOffset index) fault bad = inr (bad index refl)
no_offset_of bytes (offset.TooLong len) fault bad = inl tt
no_offset_of bytes offset.Memory fault bad = inl tt

pub no_offset_told : (bytes : List ℕ) (error : OffsetError) (told : CommandError) → told ≡ offset_error error → ((at : ℕ) → error ≡ offset.NotAStore at → IsNoStoreAt bytes at) → ((index : ℕ) → error ≡ offset.BadOffset index → HasBadOffset bytes index)
    → IsExternalCommandError told ⊎ HasNoOffset bytes told
no_offset_told bytes error told is fault bad = subst (λ e. IsExternalCommandError e ⊎ HasNoOffset bytes e) (sym is) (no_offset_of bytes error fault bad)

-- ---- of printing

output_failed_of : (error : PrintError) → print_error error ≡ OutputFailed → error ≡ print.OutputFailed
output_failed_of print.OutputFailed e = refl
output_failed_of print.Memory e = cc

pub print_failed : (error : PrintError) (told : CommandError) → told ≡ print_error error → told ≡ OutputFailed → error ≡ print.OutputFailed
print_failed error told is e = output_failed_of error (sym is ∙ e)

kind_of_print : (error : PrintError) → (print_error error ≡ OutputFailed) ⊎ (print_error error ≡ Memory)
kind_of_print print.OutputFailed = inl refl
kind_of_print print.Memory = inr refl

pub print_kind : (error : PrintError) (told : CommandError) → told ≡ print_error error → (told ≡ OutputFailed) ⊎ (told ≡ Memory)
print_kind error told is = subst (λ e. (e ≡ OutputFailed) ⊎ (e ≡ Memory)) (sym is) (kind_of_print error)

pub print_kind_of : (store : Store) (error : CommandError) → (error ≡ OutputFailed) ⊎ (error ≡ Memory) → (error ≡ OutputFailed) ⊎ IsErrorOf store error
print_kind_of store error (inl e) = inl e
print_kind_of store error (inr e) = inr (subst (IsErrorOf store) (sym e) tt)

-- printing fails no disk
pub print_fails_none : (store : Store) (error : CommandError) → (error ≡ OutputFailed) ⊎ (error ≡ Memory) → error ≡ Failed store → ⊥
print_fails_none store error (inl e) f = let contra : OutputFailed ≡ Failed store = sym e ∙ f in cc
print_fails_none store error (inr e) f = let contra : Memory ≡ Failed store = sym e ∙ f in cc

-- ---- kinds

pub no_output : (store : Store) (error : CommandError) → IsErrorOf store error → error ≡ OutputFailed → ⊥
no_output store error kind e = subst (IsErrorOf store) e kind

-- an error of one store isn't a failure of the other's disk
pub other_store : (error : CommandError) (store other : Store) → (store ≡ other → ⊥) → IsErrorOf store error → error ≡ Failed other → ⊥
other_store error store other apart kind e = apart (sym (subst (IsErrorOf store) e kind))

pub apart : Topics ≡ Offsets → ⊥
apart e = cc
