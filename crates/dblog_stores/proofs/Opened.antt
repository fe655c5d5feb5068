-- Stores that were opened: what is told after it, and what a crash leaves of their disks.
use Rattle.std.proofs.Common.{◌≡◌, ◌⊎◌, ◌∙◌, ℕ, Option, Ok, Err, IfErr, List, sym, ap, subst, inl, inr}
use Rattle.dbl_disk.specs.Model.{DiskModel}
use Rattle.dbl_journal.specs.declared.error.JournalError.TheVariants as journal
use Rattle.dbl_topic.specs.declared.error.TopicError.{TopicError}
use Rattle.dbl_topic.specs.declared.error.TopicError.TheVariants as topic
use Rattle.dbl_lines.specs.declared.error.PrintError.{PrintError}
use Rattle.dblog_stores.specs.declared.error.CommandError.{CommandError}
use Rattle.dblog_stores.specs.declared.error.CommandError.TheVariants.{OutputFailed, Memory, Failed, NotStarted, NotAStore, BadEntry}
use Rattle.dblog_stores.specs.declared.error.Store.{Store}
use Rattle.dblog_stores.specs.declared.error.Store.TheVariants.{Topics, Offsets}
use Rattle.dblog_stores.specs.Ends.{CutsLines, CommandEnd, Ends, HasOpenedOffset, IsAfterJournalOpening, IsErrorOf, IsRefusal, IsSynced}
use Rattle.dblog_stores.specs.Errors.{print_error, topic_error}
use Rattle.dblog_stores.proofs.ErrorLaws.{apart, print_kind}
use Rattle.dblog_stores.proofs.Kept.{err_one}
use Rattle.dbl_journal.specs.Calls.{Keeps}

-- ---- errors after the opening

pub memory_after : (error : CommandError) → error ≡ Memory → IsAfterJournalOpening error
memory_after error is = λ store at f. let contra : Memory ≡ NotAStore store at = sym is ∙ f in cc

failed_after : (error : CommandError) → error ≡ Failed Topics → IsAfterJournalOpening error
failed_after error is = λ store at f. let contra : Failed Topics ≡ NotAStore store at = sym is ∙ f in cc

bad_after : (error : CommandError) (number : ℕ) → error ≡ BadEntry Topics number → IsAfterJournalOpening error
bad_after error number is = λ store at f. let contra : BadEntry Topics number ≡ NotAStore store at = sym is ∙ f in cc

-- of a group that isn't read, or not all
pub group_after : (error : TopicError) (told : CommandError) (number : ℕ) → told ≡ topic_error error → (error ≡ topic.Memory) ⊎ ((error ≡ topic.BadEntry number) ⊎ (error ≡ topic.Journal journal.Failed)) → IsAfterJournalOpening told
group_after error told number is (inl e) = memory_after told (is ∙ ap topic_error e)
group_after error told number is (inr (inl e)) = bad_after told number (is ∙ ap topic_error e)
group_after error told number is (inr (inr e)) = failed_after told (is ∙ ap topic_error e)

-- of a group that isn't taken
pub refused_after : (number : ℕ) (P : Type 0) (error : CommandError) → (error ≡ Memory) ⊎ ((error ≡ BadEntry Topics number) × P) → IsAfterJournalOpening error
refused_after number P error (inl memory) = memory_after error memory
refused_after number P error (inr bad) = bad_after error number bad.0

-- of printing
pub print_after : (error : PrintError) (told : CommandError) → told ≡ print_error error → IsAfterJournalOpening told
print_after error told is = by_kind (print_kind error told is)
  where
    by_kind : (told ≡ OutputFailed) ⊎ (told ≡ Memory) → IsAfterJournalOpening told
    by_kind (inl e) = λ store at f. let contra : OutputFailed ≡ NotAStore store at = sym e ∙ f in cc
    by_kind (inr e) = memory_after told e

-- a command that ends so doesn't tell that a disk holds no store
pub end_after : (end : CommandEnd) (store : Store) (at : ℕ) → IfErr end IsAfterJournalOpening → end ≡ Err (NotAStore store at) → ⊥
end_after (Ok done) store at subsequent e = cc
end_after (Err error) store at subsequent e = subsequent store at (err_one error _ e)

pub other_no_store : (error : CommandError) (at : ℕ) → IsErrorOf Offsets error → error ≡ NotAStore Topics at → ⊥
other_no_store error at kind e = apart (subst (IsErrorOf Offsets) e kind)

-- ---- the offset's disk, which `apply` opens last

pub not_yet_opened : (error : CommandError) → IsErrorOf Topics error → HasOpenedOffset (Err error) → ⊥
not_yet_opened OutputFailed kind opened = kind
not_yet_opened Memory kind opened = opened
not_yet_opened (Failed store) kind opened = opened
not_yet_opened NotStarted kind opened = kind
not_yet_opened (NotAStore store at) kind opened = apart (sym kind ∙ opened)
not_yet_opened (BadEntry store index) kind opened = apart (sym kind ∙ opened)

pub opened_running : (error : CommandError) → HasOpenedOffset (Err error) → error ≡ Failed Offsets → ⊥
opened_running error opened e = subst (λ (x : CommandError). HasOpenedOffset (Err x)) e opened

-- ---- what a crash leaves

module _ {D : Type 0} (model : DiskModel D) where
  -- a disk that was synced stays so where it is only read
  pub synced_then : (failed : Type 0) (first second third : D) → IsSynced model first second → Keeps model failed second third → IsSynced model first third
  synced_then failed first second third synced k = λ bytes told crashed may. synced bytes told crashed (k.crash crashed may)

-- ---- lines that were to be written

-- they are cut short by no refusal
pub no_refusal : (P : Type 0) (lines : List (List ℕ)) (error : CommandError) (before after : Option (List ℕ)) → CutsLines lines error before after → IsRefusal error → P
no_refusal P lines OutputFailed before after cuts refusal = absurd refusal
no_refusal P lines Memory before after cuts refusal = absurd refusal
no_refusal P lines (Failed store) before after cuts refusal = absurd refusal
no_refusal P lines NotStarted before after cuts refusal = absurd cuts
no_refusal P lines (NotAStore store at) before after cuts refusal = absurd cuts
no_refusal P lines (BadEntry store index) before after cuts refusal = absurd cuts

pub refusal_first : (P : Type 0) (lines : List (List ℕ)) (end : CommandEnd) (before after : Option (List ℕ)) → Ends (Ok lines) end before after → IfErr end (λ error. IsRefusal error → P)
refusal_first P lines (Ok done) before after ends = tt
refusal_first P lines (Err error) before after ends = λ refusal. no_refusal P lines error before after ends refusal
