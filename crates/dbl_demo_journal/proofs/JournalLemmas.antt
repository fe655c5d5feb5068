-- What the journal of a source is after an append or a read, and the error that the source reports.
use Rattle.std.proofs.Common.{◌≡◌, ◌∙◌, ℕ, List, true, false, refl, sym, ap, subst}
use Rattle.std.specs.Prelude.{IsTrue, Result, Err}
use Rattle.dbl_disk.specs.Model.{DiskModel}
use Rattle.dbl_journal.specs.declared.error.JournalError.{JournalError}
use Rattle.dbl_journal.specs.declared.error.JournalError.TheVariants as journal
use Rattle.dbl_journal.specs.Growth.{ExtendsJournal}
use Rattle.dbl_journal.specs.Stored.{Lists, OnDisk}
use Rattle.dbl_source_log.specs.declared.error.SourceError.{SourceError}
use Rattle.dbl_source_log.specs.declared.error.SourceError.TheVariants as source
use Rattle.dbl_demo_journal.specs.Errors.{source_error}

-- ---- the error of a journal, as a source's

pub was_failed : (e : JournalError) → source_error e ≡ source.Failed → e ≡ journal.Failed
was_failed journal.Failed is = refl
was_failed (journal.NotAJournal at) is = cc
was_failed (journal.EntryTooLong len) is = cc
was_failed journal.Memory is = cc

pub not_failed : (e : JournalError) → source_error e ≡ source.Memory → e ≡ journal.Failed → ⊥
not_failed e is failed = let wrong : source.Failed ≡ source.Memory = sym (ap source_error failed) ∙ is in cc

-- an error that is no failure of the source's is none of the journal's
pub failed_on : {A B : Type 0} (e : JournalError) (reported : SourceError) → reported ≡ source_error e → ◌≡◌ {A = Result A JournalError} (Err e) (Err journal.Failed)
    → ◌≡◌ {A = Result B SourceError} (Err reported) (Err source.Failed)
failed_on e reported is failed = let same : e ≡ journal.Failed = (let f = failed in cc) in ap (λ (x : SourceError). Err x) (is ∙ ap source_error same)

-- ---- what a call leaves of a journal

module _ {D : Type 0} (model : DiskModel D) (old new : OnDisk D) where
  -- nothing was appended
  pub lists_kept : new ≡ old → (forms : List (List ℕ)) → Lists model old forms → Lists model new forms
  lists_kept same forms lists = subst (λ (j : OnDisk D). Lists model j forms) (sym same) lists

  -- it was only read
  pub comes_by_read : new ≡ record old { disk = new.disk } → model.seen new.disk ≡ model.seen old.disk → ((forms : List (List ℕ)) → Lists model old forms → Lists model new forms) → ExtendsJournal model old new
  comes_by_read same told lists gate most come = record {
    lists = λ live. (let was = come.lists (subst IsTrue (ap (λ (j : OnDisk D). j.live) same) live) in (was.0, lists was.0 was.1));
    told = (come.told.0, told ∙ come.told.1);
    reaches = λ bytes is. come.reaches bytes (sym told ∙ is);
  }

-- where it failed it can't be used, and else it is what it was
pub append_stays : {D : Type 0} (old new : OnDisk D) (e : JournalError) → (e ≡ journal.Failed → new.live ≡ false) → ((e ≡ journal.Failed → ⊥) → new ≡ old) → IsTrue new.live → new ≡ old
append_stays old new journal.Failed dead same live = absurd (let gone : new.live ≡ false = dead refl in let both : true ≡ false = sym live ∙ gone in cc)
append_stays old new (journal.NotAJournal at) dead same live = same (λ is. let t = is in cc)
append_stays old new (journal.EntryTooLong len) dead same live = same (λ is. let t = is in cc)
append_stays old new journal.Memory dead same live = same (λ is. let t = is in cc)
