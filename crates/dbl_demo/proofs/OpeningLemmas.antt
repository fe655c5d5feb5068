-- A source that is opened: the faults of its journal, and of what was read of it.
use Rattle.std.proofs.Common.{◌≡◌, ◌∙◌, ◌⊎◌, ℕ, refl, sym, subst, inl, inr}
use Rattle.dbl_journal.specs.declared.error.JournalError.{JournalError}
use Rattle.dbl_journal.specs.declared.error.JournalError.TheVariants as broken
use Rattle.dbl_demo_workload.specs.declared.error.DemoError.{DemoError}
use Rattle.dbl_demo_workload.specs.declared.error.DemoError.TheVariants as fault
use Rattle.dbl_demo_workload.specs.Errors.{journal_error}
use Rattle.dbl_demo_workload.specs.Logs.{IsFailed}
use Rattle.dbl_demo.specs.Errors.{IsOpenFault}

-- ---- the journal couldn't be opened

module _ (e : JournalError) (f : DemoError) (told : f ≡ journal_error e) where
  pub as_failed : f ≡ fault.Journal broken.Failed → e ≡ broken.Failed
  as_failed is = by e (sym told ∙ is)
    where
      by : (x : JournalError) → journal_error x ≡ fault.Journal broken.Failed → x ≡ broken.Failed
      by broken.Failed is = refl
      by (broken.NotAJournal at) is = cc
      by (broken.EntryTooLong len) is = cc
      by broken.Memory is = cc

  pub is_failed : e ≡ broken.Failed → f ≡ fault.Journal broken.Failed
  is_failed is = subst (λ (x : JournalError). f ≡ journal_error x) is told

  pub as_no_journal : (at : ℕ) → f ≡ fault.Journal (broken.NotAJournal at) → e ≡ broken.NotAJournal at
  as_no_journal at is = by e (sym told ∙ is)
    where
      by : (x : JournalError) → journal_error x ≡ fault.Journal (broken.NotAJournal at) → x ≡ broken.NotAJournal at
      by broken.Failed is = cc
      by (broken.NotAJournal other) is = cc
      by (broken.EntryTooLong len) is = cc
      by broken.Memory is = cc

  pub no_bad_entry : (index : ℕ) → f ≡ fault.BadEntry index → ⊥
  no_bad_entry index is = by e (sym told ∙ is)
    where
      by : (x : JournalError) → journal_error x ≡ fault.BadEntry index → ⊥
      by broken.Failed is = cc
      by (broken.NotAJournal at) is = cc
      by (broken.EntryTooLong len) is = cc
      by broken.Memory is = cc

  pub journal_kind : ((len : ℕ) → e ≡ broken.EntryTooLong len → ⊥) → IsOpenFault f
  journal_kind short = subst IsOpenFault (sym told) (by e short)
    where
      by : (x : JournalError) → ((len : ℕ) → x ≡ broken.EntryTooLong len → ⊥) → IsOpenFault (journal_error x)
      by broken.Failed short = tt
      by (broken.NotAJournal at) short = tt
      by (broken.EntryTooLong len) short = absurd (short len refl)
      by broken.Memory short = tt

-- ---- an entry couldn't be read, or is bad

abbrev pub IsLogFault : DemoError → Type 0
IsLogFault e = (e ≡ fault.Memory) ⊎ (IsFailed e ⊎ ((index : ℕ) × (e ≡ fault.BadEntry index)))

pub log_kind : (e : DemoError) → IsLogFault e → IsOpenFault e
log_kind e (inl is) = subst IsOpenFault (sym is) tt
log_kind e (inr (inl is)) = subst IsOpenFault (sym is) tt
log_kind e (inr (inr bad)) = subst IsOpenFault (sym bad.1) tt

pub log_journal : (e : DemoError) → IsLogFault e → (at : ℕ) → e ≡ fault.Journal (broken.NotAJournal at) → ⊥
log_journal e (inl is) at other = let wrong : fault.Memory ≡ fault.Journal (broken.NotAJournal at) = sym is ∙ other in cc
log_journal e (inr (inl is)) at other = let wrong : fault.Journal broken.Failed ≡ fault.Journal (broken.NotAJournal at) = sym is ∙ other in cc
log_journal e (inr (inr bad)) at other = let wrong : fault.BadEntry bad.0 ≡ fault.Journal (broken.NotAJournal at) = sym bad.1 ∙ other in cc
