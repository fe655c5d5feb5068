-- A source that is made: why a workload is refused, which faults there are besides, and what is left of the disk.
use Rattle.std.proofs.Common.{◌≡◌, ◌∙◌, ◌⊎◌, ℕ, ◌≤◌, ◌^◌, Some, List, [], length, sym, ap, subst, arith, inl, inr}
use Rattle.dbl_disk.specs.Model.{DiskModel}
use Rattle.dbl_journal.specs.declared.error.JournalError.TheVariants as broken
use Rattle.dbl_demo_workload.specs.declared.error.DemoError.{DemoError}
use Rattle.dbl_demo_workload.specs.declared.error.DemoError.TheVariants as fault
use Rattle.dbl_demo_workload.specs.Refusals.{IsRefused}
use Rattle.dbl_demo_workload.specs.Refusals.IsRefused.{lines, table, row}
use Rattle.dbl_demo.specs.Begun.{IsBeginFault}
use Rattle.dbl_demo.specs.Errors.{IsMakeFault}

-- ---- before the first call of the disk

pub refused_kind : (bytes : List ℕ) (e : DemoError) → IsRefused bytes e → IsMakeFault e
refused_kind bytes e (lines cause bad is) = subst IsMakeFault (sym is) tt
refused_kind bytes e (table cause bad is) = subst IsMakeFault (sym is) tt
refused_kind bytes e (row number bad is) = subst IsMakeFault (sym is) tt

refused_spares : (bytes : List ℕ) (e : DemoError) → IsRefused bytes e → e ≡ fault.Journal broken.Failed → ⊥
refused_spares bytes e (lines cause bad is) failed = let wrong : fault.Script cause ≡ fault.Journal broken.Failed = sym is ∙ failed in cc
refused_spares bytes e (table cause bad is) failed = let wrong : fault.Model cause ≡ fault.Journal broken.Failed = sym is ∙ failed in cc
refused_spares bytes e (row number bad is) failed = absurd (let t = sym is ∙ failed in cc)

refused_remembers : (bytes : List ℕ) (e : DemoError) → IsRefused bytes e → e ≡ fault.Memory → ⊥
refused_remembers bytes e (lines cause bad is) memory = let wrong : fault.Script cause ≡ fault.Memory = sym is ∙ memory in cc
refused_remembers bytes e (table cause bad is) memory = let wrong : fault.Model cause ≡ fault.Memory = sym is ∙ memory in cc
refused_remembers bytes e (row number bad is) memory = absurd (let t = sym is ∙ memory in cc)

module _ (bytes : List ℕ) (e : DemoError) where
  pub prepare_kinds : (e ≡ fault.Memory) ⊎ IsRefused bytes e → IsMakeFault e
  prepare_kinds (inl memory) = subst IsMakeFault (sym memory) tt
  prepare_kinds (inr refused) = refused_kind bytes e refused

  pub prepare_refused : (e ≡ fault.Memory) ⊎ IsRefused bytes e → (e ≡ fault.Memory) ⊎ ((e ≡ fault.Journal broken.Failed) ⊎ IsRefused bytes e)
  prepare_refused (inl memory) = inl memory
  prepare_refused (inr refused) = inr (inr refused)

  pub prepare_spares : (e ≡ fault.Memory) ⊎ IsRefused bytes e → e ≡ fault.Journal broken.Failed → ⊥
  prepare_spares (inl memory) failed = let wrong : fault.Memory ≡ fault.Journal broken.Failed = sym memory ∙ failed in cc
  prepare_spares (inr refused) failed = refused_spares bytes e refused failed

  -- ---- after it

  pub begin_kinds : IsBeginFault e → IsMakeFault e
  begin_kinds (inl memory) = subst IsMakeFault (sym memory) tt
  begin_kinds (inr failed) = subst IsMakeFault (sym failed) tt

  pub begin_refused : IsBeginFault e → (e ≡ fault.Memory) ⊎ ((e ≡ fault.Journal broken.Failed) ⊎ IsRefused bytes e)
  begin_refused (inl memory) = inl memory
  begin_refused (inr failed) = inr (inl failed)

  -- a workload that is refused is refused before
  pub begin_takes : IsBeginFault e → IsRefused bytes e → ⊥
  begin_takes (inl memory) refused = refused_remembers bytes e refused memory
  begin_takes (inr failed) refused = refused_spares bytes e refused failed

-- ---- the disk

pub empty_small : {D : Type 0} (model : DiskModel D) (disk : D) (bytes : List ℕ) → model.seen disk ≡ Some [] → model.seen disk ≡ Some bytes
    → length bytes ≤ 2 ^ 30
empty_small model disk bytes told is =
    let both : Some [] ≡ Some bytes = sym told ∙ is in
    let same : [] ≡ bytes = cc in
    omega (arith, ap (λ (l : List ℕ). length l) same)
