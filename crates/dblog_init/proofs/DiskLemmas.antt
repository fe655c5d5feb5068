-- Disks that were asked for their lengths, and what is left of them after that.
use Rattle.std.proofs.Common.{◌≡◌, ◌∙◌, ℕ, ◌≤◌, ◌^◌, Some, Err, List, length, refl, sym, subst, arith}
use Rattle.std.specs.Prelude.{max}
use Rattle.dblog_init.specs.declared.error.InitError.TheVariants.{Failed}
use Rattle.dblog_init.specs.declared.error.Store.{Store}
use Rattle.dblog_init.specs.Answers.{InitEnd}
use Rattle.dblog_init.specs.Disks.{IsAtMostMeasured, LeavesDisk}
use Rattle.dbl_disk.specs.Model.{DiskModel}

abbrev fails : Store → InitEnd → Type 0
fails store end = end ≡ Err (Failed store)

module _ {D : Type 0} (model : DiskModel D) (store : Store) where
  -- a disk that wasn't touched
  pub asked_same : (end : InitEnd) (disk : D) → (fails store end → ⊥) → IsAtMostMeasured model store end disk disk
  asked_same end disk other = record {
    keeps = record {
      same = refl;
      crash = λ crashed may. may;
      later = omega arith;
      cause = λ is. absurd (other is);
      steady = λ none bytes is. refl;
    };
    unsynced = λ crashed may. may;
  }

  -- anything but that it failed
  pub asked_as : (first end : InitEnd) (old new : D) → (fails store first → ⊥) → (fails store end → ⊥) → IsAtMostMeasured model store first old new → IsAtMostMeasured model store end old new
  asked_as first end old new before other asked = record {
    keeps = record {
      same = asked.keeps.same;
      crash = asked.keeps.crash;
      later = asked.keeps.later;
      cause = λ is. absurd (other is);
      steady = λ none. asked.keeps.steady before;
    };
    unsynced = asked.unsynced;
  }

  -- it is no longer than it was
  pub asked_leaves : (end : InitEnd) (old new : D) → IsAtMostMeasured model store end old new → LeavesDisk model store end old new
  asked_leaves end old new asked = record {
    later = asked.keeps.later;
    cause = asked.keeps.cause;
    steady = asked.keeps.steady;
    short = λ before after was is. (
        let same : Some after ≡ Some before = sym is ∙ asked.keeps.same ∙ was in
        let bytes : after ≡ before = cc in
        subst (λ (b : List ℕ). length b ≤ max (length before) (2 ^ 30)) (sym bytes) (omega arith));
  }

  -- what was left of it after the asking
  pub leaves_after : (first end : InitEnd) (old mid new : D) → (fails store first → ⊥) → IsAtMostMeasured model store first old mid → LeavesDisk model store end mid new → LeavesDisk model store end old new
  leaves_after first end old mid new before asked left = record {
    later = omega (arith, asked.keeps.later, left.later);
    cause = λ is. omega (arith, asked.keeps.later, left.cause is);
    steady = λ none bytes is. left.steady none bytes (asked.keeps.same ∙ is) ∙ asked.keeps.steady before bytes is;
    short = λ bytes after was is. left.short bytes after (asked.keeps.same ∙ was) is;
  }
