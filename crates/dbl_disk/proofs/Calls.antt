-- The effect on a disk of several calls of a store, one after another.
use Rattle.std.proofs.Common.{◌∙◌, arith}
use Rattle.dbl_disk.specs.Model.{DiskModel}
use Rattle.dbl_disk.specs.Calls.{Keeps}

module _ {D : Type 0} (model : DiskModel D) where
  -- the effect of two calls, of which only the second may have failed
  pub keeps_on : (failed : Type 0) (first second third : D) → Keeps model ⊥ first second → Keeps model failed second third → Keeps model failed first third
  keeps_on failed first second third a b = record {
    same = b.same ∙ a.same;
    crash = λ crashed may. a.crash crashed (b.crash crashed may);
    later = omega (arith, a.later, b.later);
    cause = λ is. (let rose = b.cause is in omega (arith, a.later, rose));
    steady = λ no bytes told. b.steady no bytes (a.same ∙ told) ∙ a.steady (λ never. never) bytes told;
  }

  -- the same failure, reported as another error
  pub keeps_told_as : (failed told : Type 0) (old new : D) → (told → failed) → (failed → told) → Keeps model failed old new → Keeps model told old new
  keeps_told_as failed told old new back on k = record {
    same = k.same;
    crash = k.crash;
    later = k.later;
    cause = λ is. k.cause (back is);
    steady = λ no. k.steady (λ is. no (on is));
  }
