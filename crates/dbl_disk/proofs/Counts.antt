-- Counts of calls, where they are told.
use Rattle.std.proofs.Common.{◌≡◌, ◌∙◌, ℕ, ◌+◌, ◌-◌, ◌^◌, min, Option, Some, None, ap, refl, arith}
use Rattle.dbl_base.specs.Streams.{incremented}
use Rattle.dbl_disk.specs.Disks.{IsCalled}
use Rattle.dbl_disk.specs.Fuse.{all_calls}

-- one more call of the disk after is one more in all
pub one_passed : (old new : Option ℕ) (refused still : ℕ) → still ≡ refused → IsCalled old new → (count : ℕ) → all_calls old refused ≡ Some count → all_calls new still ≡ Some (incremented count)
one_passed None new refused still same called count is = cc
one_passed (Some passed) new refused still same called count is =
    let so : min (passed + refused) (2 ^ 64 - 1) ≡ count = cc in
    ap (λ (o : Option ℕ). all_calls o still) (called passed refl) ∙ ap (λ (n : ℕ). Some n) (omega (arith, so))
