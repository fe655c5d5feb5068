-- Calls of a disk, counted.
use Rattle.std.proofs.Common.{◌≡◌, ◌∙◌, ◌+◌, ◌-◌, ◌^◌, ℕ, Some, ap, arith}
use Rattle.std.specs.Prelude.{min}
use Rattle.dbl_disk.specs.Disks.{IsCalled}
use Rattle.dbl_disk.specs.Model.{DiskModel}
use Rattle.dbl_journal.specs.Calls.{WasCalled}

both_counts : (count n m : ℕ) → min (min (count + n) (2 ^ 64 - 1) + m) (2 ^ 64 - 1) ≡ min (count + (n + m)) (2 ^ 64 - 1)
both_counts count n m = omega arith

module _ {D : Type 0} (model : DiskModel D) (old mid new : D) where
  pub called_once : IsCalled (model.calls old) (model.calls new) → WasCalled model 1 old new
  called_once called count is = called count is

  pub called_on : (n m : ℕ) → WasCalled model n old mid → WasCalled model m mid new → WasCalled model (n + m) old new
  called_on n m first second count is = second (min (count + n) (2 ^ 64 - 1)) (first count is) ∙ ap (λ (k : ℕ). Some k) (both_counts count n m)

  pub called_twice : IsCalled (model.calls old) (model.calls mid) → IsCalled (model.calls mid) (model.calls new) → WasCalled model 2 old new
  called_twice first second = called_on 1 1 (λ count is. first count is) (λ count is. second count is)
