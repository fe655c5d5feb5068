-- Disks that fail after a given number of calls.
use Rattle.std.specs.Prelude.{◌≡◌, ℕ, ◌+◌, ◌-◌, ◌^◌, ◌<◌, min, Option, Some, None, Result, IsErr}
use Rattle.dbl_base.specs.Streams.{FailsOnlyIfCounted, incremented}
use Rattle.dbl_disk.specs.Disks.{IsCalled}
use Rattle.dbl_disk.specs.Model.{DiskModel}

-- the inner disk, the number of calls still to be forwarded, and the number refused
pub record Fused (D : Type 0) : Type 0 where
  pub inner : D
  pub left : ℕ
  pub refused : ℕ

-- A call of a fused disk: one call of the inner disk as long as calls are left, and after that a failure.
pub record Burns {D T E : Type 0} (model : DiskModel D) (old new : Fused D) (result : Result T E) : Type 0 where
  pub left : new.left ≡ old.left - 1
  pub passed : 0 < old.left → FailsOnlyIfCounted (IsErr result) (model.faults old.inner) (model.faults new.inner)
  pub once : 0 < old.left → IsCalled (model.calls old.inner) (model.calls new.inner)
  pub counted : 0 < old.left → new.refused ≡ old.refused
  pub blown : old.left ≡ 0 → IsErr result
  pub kept : old.left ≡ 0 → new.inner ≡ old.inner
  pub refused : old.left ≡ 0 → new.refused ≡ incremented old.refused

-- the saturating sum of a number of calls, if known, and the number refused
abbrev pub all_calls : Option ℕ → ℕ → Option ℕ
all_calls None refused = None
all_calls (Some passed) refused = Some (min (passed + refused) (2 ^ 64 - 1))

-- the faults of the inner disk and of the fuse, a saturating sum
abbrev pub fuse_faults : {D : Type 0} → DiskModel D → Fused D → ℕ
fuse_faults model fused = min (model.faults fused.inner + fused.refused) (2 ^ 64 - 1)

-- the calls made of the inner disk, if known, and those refused by the fuse, a saturating sum
abbrev pub fuse_calls : {D : Type 0} → DiskModel D → Fused D → Option ℕ
fuse_calls model fused = all_calls (model.calls fused.inner) fused.refused
