-- The state of the disk after a call of a store.
use Rattle.std.specs.Prelude.{◌≡◌, ℕ, ◌≤◌, Bool, false, Some, List, [], length}
use Rattle.dbl_base.specs.Streams.{FaultCounted}
use Rattle.dbl_disk.specs.Model.{DiskModel}

-- for a disk with known contents the fault count hasn't risen: no call failed and was retried
abbrev pub IsSteady : {D : Type 0} → DiskModel D → D → D → Type 0
IsSteady model old new = (bytes : List ℕ) → model.seen old ≡ Some bytes → model.faults new ≡ model.faults old

-- The effect of making a store on an empty disk: the disk then has at most this many bytes, and a failure is reported only if the fault
-- count rose, for a disk with known contents if and only if.
pub record Makes {D : Type 0} (model : DiskModel D) (most : ℕ) (failed : Type 0) (old new : D) : Type 0 where
  pub small : (bytes : List ℕ) → model.seen old ≡ Some [] → model.seen new ≡ Some bytes → length bytes ≤ most
  pub later : model.faults old ≤ model.faults new
  pub cause : failed → FaultCounted (model.faults old) (model.faults new)
  pub steady : ¬ failed → IsSteady model old new

-- The effect of opening or reading on a disk: a read returns the same, a crash leaves nothing new, and a failure is reported only if the
-- fault count rose, for a disk with known contents if and only if.
pub record Keeps {D : Type 0} (model : DiskModel D) (failed : Type 0) (old new : D) : Type 0 where
  pub same : model.seen new ≡ model.seen old
  pub crash : (crashed : List ℕ) → model.may_leave new crashed → model.may_leave old crashed
  pub later : model.faults old ≤ model.faults new
  pub cause : failed → FaultCounted (model.faults old) (model.faults new)
  pub steady : ¬ failed → IsSteady model old new

-- The effect of a store's writes on its disk: the contents stay known, and a failure, after which the store is no longer live, is reported
-- only if the fault count rose, for a disk with known contents if and only if.
pub record WritesDisk {D : Type 0} (model : DiskModel D) (failed : Type 0) (old new : D) (live : Bool) : Type 0 where
  pub told : (bytes : List ℕ) → model.seen old ≡ Some bytes → (now : List ℕ) × (model.seen new ≡ Some now)
  pub later : model.faults old ≤ model.faults new
  pub cause : failed → FaultCounted (model.faults old) (model.faults new)
  pub dead : failed → live ≡ false
  pub steady : ¬ failed → IsSteady model old new
