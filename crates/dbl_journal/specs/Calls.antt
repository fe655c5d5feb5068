-- The state of the disk after a call of a journal.
use Rattle.std.specs.Prelude.{◌≡◌, ◌+◌, ◌-◌, ◌^◌, min, ℕ, Some}
pub use Rattle.dbl_disk.specs.Calls.{Keeps, Makes}
use Rattle.dbl_disk.specs.Calls.{WritesDisk}
use Rattle.dbl_disk.specs.Model.{DiskModel}
use Rattle.dbl_journal.specs.Stored.{OnDisk}

-- the effect of an append on a journal's disk, by whether the call failed
abbrev pub PutLeaves : {D : Type 0} → DiskModel D → Type 0 → OnDisk D → OnDisk D → Type 0
PutLeaves model failed old new = WritesDisk model failed old.disk new.disk new.live

-- the number of calls of the disk, if known, rose by this many; it stops at 2^64 - 1
abbrev pub WasCalled : {D : Type 0} → DiskModel D → ℕ → D → D → Type 0
WasCalled model times old new = (count : ℕ) → model.calls old ≡ Some count → model.calls new ≡ Some (min (count + times) (2 ^ 64 - 1))
