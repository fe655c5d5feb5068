-- In-memory disks.
use Rattle.std.specs.Prelude.{◌≡◌, ◌⊎◌, ℕ, ◌+◌, ◌<◌, ◌≤◌, List, [], length, slice_index, Some}
use Rattle.std.proofs.Common.{inl}
use Rattle.std.specs.List.{All}
use Rattle.dbl_base.specs.Memory.{Plan, new_plan}
use Rattle.dbl_disk.specs.declared.extent.Extent.{Extent}
use Rattle.dbl_disk.specs.Disks.{IsOutside, MayLeave, disk_limit}

-- the contents at the last sync, the current contents, the extents written since that sync, and the plan of faults
pub record Platter : Type 0 where
  pub stable : List ℕ
  pub current : List ℕ
  pub dirty : List Extent
  pub plan : Plan

-- a disk with these synced contents, of which no call is planned to fail
abbrev pub synced : List ℕ → Platter
synced bytes = record { stable = bytes; current = bytes; dirty = []; plan = new_plan [] }

-- the contents that a crash may leave
abbrev pub MayRemain : Platter → List ℕ → Type 0
MayRemain disk crashed = (crashed ≡ disk.current) ⊎ MayLeave disk.stable disk.dirty crashed

-- two byte lists of equal length differ only in these extents
pub record DiffersInside (extents : List Extent) (left right : List ℕ) : Type 0 where
  pub long : length left ≡ length right
  pub same : (place : ℕ) → place < length right → IsOutside extents place → slice_index left place ≡ slice_index right place

-- the extents were filled with this byte, and the other bytes are unchanged
pub record AreFilled (byte : ℕ) (extents : List Extent) (old new : List ℕ) : Type 0 where
  pub long : length new ≡ length old
  pub clean : (place : ℕ) → IsOutside extents place → slice_index new place ≡ slice_index old place
  pub filled : (place : ℕ) → place < length old → ¬ IsOutside extents place → slice_index new place ≡ byte

-- the current contents, with this byte in the dirty extents and past the stable end
pub record IsFilled (byte : ℕ) (stable current : List ℕ) (dirty : List Extent) (crashed : List ℕ) : Type 0 where
  pub long : length crashed ≡ length current
  pub clean : (place : ℕ) → place < length stable → IsOutside dirty place → slice_index crashed place ≡ slice_index current place
  pub filled : (place : ℕ) → place < length crashed → ¬ ((place < length stable) × IsOutside dirty place) → slice_index crashed place ≡ byte

-- the invariant of in-memory disks: a crash may leave the current contents, and every dirty extent lies within them
pub record IsKept (stable current : List ℕ) (dirty : List Extent) : Type 0 where
  pub left : MayLeave stable dirty current
  pub within : All (λ extent. extent.at + extent.length ≤ length current) dirty
  pub small : length current < disk_limit

-- a crash may leave the contents that a read returns
pub told_may_be_left : (disk : Platter) (bytes : List ℕ) → Some disk.current ≡ Some bytes → MayRemain disk bytes
told_may_be_left disk bytes told = inl (cc)
