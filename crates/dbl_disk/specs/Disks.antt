-- Disks as bytes: the effect of a write, and the contents that a crash may leave between two syncs. Nothing is assumed about the order in
-- which a device persists writes, or about sectors.
use Rattle.std.specs.Prelude.{◌^◌, ◌≡◌, ◌⊎◌, ℕ, ◌+◌, ◌-◌, ◌<◌, ◌≤◌, max, List, [], ◌∷◌, ◌++◌}
use Rattle.std.specs.Prelude.{length, take, drop, replicate, slice_index, Option, Some}
use Rattle.std.specs.List.{All}
use Rattle.dbl_base.specs.Streams.{incremented}
use Rattle.dbl_disk.specs.declared.extent.Extent.{Extent}

-- the limit on a disk's length in bytes
abbrev pub disk_limit : ℕ
disk_limit = 2 ^ 40

-- a write whose end would reach the limit is attempted only if the disk is already this long
abbrev pub half_limit : ℕ
half_limit = 2 ^ 39

-- the offset lies outside the extent
abbrev pub IsAside : Extent → ℕ → Type 0
IsAside extent place = (place < extent.at) ⊎ (extent.at + extent.length ≤ place)

-- the offset lies outside every extent
abbrev pub IsOutside : List Extent → ℕ → Type 0
IsOutside extents place = All (λ extent. IsAside extent place) extents

-- the maximum of an end and the ends of the extents
abbrev pub farthest : ℕ → List Extent → ℕ
farthest end [] = end
farthest end (extent ∷ extents) = farthest (max end (extent.at + extent.length)) extents

-- The contents that a crash may leave, given the stable contents and the extents of the writes done or attempted since the sync: any bytes
-- in the extents and past the old end, up to the greatest end of a write, and otherwise the stable ones.
pub record MayLeave (stable : List ℕ) (extents : List Extent) (crashed : List ℕ) : Type 0 where
  pub kept : (place : ℕ) → place < length stable → IsOutside extents place → slice_index crashed place ≡ slice_index stable place
  pub no_shorter : length stable ≤ length crashed
  pub no_longer : length crashed ≤ farthest (length stable) extents

-- the contents that one write of this many bytes at the offset may leave, complete or torn
abbrev pub Torn : ℕ → ℕ → List ℕ → List ℕ → Type 0
Torn at count = λ old new. MayLeave old (record { at = at; length = count } ∷ []) new

-- the contents after these bytes are written at the offset, a gap before them being zeros
abbrev pub written : List ℕ → ℕ → List ℕ → List ℕ
written old at bytes = take at (old ++ replicate (at - length old) 0) ++ bytes ++ drop (at + length bytes) old

-- what a crash may leave now results by the step from what a crash might leave before
abbrev pub Follows : (List ℕ → List ℕ → Type 0) → (List ℕ → Type 0) → (List ℕ → Type 0) → Type 0
Follows step old new = (crashed : List ℕ) → new crashed → (before : List ℕ) × old before × step before crashed

-- the number of calls, if known, rose by one
abbrev pub IsCalled : Option ℕ → Option ℕ → Type 0
IsCalled old new = (count : ℕ) → old ≡ Some count → new ≡ Some (incremented count)

-- a crash leaves no other bytes than these
abbrev pub IsOnly : List ℕ → (List ℕ → Type 0) → Type 0
IsOnly bytes may_leave = (crashed : List ℕ) → may_leave crashed → crashed ≡ bytes
