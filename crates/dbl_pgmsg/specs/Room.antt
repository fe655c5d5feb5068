-- Sizes: how many bytes of a room are left after an encoding.
use Rattle.std.specs.Prelude.{◌≡◌, ◌<◌, ◌+◌, ◌++◌, ℕ, List, Option, Some, None}

-- the room left after an item of this size; none if the item can't be encoded or exceeds the room
abbrev pub Leaves : ℕ → ℕ → Type 0 → Option ℕ → Type 0
Leaves room size Fits (Some left) = Fits × (left + size ≡ room)
Leaves room size Fits None = Fits → room < size

-- these bytes were appended
abbrev pub Appends : List ℕ → List ℕ → List ℕ → Type 0
Appends old bytes new = new ≡ old ++ bytes

-- the old bytes are a prefix of the new ones
pub record Begins (old new : List ℕ) : Type 0 where
  pub subsequent : List ℕ
  pub parts : new ≡ old ++ subsequent
