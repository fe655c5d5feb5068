-- The groups that an append leaves.
use Rattle.std.specs.Prelude.{◌≡◌, ◌⊎◌, ◌-◌, ◌^◌, ◌≤◌, ℕ, List, [], ◌∷◌, ◌++◌, length, take, min}
use Rattle.dbl_record.specs.declared.record.Record.{Record}
use Rattle.dbl_record.specs.Groups.{group_form}

-- the maximum length in bytes of an encoded group that a sink accepts
abbrev pub group_limit : ℕ
group_limit = 2 ^ 28

-- The groups left after an append to these: these, or these and a group of one or more first records of the appended one.
abbrev pub IsLeftByPut : List (List Record) → List Record → List (List Record) → Type 0
IsLeftByPut groups group left = (left ≡ groups) ⊎ ((n : ℕ) × (1 ≤ n) × (n ≤ length group) × (left ≡ groups ++ take n group ∷ []))

-- the groups left after an atomic append: these, or these and the appended one
abbrev pub IsLeftByWhole : List (List Record) → List Record → List (List Record) → Type 0
IsLeftByWhole groups group left = (left ≡ groups) ⊎ (left ≡ groups ++ group ∷ [])

-- the length of the encoded group, saturating at 2^64 - 1
abbrev pub told_length : List Record → ℕ
told_length group = min (length (group_form group)) (2 ^ 64 - 1)
