-- The effect of reading and writing, and when a failure may be reported.
use Rattle.std.specs.Prelude.{◌≡◌, ℕ, ◌+◌, ◌-◌, ◌^◌, ◌≤◌, min, Option, Some, List, take, drop}

-- the successor of a 64-bit counter, which saturates at its maximum
abbrev pub incremented : ℕ → ℕ
incremented count = min (count + 1) (2 ^ 64 - 1)

-- the fault count rose: it is greater than before, or it is saturated
abbrev pub FaultCounted : ℕ → ℕ → Type 0
FaultCounted before now = incremented before ≤ now

-- a failure is reported only if the fault count rose, and the count never falls
pub record FailsOnlyIfCounted (failed : Type 0) (before now : ℕ) : Type 0 where
  pub later : before ≤ now
  pub cause : failed → FaultCounted before now

-- the first n unread bytes were moved to the front of the buffer
pub record MovesToStart (n : ℕ) (bytes buffer : List ℕ) (left : Option (List ℕ)) : Type 0 where
  pub moved : take n buffer ≡ take n bytes
  pub left_are : left ≡ Some (drop n bytes)

-- the most bytes that one run reads from its input: 2^26, or 64 MiB
abbrev pub input_limit : ℕ
input_limit = 67108864
