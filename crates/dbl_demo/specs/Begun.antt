-- The beginning of a log; clauses of public functions cite only `first_room`.
use Rattle.std.specs.Prelude.{◌≡◌, ◌⊎◌, ℕ, ◌^◌, Bool, true, false, List, [], ◌∷◌}
use Rattle.dbl_demo_workload.specs.declared.error.DemoError.{DemoError}
use Rattle.dbl_demo_workload.specs.declared.error.DemoError.TheVariants as demo
use Rattle.dbl_demo_workload.specs.Logs.{IsFailed}

-- The numbers of the entries that are commits.
abbrev pub numbers_of : Bool → List ℕ
numbers_of true = 1 ∷ []
numbers_of false = []

-- The errors of the calls of the device at the begin: out of memory, or a failed disk.
abbrev pub IsBeginFault : DemoError → Type 0
IsBeginFault e = (e ≡ demo.Memory) ⊎ IsFailed e

-- The most bytes of a store that was made on an empty disk.
abbrev pub first_room : ℕ
first_room = 2 ^ 30
