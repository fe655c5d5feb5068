-- Theorems over the causes of a refusal.
use Rattle.std.specs.Prelude.{◌≡◌, ◌⊎◌, ℕ, List}
use Rattle.dbl_demo_wal.specs.Workloads.{Workload, IsWorkload}
use Rattle.dbl_demo_workload.specs.declared.error.DemoError.{DemoError}
use Rattle.dbl_demo_workload.specs.Refusals.{IsRefused}

-- Bytes are refused for at most one cause.
abbrev pub RefusalsAreOne : Type 0
RefusalsAreOne = (bytes : List ℕ) (first second : DemoError) → IsRefused bytes first → IsRefused bytes second → first ≡ second

-- A workload that can be run isn't refused.
abbrev pub WorkloadsAreNotRefused : Type 0
WorkloadsAreNotRefused = (bytes : List ℕ) (w : Workload) (e : DemoError) → IsWorkload bytes w → ¬ IsRefused bytes e

-- Bytes that are not refused are a workload that can be run.
abbrev pub WorkloadsOrRefusals : Type 0
WorkloadsOrRefusals = (bytes : List ℕ) → ((w : Workload) × IsWorkload bytes w) ⊎ ((e : DemoError) × IsRefused bytes e)
