-- Generated workloads that can be run.
use Rattle.std.specs.Prelude.{ℕ, ◌≤◌}
use Rattle.dbl_gen.specs.Workload.{workload}
use Rattle.dbl_demo_wal.specs.Workloads.{IsWorkload, Workload}

-- Each generated workload can be run: its lines are good, its tables can be captured, and its rows can be inserted.
abbrev pub GeneratedWorkloadsCanRun : Type 0
GeneratedWorkloadsCanRun = (number rows groups : ℕ) → rows ≤ 400000 → groups ≤ 90000
    → (w : Workload) × IsWorkload (workload number rows groups) w
