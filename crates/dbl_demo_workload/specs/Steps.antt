-- A step of a workload, run on the store of rows: the acts after it, and what it commits.
use Rattle.std.specs.Prelude.{◌≡◌, ◌≢◌, ℕ, ◌+◌, ◌≤◌, Bool, true, false, Option, None, Some}
use Rattle.std.specs.Prelude.{IfSome, option_to_list, Result, Ok, Err, List, ◌++◌, length}
use Rattle.std.specs.List.{AllByRecursion}
use Rattle.dbl_pgmsg.specs.declared.messages.Message.{Message}
use Rattle.dbl_script.specs.declared.script.Step.{Step}
use Rattle.dbl_tables_rows.specs.declared.demo_table.DemoTable.{DemoTable}
use Rattle.dbl_tables_rows.specs.Acts.{Accepted, log_in}
use Rattle.dbl_tables_rows.specs.Steps.{Step as SessionStep, judged}
use Rattle.dbl_tables_rows.specs.Serial.{accepted_onto}
use Rattle.dbl_tables_rows.specs.Sending.{entry_size, entry_limit}
use Rattle.dbl_tables.specs.declared.tables.Tables.{Tables}
use Rattle.dbl_tables.specs.Stands.{Stands}
use Rattle.dbl_demo_wal.specs.Entries.{HoldsChange}
use Rattle.dbl_demo_wal.specs.Workloads.{IsWorkload, Workload, acts_at, log_at, session_step_of, steps_of}
use Rattle.dbl_script.specs.declared.script.Step.TheVariants as step
use Rattle.dbl_tables_rows.specs.declared.error.StepError.{StepError}
use Rattle.dbl_tables_rows.specs.declared.error.StepError.TheVariants as errors

-- Whether the step ends a group.
abbrev pub is_tick : Step → Bool
is_tick step.Tick = true
is_tick s = false

-- The answer of a step that isn't a commit: no commit, and the only error is out of memory.
abbrev pub IsPassed : {E : Type 0} → Result Unit StepError → Result (Option (List Message)) E → Type 0
IsPassed answer (Ok committed) = (answer ≢ Err errors.Memory) × (committed ≡ None)
IsPassed answer (Err e) = answer ≡ Err errors.Memory

-- If the step is a truncate, it names a table.
abbrev pub IsRunnable : Step → Type 0
IsRunnable (step.Truncate session tables) = 1 ≤ length tables
IsRunnable (step.Begin session) = Unit {0}
IsRunnable (step.Commit session) = Unit {0}
IsRunnable (step.Rollback session) = Unit {0}
IsRunnable (step.Insert session table cells) = Unit {0}
IsRunnable (step.Update session table key set) = Unit {0}
IsRunnable (step.Delete session table key) = Unit {0}
IsRunnable step.Tick = Unit {0}

-- ---- a step

-- The acts after an optional step of a session; a refused step adds none.
abbrev pub acts_with_call : List DemoTable → List Accepted → Option SessionStep → List Accepted
acts_with_call tables past None = past
acts_with_call tables past (Some call) = accepted_onto (judged tables past call) past

-- The acts after a step of the workload; a refused step adds none.
abbrev pub acts_with : List DemoTable → List Accepted → Step → List Accepted
acts_with tables past step = acts_with_call tables past (session_step_of step)

-- The changes aren't too long for one entry of the source's log.
abbrev pub IsShortCommit : List Message → Type 0
IsShortCommit messages = entry_size messages ≤ entry_limit

-- The step was run, and the store committed these changes, or nothing.
pub record IsRun (tables : List DemoTable) (past : List Accepted) (step : Step) (committed : Option (List Message))
    (new : Tables) : Type 0 where
  pub stands : Stands tables (acts_with tables past step) new
  pub log : log_in (acts_with tables past step) ≡ log_in past ++ option_to_list committed
  pub short : IfSome committed IsShortCommit

-- ---- a step of a workload

-- One entry of the source's log can contain the changes.
pub record FitAnEntry (messages : List Message) : Type 0 where
  pub each : AllByRecursion HoldsChange messages
  pub short : IsShortCommit messages

-- The store has the state after the first so many steps of a workload that can be run.
pub record HasRunSteps (steps : List Step) (done : ℕ) (store : Tables) : Type 0 where
  pub script : List ℕ
  pub w : Workload
  pub is : IsWorkload script w
  pub are : steps ≡ steps_of w
  pub there : done ≤ length steps
  pub stands : Stands w.tables (acts_at w done) store

-- The next step was run, and committed what the workload's serial run commits.
pub record IsNextRun (w : Workload) (done : ℕ) (committed : Option (List Message)) (new : Tables) : Type 0 where
  pub stands : Stands w.tables (acts_at w (done + 1)) new
  pub log : log_at w (done + 1) ≡ log_at w done ++ option_to_list committed
