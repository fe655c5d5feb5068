-- Workloads that can be run: the meaning of their bytes, and the commits of their steps.
use Rattle.std.specs.Prelude.{◌≡◌, ℕ, zero, suc, ◌≤◌, Option, None, Some, IsOk, filter_map, List, [], ◌∷◌, ◌++◌, length, map, take}
use Rattle.std.specs.List.{AllZip}
use Rattle.dbl_base.specs.Lines.{lines_of}
use Rattle.dbl_pgmsg.specs.declared.messages.Message.{Message}
use Rattle.dbl_script.specs.ModelTable.Infos.{IsInfoOf}
use Rattle.dbl_script.specs.declared.script.Script.{Script}
use Rattle.dbl_script.specs.declared.script.ScriptTable.{ScriptTable}
use Rattle.dbl_script.specs.declared.script.ScriptRow.{ScriptRow}
use Rattle.dbl_script.specs.declared.script.Step.{Step}
use Rattle.dbl_script.specs.declared.script.Step.TheVariants as says
use Rattle.dbl_script.specs.Scripts.{script_of, first_bad}
use Rattle.dbl_tables_laws.specs.TablesRows.declared.demo_table.DemoTable.{DemoTable}
use Rattle.dbl_tables_laws.specs.TablesRows.Acts.{Accepted}
use Rattle.dbl_tables_laws.specs.TablesRows.Steps.{Step as SessionStep, judged}
use Rattle.dbl_tables_laws.specs.TablesRows.Steps.Step.{Begin, Commit, Rollback, Insert, Update, Delete, Truncate}
use Rattle.dbl_tables_laws.specs.TablesRows.Serial.{InitialRow, accepted_onto, acts_after, initial_steps, serial}

-- A workload: its script, its tables, and what is captured of each.
pub record Workload : Type 0 where
  pub script : Script
  pub tables : List DemoTable

-- ---- rows and steps of sessions

-- The initial row that a line of the workload describes.
abbrev pub initial_row : ScriptRow → InitialRow
initial_row row = (row.table, row.cells)

-- The initial rows of a workload.
abbrev pub workload_rows : Workload → List InitialRow
workload_rows w = map initial_row w.script.rows

-- The steps of a workload.
abbrev pub steps_of : Workload → List Step
steps_of w = w.script.steps

-- The step of a session that a step of the workload requests; none for the end of a group.
abbrev pub session_step_of : Step → Option SessionStep
session_step_of (says.Begin session) = Some (Begin session)
session_step_of (says.Commit session) = Some (Commit session)
session_step_of (says.Rollback session) = Some (Rollback session)
session_step_of (says.Insert session table cells) = Some (Insert session table cells)
session_step_of (says.Update session table key set) = Some (Update session table key set)
session_step_of (says.Delete session table key) = Some (Delete session table key)
session_step_of (says.Truncate session tables) = Some (Truncate session tables)
session_step_of says.Tick = None

-- The steps of sessions among the steps of a workload.
abbrev pub session_steps_of : List Step → List SessionStep
session_steps_of steps = filter_map session_step_of steps

-- ---- after the first steps

-- The steps of sessions among the first steps of a workload.
abbrev pub session_steps_at : Workload → ℕ → List SessionStep
session_steps_at w steps = session_steps_of (take steps (steps_of w))

-- The accepted acts of the initial rows and the first steps.
abbrev pub acts_at : Workload → ℕ → List Accepted
acts_at w steps = acts_after w.tables [] (initial_steps (workload_rows w) ++ session_steps_at w steps)

-- The commits of the initial rows and the first steps: their serial run.
abbrev pub log_at : Workload → ℕ → List (List Message)
log_at w steps = serial w.tables (workload_rows w) (session_steps_at w steps)

-- The commits before the last of the first steps; none if there is no step.
abbrev pub log_before : Workload → ℕ → List (List Message)
log_before w zero = []
log_before w (suc steps) = log_at w steps

-- ---- the workload of some bytes

-- The table that a line of the workload describes.
pub record IsTableOf (line : ScriptTable) (table : DemoTable) : Type 0 where
  pub info : IsInfoOf line.raw table.info
  pub full : table.full ≡ line.full
  pub toast : table.toast ≡ line.toast

-- Each of these steps is accepted after those before it.
abbrev pub AreAccepted : List DemoTable → List Accepted → List SessionStep → Type 0
AreAccepted tables past [] = Unit {0}
AreAccepted tables past (step ∷ steps) = IsOk (judged tables past step)
    × AreAccepted tables (accepted_onto (judged tables past step) past) steps

-- The bytes are the lines of a workload whose tables can be captured and whose rows can be inserted.
pub record IsWorkload (bytes : List ℕ) (w : Workload) : Type 0 where
  pub few : length (lines_of bytes) ≤ 1000000
  pub good : first_bad (lines_of bytes) ≡ None
  pub script : w.script ≡ script_of (lines_of bytes)
  pub tables : AllZip IsTableOf w.script.tables w.tables
  pub rows : AreAccepted w.tables [] (initial_steps (workload_rows w))
