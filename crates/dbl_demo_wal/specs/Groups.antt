-- How the steps of a workload are run, group by group, and what they add to its log.
use Rattle.std.specs.Prelude.{◌≡◌, ◌⊎◌, ℕ, zero, suc, ◌+◌, ◌-◌, ◌<◌, ◌≤◌, List, [], ◌∷◌, ◌++◌, length, drop}
use Rattle.dbl_pgmsg.specs.declared.messages.Message.{Message}
use Rattle.dbl_script.specs.declared.script.Step.{Step}
use Rattle.dbl_script.specs.declared.script.Step.TheVariants as step
use Rattle.dbl_tables_laws.specs.SourceLog.declared.reader_position.ReaderPosition.{ReaderPosition}
use Rattle.dbl_tables_laws.specs.SourceLog.declared.logged.Logged.{Logged}
use Rattle.dbl_tables_laws.specs.SourceLog.Sent.{index_of}
use Rattle.dbl_demo_wal.specs.declared.entry.Entry.{Entry}
use Rattle.dbl_demo_wal.specs.declared.entry.Entry.TheVariants.{Commits}
use Rattle.dbl_demo_wal.specs.Workloads.{Workload, steps_of, log_at}
use Rattle.dbl_demo_wal.specs.Sound.{logged_in}

-- The number of steps up to and with the next `tick`, or up to the end.
abbrev pub group_size : List Step → ℕ
group_size [] = 0
group_size (step.Tick ∷ steps) = 1
group_size (s ∷ steps) = suc (group_size steps)

-- How many steps are done at the end of the group that begins after `done` steps.
abbrev pub group_end : List Step → ℕ → ℕ
group_end steps done = done + group_size (drop done steps)

-- The entries of the commits that a list has after a given number of them.
abbrev pub released_commits : ℕ → List (List Message) → ℕ → List Entry
released_commits steps [] known = []
released_commits steps (messages ∷ log) zero = Commits steps messages ∷ released_commits steps log zero
released_commits steps (messages ∷ log) (suc known) = released_commits steps log known

-- The entry of the next step after so many, if it commits.
abbrev pub entry_of_step : Workload → ℕ → List Entry
entry_of_step w done = released_commits (suc done) (log_at w (suc done)) (length (log_at w done))

-- The entries of the next steps after so many.
abbrev pub entries_of_steps : Workload → ℕ → ℕ → List Entry
entries_of_steps w done zero = []
entries_of_steps w done (suc count) = entry_of_step w done ++ entries_of_steps w (suc done) count

-- The entries of the steps after the first `done`, up to the first `upto`.
abbrev pub released : Workload → ℕ → ℕ → List Entry
released w done upto = entries_of_steps w done (upto - done)

-- The log has a commit that a reader at this position hasn't read whole.
abbrev pub HasUnread : List Logged → ReaderPosition → Type 0
HasUnread log place = index_of place < length log

-- After so many steps there is a commit to be read.
abbrev pub EndsRead : Workload → List Entry → ReaderPosition → ℕ → ℕ → Type 0
EndsRead w entries place done upto = HasUnread (logged_in (entries ++ released w done upto)) place

-- A read runs one group, and then others until there is a commit to be read or no step is left.
pub data ReadsOn (w : Workload) (entries : List Entry) (place : ReaderPosition) (done upto : ℕ) : ℕ → Type 0 where
  stops : (from : ℕ) → upto ≡ group_end (steps_of w) from → EndsRead w entries place done upto ⊎ (length (steps_of w) ≤ upto)
      → ReadsOn w entries place done upto from
  goes : (from : ℕ) → (¬ EndsRead w entries place done (group_end (steps_of w) from))
      → ReadsOn w entries place done upto (group_end (steps_of w) from) → ReadsOn w entries place done upto from
