-- When a command without a session must succeed.
use Rattle.std.specs.Prelude.{◌≡◌, ℕ, ℤ, ◌≤◌, true, false, Some, None, List, length}
use Rattle.dbl_base.specs.Lines.{lines_of}
use Rattle.dbl_base.specs.Streams.{input_limit}
use Rattle.dbl_record.specs.declared.record.Record.{Record}
use Rattle.dbl_topic.specs.Logs.{IsLog}
use Rattle.dbl_offset_content.specs.declared.offset.Offset.{Offset}
use Rattle.dbl_offset.specs.Stores.{IsStore}
use Rattle.dbl_demo_wal.specs.Workloads.{IsWorkload, Workload}
use Rattle.dbl_cli_commands.specs.declared.commands.Command.{Command}
use Rattle.dbl_cli_commands.specs.declared.commands.ReplayOptions.{ReplayOptions}
use Rattle.dbl_cli_commands.specs.declared.commands.Command.TheVariants.{Init, Topics, Offsets, Compact, Capture, Resume, Replay, Apply, Gen}
use Rattle.dblog_run.specs.Init.Answers.{AreEmpty}
use Rattle.dblog_run.specs.Replay.Apply.{first_line_fault}
use Rattle.dblog_run.specs.Promise.Contents.{Contents, ReadAs}
use Rattle.dblog_run.specs.Promise.Kept.{IsKept}
use Rattle.dblog_run.specs.Streams.Replays.{ReplaysLog}
use Rattle.dblog_run.specs.Means.{RunInput, given_init}

-- The input is a workload that can be run, and the disks are empty.
pub record CanMake (given : RunInput) : Type 0 where
  pub empty : AreEmpty (given_init given)
  pub short : length given.input ≤ input_limit
  pub workload : Workload
  pub is : IsWorkload given.input workload

-- The disks contain crash-consistent stores with an offset.
pub record CanApply (given : RunInput) : Type 0 where
  pub held : Contents
  pub read : ReadAs given.wal given.topics given.offsets held
  pub kept : IsKept held
  pub offset : Offset
  pub stored : held.offset ≡ Some offset

-- The lines of the input are valid records or other lines, by this placeholder.
pub record CanApplyLines (placeholder : List ℕ) (given : RunInput) : Type 0 where
  pub short : length given.input ≤ input_limit
  pub clean : first_line_fault placeholder (lines_of given.input) ≡ None

-- The input encodes valid messages, and ends outside a transaction: these are replayed to some lines without an error.
abbrev pub CanReplay : ReplayOptions → ℤ → RunInput → Type 0
CanReplay options now given = (lines : List (List ℕ)) × ReplaysLog options now given.input lines None

-- The input and the disks are what the command requires; for sessions `IsSupportedRun` says so.
abbrev pub CanRun : Command → ℤ → RunInput → Type 0
CanRun Init now given = CanMake given
CanRun Topics now given = (groups : List (List Record)) × IsLog given.topics groups
CanRun Offsets now given = (offset : Offset) × IsStore given.offsets (Some offset)
CanRun (Apply false placeholder) now given = CanApply given
CanRun Compact now given = CanApply given
CanRun (Apply true placeholder) now given = CanApplyLines placeholder given
CanRun (Replay options) now given = CanReplay options now given
CanRun (Gen number rows groups false) now given = Unit {0}
CanRun (Gen number rows groups true) now given = ⊥
CanRun (Capture options) now given = ⊥
CanRun (Resume options) now given = ⊥
