-- The session that a command requests.
use Rattle.std.specs.Prelude.{◌≡◌, Option, Some, None, IsSome, option_and_then}
use Rattle.dbl_lines.specs.declared.status.Status.{Status}
use Rattle.dbl_lines.specs.declared.status.Status.TheVariants.{Done}
use Rattle.dbl_model_table.specs.declared.config.Config.{Config}
use Rattle.dbl_cli_commands.specs.declared.commands.Command.{Command}
use Rattle.dbl_cli_commands.specs.declared.commands.Command.TheVariants.{Capture, Resume}
use Rattle.dblog_capture.specs.Connect.Promise.Contents.{Contents}
use Rattle.dblog_capture.specs.Connect.declared.asked.Asked.{Asked}
use Rattle.dblog_capture.specs.Connect.declared.asked.Asked.TheVariants.{First, Again}
use Rattle.dblog_capture.specs.Connect.Asked.{asks_in}

-- The session that a command requests over the stores that it finds, if it requests one.
abbrev pub asked_by : Command → Option Asked
asked_by (Capture options) = Some (First options)
asked_by (Resume options) = Some (Again options)
asked_by command = None

-- The configuration of the session that a command requests over disks with these contents; none without a session.
abbrev pub asks_by : Command → Contents → Option Config
asks_by command held = option_and_then (λ asked. asks_in asked held) (asked_by command)

-- The session that the command requests was complete, by the status of the run.
abbrev pub IsCompleteRun : Command → Status → Type 0
IsCompleteRun command status = IsSome (asked_by command) × (status ≡ Done)
