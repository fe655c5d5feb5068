-- The connector for which a session captures.
use Rattle.std.specs.Prelude.{Option, Some, None}
use Rattle.dbl_model_table.specs.declared.config.Config.{Config}
use Rattle.dbl_model_table.specs.declared.identity.Identity.{Identity}
use Rattle.dbl_capture_work.specs.Offset.declared.offset.Offset.{Offset}
use Rattle.dbl_capture_work.specs.CaptureModel.Entries.{SessionStart}

-- The identity of the stored offset, or else the configured one.
abbrev pub named_by : Config → Option Offset → Identity
named_by config None = config.identity
named_by config (Some offset) = offset.identity

-- The identity for which a session captures.
abbrev pub session_identity : SessionStart → Identity
session_identity entry = named_by entry.config entry.offset
