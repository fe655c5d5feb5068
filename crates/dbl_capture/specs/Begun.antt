-- The start of a session.
use Rattle.std.specs.Prelude.{ℤ, Option}
use Rattle.dbl_model_table.specs.declared.config.Config.{Config}
use Rattle.dbl_offset_content.specs.declared.offset.Offset.{Offset}
use Rattle.dbl_capture_laws.specs.Carried.{Beginning}

-- A session's configuration and the time of its records, the offset that it found, and the one that it stored first.
abbrev pub beginning_at : Config → ℤ → Option Offset → Offset → Beginning
beginning_at config now held first = record { config = config; now = now; held = held; first = first }
