-- Why a session stops with an error over a source whose state is known, whether or not its trace is.
use Rattle.std.specs.Prelude.{◌⊎◌, ℤ, ◌<◌, ◌≤◌, Option}
use Rattle.dbl_base.specs.declared.lsn.Lsn.{Lsn}
use Rattle.dbl_model_table.specs.declared.config.Config.{Config}
use Rattle.dbl_capture_work.specs.SourceModel.Standings.{SourceState}
use Rattle.dbl_capture_work.specs.Offset.declared.offset.Offset.{Offset}
use Rattle.dbl_capture_work.specs.declared.halt.Halt.{Halt}
use Rattle.dbl_capture_work.specs.declared.halt.Halt.TheVariants as halt
use Rattle.dbl_capture_work.specs.declared.report.Report.{Report}
use Rattle.dbl_capture_laws.specs.Halted.{IsHaltOfStood}

-- The source has a state that is the cause of the error.
abbrev pub IsHaltAt : Config → ℤ → Option Offset → Option Offset → Report → (SourceState → Type 0) → Halt → Type 0
IsHaltAt config now old new report stands h = (t : SourceState) × stands t × IsHaltOfStood config now old new report t h

-- The cause of each error that depends on the messages, by a state of the source: no message is malformed. Other errors have no condition
-- here.
abbrev pub IsHaltStanding : Config → ℤ → Option Offset → Option Offset → Report → (SourceState → Type 0) → Halt → Type 0
IsHaltStanding config now old new report stands (halt.Message number error) = ⊥
IsHaltStanding config now old new report stands (halt.Txn number error) = IsHaltAt config now old new report stands (halt.Txn number error)
IsHaltStanding config now old new report stands (halt.Clash table column) =
    IsHaltAt config now old new report stands (halt.Clash table column)
IsHaltStanding config now old new report stands (halt.RecordTooLong len) =
    IsHaltAt config now old new report stands (halt.RecordTooLong len)
IsHaltStanding config now old new report stands (halt.WatermarkMissing value at) =
    IsHaltAt config now old new report stands (halt.WatermarkMissing value at)
IsHaltStanding config now old new report stands (halt.OffsetTooLong len) =
    IsHaltAt config now old new report stands (halt.OffsetTooLong len)
IsHaltStanding config now old new report stands h = Unit {0}

-- A log that is gone begins above the requested LSN, and not above the confirmed one.
abbrev pub IsGoneBelow : Lsn → Halt → Type 0
IsGoneBelow confirmed (halt.Gone asked first) = (asked.0 < first.0) × (first.0 ≤ confirmed.0)
IsGoneBelow confirmed h = Unit {0}

-- The error isn't an offset that is too long.
abbrev pub IsNotOffsetTooLong : Halt → Type 0
IsNotOffsetTooLong (halt.OffsetTooLong len) = ⊥
IsNotOffsetTooLong h = Unit {0}

-- The error isn't an offset that is too long, or the source has a state.
abbrev pub IsShortOr : (SourceState → Type 0) → Halt → Type 0
IsShortOr stands h = IsNotOffsetTooLong h ⊎ ((t : SourceState) × stands t)
