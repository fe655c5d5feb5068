-- What a session's inner functions say of their errors.
use Rattle.std.specs.Prelude.{◌≡◌, ℤ, Option, Some, Err}
use Rattle.dbl_base.specs.declared.lsn.Lsn.{Lsn}
use Rattle.dbl_model_table.specs.declared.config.Config.{Config}
use Rattle.dbl_capture_work.specs.Source.Model.{SourceModel}
use Rattle.dbl_capture_work.specs.SourceModel.declared.selected.Selected.{Selected}
use Rattle.dbl_capture_work.specs.SourceModel.declared.started.Started.TheVariants.{Gone}
use Rattle.dbl_capture_work.specs.SourceModel.Standings.{SourceState}
use Rattle.dbl_capture_work.specs.SourceModel.Trace.{Trace, Began, RowsSelected}
use Rattle.dbl_capture_work.specs.Offset.declared.offset.Offset.{Offset}
use Rattle.dbl_capture_work.specs.declared.halt.Halt.{Halt}
use Rattle.dbl_capture_work.specs.declared.halt.Halt.TheVariants as halt
use Rattle.dbl_capture_work.specs.declared.report.Report.{Report}
use Rattle.dbl_capture_laws.specs.Halted.{IsHalt}
use Rattle.dbl_capture_laws.specs.Musts.{MustHalt}
use Rattle.dbl_capture_laws.specs.Sources.{HasHalted}
use Rattle.dbl_capture_laws.specs.HasState.{IsHaltStanding}

-- The error isn't that the log after the offset is gone.
abbrev pub IsNotGone : Halt → Type 0
IsNotGone (halt.Gone asked first) = ⊥
IsNotGone h = Unit {0}

-- The source's last answer, if known, is neither rows nor that the log is gone.
abbrev pub IsQuiet : Option Trace → Type 0
IsQuiet told = (t : Trace) → told ≡ Some t → ((answer : Selected) → t.answer ≡ RowsSelected answer → ⊥)
    × ((first : Lsn) → t.answer ≡ Began (Gone first) → ⊥)

-- Before a message is read, the error is the one that the source's last answer requires.
abbrev pub AsksUnread : Config → Option Offset → Option Offset → Option Trace → Halt → Type 0
AsksUnread config old new told h = (report : Report) (t : Trace) → report.messages ≡ 0 → told ≡ Some t
    → MustHalt config old new report t (Err h)

-- The session stopped with this error, whose cause is defined by the source's trace and state, and which its last answer allows.
pub record Halts {S : Type 0} (source_model : SourceModel S) (at : Option SourceState) (found : Option Trace)
    (config : Config) (now : ℤ) (held stored : Option Offset) (report : Report) (src : S) (h : Halt) : Type 0 where
  pub halted : HasHalted source_model at found config now held stored report src h
  pub cause : IsHalt config now held stored report (source_model.told src) h
  pub must : (t : Trace) → source_model.told src ≡ Some t → MustHalt config held stored report t (Err h)
  pub stood : (s : SourceState) → at ≡ Some s → IsHaltStanding config now held stored report (source_model.stands src) h
